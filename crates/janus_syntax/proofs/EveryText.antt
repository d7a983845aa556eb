-- Each text has tokens, or a refusal that comes before all others.
use Rattle.std.proofs.Common.{◌≡◌, ℕ, zero, suc, ◌+◌, ◌<◌, ◌≤◌, ◌⊎◌, inl, inr, List, [], ◌∷◌, ◌++◌, length, length-drop, length-append, get_or, take, drop}
use Rattle.std.proofs.Common.{true, false, Option, Some, None, refl, ap, sym, ◌∙◌, arith, IsUtf8}
use Rattle.std.specs.Prelude.{nat_eq, nat_le, encode_utf8, encode_utf8_all}
use Rattle.std.specs.List.{prefix_len, starts_with}
use Rattle.std.specs.Str.{bytes_eq, IsCharBoundary}
use Rattle.std.proofs.str.Laws.{order}
use Rattle.std.proofs.lemmas.Bool.{leb-true, leb-false}
use Rattle.std.proofs.lemmas.Bool.Decides.{Decides-eqb}
use Rattle.std.proofs.lemmas.List.{get_or_default, drop_at}
use Rattle.std.proofs.lemmas.Slice.Eq.{starts_is, bytes_eq-Decides}
use Rattle.janus_syntax.specs.declared.token.Span.{Span}
use Rattle.janus_syntax.specs.declared.token.Sign.{Sign}
use Rattle.janus_syntax.specs.declared.token.Sign.TheVariants as sign
use Rattle.janus_syntax.specs.declared.token.Keyword.{Keyword}
use Rattle.janus_syntax.specs.declared.token.Keyword.TheVariants as keyword
use Rattle.janus_syntax.specs.declared.lexer.Class.{Class}
use Rattle.janus_syntax.specs.declared.lexer.Class.TheVariants as class
use Rattle.janus_syntax.specs.declared.lexer.Front.{Front}
use Rattle.janus_syntax.specs.declared.lexer.Front.TheVariants as front
use Rattle.janus_syntax.specs.declared.fault.SyntaxFault.{SyntaxFault}
use Rattle.janus_syntax.specs.declared.fault.SyntaxFault.TheVariants as fault
use Rattle.janus_syntax.specs.Spelling.{sign_text, keyword_text}
use Rattle.janus_syntax.specs.Tokens.{Token, Name, Number, Sign_of, Keyword_of}
use Rattle.janus_syntax.specs.Forms.{Part}
use Rattle.janus_syntax.specs.Lexical.{class_of, of_name, of_number, in_line, decimal, IsNoKeyword, Item, Gap, A_name, A_number, A_sign, A_keyword, IsSpelled}
use Rattle.janus_syntax.specs.Lexical.{IsToken, NoItem, AreTokens, largest_number}
use Rattle.janus_syntax.specs.Scan.{IsLongestSign, IsFrontText, IsFrontOf, IsFirstChar}
use Rattle.janus_syntax.specs.Text.{IsRefusalOf}
use Rattle.janus_syntax.specs.declared.token.TheConstants.{KEYWORDS}
use Rattle.janus_syntax.proofs.Scanning.{signs, first_is_longest, no_sign, begins_with, is_no_keyword}
use Rattle.janus_syntax.proofs.Fronts.{letters_front, digits_front, space_front, comment_front, sign_front, underscore_none, other_none, letters_cut}
use Rattle.janus_syntax.proofs.Fronts.{digits_cut, space_cut, line_cut, sign_cut, slashes, no_slashes}
use Rattle.janus_syntax.proofs.Lexing.{IsLexedTo, lexed_start, lexed_gap, lexed_one, bad_token, too_large, place}

-- ---- the item at the front

-- the text begins with none of the first k signs
abbrev NoneOf : List ℕ → ℕ → Type 0
NoneOf text k = (j : ℕ) (s : Sign) (rest : List ℕ) → j < k → text ≡ sign_text (get_or signs j s) ++ rest → ⊥

one_sign_more : (text : List ℕ) (k : ℕ) → k < 25 → NoneOf text k → starts_with nat_eq text (sign_text (get_or signs k sign.Plus)) ≡ false → NoneOf text (suc k)
one_sign_more text k few none not_here j s rest h e =
    elim (order j k) [
      | inl before ↦ none j s rest before e
      | inr behind ↦
          let same : j ≡ k = omega (arith, h, behind) in
          let listed : get_or signs j s ≡ get_or signs k sign.Plus = ap (λ i. get_or signs i s) same ∙ get_or_default signs k s sign.Plus few in
          let found = (starts_is Decides-eqb text (sign_text (get_or signs k sign.Plus)) _ refl).1 rest (e ∙ ap (λ t. sign_text t ++ rest) listed) in
          let bad : true ≡ false = sym found ∙ not_here in absurd cc
    ]

longest_sign : (text : List ℕ) (left k : ℕ) → left + k ≡ 25 → NoneOf text k → (o : Option Sign) × IsLongestSign text o
longest_sign text zero k e none = (None, no_sign text k (omega (arith, e)) none)
longest_sign text (suc left) k e none =
    let here = sign_text (get_or signs k sign.Plus) in
    elim (starts_with nat_eq text here) as (λ b. starts_with nat_eq text here ≡ b → (o : Option Sign) × IsLongestSign text o) [
      | true ↦ λ h. (Some (get_or signs k sign.Plus), (begins_with text here here _ refl refl h, first_is_longest text k k sign.Plus refl none))
      | false ↦ λ h. longest_sign text left (suc k) (omega (arith, e)) (one_sign_more text k (omega (arith, e)) none h)
    ] refl

-- the text is none of the first k keywords
abbrev NoKeywordOf : List ℕ → ℕ → Type 0
NoKeywordOf text k = (j : ℕ) (w : Keyword) → j < k → text ≡ keyword_text (get_or KEYWORDS j w) → ⊥

one_keyword_more : (text : List ℕ) (k : ℕ) → k < 22 → NoKeywordOf text k → bytes_eq text (keyword_text (get_or KEYWORDS k keyword.Nil)) ≡ false →
    NoKeywordOf text (suc k)
one_keyword_more text k few none not_here j w h e =
    elim (order j k) [
      | inl before ↦ none j w before e
      | inr behind ↦
          let same : j ≡ k = omega (arith, h, behind) in
          let listed : get_or KEYWORDS j w ≡ get_or KEYWORDS k keyword.Nil = ap (λ i. get_or KEYWORDS i w) same ∙ get_or_default KEYWORDS k w keyword.Nil few in
          let found = (bytes_eq-Decides text (keyword_text (get_or KEYWORDS k keyword.Nil))).1 (e ∙ ap keyword_text listed) in
          let bad : true ≡ false = sym found ∙ not_here in absurd cc
    ]

keyword_or_name : (text : List ℕ) (left k : ℕ) → left + k ≡ 22 → NoKeywordOf text k → ((w : Keyword) × (text ≡ keyword_text w)) ⊎ IsNoKeyword text
keyword_or_name text zero k e none = inr (is_no_keyword text k (omega (arith, e)) none)
keyword_or_name text (suc left) k e none =
    let here = keyword_text (get_or KEYWORDS k keyword.Nil) in
    elim (bytes_eq text here) as (λ b. bytes_eq text here ≡ b → ((w : Keyword) × (text ≡ keyword_text w)) ⊎ IsNoKeyword text) [
      | true ↦ λ h. inl (get_or KEYWORDS k keyword.Nil, (bytes_eq-Decides text here).0 h)
      | false ↦ λ h. keyword_or_name text left (suc k) (omega (arith, e)) (one_keyword_more text k (omega (arith, e)) none h)
    ] refl

-- how many octets the front of a text has, and what they are
record Begins (xs : List ℕ) : Type 0 where
  kind : Front
  size : ℕ
  front_of : IsFrontOf kind size xs
  cut : IsCharBoundary xs size

other : (xs : List ℕ) → IsUtf8 xs → class_of (get_or xs 0 0) ≡ class.Other → ((ds : List ℕ) → xs ≡ 47 ∷ 47 ∷ ds → ⊥) → (o : Option Sign) → IsLongestSign xs o →
    Begins xs ⊎ NoItem xs
other xs u e apart None longest = inr (other_none xs e longest apart)
other xs u e apart (Some s) longest =
    let f = sign_front s xs (length (sign_text s)) refl longest apart in
    inl (record { kind = front.Sign s; size = length (sign_text s); front_of = f; cut = sign_cut s xs (length (sign_text s)) u refl longest f })

other_or_comment : (xs : List ℕ) → IsUtf8 xs → class_of (get_or xs 0 0) ≡ class.Other → Begins xs ⊎ NoItem xs
other_or_comment xs u e =
    elim (starts_with nat_eq xs (47 ∷ 47 ∷ [])) as (λ b. starts_with nat_eq xs (47 ∷ 47 ∷ []) ≡ b → Begins xs ⊎ NoItem xs) [
      | true ↦ λ h. inl (record {
        kind = front.Gap;
        size = prefix_len in_line xs;
        front_of = comment_front xs (drop 2 xs) (prefix_len in_line xs) (slashes xs (47 ∷ 47 ∷ []) _ refl refl h) refl;
        cut = line_cut xs (prefix_len in_line xs) refl;
      })
      | false ↦ λ h.
          let o = longest_sign xs 25 0 refl (λ j s rest l _. absurd (omega (arith, l))) in
          other xs u e (no_slashes xs (47 ∷ 47 ∷ []) _ refl refl h) o.0 o.1
    ] refl

begins : (xs : List ℕ) → IsUtf8 xs → 0 < length xs → (k : Class) → class_of (get_or xs 0 0) ≡ k → Begins xs ⊎ NoItem xs
begins xs u some class.Letter e =
    let f = letters_front xs (prefix_len of_name xs) some e refl in
    inl (record { kind = front.Letters; size = prefix_len of_name xs; front_of = f; cut = letters_cut xs (prefix_len of_name xs) u f refl })
begins xs u some class.Digit e =
    let f = digits_front xs (prefix_len of_number xs) some e refl in
    inl (record { kind = front.Digits; size = prefix_len of_number xs; front_of = f; cut = digits_cut xs (prefix_len of_number xs) u f refl })
begins xs u some class.Space e = inl (record { kind = front.Gap; size = 1; front_of = space_front xs some e; cut = space_cut xs u some e })
begins xs u some class.Underscore e = inr (underscore_none xs e)
begins xs u some class.Other e = other_or_comment xs u e

item_of : (f : Front) (text : List ℕ) → IsFrontText f text → (i : Item) × IsSpelled i text
item_of front.Gap text h = (Gap, h)
item_of front.Letters text h =
    elim (keyword_or_name text 22 0 refl (λ j w l _. absurd (omega (arith, l)))) [
      | inl (w, e) ↦ (A_keyword w, e)
      | inr n ↦ (A_name text, (refl, h, n))
    ]
item_of front.Digits text h = (A_number (decimal text), (refl, h))
item_of (front.Sign s) text h = (A_sign s, h)

-- ---- the tokens of a text

abbrev pub Lexed : Part → List ℕ → Type 0
Lexed goal text = ((ts : List Token) × AreTokens text ts) ⊎ ((e : SyntaxFault) × IsRefusalOf goal text e)

first_char : (xs : List ℕ) → IsUtf8 xs → 0 < length xs → (n : ℕ) × IsFirstChar n xs × (n ≤ length xs)
first_char xs ([], (s, e)) some = absurd (omega (arith, ap length e, some))
first_char xs (c ∷ cs, (s, e)) some =
    let n = length (encode_utf8 c) in
    let rest : drop n xs ≡ encode_utf8_all cs = ap (drop n) (sym e) ∙ drop_at (encode_utf8 c) (encode_utf8_all cs) n refl in (
      n,
      record { character = c; first = sym e ∙ ap (λ r. encode_utf8 c ++ r) (sym rest) },
      omega (arith, ap length e, length-append (encode_utf8 c) (encode_utf8_all cs)),
    )

number_token : (n : ℕ) (at : Span) → ((t : Token) × IsToken (A_number n) at t) ⊎ (largest_number < n)
number_token n at =
    elim (nat_le n largest_number) as (λ b. nat_le n largest_number ≡ b → ((t : Token) × IsToken (A_number n) at t) ⊎ (largest_number < n)) [
      | true ↦ λ h. inl (Number n at, (leb-true n largest_number h, refl))
      | false ↦ λ h. inr (leb-false n largest_number h)
    ] refl

-- the tokens go on behind an item
abbrev GoesOn : Part → List ℕ → ℕ → Type 0
GoesOn goal text left = (ts : List Token) (rest : List ℕ) (start : ℕ) → length rest ≤ left → IsLexedTo text ts rest start → Lexed goal text

shorter : (rest : List ℕ) (n left : ℕ) → 0 < n → length rest ≤ suc left → length (drop n rest) ≤ left
shorter rest n left some le = omega (arith, some, le, length-drop n rest)

one_item : (goal : Part) (text : List ℕ) (ts : List Token) (rest : List ℕ) (start left : ℕ) → IsLexedTo text ts rest start → length rest ≤ suc left →
    (b : Begins rest) → (i : Item) → IsSpelled i (take b.size rest) → GoesOn goal text left → Lexed goal text
one_item goal text ts rest start left k le b Gap s go =
    go ts (drop b.size rest) (start + b.size) (shorter rest b.size left b.front_of.nonempty le)
    (lexed_gap text ts rest (take b.size rest) (drop b.size rest) start b.size b.kind k b.front_of b.cut refl refl s)
one_item goal text ts rest start left k le b (A_name x) s go =
    go (ts ++ Name x (place start (start + b.size)) ∷ []) (drop b.size rest) (start + b.size) (shorter rest b.size left b.front_of.nonempty le)
    (lexed_one text ts (Name x (place start (start + b.size))) rest (take b.size rest) (drop b.size rest) start b.size b.kind
    (A_name x) k b.front_of b.cut refl refl s refl)
one_item goal text ts rest start left k le b (A_number n) s go =
    elim (number_token n (place start (start + b.size))) [
      | inl (t, is) ↦
          go (ts ++ t ∷ []) (drop b.size rest) (start + b.size) (shorter rest b.size left b.front_of.nonempty le)
          (lexed_one text ts t rest (take b.size rest) (drop b.size rest) start b.size b.kind (A_number n) k b.front_of b.cut refl refl s is)
      | inr large ↦ inr (
        fault.NumberTooLarge (place start (start + b.size)),
        too_large text ts rest (take b.size rest) (drop b.size rest) start b.size b.kind
            (place start (start + b.size)) k b.front_of refl refl (n, s, large, refl),
      )
    ]
one_item goal text ts rest start left k le b (A_sign x) s go =
    go (ts ++ Sign_of x (place start (start + b.size)) ∷ []) (drop b.size rest) (start + b.size) (shorter rest b.size left b.front_of.nonempty le)
    (lexed_one text ts (Sign_of x (place start (start + b.size))) rest (take b.size rest) (drop b.size rest) start b.size b.kind
    (A_sign x) k b.front_of b.cut refl refl s refl)
one_item goal text ts rest start left k le b (A_keyword x) s go =
    go (ts ++ Keyword_of x (place start (start + b.size)) ∷ []) (drop b.size rest) (start + b.size) (shorter rest b.size left b.front_of.nonempty le)
    (lexed_one text ts (Keyword_of x (place start (start + b.size))) rest (take b.size rest) (drop b.size rest) start b.size b.kind (A_keyword x)
    k b.front_of b.cut refl refl s refl)

lexed_from : (goal : Part) (text : List ℕ) (left : ℕ) → GoesOn goal text left
lexed_from goal text left ts [] start le k = inl (ts, k.lexes)
lexed_from goal text zero ts (x ∷ xs) start le k = absurd (omega (arith, le))
lexed_from goal text (suc left) ts (x ∷ xs) start le k =
    elim (begins (x ∷ xs) k.utf8 (omega arith) (class_of x) refl) [
      | inl b ↦ let i = item_of b.kind (take b.size (x ∷ xs)) b.front_of.is in
          one_item goal text ts (x ∷ xs) start left k le b i.0 i.1 (lexed_from goal text left)
      | inr none ↦ let c = first_char (x ∷ xs) k.utf8 (omega arith) in
          inr (fault.BadToken (place start (start + c.0)), bad_token text ts (x ∷ xs) start c.0 k none c.1 c.2)
    ]

pub lexed : (goal : Part) (text : List ℕ) → IsUtf8 text → Lexed goal text
lexed goal text u = lexed_from goal text (length text) [] text 0 (omega arith) (lexed_start text u)
