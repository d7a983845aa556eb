-- A text has one list of tokens, and a text with a bad token or a number past the largest has none.
use Rattle.std.proofs.Common.{◌≡◌, ℕ, ◌<◌, ◌==◌, ◌⊎◌, inl, inr, List, [], ◌∷◌, ◌++◌, length, cond, refl, ap, sym, subst, ◌∙◌, arith, length-append}
use Rattle.std.proofs.lemmas.List.{append-nil}
use Rattle.std.proofs.lemmas.Str.{length-encode, len_utf8_bounds}
use Rattle.std.specs.Prelude.{encode_utf8}
use Rattle.std.specs.Str.{bytes_eq}
use Rattle.janus_syntax.specs.declared.token.Span.{Span}
use Rattle.janus_syntax.specs.declared.token.Sign.{Sign}
use Rattle.janus_syntax.specs.declared.token.Sign.TheVariants as sign
use Rattle.janus_syntax.specs.declared.token.Keyword.{Keyword}
use Rattle.janus_syntax.specs.declared.token.Keyword.TheVariants as keyword
use Rattle.janus_syntax.specs.Spelling.{sign_text, keyword_text}
use Rattle.janus_syntax.specs.Tokens.{Token}
use Rattle.janus_syntax.specs.Lexical.{class_of, Item, Gap, A_name, A_number, A_sign, A_keyword, IsSpelled, IsFront, IsToken, between, Lexes, none, gap, token}
use Rattle.janus_syntax.specs.Lexical.{AreTokens, NoItem, IsBadToken, IsTooLarge, largest_number}
use Rattle.janus_syntax.proofs.Fronts.{head, second, head_is, some_octets, no_comment}

abbrev keyword_from : List ℕ → Keyword
keyword_from l =
    cond (bytes_eq l (keyword_text keyword.Call)) keyword.Call (
    cond (bytes_eq l (keyword_text keyword.Delocal)) keyword.Delocal (
    cond (bytes_eq l (keyword_text keyword.Do)) keyword.Do (
    cond (bytes_eq l (keyword_text keyword.Else)) keyword.Else (
    cond (bytes_eq l (keyword_text keyword.Empty)) keyword.Empty (
    cond (bytes_eq l (keyword_text keyword.Fi)) keyword.Fi (
    cond (bytes_eq l (keyword_text keyword.From)) keyword.From (
    cond (bytes_eq l (keyword_text keyword.If)) keyword.If (
    cond (bytes_eq l (keyword_text keyword.Int)) keyword.Int (
    cond (bytes_eq l (keyword_text keyword.Local)) keyword.Local (
    cond (bytes_eq l (keyword_text keyword.Loop)) keyword.Loop (
    cond (bytes_eq l (keyword_text keyword.Main)) keyword.Main (
    cond (bytes_eq l (keyword_text keyword.Nil)) keyword.Nil (
    cond (bytes_eq l (keyword_text keyword.Pop)) keyword.Pop (
    cond (bytes_eq l (keyword_text keyword.Procedure)) keyword.Procedure (
    cond (bytes_eq l (keyword_text keyword.Push)) keyword.Push (
    cond (bytes_eq l (keyword_text keyword.Skip)) keyword.Skip (
    cond (bytes_eq l (keyword_text keyword.Stack)) keyword.Stack (
    cond (bytes_eq l (keyword_text keyword.Then)) keyword.Then (
    cond (bytes_eq l (keyword_text keyword.Top)) keyword.Top (
    cond (bytes_eq l (keyword_text keyword.Uncall)) keyword.Uncall (
    keyword.Until)))))))))))))))))))))

keyword_decodes : (w : Keyword) → keyword_from (keyword_text w) ≡ w
keyword_decodes keyword.Call = refl
keyword_decodes keyword.Delocal = refl
keyword_decodes keyword.Do = refl
keyword_decodes keyword.Else = refl
keyword_decodes keyword.Empty = refl
keyword_decodes keyword.Fi = refl
keyword_decodes keyword.From = refl
keyword_decodes keyword.If = refl
keyword_decodes keyword.Int = refl
keyword_decodes keyword.Local = refl
keyword_decodes keyword.Loop = refl
keyword_decodes keyword.Main = refl
keyword_decodes keyword.Nil = refl
keyword_decodes keyword.Pop = refl
keyword_decodes keyword.Procedure = refl
keyword_decodes keyword.Push = refl
keyword_decodes keyword.Skip = refl
keyword_decodes keyword.Stack = refl
keyword_decodes keyword.Then = refl
keyword_decodes keyword.Top = refl
keyword_decodes keyword.Uncall = refl
keyword_decodes keyword.Until = refl

same_keyword : (w v : Keyword) → keyword_text w ≡ keyword_text v → w ≡ v
same_keyword w v e = sym (keyword_decodes w) ∙ ap keyword_from e ∙ keyword_decodes v

abbrev sign_from : List ℕ → Sign
sign_from l =
    cond (bytes_eq l (sign_text sign.PlusEquals)) sign.PlusEquals (
    cond (bytes_eq l (sign_text sign.MinusEquals)) sign.MinusEquals (
    cond (bytes_eq l (sign_text sign.XorEquals)) sign.XorEquals (
    cond (bytes_eq l (sign_text sign.Swap)) sign.Swap (
    cond (bytes_eq l (sign_text sign.Plus)) sign.Plus (
    cond (bytes_eq l (sign_text sign.Minus)) sign.Minus (
    cond (bytes_eq l (sign_text sign.Times)) sign.Times (
    cond (bytes_eq l (sign_text sign.Divide)) sign.Divide (
    cond (bytes_eq l (sign_text sign.Remainder)) sign.Remainder (
    cond (bytes_eq l (sign_text sign.Xor)) sign.Xor (
    cond (bytes_eq l (sign_text sign.BitAnd)) sign.BitAnd (
    cond (bytes_eq l (sign_text sign.And)) sign.And (
    cond (bytes_eq l (sign_text sign.BitOr)) sign.BitOr (
    cond (bytes_eq l (sign_text sign.Or)) sign.Or (
    cond (bytes_eq l (sign_text sign.Equals)) sign.Equals (
    cond (bytes_eq l (sign_text sign.Differs)) sign.Differs (
    cond (bytes_eq l (sign_text sign.Less)) sign.Less (
    cond (bytes_eq l (sign_text sign.Greater)) sign.Greater (
    cond (bytes_eq l (sign_text sign.AtMost)) sign.AtMost (
    cond (bytes_eq l (sign_text sign.AtLeast)) sign.AtLeast (
    cond (bytes_eq l (sign_text sign.Open)) sign.Open (
    cond (bytes_eq l (sign_text sign.Close)) sign.Close (
    cond (bytes_eq l (sign_text sign.OpenIndex)) sign.OpenIndex (
    cond (bytes_eq l (sign_text sign.CloseIndex)) sign.CloseIndex (
    sign.Comma))))))))))))))))))))))))

sign_decodes : (s : Sign) → sign_from (sign_text s) ≡ s
sign_decodes sign.PlusEquals = refl
sign_decodes sign.MinusEquals = refl
sign_decodes sign.XorEquals = refl
sign_decodes sign.Swap = refl
sign_decodes sign.Plus = refl
sign_decodes sign.Minus = refl
sign_decodes sign.Times = refl
sign_decodes sign.Divide = refl
sign_decodes sign.Remainder = refl
sign_decodes sign.Xor = refl
sign_decodes sign.BitAnd = refl
sign_decodes sign.And = refl
sign_decodes sign.BitOr = refl
sign_decodes sign.Or = refl
sign_decodes sign.Equals = refl
sign_decodes sign.Differs = refl
sign_decodes sign.Less = refl
sign_decodes sign.Greater = refl
sign_decodes sign.AtMost = refl
sign_decodes sign.AtLeast = refl
sign_decodes sign.Open = refl
sign_decodes sign.Close = refl
sign_decodes sign.OpenIndex = refl
sign_decodes sign.CloseIndex = refl
sign_decodes sign.Comma = refl

same_sign : (s t : Sign) → sign_text s ≡ sign_text t → s ≡ t
same_sign s t e = sym (sign_decodes s) ∙ ap sign_from e ∙ sign_decodes t

gap_sign : (s : Sign) (c : ℕ) (cs : List ℕ) → IsSpelled Gap (c ∷ cs) → c ∷ cs ≡ sign_text s → ⊥
gap_sign s c cs (inl (d, e, k)) q = let h = head_is (A_sign s) c cs q in let g = ap (λ l. class_of (head l)) e ∙ k in absurd cc
gap_sign s c cs (inr (ds, e, k)) q =
    let f : sign_text s ≡ 47 ∷ 47 ∷ ds = sym q ∙ e in
    no_comment s (ap (λ l. head l == 47) f) (ap (λ l. second l == 47) f)

-- octets spell one item
same_item : (i j : Item) (c : ℕ) (cs : List ℕ) → IsSpelled i (c ∷ cs) → IsSpelled j (c ∷ cs) → i ≡ j
same_item Gap Gap c cs p q = refl
same_item Gap (A_name y) c cs p q = let h = head_is (A_name y) c cs q in elim (head_is Gap c cs p) [ inl k ↦ absurd cc | inr k ↦ absurd cc ]
same_item Gap (A_number n) c cs p q = let h = head_is (A_number n) c cs q in elim (head_is Gap c cs p) [ inl k ↦ absurd cc | inr k ↦ absurd cc ]
same_item Gap (A_sign t) c cs p q = absurd (gap_sign t c cs p q)
same_item Gap (A_keyword w) c cs p q = let h = head_is (A_keyword w) c cs q in elim (head_is Gap c cs p) [ inl k ↦ absurd cc | inr k ↦ absurd cc ]
same_item (A_name x) Gap c cs p q = let h = head_is (A_name x) c cs p in elim (head_is Gap c cs q) [ inl k ↦ absurd cc | inr k ↦ absurd cc ]
same_item (A_name x) (A_name y) c cs p q = ap A_name (p.0 ∙ sym q.0)
same_item (A_name x) (A_number n) c cs p q = let h = head_is (A_name x) c cs p in let k = head_is (A_number n) c cs q in absurd cc
same_item (A_name x) (A_sign t) c cs p q = let h = head_is (A_name x) c cs p in let k = head_is (A_sign t) c cs q in absurd cc
same_item (A_name x) (A_keyword w) c cs p q = absurd (p.2 w q)
same_item (A_number m) Gap c cs p q = let h = head_is (A_number m) c cs p in elim (head_is Gap c cs q) [ inl k ↦ absurd cc | inr k ↦ absurd cc ]
same_item (A_number m) (A_name y) c cs p q = let h = head_is (A_number m) c cs p in let k = head_is (A_name y) c cs q in absurd cc
same_item (A_number m) (A_number n) c cs p q = ap A_number (p.0 ∙ sym q.0)
same_item (A_number m) (A_sign t) c cs p q = let h = head_is (A_number m) c cs p in let k = head_is (A_sign t) c cs q in absurd cc
same_item (A_number m) (A_keyword w) c cs p q = let h = head_is (A_number m) c cs p in let k = head_is (A_keyword w) c cs q in absurd cc
same_item (A_sign s) Gap c cs p q = absurd (gap_sign s c cs q p)
same_item (A_sign s) (A_name y) c cs p q = let h = head_is (A_sign s) c cs p in let k = head_is (A_name y) c cs q in absurd cc
same_item (A_sign s) (A_number n) c cs p q = let h = head_is (A_sign s) c cs p in let k = head_is (A_number n) c cs q in absurd cc
same_item (A_sign s) (A_sign t) c cs p q = ap A_sign (same_sign s t (sym p ∙ q))
same_item (A_sign s) (A_keyword w) c cs p q = let h = head_is (A_sign s) c cs p in let k = head_is (A_keyword w) c cs q in absurd cc
same_item (A_keyword v) Gap c cs p q = let h = head_is (A_keyword v) c cs p in elim (head_is Gap c cs q) [ inl k ↦ absurd cc | inr k ↦ absurd cc ]
same_item (A_keyword v) (A_name y) c cs p q = absurd (q.2 v p)
same_item (A_keyword v) (A_number n) c cs p q = let h = head_is (A_keyword v) c cs p in let k = head_is (A_number n) c cs q in absurd cc
same_item (A_keyword v) (A_sign t) c cs p q = let h = head_is (A_keyword v) c cs p in let k = head_is (A_sign t) c cs q in absurd cc
same_item (A_keyword v) (A_keyword w) c cs p q = ap A_keyword (same_keyword v w (sym p ∙ q))

same_item_of : (i j : Item) (text : List ℕ) → IsSpelled i text → IsSpelled j text → i ≡ j
same_item_of i j [] p q = absurd (some_octets i p)
same_item_of i j (c ∷ cs) p q = same_item i j c cs p q

same_token : (i : Item) (at : Span) (t u : Token) → IsToken i at t → IsToken i at u → t ≡ u
same_token Gap at t u p q = absurd p
same_token (A_name x) at t u p q = p ∙ sym q
same_token (A_number n) at t u p q = p.1 ∙ sym q.1
same_token (A_sign s) at t u p q = p ∙ sym q
same_token (A_keyword w) at t u p q = p ∙ sym q

-- of two fronts of a list one begins the other
pub two_fronts : {A : Type 0} (a b r s : List A) → a ++ r ≡ b ++ s → ((more : List A) × (b ≡ a ++ more) × (r ≡ more ++ s)) ⊎
    ((more : List A) × (a ≡ b ++ more) × (s ≡ more ++ r))
two_fronts [] b r s e = inl (b, refl, e)
two_fronts (x ∷ a) [] r s e = inr (x ∷ a, refl, sym e)
two_fronts (x ∷ a) (y ∷ b) r s e =
    let h : x ≡ y = cc in
    let k : a ++ r ≡ b ++ s = cc in
    elim (two_fronts a b r s k) [
      | inl (more, p, q) ↦ inl (more, cc, q)
      | inr (more, p, q) ↦ inr (more, cc, q)
    ]

pub record SameFront (i j : Item) (rest rest' : List ℕ) : Type 0 where
  pub item : i ≡ j
  pub rests : rest ≡ rest'

same_octets : {i j : Item} {from a b rest rest' : List ℕ} → IsFront i from a rest → IsFront j from b rest' → a ≡ b → rest ≡ rest' → SameFront i j rest rest'
same_octets {i} {j} {b = b} f g e r = record { item = same_item_of i j b (subst (λ l. IsSpelled i l) e f.spelled) g.spelled; rests = r }

pub same_front : {i j : Item} {from a b rest rest' : List ℕ} → IsFront i from a rest → IsFront j from b rest' → SameFront i j rest rest'
same_front {i} {j} {a = a} {b} {rest} {rest'} f g =
    elim (two_fronts a b rest rest' (sym f.whole ∙ g.whole)) [
      | inl (more, p, q) ↦
          let none : more ≡ [] = f.longest j more rest' q (subst (λ l. IsSpelled j l) p g.spelled) in
          same_octets f g (sym (p ∙ ap (λ m. a ++ m) none ∙ append-nil a)) (q ∙ ap (λ m. m ++ rest') none)
      | inr (more, p, q) ↦
          let none : more ≡ [] = g.longest i more rest q (subst (λ l. IsSpelled i l) p f.spelled) in
          same_octets f g (p ∙ ap (λ m. b ++ m) none ∙ append-nil b) (sym (q ∙ ap (λ m. m ++ rest) none))
    ]

no_front : {i : Item} {from octets rest : List ℕ} → IsFront i from octets rest → from ≡ [] → ⊥
no_front {i} {octets = []} f e = some_octets i f.spelled
no_front {octets = c ∷ cs} {rest} f e = let k : [] ≡ c ∷ (cs ++ rest) = sym e ∙ f.whole in absurd cc

-- a text has one list of tokens
lexes_same : {text from end end' : List ℕ} {ts us : List Token} → Lexes text from ts end → end ≡ [] → Lexes text from us end' → end' ≡ [] → ts ≡ us
lexes_same none e none d = refl
lexes_same none e (gap g m) d = absurd (no_front g e)
lexes_same none e (token g k m) d = absurd (no_front g e)
lexes_same (gap f l) e none d = absurd (no_front f d)
lexes_same (token f h l) e none d = absurd (no_front f d)
lexes_same {text} {end' = end'} {us = us} (gap f l) e (gap g m) d =
    let s = same_front f g in
    lexes_same l e (subst (λ r. Lexes text r us end') (sym s.rests) m) d
lexes_same {text} {from} (gap f l) e (token {middle = middle} {t = t} g k m) d =
    let s = same_front f g in
    absurd (subst (λ i. IsToken i (between text from middle) t) (sym s.item) k)
lexes_same {text} {from} (token {middle = middle} {t = t} f h l) e (gap g m) d =
    let s = same_front f g in
    absurd (subst (λ i. IsToken i (between text from middle) t) s.item h)
lexes_same {text} {from} {end' = end'} (token {i = i} {middle = middle} {t = t} f h l) e (token {i = j} {middle = middle'} {t = u} {ts = us} g k m) d =
    let s = same_front f g in
    let k2 : IsToken i (between text from middle) u =
    subst (λ r. IsToken i (between text from r) u) (sym s.rests) (subst (λ x. IsToken x (between text from middle') u) (sym s.item) k) in
    let first : t ≡ u = same_token i (between text from middle) t u h k2 in
    let others = lexes_same l e (subst (λ r. Lexes text r us end') (sym s.rests) m) d in
    (λ n. first n ∷ others n)

pub only_tokens : (text : List ℕ) (ts us : List Token) → AreTokens text ts → AreTokens text us → ts ≡ us
only_tokens text ts us p q = lexes_same p refl q refl

-- a text with tokens has tokens behind each of its places
goes_through : {text from end stop : List ℕ} {ts us : List Token} → Lexes text from ts end → end ≡ [] → Lexes text from us stop → (vs : List Token) ×
    Lexes text stop vs end
goes_through {ts = ts} l e none = (ts, l)
goes_through none e (gap g m) = absurd (no_front g e)
goes_through none e (token g k m) = absurd (no_front g e)
goes_through {text} {stop = stop} (gap f l) e (gap {ts = us} g m) = let s = same_front f g in
    goes_through l e (subst (λ r. Lexes text r us stop) (sym s.rests) m)
goes_through {text} {stop = stop} (gap f l) e (token {ts = us} g k m) = let s = same_front f g in
    goes_through l e (subst (λ r. Lexes text r us stop) (sym s.rests) m)
goes_through {text} {stop = stop} (token f h l) e (gap {ts = us} g m) = let s = same_front f g in
    goes_through l e (subst (λ r. Lexes text r us stop) (sym s.rests) m)
goes_through {text} {stop = stop} (token f h l) e (token {ts = us} g k m) = let s = same_front f g in
    goes_through l e (subst (λ r. Lexes text r us stop) (sym s.rests) m)

no_item_behind : {text from end : List ℕ} {ts : List Token} → Lexes text from ts end → end ≡ [] → NoItem from → from ≡ []
no_item_behind none e n = e
no_item_behind (gap {octets = octets} {middle = middle} f l) e n = absurd (n Gap octets middle f.whole f.spelled)
no_item_behind (token {i = i} {octets = octets} {middle = middle} f h l) e n = absurd (n i octets middle f.whole f.spelled)

some_char : (c : ℕ) (rest : List ℕ) → encode_utf8 c ++ rest ≡ [] → ⊥
some_char c rest e = absurd (omega (arith, ap length e, length-append (encode_utf8 c) rest, length-encode c, len_utf8_bounds c))

pub not_bad : (text : List ℕ) (at : Span) (ts : List Token) → IsBadToken text at → AreTokens text ts → ⊥
not_bad text at ts b l =
    let r = goes_through l refl b.before in
    some_char b.character b.rest (sym b.first ∙ no_item_behind r.1 refl b.none)

small_behind : {text from end octets rest : List ℕ} {ts : List Token} {n : ℕ} → Lexes text from ts end → end ≡ [] → IsFront (A_number n) from octets rest →
    largest_number < n → ⊥
small_behind none e g large = no_front g e
small_behind (gap f l) e g large = let s = same_front f g in let k = s.item in absurd cc
small_behind {text} {from} {n = n} (token {middle = middle} {t = t} f h l) e g large =
    let s = same_front f g in
    let k : IsToken (A_number n) (between text from middle) t = subst (λ i. IsToken i (between text from middle) t) s.item h in
    absurd (omega (arith, k.0, large))

pub not_large : (text : List ℕ) (at : Span) (ts : List Token) → IsTooLarge text at → AreTokens text ts → ⊥
not_large text at ts b l =
    let r = goes_through l refl b.before in
    small_behind r.1 refl b.front b.large
