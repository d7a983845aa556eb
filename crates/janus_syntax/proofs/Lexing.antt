-- The lexer's steps: one more item, and that a text has one list of tokens.
use Rattle.std.proofs.Common.{◌≡◌, ℕ, ◌+◌, ◌-◌, ◌<◌, ◌≤◌, List, [], ◌∷◌, ◌++◌, length, get_or, suc, take, drop, drop-cons, append_assoc, take-append-drop}
use Rattle.std.proofs.Common.{Result, Ok, Err, Vec, true, ◌==◌, refl, ap, sym, subst, ◌∙◌, arith, IsUtf8, length-drop}
use Rattle.std.proofs.lemmas.List.{append-nil, drop_all}
use Rattle.std.proofs.lemmas.Str.{IsUtf8-drop}
use Rattle.std.specs.Str.{IsCharBoundary}
use Rattle.std.proofs.lemmas.Bool.{eqb-true}
use Rattle.janus_syntax.specs.declared.token.Span.{Span}
use Rattle.janus_syntax.specs.declared.text_token.TextToken as code_token
use Rattle.janus_syntax.specs.declared.lexer.Front.{Front}
use Rattle.janus_syntax.specs.Tokens.{Token}
use Rattle.janus_syntax.specs.declared.token.Token as kept_token
use Rattle.janus_syntax.specs.Tokens as kept
use Rattle.janus_syntax.specs.TextTokens.{token_view, views}
use Rattle.janus_syntax.specs.Lexical.{Item, Gap, IsSpelled, NoLonger, IsFront, IsToken, between, Lexes, none, gap, token, AreTokens, NoItem, IsBadToken}
use Rattle.janus_syntax.specs.Lexical.{IsTooLarge, A_number, largest_number}
use Rattle.janus_syntax.specs.Scan.{IsFrontOf, IsFirstChar, IsKindOf, IsTextLexed, IsTextOnly}
use Rattle.janus_syntax.specs.Text.{IsLexed, IsOnly}
use Rattle.janus_syntax.specs.declared.fault.SyntaxFault.{SyntaxFault}
use Rattle.janus_syntax.specs.declared.fault.SyntaxFault.TheVariants as fault
use Rattle.janus_syntax.proofs.OneLexing.{only_tokens, not_bad, not_large}

-- what the loop keeps
pub record IsLexedTo (text : List ℕ) (ts : List Token) (rest : List ℕ) (start : ℕ) : Type 0 where
  pub lexes : Lexes text text ts rest
  pub start_is : start + length rest ≡ length text
  pub utf8 : IsUtf8 rest

one_gap : {text from octets middle rest : List ℕ} {ts : List Token} → Lexes text from ts middle → IsFront Gap middle octets rest → Lexes text from ts rest
one_gap none f = gap f none
one_gap (gap g l) f = gap g (one_gap l f)
one_gap (token g k l) f = token g k (one_gap l f)

one_token : {text from octets middle rest : List ℕ} {ts : List Token} {i : Item} (t : Token) → Lexes text from ts middle → IsFront i middle octets rest →
    IsToken i (between text middle rest) t → Lexes text from (ts ++ t ∷ []) rest
one_token t none f k = token f k none
one_token t (gap g l) f k = gap g (one_token t l f k)
one_token t (token g h l) f k = token g h (one_token t l f k)

pub views_push : (ts : List code_token.TextToken) (t : code_token.TextToken) → views (ts ++ t ∷ []) ≡ views ts ++ token_view t ∷ []
views_push [] t = refl
views_push (u ∷ ts) t = ap (λ r. token_view u ∷ r) (views_push ts t)

-- the front's octets and what follows them
front_is : (f : Front) (i : Item) (n : ℕ) (from part after : List ℕ) → IsFrontOf f n from → part ≡ take n from → after ≡ drop n from → IsSpelled i part →
    IsFront i from part after
front_is f i n from part after h p a s =
    record {
      whole = sym ((λ j. p j ++ a j) ∙ take-append-drop n from);
      spelled = s;
      longest = subst (λ l. NoLonger l after) (sym p) (subst (λ l. NoLonger (take n from) l) (sym a) h.longest);
    }

abbrev pub place : ℕ → ℕ → Span
place s e = record { start = s; end = e }

place_is : (text from after : List ℕ) (n start : ℕ) → start + length from ≡ length text → n ≤ length from → after ≡ drop n from →
    place start (start + n) ≡ between text from after
place_is text from after n start e h a =
    let l : length after ≡ length from - n = ap length a ∙ length-drop n from in
    let x : start ≡ length text - length from = omega (arith, e) in
    let y : start + n ≡ length text - length after = omega (arith, e, h, l) in
    ap (λ s. place s (start + n)) x ∙ ap (λ d. place (length text - length from) d) y

pub lexed_start : (text : List ℕ) → IsUtf8 text → IsLexedTo text [] text 0
lexed_start text u = record { lexes = none; start_is = omega arith; utf8 = u }

-- behind one more item
behind : (text : List ℕ) (ts us : List Token) (rest part after : List ℕ) (start n : ℕ) (f : Front) → IsLexedTo text ts rest start → IsFrontOf f n rest →
    IsCharBoundary rest n → after ≡ drop n rest → Lexes text text us after → IsLexedTo text us after (start + n)
behind text ts us rest part after start n f k h cut a l =
    record {
      lexes = l;
      start_is = omega (arith, k.start_is, h.in_range, ap length a ∙ length-drop n rest);
      utf8 = subst IsUtf8 (sym a) (IsUtf8-drop rest n k.utf8 cut);
    }

pub lexed_gap : (text : List ℕ) (ts : List Token) (rest part after : List ℕ) (start n : ℕ) (f : Front) → IsLexedTo text ts rest start → IsFrontOf f n rest →
    IsCharBoundary rest n → part ≡ take n rest → after ≡ drop n rest → IsSpelled Gap part → IsLexedTo text ts after (start + n)
lexed_gap text ts rest part after start n f k h cut p a s =
    behind text ts ts rest part after start n f k h cut a (one_gap k.lexes (front_is f Gap n rest part after h p a s))

pub lexed_one : (text : List ℕ) (ts : List Token) (t : Token) (rest part after : List ℕ) (start n : ℕ) (f : Front) (i : Item) → IsLexedTo text ts rest start →
    IsFrontOf f n rest → IsCharBoundary rest n → part ≡ take n rest → after ≡ drop n rest →
    IsSpelled i part → IsToken i (place start (start + n)) t → IsLexedTo text (ts ++ t ∷ []) after (start + n)
lexed_one text ts t rest part after start n f i k h cut p a s is =
    behind text ts (ts ++ t ∷ []) rest part after start n f k h cut a
    (one_token t k.lexes (front_is f i n rest part after h p a s) (subst (λ at. IsToken i at t) (place_is text rest after n start k.start_is h.in_range a) is))

pub lexed_token : (text : List ℕ) (ts : List code_token.TextToken) (t : code_token.TextToken) (rest part after : List ℕ) (start n : ℕ) (f : Front) (i : Item) →
    IsLexedTo text (views ts) rest start → IsFrontOf f n rest → IsCharBoundary rest n → part ≡ take n rest → after ≡ drop n rest →
    IsSpelled i part → IsToken i (place start (start + n)) (token_view t) → IsLexedTo text (views (ts ++ t ∷ [])) after (start + n)
lexed_token text ts t rest part after start n f i k h cut p a s is =
    subst (λ us. IsLexedTo text us after (start + n)) (sym (views_push ts t))
    (lexed_one text (views ts) (token_view t) rest part after start n f i k h cut p a s is)

pub bad_token : (text : List ℕ) (ts : List Token) (rest : List ℕ) (start n : ℕ) → IsLexedTo text ts rest start → NoItem rest → IsFirstChar n rest →
    n ≤ length rest → IsBadToken text (place start (start + n))
bad_token text ts rest start n k nothing c h =
    record {
      tokens = ts;
      from = rest;
      rest = drop n rest;
      character = c.character;
      before = k.lexes;
      none = nothing;
      first = c.first;
      place = place_is text rest (drop n rest) n start k.start_is h refl;
    }

pub too_large : (text : List ℕ) (ts : List Token) (rest part after : List ℕ) (start n : ℕ) (f : Front) (at : Span) → IsLexedTo text ts rest start →
    IsFrontOf f n rest → part ≡ take n rest → after ≡ drop n rest →
    (number : ℕ) × IsSpelled (A_number number) part × (largest_number < number) × (at ≡ place start (start + n)) → IsTooLarge text at
too_large text ts rest part after start n f at k h p a (number, s, large, e) =
    record {
      tokens = ts;
      from = rest;
      digits = part;
      rest = after;
      number = number;
      before = k.lexes;
      front = front_is f (A_number number) n rest part after h p a s;
      large = large;
      place = e ∙ place_is text rest after n start k.start_is h.in_range a;
    }

-- a part that is no token

pub part_fails : (Z : Type 0) (text part : List ℕ) (at end : Span) (e : SyntaxFault) → IsKindOf part at (Err e) → at ≡ end →
    ((number : ℕ) × IsSpelled (A_number number) part × (largest_number < number) × (at ≡ end) → IsTooLarge text at) → IsTextLexed {Z = Z} text (Err e)
part_fails Z text part at end (fault.NumberTooLarge q) (number, s, large, same) here large_at =
    subst (λ x. IsTooLarge text x) (sym same) (large_at (number, s, large, here))
part_fails Z text part at end fault.Memory h here large_at = tt
part_fails Z text part at end (fault.BadToken q) h here large_at = absurd h
part_fails Z text part at end (fault.Expected w q) h here large_at = absurd h
part_fails Z text part at end (fault.TooNested q) h here large_at = absurd h
part_fails Z text part at end (fault.DelocalName q) h here large_at = absurd h

pub only_lexed : (text : List ℕ) {Z : Type 0} (r : Result (Vec kept_token.Token Z) SyntaxFault) → IsLexed text r → (ts : List Token) → AreTokens text ts →
    IsOnly ts r
only_lexed text (Ok found) h ts q = only_tokens text (kept.views found.items) ts h q
only_lexed text (Err (fault.BadToken at)) h ts q = absurd (not_bad text at ts h q)
only_lexed text (Err (fault.NumberTooLarge at)) h ts q = absurd (not_large text at ts h q)
only_lexed text (Err fault.Memory) h ts q = tt
only_lexed text (Err (fault.Expected w at)) h ts q = absurd h
only_lexed text (Err (fault.TooNested at)) h ts q = absurd h
only_lexed text (Err (fault.DelocalName at)) h ts q = absurd h

pub only_text : (text : List ℕ) {Z : Type 0} (r : Result (Vec code_token.TextToken Z) SyntaxFault) → IsTextLexed text r → (ts : List Token) →
    AreTokens text ts → IsTextOnly ts r
only_text text (Ok found) h ts q = only_tokens text (views found.items) ts h q
only_text text (Err (fault.BadToken at)) h ts q = absurd (not_bad text at ts h q)
only_text text (Err (fault.NumberTooLarge at)) h ts q = absurd (not_large text at ts h q)
only_text text (Err fault.Memory) h ts q = tt
only_text text (Err (fault.Expected w at)) h ts q = absurd h
only_text text (Err (fault.TooNested at)) h ts q = absurd h
only_text text (Err (fault.DelocalName at)) h ts q = absurd h

-- ---- names kept

-- a refusal is the same, whether names are kept or not
pub fails_alike : (Y Z : Type 0) (text : List ℕ) (e : SyntaxFault) → IsTextLexed {Z = Y} text (Err e) → IsLexed {Z = Z} text (Err e)
fails_alike Y Z text (fault.BadToken at) h = h
fails_alike Y Z text (fault.NumberTooLarge at) h = h
fails_alike Y Z text fault.Memory h = tt
fails_alike Y Z text (fault.Expected w at) h = absurd h
fails_alike Y Z text (fault.TooNested at) h = absurd h
fails_alike Y Z text (fault.DelocalName at) h = absurd h

-- one more token is kept
pub kept_push : (ts : List kept_token.Token) (t : kept_token.Token) → kept.views (ts ++ t ∷ []) ≡ kept.views ts ++ kept.token_view t ∷ []
kept_push [] t = refl
kept_push (u ∷ ts) t = ap (λ r. kept.token_view u ∷ r) (kept_push ts t)

-- one more token of those found is kept, and the rest is still to come
pub one_kept : (found : List code_token.TextToken) (ts : List kept_token.Token) (t : kept_token.Token) (i : ℕ) (d : code_token.TextToken) → i < length found →
    kept.views ts ++ views (drop i found) ≡ views found → kept.token_view t ≡ token_view (get_or found i d) →
    kept.views (ts ++ t ∷ []) ++ views (drop (suc i) found) ≡ views found
one_kept found ts t i d h before same =
    ap (λ l. l ++ views (drop (suc i) found)) (kept_push ts t)
    ∙ append_assoc (kept.views ts) (kept.token_view t ∷ []) (views (drop (suc i) found))
    ∙ ap (λ u. kept.views ts ++ u ∷ views (drop (suc i) found)) same
    ∙ ap (λ l. kept.views ts ++ views l) (sym (drop-cons found i d h))
    ∙ before

pub all_kept : (text : List ℕ) (found : List code_token.TextToken) (ts : List kept_token.Token) (i : ℕ) → length found ≤ i →
    kept.views ts ++ views (drop i found) ≡ views found →
    AreTokens text (views found) → AreTokens text (kept.views ts)
all_kept text found ts i h before read =
    subst (λ us. AreTokens text us) (sym before ∙ ap (λ l. kept.views ts ++ views l) (drop_all i found h) ∙ append-nil (kept.views ts)) read

none_there : (xs : List ℕ) → true ≡ (length xs == 0) → xs ≡ []
none_there [] e = refl
none_there (x ∷ xs) e = absurd (omega (arith, eqb-true (length (x ∷ xs)) 0 (sym e)))

pub all_tokens : (text : List ℕ) (ts us : List Token) (rest : List ℕ) {start : ℕ} → IsLexedTo text ts rest start → true ≡ (length rest == 0) →
    AreTokens text us → ts ≡ us
all_tokens text ts us rest k e q = only_tokens text ts us (subst (λ r. Lexes text text ts r) (none_there rest e) k.lexes) q
