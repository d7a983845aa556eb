-- A text has one bad token or one number past the largest at most, and not both.
use Rattle.std.proofs.Common.{◌≡◌, ℕ, ◌<◌, ◌⊎◌, inl, inr, List, refl, ap, sym, subst, ◌∙◌, arith}
use Rattle.std.proofs.lemmas.Str.{encode_same}
use Rattle.janus_syntax.specs.declared.token.Span.{Span}
use Rattle.janus_syntax.specs.Tokens.{Token}
use Rattle.janus_syntax.specs.Lexical.{Gap, A_number, IsFront, IsToken, between, Lexes, none, gap, token, NoItem, IsBadToken, IsTooLarge, largest_number}
use Rattle.janus_syntax.proofs.OneLexing.{same_front}

either_goes : {text from p q : List ℕ} {us vs : List Token} → Lexes text from us p → Lexes text from vs q → ((ws : List Token) × Lexes text p ws q) ⊎
    ((ws : List Token) × Lexes text q ws p)
either_goes {vs = vs} none m = inl (vs, m)
either_goes {us = us} l none = inr (us, l)
either_goes {text} {q = q} (gap f l) (gap {ts = ts} g m) = let s = same_front f g in either_goes l (subst (λ r. Lexes text r ts q) (sym s.rests) m)
either_goes {text} {q = q} (gap f l) (token {ts = ts} g k m) = let s = same_front f g in either_goes l (subst (λ r. Lexes text r ts q) (sym s.rests) m)
either_goes {text} {q = q} (token f h l) (gap {ts = ts} g m) = let s = same_front f g in either_goes l (subst (λ r. Lexes text r ts q) (sym s.rests) m)
either_goes {text} {q = q} (token f h l) (token {ts = ts} g k m) = let s = same_front f g in either_goes l (subst (λ r. Lexes text r ts q) (sym s.rests) m)

-- no tokens stand behind a place where they stop
bad_stays : {text p q : List ℕ} {ws : List Token} → NoItem p → Lexes text p ws q → p ≡ q
bad_stays n none = refl
bad_stays n (gap {octets = octets} {middle = middle} f l) = absurd (n Gap octets middle f.whole f.spelled)
bad_stays n (token {i = i} {octets = octets} {middle = middle} f h l) = absurd (n i octets middle f.whole f.spelled)

large_stays : {text p q digits rest : List ℕ} {ws : List Token} {n : ℕ} → IsFront (A_number n) p digits rest → largest_number < n → Lexes text p ws q → p ≡ q
large_stays g large none = refl
large_stays g large (gap f l) = let s = same_front f g in let k = s.item in absurd cc
large_stays {text} {p} {n = n} g large (token {middle = middle} {t = t} f h l) =
    let s = same_front f g in
    let k : IsToken (A_number n) (between text p middle) t = subst (λ i. IsToken i (between text p middle) t) s.item h in
    absurd (omega (arith, k.0, large))

pub bad_bad : (text : List ℕ) (a b : Span) → IsBadToken text a → IsBadToken text b → a ≡ b
bad_bad text a b x y =
    let here : x.from ≡ y.from = elim (either_goes x.before y.before) [ inl (ws, l) ↦ bad_stays x.none l | inr (ws, l) ↦ sym (bad_stays y.none l) ] in
    let rests : x.rest ≡ y.rest = (encode_same x.character y.character x.rest y.rest (sym x.first ∙ here ∙ y.first)).1 in
    x.place ∙ ap (λ l. between text l x.rest) here ∙ ap (λ l. between text y.from l) rests ∙ sym y.place

pub large_large : (text : List ℕ) (a b : Span) → IsTooLarge text a → IsTooLarge text b → a ≡ b
large_large text a b x y =
    let here : x.from ≡ y.from =
    elim (either_goes x.before y.before) [ inl (ws, l) ↦ large_stays x.front x.large l | inr (ws, l) ↦ sym (large_stays y.front y.large l) ] in
    let s = same_front (subst (λ f. IsFront (A_number x.number) f x.digits x.rest) here x.front) y.front in
    x.place ∙ ap (λ l. between text l x.rest) here ∙ ap (λ l. between text y.from l) s.rests ∙ sym y.place

pub bad_large : (text : List ℕ) (a b : Span) → IsBadToken text a → IsTooLarge text b → ⊥
bad_large text a b x y =
    let here : x.from ≡ y.from =
    elim (either_goes x.before y.before) [ inl (ws, l) ↦ bad_stays x.none l | inr (ws, l) ↦ sym (large_stays y.front y.large l) ] in
    x.none (A_number y.number) y.digits y.rest (here ∙ y.front.whole) y.front.spelled
