-- What a command line says, by its octets.
use Rattle.std.proofs.Common.{◌≡◌, ◌≢◌, ℕ, ◌<◌, ◌^◌, Bool, true, false, ◌&&◌, nat_lt, nat_eq, List, [], ◌∷◌, ◌++◌, length, drop, Option, Some, None, Result, Ok}
use Rattle.std.proofs.Common.{Err, if◌then◌else◌, refl, sym, ap, ◌∙◌, arith, length-append, Bor, ⊎_elim, true≢false}
use Rattle.std.specs.Char.{is_ascii_digit}
use Rattle.std.specs.List.{list_all, starts_with}
use Rattle.std.specs.Option.{MatchOption}
use Rattle.std.specs.Result.{OkIff, result_ok}
use Rattle.std.specs.Str.{all_ascii_digits}
use Rattle.std.specs.Str.Parse.{ParsesUnsigned, digits_value}
use Rattle.std.specs.Str.Pattern.{FindsTextPrefix, StripsPrefix}
use Rattle.std.proofs.lemmas.Bool.{cases_Bool, lt-ltb, ltb-true, leb-true}
use Rattle.std.proofs.lemmas.Bool.Decides.{Decides-eqb}
use Rattle.std.proofs.lemmas.Slice.Eq.{starts_is}
use Rattle.std.proofs.lemmas.Str.Parse.{IsNumeralModel, numerals_by_value, tells_all_ascii_digits, parse_digits}
use Rattle.std.proofs.lemmas.Grind.{common_steps}
use Rattle.cells_program.specs.Lines.{is_trimmed, trimmed, trimmed_onto}
use Rattle.cells_program.specs.Command.{is_count, is_short_number}

-- ---- the end of a line

trimmed_drops : (c : ℕ) → is_trimmed c ≡ true → (front : List ℕ) → trimmed (front ++ (c ∷ [])) ≡ trimmed front
trimmed_drops c t [] = ap (λ b. if b then [] else c ∷ []) t
trimmed_drops c t (d ∷ front) = ap (trimmed_onto d) (trimmed_drops c t front)

pub last_dropped : (c : ℕ) → is_trimmed c ≡ true → (xs front : List ℕ) → xs ≡ front ++ (c ∷ []) → (trimmed xs ≡ trimmed front) × (length front < length xs)
last_dropped c t xs front e = (ap trimmed e ∙ trimmed_drops c t front, omega (arith, ap length e, length-append front (c ∷ [])))

not_trimmed : (c : ℕ) → c ≢ 32 → c ≢ 9 → c ≢ 13 → is_trimmed c ≡ false
not_trimmed c a b d = grind (arith, common_steps)

trimmed_same : (xs : List ℕ) → ((front : List ℕ) → xs ≢ front ++ (32 ∷ [])) → ((front : List ℕ) → xs ≢ front ++ (9 ∷ [])) →
    ((front : List ℕ) → xs ≢ front ++ (13 ∷ [])) → trimmed xs ≡ xs
trimmed_same [] a b d = refl
trimmed_same (c ∷ []) a b d =
    ap (λ t. if t then [] else c ∷ []) (not_trimmed c (λ e. a [] (ap (λ x. x ∷ []) e)) (λ e. b [] (ap (λ x. x ∷ []) e)) (λ e. d [] (ap (λ x. x ∷ []) e)))
trimmed_same (c ∷ x ∷ rest) a b d =
    ap (trimmed_onto c)
    (trimmed_same (x ∷ rest) (λ f e. a (c ∷ f) (ap (λ l. c ∷ l) e)) (λ f e. b (c ∷ f) (ap (λ l. c ∷ l) e)) (λ f e. d (c ∷ f) (ap (λ l. c ∷ l) e)))

pub last_tried : (xs : List ℕ) (r : Option (Bor (List ℕ))) → ((front : List ℕ) → xs ≢ front ++ (32 ∷ [])) → ((front : List ℕ) → xs ≢ front ++ (9 ∷ []))
    → MatchOption r ((front : List ℕ) → xs ≢ front ++ (13 ∷ [])) (λ x. xs ≡ x.now ++ (13 ∷ []))
    → MatchOption r (trimmed xs ≡ xs) (λ x. (trimmed xs ≡ trimmed x.now) × (length x.now < length xs))
last_tried xs None a b h = trimmed_same xs a b h
last_tried xs (Some x) a b h = last_dropped 13 refl xs x.now h

-- ---- its words

pub stripped_words : (n s : List ℕ) (r : Option (Bor (List ℕ))) → MatchOption r (FindsTextPrefix n s None) (λ x. StripsPrefix (FindsTextPrefix n) s x.now)
    → MatchOption r (starts_with nat_eq s n ≡ false) (λ x. (starts_with nat_eq s n ≡ true) × (x.now ≡ drop (length n) s))
stripped_words n s None h = ⊎_elim (λ e. absurd (h _ ((starts_is Decides-eqb s n _ refl).0 e))) (λ e. e) (cases_Bool (starts_with nat_eq s n))
stripped_words n s (Some x) h = ((starts_is Decides-eqb s n _ refl).1 _ h.1.1, h.2 ∙ ap (λ k. drop k s) h.1.0)

-- ---- its number

digits_all : (ds : List ℕ) → all_ascii_digits ds ≡ list_all is_ascii_digit ds
digits_all [] = refl
digits_all (c ∷ cs) = ap (λ b. is_ascii_digit c && b) (digits_all cs)

own : IsNumeralModel (λ ds. all_ascii_digits ds ≡ true) (digits_value 10)
own = numerals_by_value _ tells_all_ascii_digits

in_range : {E : Type 0} (n v : ℕ) (P : Type 0) (r : Result ℕ E) → OkIff r (P × (v < n)) v → P → result_ok r ≡ (if nat_lt v n then Some v else None)
in_range n v P (Ok x) h p = ap Some h.1 ∙ sym (ap (λ b. if b then Some v else None) (lt-ltb v n h.0.1))
in_range n v P (Err e) h p =
    ⊎_elim (λ t. absurd (h (p, ltb-true v n t))) (λ f. sym (ap (λ b. if b then Some v else None) f)) (cases_Bool (nat_lt v n))

both : (a b : Bool) → (a && b) ≡ true → (a ≡ true) × (b ≡ true)
both true b e = (refl, e)
both false b e = absurd (true≢false (sym e))

pub count_is : {E : Type 0} (ds : List ℕ) (r : Result ℕ E) → ParsesUnsigned 32 10 ds r → is_short_number ds ≡ true
    → result_ok r ≡ (if is_count ds then Some (digits_value 10 ds) else None)
count_is ds r h s =
    let a = both _ _ s in
    let b = both _ _ a.1 in
    in_range (2 ^ 32) (digits_value 10 ds) (0 < length ds) r (parse_digits own 32 ds r h (digits_all ds ∙ b.1)) (omega (arith, leb-true 1 (length ds) a.0))
    ∙ sym (ap (λ t. if t && nat_lt (digits_value 10 ds) (2 ^ 32) then Some (digits_value 10 ds) else None) s)
