-- Whether a word is a number, and which.
use Rattle.std.proofs.Common.{◌≡◌, ℕ, ◌<◌, ◌^◌, Bool, true, false, ◌&&◌, nat_lt, List, [], ◌∷◌, length, Option, Some, None, Result, Ok, Err, if◌then◌else◌}
use Rattle.std.proofs.Common.{refl, sym, ap, ◌∙◌, arith, ⊎_elim, true≢false}
use Rattle.std.specs.Char.{is_ascii_digit}
use Rattle.std.specs.List.{list_all}
use Rattle.std.specs.Result.{OkIff, result_ok}
use Rattle.std.specs.Str.{all_ascii_digits}
use Rattle.std.specs.Str.Parse.{ParsesUnsigned, digits_value}
use Rattle.std.proofs.lemmas.Bool.{cases_Bool, lt-ltb, ltb-true, leb-true}
use Rattle.std.proofs.lemmas.Str.Parse.{IsNumeralModel, numerals_by_value, tells_all_ascii_digits, parse_digits}
use Rattle.console_words.specs.Count.{is_count, is_short_number}

digits_all : (ds : List ℕ) → all_ascii_digits ds ≡ list_all is_ascii_digit ds
digits_all [] = refl
digits_all (c ∷ cs) = ap (λ b. is_ascii_digit c && b) (digits_all cs)

own : IsNumeralModel (λ ds. all_ascii_digits ds ≡ true) (digits_value 10)
own = numerals_by_value _ tells_all_ascii_digits

in_range : {E : Type 0} (n v : ℕ) (P : Type 0) (r : Result ℕ E) → OkIff r (P × (v < n)) v → P → result_ok r ≡ (if nat_lt v n then Some v else None)
in_range n v P (Ok x) h p = ap Some h.1 ∙ sym (ap (λ b. if b then Some v else None) (lt-ltb v n h.0.1))
in_range n v P (Err e) h p =
    ⊎_elim (λ t. absurd (h (p, ltb-true v n t))) (λ f. sym (ap (λ b. if b then Some v else None) f)) (cases_Bool (nat_lt v n))

both : (a b : Bool) → (a && b) ≡ true → (a ≡ true) × (b ≡ true)
both true b e = (refl, e)
both false b e = absurd (true≢false (sym e))

pub count_is : {E : Type 0} (ds : List ℕ) (r : Result ℕ E) → ParsesUnsigned 32 10 ds r → is_short_number ds ≡ true
    → result_ok r ≡ (if is_count ds then Some (digits_value 10 ds) else None)
count_is ds r h s =
    let a = both _ _ s in
    let b = both _ _ a.1 in
    in_range (2 ^ 32) (digits_value 10 ds) (0 < length ds) r (parse_digits own 32 ds r h (digits_all ds ∙ b.1)) (omega (arith, leb-true 1 (length ds) a.0))
    ∙ sym (ap (λ t. if t && nat_lt (digits_value 10 ds) (2 ^ 32) then Some (digits_value 10 ds) else None) s)
