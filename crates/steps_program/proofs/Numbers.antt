-- The number that a word writes.
use Rattle.std.proofs.Common.{◌≡◌, ◌∙◌, ℕ, ◌<◌, ◌^◌, Bool, true, false, ◌&&◌, nat_lt, nat_le, List, length, Some, None, Result, Ok, Err}
use Rattle.std.proofs.Common.{if◌then◌else◌, refl, sym, ap, true≢false, ⊎_elim}
use Rattle.std.specs.Result.{result_ok}
use Rattle.std.specs.Str.{all_ascii_digits}
use Rattle.std.specs.Str.Parse.{ParsesUnsigned, IsNumeral, digits_value, without_leading_plus}
use Rattle.std.proofs.lemmas.Bool.{cases_Bool, lt-ltb, ltb-true, le-leb, leb-true}
use Rattle.std.proofs.lemmas.Str.Parse.{IsNumeralModel, numerals_by_value, tells_all_ascii_digits}
use Rattle.steps_program.specs.Commands.{is_number, number_of}

own : IsNumeralModel (λ ds. all_ascii_digits ds ≡ true) (digits_value 10)
own = numerals_by_value _ tells_all_ascii_digits

both : (a b : Bool) → (a && b) ≡ true → (a ≡ true) × (b ≡ true)
both true b e = (refl, e)
both false b e = absurd (true≢false (sym e))

joined : (a b : Bool) → a ≡ true → b ≡ true → (a && b) ≡ true
joined true b e f = f
joined false b e f = absurd (true≢false (sym e))

numeral : (ds : List ℕ) → is_number ds ≡ true → IsNumeral 10 ds × (digits_value 10 ds < 2 ^ 64)
numeral ds e =
    let a = both (nat_le 1 (length ds) && all_ascii_digits ds) (nat_lt (digits_value 10 ds) (2 ^ 64)) e in
    let b = both (nat_le 1 (length ds)) (all_ascii_digits ds) a.0 in
    ((leb-true 1 (length ds) b.0, own.to ds b.1), ltb-true (digits_value 10 ds) (2 ^ 64) a.1)

is_numeral : (ds : List ℕ) → IsNumeral 10 ds × (digits_value 10 ds < 2 ^ 64) → is_number ds ≡ true
is_numeral ds h =
    joined (nat_le 1 (length ds) && all_ascii_digits ds) (nat_lt (digits_value 10 ds) (2 ^ 64))
    (joined (nat_le 1 (length ds)) (all_ascii_digits ds) (le-leb 1 (length ds) h.0.0) (own.from ds h.0.1)) (lt-ltb (digits_value 10 ds) (2 ^ 64) h.1)

pub number_is : {E : Type 0} (word : List ℕ) (r : Result ℕ E) → ParsesUnsigned 64 10 word r → result_ok r ≡ number_of word
number_is word (Ok x) h =
    let ds = without_leading_plus word in
    ap Some h.1 ∙ sym (ap (λ b. if b then Some (digits_value 10 ds) else None) (is_numeral ds h.0))
number_is word (Err e) h =
    let ds = without_leading_plus word in
    ⊎_elim (λ t. absurd (h (numeral ds t))) (λ f. sym (ap (λ b. if b then Some (digits_value 10 ds) else None) f)) (cases_Bool (is_number ds))
