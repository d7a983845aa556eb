-- The decimal digits of a number stand for it.
use Rattle.std.proofs.Common.{◌≡◌, ℕ, ◌+◌, ◌-◌, ◌*◌, ◌%◌, ◌<◌, ◌^◌, List, [], ◌∷◌, ◌++◌, true, refl, ◌∙◌, arith}
use Rattle.std.specs.Fmt as fmt
use Rattle.std.proofs.lemmas.Bool.{agree_below_at}
use Rattle.std.proofs.lemmas.Fmt.{decimal_by_steps}
use Rattle.janus_syntax.specs.Lexical.{of_number, AllPass, IsNumberText, decimal, decimal_behind}

digit_passes : (n : ℕ) → n < 10 → of_number (48 + n) ≡ true
digit_passes n h = agree_below_at (λ i. of_number (48 + i)) (λ i. true) 10 n refl h

all_behind : (p : ℕ → _) (cs : List ℕ) (c : ℕ) → AllPass p cs → p c ≡ true → AllPass p (cs ++ c ∷ [])
all_behind p [] c f h = (h, tt)
all_behind p (d ∷ cs) c (e, f) h = (e, all_behind p cs c f h)

number_behind : (cs : List ℕ) (c : ℕ) → IsNumberText cs → of_number c ≡ true → IsNumberText (cs ++ c ∷ [])
number_behind [] c f h = absurd f
number_behind (d ∷ cs) c (e, f) h = (e, all_behind of_number cs c f h)

decimal_more : (n : ℕ) (cs : List ℕ) (c : ℕ) → decimal_behind n (cs ++ c ∷ []) ≡ decimal_behind n cs * 10 + (c - 48)
decimal_more n [] c = refl
decimal_more n (d ∷ cs) c = decimal_more (n * 10 + (d - 48)) cs c

-- the digits are a number's text, and the number is that one
abbrev Stands : ℕ → List ℕ → Type 0
Stands n ds = IsNumberText ds × (decimal ds ≡ n)

pub decimal_stands : (n : ℕ) → n < 2 ^ 64 → Stands n (fmt.decimal n)
decimal_stands n h =
    decimal_by_steps Stands
    (λ m few. ((digit_passes m few, tt), omega arith))
    (λ m ds many known.
    (number_behind ds (48 + m % 10) known.0 (digit_passes (m % 10) (omega arith)), decimal_more 0 ds (48 + m % 10) ∙ (let k = known.1 in omega (arith, k))))
    n h
