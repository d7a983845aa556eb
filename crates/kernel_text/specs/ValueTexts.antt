-- How a name is written with its value.
use Rattle.std.specs.Prelude.{ℕ, ℤ, List, [], ◌∷◌, ◌++◌, length, take, codes, nat_le, if◌then◌else◌}
use Rattle.std.specs.Fmt.{signed_decimal}
use Rattle.janus_meaning.specs.Syntax.{Name}
use Rattle.janus_meaning.specs.Store.{Val, Num, Arr, Stk, Lent}
use Rattle.kernel_text.specs.Lines.{counted_text}
use Rattle.kernel_text.specs.declared.values.TheConstants.{SHOWN_VALUES}

-- the most values of one name that are written
abbrev pub shown_values : ℕ
shown_values = SHOWN_VALUES

-- an equals sign between spaces, and then a number
abbrev pub equated_text : ℤ → List ℕ
equated_text value = codes " = " ++ signed_decimal value

-- how long an array is, and an equals sign
abbrev pub length_text : ℕ → List ℕ
length_text n = counted_text (codes "[") n ++ codes "] ="

-- how high a stack is, and an equals sign
abbrev pub height_text : ℕ → List ℕ
height_text n = counted_text (codes "(") n ++ codes ") ="

-- numbers, a space before each
abbrev pub spaced_text : List ℤ → List ℕ
spaced_text [] = []
spaced_text (n ∷ more) = (codes " " ++ signed_decimal n) ++ spaced_text more

-- the first numbers, as many as are shown, and ` ...` if there are more
abbrev pub numbers_text : List ℤ → List ℕ
numbers_text l = if nat_le (length l) shown_values then spaced_text l else spaced_text (take shown_values l) ++ codes " ..."

-- what stands behind a name: its value, of a stack the top first; no world has a value that is lent
abbrev pub told_text : Val → List ℕ
told_text (Num n) = equated_text n
told_text (Arr l) = length_text (length l) ++ numbers_text l
told_text (Stk l) = height_text (length l) ++ numbers_text l
told_text Lent = []

-- the value text of a name and its value, as `x = 5`, `a[3] = 1 2 3` and `s(2) = 7 3`
abbrev pub value_text : Name × Val → List ℕ
value_text entry = entry.0 ++ told_text entry.1
