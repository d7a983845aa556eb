-- The code's own words: the walk from the end of the minutes to the last inputs.
use Rattle.std.specs.Prelude.{◌≡◌, ℕ, List, [], ◌∷◌, length}
use Rattle.std.specs.List.{flat_map}
use Rattle.kernel_text.specs.Minutes.{Entry, Posted, Ended}
use Rattle.kernel_text.specs.Runs.{Machine}
use Rattle.kernel_text.specs.LegalMinutes.{HasLegalMinutes}
use Rattle.kernel_ask.specs.History.{texts_in}

-- they are the minutes and the counter of a kernel
abbrev pub AreKept : List Entry → ℕ → Type 0
AreKept minutes counter = (m : Machine) × (m.minutes ≡ minutes) × (m.counter ≡ counter) × HasLegalMinutes m

-- the number and the counter of the last end; the given ones where there is none
abbrev pub last_end : ℕ × ℕ → List Entry → ℕ × ℕ
last_end given [] = given
last_end given (Posted lane job ∷ minutes) = last_end given minutes
last_end given (Ended number o count node ∷ minutes) = last_end (number, count) minutes

-- how many counted cells were posted
abbrev pub counted_in : List Entry → ℕ
counted_in minutes = length (flat_map texts_in minutes)
