-- Which bodies are kept, and that no more places are for them than need be.
use Rattle.std.specs.Prelude.{◌≡◌, ◌<◌, ℕ, List, length, take, slice_get, Some}
use Rattle.kernel_runner.specs.Bodies.{AreDefined}
use Rattle.kernel_runner.specs.LinkedProcedure.{name_number_of}
use Rattle.kernel_runner.specs.Procedures.{kept_in}
use Rattle.kernel_runner.specs.linked_procedure.LinkedProcedure.{LinkedProcedure}
use Rattle.kernel_runner.specs.procedures.Procedures.{Procedures}

-- what was kept is, at its index
abbrev pub KeepsOlder : Procedures → Procedures → Type 0
KeepsOlder old new = take (length (kept_in old)) (kept_in new) ≡ kept_in old

-- what is defined stays defined
abbrev pub KeepsDefined : Procedures → Procedures → Type 0
KeepsDefined old new = (bodies : List ℕ) → AreDefined old bodies → AreDefined new bodies

-- the number of each body's name is below this one
abbrev pub HaveNumbersBelow : ℕ → List LinkedProcedure → Type 0
HaveNumbersBelow n bodies = (i : ℕ) (b : LinkedProcedure) → slice_get bodies i ≡ Some b → name_number_of b < n
