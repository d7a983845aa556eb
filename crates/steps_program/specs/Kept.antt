-- The value that is kept.
use Rattle.janus_meaning.specs.Fault.{Res, Fine, Bad, Broken}
use Rattle.janus_meaning.specs.Store.{Val, Num, Arr, Stk}
use Rattle.steps_program.specs.declared.kept.Kept.{Kept}
use Rattle.steps_program.specs.declared.kept.Kept.TheVariants as kept

-- none where the name was not in sight
abbrev pub value_in : Kept → Res Val
value_in kept.Absent = Bad Broken
value_in (kept.Number n) = Fine (Num n)
value_in (kept.Array items) = Fine (Arr items.items)
value_in (kept.Stack values) = Fine (Stk values.items)
