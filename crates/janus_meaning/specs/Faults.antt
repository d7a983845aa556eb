-- Faults read as those of the meaning, and as programs print them.
use Rattle.std.specs.Prelude.{◌≡◌, ℕ, List, Result, Ok, Err, codes}
use Rattle.janus_meaning.specs.Fault as fault
use Rattle.janus_meaning.specs.Store.{Store}
use Rattle.janus_meaning.specs.declared.fault.Fault.{Fault}
use Rattle.janus_meaning.specs.declared.fault.Fault.TheVariants.{FiAssertion, EntryAssertion, LoopAssertion, DelocalMismatch}
use Rattle.janus_meaning.specs.declared.fault.Fault.TheVariants.{PopNotZero, PopEmpty, TopEmpty, DivisionByZero, IndexRange}
use Rattle.janus_meaning.specs.declared.fault.Fault.TheVariants.{StackFull, TooDeep, TooManyStacks, StepLimit}

abbrev pub fault_of : Fault → fault.Fault
fault_of FiAssertion = fault.FiAssertion
fault_of EntryAssertion = fault.EntryAssertion
fault_of LoopAssertion = fault.LoopAssertion
fault_of DelocalMismatch = fault.DelocalMismatch
fault_of PopNotZero = fault.PopNotZero
fault_of PopEmpty = fault.PopEmpty
fault_of TopEmpty = fault.TopEmpty
fault_of DivisionByZero = fault.DivisionByZero
fault_of IndexRange = fault.IndexRange
fault_of StackFull = fault.StackFull
fault_of TooDeep = fault.TooDeep
fault_of TooManyStacks = fault.TooManyStacks
fault_of StepLimit = fault.StepLimit

abbrev pub number_of : Fault → ℕ
number_of FiAssertion = 50
number_of EntryAssertion = 51
number_of LoopAssertion = 52
number_of DelocalMismatch = 53
number_of PopNotZero = 54
number_of PopEmpty = 55
number_of TopEmpty = 56
number_of DivisionByZero = 57
number_of IndexRange = 58
number_of StackFull = 59
number_of TooDeep = 60
number_of TooManyStacks = 61
number_of StepLimit = 62

abbrev pub name_of : Fault → List ℕ
name_of FiAssertion = codes "FiAssertion"
name_of EntryAssertion = codes "EntryAssertion"
name_of LoopAssertion = codes "LoopAssertion"
name_of DelocalMismatch = codes "DelocalMismatch"
name_of PopNotZero = codes "PopNotZero"
name_of PopEmpty = codes "PopEmpty"
name_of TopEmpty = codes "TopEmpty"
name_of DivisionByZero = codes "DivisionByZero"
name_of IndexRange = codes "IndexRange"
name_of StackFull = codes "StackFull"
name_of TooDeep = codes "TooDeep"
name_of TooManyStacks = codes "TooManyStacks"
name_of StepLimit = codes "StepLimit"

-- what becomes of a store: it is the new one, or the old one at a fault
abbrev pub IsDone : fault.Res Store → Store → Store → Result (Unit {0}) Fault → Type 0
IsDone r s t (Ok u) = r ≡ fault.Fine t
IsDone r s t (Err f) = (r ≡ fault.Bad (fault_of f)) × (t ≡ s)
