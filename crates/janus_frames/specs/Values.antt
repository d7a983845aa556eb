-- What a name is declared with, and what is found.
use Rattle.std.specs.Prelude.{pos, [], Option, Some, None}
use Rattle.janus_meaning.specs.Fault.{Res, Fine, Bad, Broken}
use Rattle.janus_meaning.specs.Store.{Val, Num, Arr, Stk}
use Rattle.janus_memory.specs.Values.{shown}
use Rattle.janus_memory.specs.declared.value.ValueView.{ValueView}
use Rattle.janus_frames.specs.declared.value.Declared.{Declared}
use Rattle.janus_frames.specs.declared.value.Declared.TheVariants as firsts

-- what a name is declared with
abbrev pub first_of : Declared → Val
first_of firsts.Number = Num (pos 0)
first_of (firsts.Array v) = Arr v.items
first_of firsts.Stack = Stk []

-- a value that was looked up
abbrev pub found : Option ValueView → Res Val
found (Some v) = Fine (shown v)
found None = Bad Broken
