-- How values are seen, and what is read.
use Rattle.std.specs.Prelude.{ℤ, Option, Some, None}
use Rattle.janus_meaning.specs.Fault.{Fault, Res, Fine, Bad}
use Rattle.janus_meaning.specs.Store.{Val, Num, Arr, Stk}
use Rattle.janus_memory.specs.Stacks.{held}
use Rattle.janus_memory.specs.declared.value.ValueView.{ValueView}
use Rattle.janus_memory.specs.declared.value.ValueView.TheVariants as views

-- what a lent value shows
abbrev pub shown : ValueView → Val
shown (views.Number n) = Num n
shown (views.Array l) = Arr l.now
shown (views.Stack s) = Stk (held s)

-- a number that was read, or why there is none
abbrev pub read_or : Fault → Option ℤ → Res ℤ
read_or f (Some n) = Fine n
read_or f None = Bad f
