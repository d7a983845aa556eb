-- The definitions, run on programs whose results are known: each proof is a computation.
use Rattle.std.proofs.Common.{◌≡◌, ℕ, zero, suc, List, [], ◌∷◌, refl}
use Rattle.std.specs.Prelude.{ℤ, pos, negsuc}
use Rattle.std.specs.Int.{int_wrap}
use Rattle.janus_meaning.specs.Outside.{outside, under}
use Rattle.janus_meaning.specs.Fault.{Fault, Fine, Bad, FiAssertion, EntryAssertion, LoopAssertion, DelocalMismatch, PopNotZero, PopEmpty, TopEmpty}
use Rattle.janus_meaning.specs.Fault.{DivisionByZero, IndexRange, StackFull, TooDeep, TooManyStacks, Broken}
use Rattle.janus_meaning.specs.Word.{Plus, Flip, Add', Sub', Div', Rem', And', Or', More', AtMost', AtLeast', Same', Differ', wrap, changed}
use Rattle.janus_meaning.specs.Syntax.{Name, Exp, Number, Var, Top, Negate, Binary, And, Or, Stm, Blk, Nil, Cons, Do, Skip, Set, SetAt, Push, Pop, Swap}
use Rattle.janus_meaning.specs.Syntax.{Branch, If, From, Local, LocalInt, LocalStack, Call, Forwards, Proc, ANumber, AStack, inverse_block}
use Rattle.janus_meaning.specs.Store.{Store, Bare, Slot, Num, Arr, Stk}
use Rattle.janus_meaning.specs.Limit.{frame_limit, parts}
use Rattle.janus_meaning.specs.Value.{value}
use Rattle.janus_meaning.specs.Moves.{InLocal, Over, stack_room, value_room, begin, leave}
use Rattle.janus_meaning.specs.Meaning.{Block, Exec, Stop}
use Rattle.janus_meaning.specs.Stepping.{BeforeBlock, AfterBlock, To, Halt, Place, step, steps, shown}
use Rattle.janus_meaning.specs.World.{stacks_in}
use Rattle.janus_meaning.proofs.Interface.{machine_meaning}

-- ---- how an example is stated

-- n steps lead from the block's beginning to its end
abbrev pub Ends : List Proc → Blk → Store → ℕ → Store → Type 0
Ends ps b s n r = steps (outside ps frame_limit (stacks_in s) 0) n (BeforeBlock b []) s ≡ To (AfterBlock b []) r

-- after j steps the next one meets the fault
abbrev pub Stops : List Proc → Blk → Store → ℕ → Fault → Type 0
Stops ps b s j f = (p : Place) × (r : Store) × (steps (outside ps frame_limit (stacks_in s) 0) j (BeforeBlock b []) s ≡ To p r) ×
    (step (outside ps frame_limit (stacks_in s) 0) p r ≡ Halt f)

-- after j steps the store shown is r
abbrev pub Shows : List Proc → Blk → Store → ℕ → Store → Type 0
Shows ps b s j m = (p : Place) × (r : Store) × (steps (outside ps frame_limit (stacks_in s) 0) j (BeforeBlock b []) s ≡ To p r) × (shown ps p r ≡ m)

pub ends_exec : (ps : List Proc) (b : Blk) (s r : Store) (n : ℕ) → Ends ps b s n r → Exec (outside ps frame_limit (stacks_in s) 0) (Block b) s n r
ends_exec ps b s r n e = ((machine_meaning (outside ps frame_limit (stacks_in s) 0) b s).ended n r).0 e

pub stops_stop : (ps : List Proc) (b : Blk) (s : Store) (j : ℕ) (f : Fault) → Stops ps b s j f → Stop (outside ps frame_limit (stacks_in s) 0) (Block b) s j f
stops_stop ps b s j f h = (machine_meaning (outside ps frame_limit (stacks_in s) 0) b s).stopped j f h.0 h.1 h.2 h.3

-- ---- abbreviations of the programs

abbrev pub x : Name
x = 120 ∷ []

abbrev pub y : Name
y = 121 ∷ []

abbrev pub n : Name
n = 110 ∷ []

abbrev pub f : Name
f = 102 ∷ []

abbrev pub num : ℕ → Exp
num k = Number (pos k)

abbrev pub one : Stm → Blk
one a = Cons a Nil

abbrev pub two : Stm → Stm → Blk
two a b = Cons a (Cons b Nil)

abbrev pub x_is : ℤ → Store
x_is v = Slot x (Num v) Bare

-- ---- assignments

-- x += 5
adds : Ends [] (one (Do (Set x Plus (num 5)))) (x_is (pos 0)) 3 (x_is (pos 5))
unfolding value wrap changed int_wrap
adds = refl

-- and taken back
adds_back : Ends [] (inverse_block (one (Do (Set x Plus (num 5))))) (x_is (pos 5)) 3 (x_is (pos 0))
unfolding value wrap changed int_wrap
adds_back = refl

-- x += 2147483647 x += 1 wraps round, and midway it has not
wraps : Ends [] (two (Do (Set x Plus (num 2147483647))) (Do (Set x Plus (num 1)))) (x_is (pos 0)) 5 (x_is (negsuc 2147483647))
unfolding value wrap changed int_wrap
wraps = refl

wraps_midway : Shows [] (inverse_block (two (Do (Set x Plus (num 2147483647))) (Do (Set x Plus (num 1))))) (x_is (negsuc 2147483647)) 2 (x_is (pos 2147483647))
unfolding value wrap changed int_wrap
wraps_midway = (_, _, refl, refl)

-- x ^= 6 flips bits
flips : Ends [] (one (Do (Set x Flip (num 6)))) (x_is (pos 5)) 3 (x_is (pos 3))
unfolding value wrap changed int_wrap
flips = refl

-- x += (-2147483647 - 1) / -1 is the least number again
least_divided : Ends [] (one (Do (Set x Plus (Binary Div' (Binary Sub' (Negate (num 2147483647)) (num 1)) (Negate (num 1)))))) (x_is (pos 0)) 3
    (x_is (negsuc 2147483647))
unfolding value wrap changed int_wrap
least_divided = refl

-- and its remainder is 0
least_remainder : Ends [] (one (Do (Set x Plus (Binary Rem' (Binary Sub' (Negate (num 2147483647)) (num 1)) (Negate (num 1)))))) (x_is (pos 7)) 3 (x_is (pos 7))
unfolding value wrap changed int_wrap
least_remainder = refl

-- -7 / 2 and -7 % 2 go towards zero
truncates : (value (Binary Div' (Negate (num 7)) (num 2)) Bare ≡ Fine (negsuc 2)) × (value (Binary Rem' (Negate (num 7)) (num 2)) Bare ≡ Fine (negsuc 0))
unfolding value wrap int_wrap
truncates = (refl, refl)

-- relations give 0 or 1
relates : (value (Binary More' (num 2) (num 1)) Bare ≡ Fine (pos 1)) × (value (Binary AtMost' (num 2) (num 1)) Bare ≡ Fine (pos 0)) ×
    (value (Binary AtLeast' (num 2) (num 2)) Bare ≡ Fine (pos 1)) × (value (Binary Differ' (num 2) (num 2)) Bare ≡ Fine (pos 0))
unfolding value wrap int_wrap
relates = (refl, refl, refl, refl)

-- 12 & 10 and 12 | 10
bits : (value (Binary And' (num 12) (num 10)) Bare ≡ Fine (pos 8)) × (value (Binary Or' (num 12) (num 10)) Bare ≡ Fine (pos 14))
unfolding value wrap int_wrap
bits = (refl, refl)

-- 0 && 1 / 0 and 1 || 1 / 0 leave the right side out
leaves_out : (value (And (num 0) (Binary Div' (num 1) (num 0))) Bare ≡ Fine (pos 0)) × (value (Or (num 1) (Binary Div' (num 1) (num 0))) Bare ≡ Fine (pos 1))
unfolding value wrap int_wrap
leaves_out = (refl, refl)

-- x += 1 / 0
zero_divisor : Stops [] (one (Do (Set x Plus (Binary Div' (num 1) (num 0))))) (x_is (pos 0)) 1 DivisionByZero
unfolding value wrap changed int_wrap
zero_divisor = (_, _, refl, refl)

-- of two faults in an expression the left one is met: top of an empty stack before a zero divisor
left_fault : value (Binary Add' (Top y) (Binary Div' (num 1) (num 0))) (Slot y (Stk []) Bare) ≡ Bad TopEmpty
unfolding value wrap int_wrap
left_fault = refl

-- ---- arrays

abbrev a_is : ℤ → ℤ → Store
a_is v w = Slot y (Arr (v ∷ w ∷ [])) (x_is (pos 0))

-- y[1] += 7
element_adds : Ends [] (one (Do (SetAt y (num 1) Plus (num 7)))) (a_is (pos 0) (pos 0)) 3 (a_is (pos 0) (pos 7))
unfolding value wrap changed int_wrap
element_adds = refl

-- y[2] += 1 / 0: the range comes before the right side
past_the_end : Stops [] (one (Do (SetAt y (num 2) Plus (Binary Div' (num 1) (num 0))))) (a_is (pos 0) (pos 0)) 1 IndexRange
unfolding value wrap changed int_wrap
past_the_end = (_, _, refl, refl)

before_the_start : Stops [] (one (Do (SetAt y (Negate (num 1)) Plus (num 7)))) (a_is (pos 0) (pos 0)) 1 IndexRange
unfolding value wrap changed int_wrap
before_the_start = (_, _, refl, refl)

-- ---- if

-- x += 3 if x = 3 then x += 1 else skip fi x = 3: the test after fi is false
fi_fails : Stops [] (two (Do (Set x Plus (num 3))) (Branch If (Binary Same' (Var x) (num 3)) (one (Do (Set x Plus (num 1)))) (one (Do Skip)) (Binary Same' (Var x) (num 3))))
    (x_is (pos 0)) 7 FiAssertion
unfolding value wrap changed int_wrap
fi_fails = (_, _, refl, refl)

-- with fi x = 4 it ends
fi_holds : Ends [] (two (Do (Set x Plus (num 3))) (Branch If (Binary Same' (Var x) (num 3)) (one (Do (Set x Plus (num 1)))) (one (Do Skip)) (Binary Same' (Var x) (num 4))))
    (x_is (pos 0)) 9 (x_is (pos 4))
unfolding value wrap changed int_wrap
fi_holds = refl

-- ---- loops

-- from x = 0 do skip until x = 1: the second turn's test is true again
loop_fails : Stops [] (one (Branch From (Binary Same' (Var x) (num 0)) (one (Do Skip)) (one (Do Skip)) (Binary Same' (Var x) (num 1)))) (x_is (pos 0)) 9 LoopAssertion
unfolding value wrap changed int_wrap
loop_fails = (_, _, refl, refl)

-- from x = 1 ..: the first test is false
entry_fails : Stops [] (one (Branch From (Binary Same' (Var x) (num 1)) (one (Do Skip)) (one (Do Skip)) (Binary Same' (Var x) (num 1)))) (x_is (pos 0)) 1 EntryAssertion
unfolding value wrap changed int_wrap
entry_fails = (_, _, refl, refl)

-- from x = 0 do x += 1 loop skip until x = 3, three turns
abbrev counts : Blk
counts = one (Branch From (Binary Same' (Var x) (num 0)) (one (Do (Set x Plus (num 1)))) (one (Do Skip)) (Binary Same' (Var x) (num 3)))

loop_ends : Ends [] counts (x_is (pos 0)) 23 (x_is (pos 3))
unfolding value wrap changed int_wrap
loop_ends = refl

loop_back : Ends [] (inverse_block counts) (x_is (pos 3)) 23 (x_is (pos 0))
unfolding value wrap changed int_wrap
loop_back = refl

-- from x = 0 loop x += 1 until 0 has no end: 8 steps a turn
endless : Shows [] (one (Branch From (Binary Same' (Var x) (num 0)) (one (Do Skip)) (one (Do (Set x Plus (num 1)))) (num 0))) (x_is (pos 0)) 512 (x_is (pos 64))
unfolding value wrap changed int_wrap
endless = (_, _, refl, refl)

-- ---- stacks

abbrev xs_is : ℤ → List ℤ → Store
xs_is v l = Slot y (Stk l) (x_is v)

pushes : Ends [] (one (Do (Push x y))) (xs_is (pos 4) (pos 7 ∷ [])) 3 (xs_is (pos 0) (pos 4 ∷ pos 7 ∷ []))
unfolding value wrap changed int_wrap value_room
pushes = refl

pops : Ends [] (one (Do (Pop x y))) (xs_is (pos 0) (pos 4 ∷ pos 7 ∷ [])) 3 (xs_is (pos 4) (pos 7 ∷ []))
unfolding value wrap changed int_wrap value_room
pops = refl

pop_not_zero : Stops [] (one (Do (Pop x y))) (xs_is (pos 1) []) 1 PopNotZero
unfolding value wrap changed int_wrap value_room
pop_not_zero = (_, _, refl, refl)

pop_empty : Stops [] (one (Do (Pop x y))) (xs_is (pos 0) []) 1 PopEmpty
unfolding value wrap changed int_wrap value_room
pop_empty = (_, _, refl, refl)

abbrev copies : ℕ → List ℤ
copies zero = []
copies (suc k) = pos 0 ∷ copies k

-- a stack of 4,096 values has room for more
past_a_part : Ends [] (one (Do (Push x y))) (xs_is (pos 1) (copies 4096)) 3 (xs_is (pos 0) (pos 1 ∷ copies 4096))
unfolding value wrap changed int_wrap value_room
past_a_part = refl

-- with a part for each stack it had none, and with 4,095 room for one
full_part : begin (under parts (outside [] frame_limit 1 0)) (Do (Push x y)) (xs_is (pos 1) (copies 4096)) ≡ Bad StackFull
unfolding value_room
full_part = refl

last_of_a_part : begin (under parts (outside [] frame_limit 1 0)) (Do (Push x y)) (xs_is (pos 1) (copies 4095)) ≡ Fine (Over (xs_is (pos 0) (pos 1 ∷ copies 4095)))
unfolding value_room
last_of_a_part = refl

-- where live stacks hold 262,144 values together, one of them here, the pool is full; where they hold one less, it has room for one
full_pool : begin (outside [] frame_limit 2 262143) (Do (Push x y)) (xs_is (pos 1) (pos 7 ∷ [])) ≡ Bad StackFull
unfolding value_room
full_pool = refl

last_of_the_pool : begin (outside [] frame_limit 2 262142) (Do (Push x y)) (xs_is (pos 1) (pos 7 ∷ [])) ≡ Fine (Over (xs_is (pos 0) (pos 1 ∷ pos 7 ∷ [])))
unfolding value_room
last_of_the_pool = refl

-- procedure f(int x) local stack y = nil push(x, y) pop(x, y) delocal stack y = nil
abbrev through_a_local : Proc
through_a_local = record { name = f; params = (x, ANumber) ∷ []; body = one (Local y LocalStack (two (Do (Push x y)) (Do (Pop x y)))) }

-- what the caller's stack holds is in the pool while the call runs
full_in_a_call : (p : Place) × (r : Store) ×
    (steps (outside (through_a_local ∷ []) frame_limit 2 262143) 5 (BeforeBlock (one (Call Forwards f (x ∷ []))) []) (xs_is (pos 1) (pos 7 ∷ [])) ≡ To p r) ×
    (step (outside (through_a_local ∷ []) frame_limit 2 262143) p r ≡ Halt StackFull)
unfolding value_room stack_room
full_in_a_call = (_, _, refl, refl)

room_in_a_call : steps (outside (through_a_local ∷ []) frame_limit 2 262142) 13 (BeforeBlock (one (Call Forwards f (x ∷ []))) []) (xs_is (pos 1) (pos 7 ∷ [])) ≡ To
    (AfterBlock (one (Call Forwards f (x ∷ []))) []) (xs_is (pos 1) (pos 7 ∷ []))
unfolding value_room stack_room
room_in_a_call = refl

-- procedure f(int x, stack y) push(x, y)
abbrev onto_a_parameter : Proc
onto_a_parameter = record { name = f; params = (x, ANumber) ∷ (y, AStack) ∷ []; body = one (Do (Push x y)) }

-- a stack that is lent to a call counts there, and not with its caller too
full_in_a_parameter : (p : Place) × (r : Store) ×
    (steps (outside (onto_a_parameter ∷ []) frame_limit 2 262143) 3 (BeforeBlock (one (Call Forwards f (x ∷ y ∷ []))) []) (xs_is (pos 1) (pos 7 ∷ [])) ≡ To p r) ×
    (step (outside (onto_a_parameter ∷ []) frame_limit 2 262143) p r ≡ Halt StackFull)
unfolding value_room
full_in_a_parameter = (_, _, refl, refl)

room_in_a_parameter : steps (outside (onto_a_parameter ∷ []) frame_limit 2 262142) 7 (BeforeBlock (one (Call Forwards f (x ∷ y ∷ []))) [])
    (xs_is (pos 1) (pos 7 ∷ [])) ≡ To (AfterBlock (one (Call Forwards f (x ∷ y ∷ []))) []) (xs_is (pos 0) (pos 1 ∷ pos 7 ∷ []))
unfolding value_room
room_in_a_parameter = refl

-- ---- swap

abbrev x_y : ℤ → ℤ → Store
x_y v w = Slot y (Num w) (x_is v)

swaps : Ends [] (one (Do (Swap x y))) (x_y (pos 3) (pos 4)) 3 (x_y (pos 4) (pos 3))
swaps = refl

swaps_with_itself : Ends [] (one (Do (Swap x x))) (x_is (pos 5)) 3 (x_is (pos 5))
swaps_with_itself = refl

-- x <=> y and y <=> y, with y a stack
swap_with_stack_breaks : Stops [] (one (Do (Swap x y))) (xs_is (pos 5) []) 1 Broken
swap_with_stack_breaks = (_, _, refl, refl)

swap_of_stack_breaks : Stops [] (one (Do (Swap y y))) (xs_is (pos 5) []) 1 Broken
swap_of_stack_breaks = (_, _, refl, refl)

-- ---- locals

-- local int n = 3 x += n push(n, y) delocal int n = 0
abbrev with_local : Blk
with_local = one (Local n (LocalInt (num 3) (num 0)) (two (Do (Set x Plus (Var n))) (Do (Push n y))))

local_ends : Ends [] with_local (xs_is (pos 0) []) 9 (xs_is (pos 3) (pos 3 ∷ []))
unfolding value wrap changed int_wrap value_room
local_ends = refl

local_back : Ends [] (inverse_block with_local) (xs_is (pos 3) (pos 3 ∷ [])) 9 (xs_is (pos 0) [])
unfolding value wrap changed int_wrap value_room
local_back = refl

-- local int n = 3 x += n delocal int n = 2
delocal_differs : Stops [] (one (Local n (LocalInt (num 3) (num 2)) (one (Do (Set x Plus (Var n)))))) (x_is (pos 0)) 5 DelocalMismatch
unfolding value wrap changed int_wrap
delocal_differs = (_, _, refl, refl)

-- a local stack that is not empty at its end
stack_left : Stops [] (one (Local n LocalStack (one (Do (Push x n))))) (x_is (pos 0)) 5 DelocalMismatch
unfolding value wrap changed int_wrap value_room stack_room
stack_left = (_, _, refl, refl)

-- where 64 stacks live there is no room for another, where 63 live there is
too_many_stacks : (p : Place) × (r : Store) × (steps (outside [] frame_limit 64 0) 1 (BeforeBlock (one (Local n LocalStack (one (Do Skip)))) []) Bare ≡ To p r) ×
    (step (outside [] frame_limit 64 0) p r ≡ Halt TooManyStacks)
unfolding value wrap changed int_wrap stack_room
too_many_stacks = (_, _, refl, refl)

last_stack : steps (outside [] frame_limit 63 0) 7 (BeforeBlock (one (Local n LocalStack (one (Do Skip)))) []) Bare ≡ To (AfterBlock (one (Local n LocalStack (one (Do Skip)))) [])
    Bare
unfolding value wrap changed int_wrap stack_room
last_stack = refl

-- from n = 0 do x += n push(x, y) n += 1 until n = 64: 64 values, 12 steps a turn
abbrev fills : Blk
fills = one (Branch From (Binary Same' (Var n) (num 0)) (Cons (Do (Set x Plus (Var n))) (Cons (Do (Push x y)) (Cons (Do (Set n Plus (num 1))) Nil))) (one (Do Skip))
    (Binary Same' (Var n) (num 64)))

abbrev down : ℕ → List ℤ
down zero = []
down (suc k) = pos k ∷ down k

loop_fills : Ends [] fills (Slot n (Num (pos 0)) (xs_is (pos 0) [])) 767 (Slot n (Num (pos 64)) (xs_is (pos 0) (down 64)))
unfolding value wrap changed int_wrap value_room
loop_fills = refl

-- ---- ill-formed trees, run: each breaks at the step that doesn't find what it names

-- x += n, with no name n
unknown_name_breaks : Stops [] (one (Do (Set x Plus (Var n)))) (x_is (pos 0)) 1 Broken
unfolding value wrap changed int_wrap
unknown_name_breaks = (_, _, refl, refl)

-- y += 1, with y a stack
wrong_kind_breaks : Stops [] (one (Do (Set y Plus (num 1)))) (xs_is (pos 0) []) 1 Broken
unfolding value wrap changed int_wrap
wrong_kind_breaks = (_, _, refl, refl)

-- x += x: the name is lent while its right side is read
self_use_breaks : Stops [] (one (Do (Set x Plus (Var x)))) (x_is (pos 0)) 1 Broken
unfolding value wrap changed int_wrap
self_use_breaks = (_, _, refl, refl)

-- local int n = n skip delocal int n = 5
self_use_of_local_breaks : Stops [] (one (Local n (LocalInt (Var n) (num 5)) (one (Do Skip)))) (x_is (pos 0)) 1 Broken
unfolding value wrap changed int_wrap
self_use_of_local_breaks = (_, _, refl, refl)

-- call f(x), with no procedure f
no_procedure_breaks : Stops [] (one (Call Forwards f (x ∷ []))) (x_is (pos 0)) 1 Broken
no_procedure_breaks = (_, _, refl, refl)

-- call f(x, x): the second argument is lent already
same_argument_breaks : Stops (record { name = f; params = (y, ANumber) ∷ (n, ANumber) ∷ []; body = one (Do Skip) } ∷ []) (one (Call Forwards f (x ∷ x ∷ []))) (x_is (pos 0))
    1 Broken
same_argument_breaks = (_, _, refl, refl)

-- call f(), with a parameter
too_few_arguments_breaks : Stops (record { name = f; params = (y, ANumber) ∷ []; body = one (Do Skip) } ∷ []) (one (Call Forwards f [])) (x_is (pos 0)) 1 Broken
too_few_arguments_breaks = (_, _, refl, refl)

-- ---- which premise of a step is looked at first

abbrev one_by_zero : Exp
one_by_zero = Binary Div' (num 1) (num 0)

-- if 1 / 0 then skip fi 1, where no frame may be opened, and where one may
frame_before_test : begin (outside [] 0 0 0) (Branch If one_by_zero (one (Do Skip)) (one (Do Skip)) (num 1)) Bare ≡ Bad TooDeep
frame_before_test = refl

test_behind_frame : begin (outside [] 1 0 0) (Branch If one_by_zero (one (Do Skip)) (one (Do Skip)) (num 1)) Bare ≡ Bad DivisionByZero
unfolding value wrap changed int_wrap
test_behind_frame = refl

-- local stack y = nil, where 64 stacks live
frame_before_stack : begin (outside [] 0 64 0) (Local y LocalStack (one (Do Skip))) Bare ≡ Bad TooDeep
frame_before_stack = refl

stack_behind_frame : begin (outside [] 1 64 0) (Local y LocalStack (one (Do Skip))) Bare ≡ Bad TooManyStacks
unfolding stack_room
stack_behind_frame = refl

-- delocal int n = 1 / 0, where n is 0
expression_before_mismatch : leave [] (InLocal n (LocalInt (num 0) one_by_zero)) (one (Do Skip)) (Slot n (Num (pos 0)) Bare) ≡ Bad DivisionByZero
unfolding value wrap changed int_wrap
expression_before_mismatch = refl
