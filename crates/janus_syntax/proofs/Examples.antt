-- What the machine answers for some tokens, by computation.
use Rattle.std.proofs.Common.{◌≡◌, ℕ, zero, suc, List, [], ◌∷◌, ◌++◌, Some, None, refl}
use Rattle.janus_syntax.specs.declared.token.Span.{Span}
use Rattle.janus_syntax.specs.declared.token.Sign.{Sign}
use Rattle.janus_syntax.specs.declared.token.Sign.TheVariants as sign
use Rattle.janus_syntax.specs.declared.token.Keyword.{Keyword}
use Rattle.janus_syntax.specs.declared.token.Keyword.TheVariants as keyword
use Rattle.janus_syntax.specs.declared.tree.Operator.TheVariants as operator
use Rattle.janus_syntax.specs.declared.tree.Update.TheVariants as update
use Rattle.janus_syntax.specs.declared.fault.What.TheVariants as what
use Rattle.janus_syntax.specs.Tokens.{Token, Name, Number, Sign_of, Keyword_of}
use Rattle.janus_syntax.specs.Tree.{Name as Named, named, Num, Var, EmptyOf, TopOf, Neg, Bin, Skip, Assign, Push, Pop, Swap, If, LocalInt, LocalStack, Call}
use Rattle.janus_syntax.specs.Tree.{Empty, More, Int, StackOf, ArrayParameter, StackParameter, procedure_of, cell_of}
use Rattle.janus_syntax.specs.Forms.{A_cell}
use Rattle.janus_syntax.specs.Grammar.{all}
use Rattle.janus_syntax.specs.Reader.{Outcome, Ended, Failed, Nested, Unlike, run, start}

abbrev at : Span
at = record { start = 0; end = 0 }

abbrev x : Token
x = Name (120 ∷ []) at

abbrev y : Token
y = Name (121 ∷ []) at

abbrev X : Named
X = named (120 ∷ []) at

abbrev Y : Named
Y = named (121 ∷ []) at

abbrev n : ℕ → Token
n k = Number k at

abbrev w : Keyword → Token
w v = Keyword_of v at

abbrev s : Sign → Token
s r = Sign_of r at

abbrev answer : List Token → Outcome A_cell
answer ts = run all ts (start A_cell)

abbrev times : ℕ → List Token → List Token
times zero ts = []
times (suc k) ts = ts ++ times k ts

-- `if x` wants `then`, `if x then skip` wants `fi`, `from x` wants `until`
if_x : answer (w keyword.If ∷ x ∷ []) ≡ Ended None (what.Keyword keyword.Then)
if_x = refl

if_x_skip : answer (w keyword.If ∷ x ∷ w keyword.Then ∷ w keyword.Skip ∷ []) ≡ Ended None (what.Keyword keyword.Fi)
if_x_skip = refl

from_x : answer (w keyword.From ∷ x ∷ s sign.Plus ∷ n 1 ∷ []) ≡ Ended None (what.Keyword keyword.Until)
from_x = refl

-- `x` wants an operator, `x[1` wants `]`, `x[1]` an operator, `x += (1` wants `)`, `x += 1` the end
x_wants : answer (x ∷ []) ≡ Ended None what.Operator
x_wants = refl

x_index_wants : answer (x ∷ s sign.OpenIndex ∷ n 1 ∷ []) ≡ Ended None (what.Sign sign.CloseIndex)
x_index_wants = refl

x_element_wants : answer (x ∷ s sign.OpenIndex ∷ n 1 ∷ s sign.CloseIndex ∷ []) ≡ Ended None what.Operator
x_element_wants = refl

group_wants : answer (x ∷ s sign.PlusEquals ∷ s sign.Open ∷ n 1 ∷ []) ≡ Ended None (what.Sign sign.Close)
group_wants = refl

-- x <=> y x <=> x
swaps : answer (x ∷ s sign.Swap ∷ y ∷ x ∷ s sign.Swap ∷ x ∷ []) ≡ Ended (Some (cell_of [] (More (Swap X Y) (More (Swap X X) Empty)) [])) what.End
swaps = refl

-- `x <=>` wants a name, and an element is none; so it is no partner of an element
swap_wants : answer (x ∷ s sign.Swap ∷ []) ≡ Ended None what.Name
swap_wants = refl

swap_wants_name : answer (x ∷ s sign.Swap ∷ n 1 ∷ []) ≡ Failed what.Name 1
swap_wants_name = refl

no_swap_with_element : answer (x ∷ s sign.Swap ∷ y ∷ s sign.OpenIndex ∷ []) ≡ Failed what.End 1
no_swap_with_element = refl

no_swap_of_element : answer (x ∷ s sign.OpenIndex ∷ n 1 ∷ s sign.CloseIndex ∷ s sign.Swap ∷ y ∷ []) ≡ Failed what.Operator 2
no_swap_of_element = refl

-- `x <= > y` is no swap; `<=>` is no operator
apart : answer (x ∷ s sign.AtMost ∷ s sign.Greater ∷ y ∷ []) ≡ Failed what.Operator 3
apart = refl

no_swap_in_expression : answer (x ∷ s sign.PlusEquals ∷ y ∷ s sign.Swap ∷ x ∷ []) ≡ Failed what.End 2
no_swap_in_expression = refl

-- `int a[3] 1` wants the end at the number
declared_wants : answer (w keyword.Int ∷ x ∷ s sign.OpenIndex ∷ n 3 ∷ s sign.CloseIndex ∷ n 1 ∷ []) ≡ Failed what.End 1
declared_wants = refl

-- `push` wants `(`, a name, `,`, a name, `)`; so `top`, with one name; `stack` wants a name, and `stack y` the end
push_wants : answer (w keyword.Push ∷ []) ≡ Ended None (what.Sign sign.Open)
push_wants = refl

push_wants_name : answer (w keyword.Push ∷ s sign.Open ∷ n 1 ∷ []) ≡ Failed what.Name 1
push_wants_name = refl

push_wants_comma : answer (w keyword.Push ∷ s sign.Open ∷ x ∷ s sign.Close ∷ []) ≡ Failed (what.Sign sign.Comma) 1
push_wants_comma = refl

push_wants_stack : answer (w keyword.Push ∷ s sign.Open ∷ x ∷ s sign.Comma ∷ []) ≡ Ended None what.Name
push_wants_stack = refl

pop_wants_close : answer (w keyword.Pop ∷ s sign.Open ∷ x ∷ s sign.Comma ∷ y ∷ []) ≡ Ended None (what.Sign sign.Close)
pop_wants_close = refl

top_wants_close : answer (x ∷ s sign.PlusEquals ∷ w keyword.Top ∷ s sign.Open ∷ y ∷ s sign.Plus ∷ []) ≡ Failed (what.Sign sign.Close) 1
top_wants_close = refl

stack_wants : answer (w keyword.Stack ∷ w keyword.Int ∷ []) ≡ Failed what.Name 1
stack_wants = refl

stack_wants_end : answer (w keyword.Stack ∷ y ∷ s sign.OpenIndex ∷ []) ≡ Failed what.End 1
stack_wants_end = refl

-- stack y int x push(x, y) x += top(y) - empty(y) pop(x, y)
stacks : answer
    (w keyword.Stack ∷ y ∷ w keyword.Int ∷ x ∷ w keyword.Push ∷ s sign.Open ∷ x ∷ s sign.Comma ∷ y ∷ s sign.Close ∷ x ∷ s sign.PlusEquals ∷ w keyword.Top ∷ s
    sign.Open ∷ y ∷ s sign.Close ∷ s sign.Minus ∷ w keyword.Empty ∷ s sign.Open ∷ y ∷ s sign.Close ∷ w keyword.Pop ∷ s sign.Open ∷ x ∷ s sign.Comma ∷ y ∷ s
    sign.Close ∷ []) ≡
    Ended (Some (cell_of (StackOf Y ∷ Int X ∷ [])
    (More (Push X Y) (More (Assign X update.Add (Bin operator.Subtract (TopOf Y) (EmptyOf Y))) (More (Pop X Y) Empty))) [])) what.End
stacks = refl

-- x += 1 - 2 * -x - 3
left_to_right : answer (x ∷ s sign.PlusEquals ∷ n 1 ∷ s sign.Minus ∷ n 2 ∷ s sign.Times ∷ s sign.Minus ∷ x ∷ s sign.Minus ∷ n 3 ∷ []) ≡
    Ended (Some (cell_of []
    (More (Assign X update.Add (Bin operator.Subtract (Bin operator.Subtract (Num 1 at) (Bin operator.Multiply (Num 2 at) (Neg (Var X)))) (Num 3 at)))
    Empty) [])) what.End
left_to_right = refl

-- if x then x += (1) fi x
left_out_else : answer (w keyword.If ∷ x ∷ w keyword.Then ∷ x ∷ s sign.PlusEquals ∷ s sign.Open ∷ n 1 ∷ s sign.Close ∷ w keyword.Fi ∷ x ∷ []) ≡
    Ended (Some (cell_of [] (More (If (Var X) (More (Assign X update.Add (Num 1 at)) Empty) (More Skip Empty) (Var X)) Empty) [])) what.End
left_out_else = refl

-- 64 nested `(` are read, the 65th is refused; so the 65th prefix minus, and the 257th operator
deep : answer (x ∷ s sign.PlusEquals ∷ times 64 (s sign.Open ∷ []) ++ n 1 ∷ times 64 (s sign.Close ∷ [])) ≡ Ended
    (Some (cell_of [] (More (Assign X update.Add (Num 1 at)) Empty) [])) what.End
deep = refl

-- the `(` of a stack's name does not count
deep_top : answer (x ∷ s sign.PlusEquals ∷ times 64 (s sign.Open ∷ []) ++ w keyword.Top ∷ s sign.Open ∷ y ∷ s sign.Close ∷ times 64 (s sign.Close ∷ [])) ≡ Ended
    (Some (cell_of [] (More (Assign X update.Add (TopOf Y)) Empty) [])) what.End
deep_top = refl

too_deep : answer (x ∷ s sign.PlusEquals ∷ times 65 (s sign.Open ∷ []) ++ n 1 ∷ []) ≡ Nested 2
too_deep = refl

too_many_minus : answer (x ∷ s sign.PlusEquals ∷ times 65 (s sign.Minus ∷ [])) ≡ Nested 1
too_many_minus = refl

long_enough : answer (x ∷ s sign.PlusEquals ∷ n 1 ∷ times 256 (s sign.Xor ∷ n 1 ∷ []) ++ w keyword.Fi ∷ []) ≡ Failed what.End 1
long_enough = refl

too_long : answer (x ∷ s sign.PlusEquals ∷ n 1 ∷ times 257 (s sign.Xor ∷ n 1 ∷ [])) ≡ Nested 2
too_long = refl

-- constructs that have ended do not count
many_minus : answer (x ∷ s sign.PlusEquals ∷ n 1 ∷ times 100 (s sign.Times ∷ s sign.Minus ∷ x ∷ []) ++ w keyword.Fi ∷ []) ≡ Failed what.End 1
many_minus = refl

-- ---- locals

-- `local` wants a kind, `local int` a name, `local int x` `=`, `local stack x =` `nil`, `local int x = 1` a statement
local_wants : answer (w keyword.Local ∷ []) ≡ Ended None what.Kind
local_wants = refl

local_wants_kind : answer (w keyword.Local ∷ x ∷ []) ≡ Failed what.Kind 1
local_wants_kind = refl

local_wants_name : answer (w keyword.Local ∷ w keyword.Int ∷ w keyword.Int ∷ []) ≡ Failed what.Name 1
local_wants_name = refl

local_wants_equals : answer (w keyword.Local ∷ w keyword.Int ∷ x ∷ s sign.PlusEquals ∷ []) ≡ Failed (what.Sign sign.Equals) 1
local_wants_equals = refl

local_wants_nil : answer (w keyword.Local ∷ w keyword.Stack ∷ x ∷ s sign.Equals ∷ n 1 ∷ []) ≡ Failed (what.Keyword keyword.Nil) 1
local_wants_nil = refl

local_wants_statement : answer (w keyword.Local ∷ w keyword.Int ∷ x ∷ s sign.Equals ∷ n 1 ∷ w keyword.Delocal ∷ []) ≡ Failed what.Statement 1
local_wants_statement = refl

-- local int x = 1 skip delocal
abbrev local_front : List Token
local_front = w keyword.Local ∷ w keyword.Int ∷ x ∷ s sign.Equals ∷ n 1 ∷ w keyword.Skip ∷ w keyword.Delocal ∷ []

-- it wants a kind, and behind that a name; another kind and another name are refused where they stand
delocal_wants_kind : answer (local_front ++ x ∷ []) ≡ Failed what.Kind 1
delocal_wants_kind = refl

delocal_wants_name : answer (local_front ++ w keyword.Int ∷ n 1 ∷ []) ≡ Failed what.Name 1
delocal_wants_name = refl

another_kind : answer (local_front ++ w keyword.Stack ∷ n 1 ∷ []) ≡ Unlike 2
another_kind = refl

another_name : answer (local_front ++ w keyword.Int ∷ y ∷ n 1 ∷ []) ≡ Unlike 2
another_name = refl

delocal_wants_equals : answer (local_front ++ w keyword.Int ∷ x ∷ n 1 ∷ []) ≡ Failed (what.Sign sign.Equals) 1
delocal_wants_equals = refl

-- the first `=` is no relation, a second one is
local_number : answer
    (w keyword.Local ∷ w keyword.Int ∷ x ∷ s sign.Equals ∷ n 1 ∷ s sign.Equals ∷ n 2 ∷ w keyword.Skip ∷ w keyword.Delocal ∷ w keyword.Int ∷ x ∷ s
    sign.Equals ∷ n 0 ∷ []) ≡
    Ended (Some (cell_of [] (More (LocalInt X (Bin operator.Equal (Num 1 at) (Num 2 at)) (More Skip Empty) X (Num 0 at)) Empty) [])) what.End
local_number = refl

local_stack : answer
    (w keyword.Local ∷ w keyword.Stack ∷ x ∷ s sign.Equals ∷ w keyword.Nil ∷ w keyword.Skip ∷ w keyword.Delocal ∷ w keyword.Stack ∷ x ∷ s sign.Equals ∷ w
    keyword.Nil ∷ []) ≡ Ended (Some (cell_of [] (More (LocalStack X (More Skip Empty) X) Empty) [])) what.End
local_stack = refl

-- the 65th of locals in one another is refused at its `local`; of what stands in one, 63 may be open
abbrev locals : ℕ → List Token
locals k = times k (w keyword.Local ∷ w keyword.Int ∷ x ∷ s sign.Equals ∷ n 1 ∷ [])

deep_locals : answer (locals 64 ++ w keyword.Skip ∷ []) ≡ Ended None (what.Keyword keyword.Delocal)
deep_locals = refl

too_deep_locals : answer (locals 65) ≡ Nested 5
too_deep_locals = refl

too_deep_in_a_local : answer (w keyword.Local ∷ w keyword.Int ∷ x ∷ s sign.Equals ∷ times 64 (s sign.Open ∷ [])) ≡ Nested 1
too_deep_in_a_local = refl

-- ---- calls and procedures

call_two : answer (w keyword.Call ∷ x ∷ s sign.Open ∷ x ∷ s sign.Comma ∷ y ∷ s sign.Close ∷ []) ≡ Ended
    (Some (cell_of [] (More (Call X (X ∷ Y ∷ [])) Empty) [])) what.End
call_two = refl

call_open : answer (w keyword.Uncall ∷ x ∷ s sign.Open ∷ x ∷ []) ≡ Ended None (what.Sign sign.Close)
call_open = refl

-- a procedure, and `main` behind it
program :
    answer
    (w keyword.Procedure ∷ x ∷ s sign.Open ∷ w keyword.Int ∷ x ∷ s sign.OpenIndex ∷ s sign.CloseIndex ∷ s sign.Comma ∷ w keyword.Stack ∷ y ∷ s sign.Close ∷ w
    keyword.Skip ∷ w keyword.Procedure ∷ w keyword.Main ∷ s sign.Open ∷ s sign.Close ∷ w keyword.Int ∷ y ∷ w keyword.Skip ∷ []) ≡
    Ended (Some (cell_of (Int Y ∷ []) (More Skip Empty) (procedure_of X (ArrayParameter X ∷ StackParameter Y ∷ []) (More Skip Empty) ∷ []))) what.End
program = refl

-- behind a statement, and behind `main`, `main` can't stand
late_main : answer (w keyword.Skip ∷ w keyword.Procedure ∷ w keyword.Main ∷ []) ≡ Failed what.Name 1
late_main = refl

second_main : answer (w keyword.Procedure ∷ w keyword.Main ∷ s sign.Open ∷ s sign.Close ∷ w keyword.Procedure ∷ w keyword.Main ∷ []) ≡ Failed what.Name 1
second_main = refl

-- behind a comma a parameter is wanted, and behind the parentheses a statement
no_parameter : answer (w keyword.Procedure ∷ x ∷ s sign.Open ∷ w keyword.Int ∷ x ∷ s sign.Comma ∷ []) ≡ Ended None what.Kind
no_parameter = refl

no_body : answer (w keyword.Procedure ∷ x ∷ s sign.Open ∷ s sign.Close ∷ []) ≡ Ended None what.Statement
no_body = refl
