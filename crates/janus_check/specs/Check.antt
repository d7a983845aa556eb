-- Which cells are well formed over the names in sight and the heads of procedures, by the faults that a cell has.
use Rattle.std.specs.Prelude.{ℕ, Bool, true, false, not, ◌==◌, ◌&&◌, ◌||◌, nat_le, nat_lt, is_some, List, [], ◌∷◌, ◌++◌, length, map, take, Option, Some}
use Rattle.std.specs.Prelude.{None, if◌then◌else◌}
use Rattle.janus_meaning.specs.Limit.{name_limit, live_stack_limit, procedure_limit, parameter_limit, array_limit}
use Rattle.janus_meaning.specs.Syntax as tree
use Rattle.janus_meaning.specs.Store.{same_name}
use Rattle.janus_meaning.specs.Shape.{Shape, kind_at, stack_count, Heads, head_at, different, kinds_in}
use Rattle.janus_syntax.specs.declared.token.Span.{Span}
use Rattle.janus_syntax.specs.Tree.{Name, named, Exp, Num, Var, Element, EmptyOf, TopOf, Neg, Bin, And, Or, Stm, Skip, Assign, AssignElement, Push, Pop, Swap}
use Rattle.janus_syntax.specs.Tree.{If, Loop, LocalInt, LocalStack, Call, Uncall, Block, Empty, More, Declaration, Int, Array, StackOf, Parameter, IntParameter}
use Rattle.janus_syntax.specs.Tree.{ArrayParameter, StackParameter, Procedure, procedure_of, Cell, cell_of}
use Rattle.janus_syntax.specs.View.{text_of, plain_parameter}
use Rattle.janus_check.specs.Names.{is_in, shape_in, heads_in, Known}
use Rattle.janus_check.specs.declared.fault.CheckFault.{CheckFault}
use Rattle.janus_check.specs.declared.fault.CheckFault.TheVariants.{Declared, Unknown, WrongKind, SelfUse, SameArgument, Arity, Shadow, ChangedParameters}
use Rattle.janus_check.specs.declared.fault.CheckFault.TheVariants.{TooMany, ArrayLength}

-- a fault, where there is one
abbrev pub fault_if : Bool → CheckFault → List CheckFault
fault_if true f = f ∷ []
fault_if false f = []

-- ---- declarations

-- no more names may be declared
abbrev pub is_full : Shape → Bool
is_full g = nat_le name_limit (length g)

-- The names in sight with one more. One that is there already stays as it is. One past the limit of names is left out: its own
-- fault stands in the text before all of its uses.
abbrev pub extended : Shape → tree.Name → tree.Kind → Shape
extended g x k = if is_in x g || is_full g then g else (x, k) ∷ g

-- the faults of the declaration of a name at a place
abbrev pub name_faults : Shape → tree.Name → Span → List CheckFault
name_faults g x at = fault_if (is_in x g) (Declared at) ++ fault_if (is_full g) (TooMany at)

-- no more stacks may be declared
abbrev pub has_all_stacks : Shape → Bool
has_all_stacks g = nat_le live_stack_limit (stack_count g)

-- an array may have this length
abbrev pub is_array_length : ℕ → Bool
is_array_length n = nat_lt 0 n && nat_le n array_limit

abbrev pub declaration_faults : Shape → Declaration → List CheckFault
declaration_faults g (Int (named x at)) = name_faults g x at
declaration_faults g (Array (named x at) n place) = name_faults g x at ++ fault_if (not (is_array_length n)) (ArrayLength place)
declaration_faults g (StackOf (named x at)) = name_faults g x at ++ fault_if (has_all_stacks g) (TooMany at)

abbrev pub after_declaration : Shape → Declaration → Shape
after_declaration g (Int x) = extended g (text_of x) tree.ANumber
after_declaration g (Array x n place) = extended g (text_of x) tree.AnArray
after_declaration g (StackOf x) = extended g (text_of x) tree.AStack

abbrev pub declarations_faults : Shape → List Declaration → List CheckFault
declarations_faults g [] = []
declarations_faults g (d ∷ ds) = declaration_faults g d ++ declarations_faults (after_declaration g d) ds

abbrev pub after_declarations : Shape → List Declaration → Shape
after_declarations g [] = g
after_declarations g (d ∷ ds) = after_declarations (after_declaration g d) ds

-- ---- heads of procedures

-- the kinds of a procedure's parameters
abbrev pub kinds_of : List Parameter → List tree.Kind
kinds_of xs = kinds_in (map plain_parameter xs)

-- The heads of the cell's own procedures with one more. One that is there already stays as it is: the first counts.
abbrev pub with_head : Heads → tree.Name → List tree.Kind → Heads
with_head own f cs = if is_some (head_at f own) then own else (f, cs) ∷ own

abbrev pub after_head : Heads → Procedure → Heads
after_head own (procedure_of f xs b) = with_head own (text_of f) (kinds_of xs)

abbrev pub after_heads : Heads → List Procedure → Heads
after_heads own [] = own
after_heads own (p ∷ ps) = after_heads (after_head own p) ps

-- the heads that a cell's calls see: those of all its procedures, over the old ones
abbrev pub heads_with : Heads → List Procedure → Heads
heads_with hs ps = after_heads [] ps ++ hs

abbrev pub same_kind : tree.Kind → tree.Kind → Bool
same_kind tree.ANumber tree.ANumber = true
same_kind tree.AnArray tree.AnArray = true
same_kind tree.AStack tree.AStack = true
same_kind _ _ = false

abbrev pub same_kinds : List tree.Kind → List tree.Kind → Bool
same_kinds [] [] = true
same_kinds (c ∷ cs) (d ∷ ds) = same_kind c d && same_kinds cs ds
same_kinds _ _ = false

-- a procedure is defined already, with parameters of other kinds
abbrev pub is_changed : List tree.Kind → Option (List tree.Kind) → Bool
is_changed cs None = false
is_changed cs (Some found) = not (same_kinds found cs)

-- there are more procedures than may be defined
abbrev pub are_too_many : Heads → Bool
are_too_many hs = nat_lt procedure_limit (different hs)

-- the faults of the name of a procedure, where the cell's own heads before it are `own`
abbrev pub head_faults : Heads → Heads → Procedure → List CheckFault
head_faults hs own (procedure_of (named f at) xs b) =
    fault_if (is_some (head_at f own)) (Declared at) ++ fault_if (is_changed (kinds_of xs) (head_at f hs)) (ChangedParameters at)
    ++ fault_if (are_too_many (with_head own f (kinds_of xs) ++ hs)) (TooMany at)

abbrev pub heads_faults : Heads → Heads → List Procedure → List CheckFault
heads_faults hs own [] = []
heads_faults hs own (p ∷ ps) = head_faults hs own p ++ heads_faults hs (after_head own p) ps

-- ---- parameters

abbrev pub parameter_name : Parameter → Name
parameter_name (IntParameter x) = x
parameter_name (ArrayParameter x) = x
parameter_name (StackParameter x) = x

-- The names in sight of a body: the parameters alone, of which the first of a name counts. One past their limit is left out:
-- its own fault stands in the text before all of its uses.
abbrev pub body_sight : List Parameter → Shape
body_sight xs = map plain_parameter (take parameter_limit xs)

-- no more parameters may be there
abbrev pub has_all_parameters : List Parameter → Bool
has_all_parameters xs = nat_le parameter_limit (length xs)

-- the faults of the name of a parameter behind others
abbrev pub parameter_faults : List Parameter → Name → List CheckFault
parameter_faults before (named x at) = fault_if (is_in x (body_sight before)) (Declared at) ++ fault_if (has_all_parameters before) (TooMany at)

abbrev pub parameters_faults : List Parameter → List Parameter → List CheckFault
parameters_faults before [] = []
parameters_faults before (p ∷ ps) = parameter_faults before (parameter_name p) ++ parameters_faults (before ++ p ∷ []) ps

-- ---- expressions and statements

-- a name in sight has another kind than its use wants
abbrev pub is_other : tree.Kind → Option tree.Kind → Bool
is_other k None = false
is_other k (Some found) = not (same_kind found k)

-- the faults of a name that is used as one of this kind
abbrev pub use_faults : Shape → tree.Kind → Name → List CheckFault
use_faults g k (named y at) = fault_if (not (is_in y g)) (Unknown at) ++ fault_if (is_other k (kind_at y g)) (WrongKind at)

-- the faults of the names in an expression, each used as one of a kind
abbrev pub faults_of : (tree.Kind → Name → List CheckFault) → Exp → List CheckFault
faults_of u (Num n at) = []
faults_of u (Var y) = u tree.ANumber y
faults_of u (Element a i) = u tree.AnArray a ++ faults_of u i
faults_of u (EmptyOf y) = u tree.AStack y
faults_of u (TopOf y) = u tree.AStack y
faults_of u (Neg e) = faults_of u e
faults_of u (Bin op l r) = faults_of u l ++ faults_of u r
faults_of u (And l r) = faults_of u l ++ faults_of u r
faults_of u (Or l r) = faults_of u l ++ faults_of u r

-- the faults of an expression
abbrev pub exp_faults : Shape → Exp → List CheckFault
exp_faults g e = faults_of (use_faults g) e

-- a use of the assigned name x in its own index or right side
abbrev pub self_fault : tree.Name → Name → List CheckFault
self_fault x (named y at) = fault_if (same_name y x) (SelfUse at)

-- the faults of a use where x is assigned
abbrev pub side_use_faults : Shape → tree.Name → tree.Kind → Name → List CheckFault
side_use_faults g x k y = use_faults g k y ++ self_fault x y

-- the faults of an index or a right side where x is assigned
abbrev pub side_faults : Shape → tree.Name → Exp → List CheckFault
side_faults g x e = faults_of (side_use_faults g x) e

-- The faults of a use in one of the two expressions of a local named x. The local itself is out of sight there, and so
-- is told as such alone.
abbrev pub end_use_faults : Shape → tree.Name → tree.Kind → Name → List CheckFault
end_use_faults g x k (named y at) = if same_name y x then SelfUse at ∷ [] else use_faults g k (named y at)

-- the faults of one of the two expressions of a local named x
abbrev pub end_faults : Shape → tree.Name → Exp → List CheckFault
end_faults g x e = faults_of (end_use_faults g x) e

-- the faults of a local's name
abbrev pub shadow_faults : Shape → Name → List CheckFault
shadow_faults g (named x at) = fault_if (is_in x g) (Shadow at)

-- ---- calls

-- a name stands among others
abbrev pub is_among : tree.Name → List Name → Bool
is_among y [] = false
is_among y (x ∷ xs) = same_name y (text_of x) || is_among y xs

-- the faults of an argument that stands before already
abbrev pub same_faults : List Name → Name → List CheckFault
same_faults before (named y at) = fault_if (is_among y before) (SameArgument at)

-- the faults of arguments that are given twice, behind others
abbrev pub twice_faults : List Name → List Name → List CheckFault
twice_faults before [] = []
twice_faults before (y ∷ ys) = same_faults before y ++ twice_faults (before ++ y ∷ []) ys

-- the faults of a name that is used as one of any kind
abbrev pub sight_faults : Shape → Name → List CheckFault
sight_faults g (named y at) = fault_if (not (is_in y g)) (Unknown at)

-- the faults of arguments whose kinds aren't compared
abbrev pub loose_faults : Shape → List Name → List CheckFault
loose_faults g [] = []
loose_faults g (y ∷ ys) = sight_faults g y ++ loose_faults g ys

-- the faults of arguments for parameters of these kinds
abbrev pub kinds_faults : Shape → List tree.Kind → List Name → List CheckFault
kinds_faults g (c ∷ cs) (y ∷ ys) = use_faults g c y ++ kinds_faults g cs ys
kinds_faults g _ _ = []

-- the faults of the arguments of a procedure that is called at this place, where there are as many as it has parameters or not
abbrev pub counted_faults : Bool → Shape → List tree.Kind → Span → List Name → List CheckFault
counted_faults true g cs at ys = kinds_faults g cs ys
counted_faults false g cs at ys = Arity at ∷ loose_faults g ys

-- the faults of a call of what was found under the name, at its place, with these arguments
abbrev pub found_faults : Shape → Option (List tree.Kind) → Span → List Name → List CheckFault
found_faults g None at ys = Unknown at ∷ loose_faults g ys
found_faults g (Some cs) at ys = counted_faults (length cs == length ys) g cs at ys

abbrev pub call_faults : Heads → Shape → Name → List Name → List CheckFault
call_faults hs g (named f at) ys = twice_faults [] ys ++ found_faults g (head_at f hs) at ys

-- ---- statements

-- In a local's statements its name is in sight, newest of all; what stands behind `delocal` adds nothing.
abbrev mutual
  pub stm_faults : Heads → Shape → Stm → List CheckFault
  stm_faults hs g Skip = []
  stm_faults hs g (Assign x u e) = use_faults g tree.ANumber x ++ side_faults g (text_of x) e
  stm_faults hs g (AssignElement a i u e) = use_faults g tree.AnArray a ++ side_faults g (text_of a) i ++ side_faults g (text_of a) e
  stm_faults hs g (Push x y) = use_faults g tree.ANumber x ++ use_faults g tree.AStack y
  stm_faults hs g (Pop x y) = use_faults g tree.ANumber x ++ use_faults g tree.AStack y
  stm_faults hs g (Swap x y) = use_faults g tree.ANumber x ++ use_faults g tree.ANumber y
  stm_faults hs g (If a s t b) = exp_faults g a ++ block_faults hs g s ++ block_faults hs g t ++ exp_faults g b
  stm_faults hs g (Loop a s t b) = exp_faults g a ++ block_faults hs g s ++ block_faults hs g t ++ exp_faults g b
  stm_faults hs g (LocalInt x a s y b) = shadow_faults g x ++ end_faults g (text_of x) a ++ block_faults hs ((text_of x, tree.ANumber) ∷ g) s
      ++ end_faults g (text_of x) b
  stm_faults hs g (LocalStack x s y) = shadow_faults g x ++ block_faults hs ((text_of x, tree.AStack) ∷ g) s
  stm_faults hs g (Call f ys) = call_faults hs g f ys
  stm_faults hs g (Uncall f ys) = call_faults hs g f ys

  pub block_faults : Heads → Shape → Block → List CheckFault
  block_faults hs g Empty = []
  block_faults hs g (More s b) = stm_faults hs g s ++ block_faults hs g b

-- ---- cells

-- the faults of a procedure behind its name
abbrev pub body_faults : Heads → Procedure → List CheckFault
body_faults hs (procedure_of f xs b) = parameters_faults [] xs ++ block_faults hs (body_sight xs) b

abbrev pub bodies_faults : Heads → List Procedure → List CheckFault
bodies_faults hs [] = []
bodies_faults hs (p ∷ ps) = body_faults hs p ++ bodies_faults hs ps

-- all faults of a cell over the names in sight and the heads of procedures
abbrev pub cell_faults : Shape → Heads → Cell → List CheckFault
cell_faults g hs (cell_of ds b ps) =
    declarations_faults g ds ++ heads_faults hs [] ps ++ block_faults (heads_with hs ps) (after_declarations g ds) b ++ bodies_faults (heads_with hs ps) ps

-- all faults of a cell over what is known
abbrev pub faults_over : Known → Cell → List CheckFault
faults_over k c = cell_faults (shape_in k.names) (heads_in k.procedures) c
