-- The grammar's table: what each part is, by its first token, and which parts may be left out, as which tree.
-- A rule is read aloud along its line: `if`, a whole expression e, `then`, a body s, the `else` part t, `fi`, a
-- whole expression f: If e s t f.
use Rattle.std.specs.Prelude.{ℕ, zero, suc, ◌-◌, List, [], ◌∷◌, ◌++◌, Option, Some, None, Bool, true, false, cond, nat_eq}
use Rattle.janus_syntax.specs.declared.token.Span.{Span}
use Rattle.janus_syntax.specs.declared.token.Sign.{Sign}
use Rattle.janus_syntax.specs.declared.token.Sign.TheVariants as sign
use Rattle.janus_syntax.specs.declared.token.Keyword.{Keyword}
use Rattle.janus_syntax.specs.declared.token.Keyword.TheVariants as keyword
use Rattle.janus_syntax.specs.declared.operator.Infix.{Infix}
use Rattle.janus_syntax.specs.declared.tree.Update.{Update}
use Rattle.janus_syntax.specs.declared.tree.LocalKind.{LocalKind}
use Rattle.janus_syntax.specs.declared.tree.LocalKind.TheVariants as kind
use Rattle.janus_syntax.specs.declared.fault.What.{What}
use Rattle.janus_syntax.specs.declared.fault.What.TheVariants as what
use Rattle.janus_syntax.specs.Tokens.{Token, Name, Number, Sign_of, Keyword_of}
use Rattle.janus_syntax.specs.Tree.{Name as Named, named, Exp, Num, Var, Element, EmptyOf, TopOf, Neg, Stm, Skip, Assign, AssignElement, Push, Pop, Swap, If}
use Rattle.janus_syntax.specs.Tree.{Loop, LocalInt, LocalStack, Call, Uncall, Block, Empty, More, Declaration, Int, Array, StackOf, Parameter, IntParameter}
use Rattle.janus_syntax.specs.Tree.{ArrayParameter, StackParameter, Procedure, procedure_of, Cell, cell_of}
use Rattle.janus_syntax.specs.Operators.{weakest, joined, operator_at}
use Rattle.janus_syntax.specs.Forms.{Part, A_cell, Declarations, Bound, Procedures, A_procedure, Parameters, More_parameters, A_parameter, Brackets, Body}
use Rattle.janus_syntax.specs.Forms.{Statements, Else_part, Do_part, Loop_part, Local, Names, More_names, Swap_partner, Target_index, Whole, Level, Chain}
use Rattle.janus_syntax.specs.Forms.{Index, Tree}
use Rattle.janus_syntax.specs.Forms.{The_keyword, The_sign, A_name, A_number, An_update, Same_kind, Same_name, Form, done, take, part, close, Rule}

-- rules with and without marks
abbrev pub marked : {p : Part} → ℕ → ℕ → Form p → Option (Rule p)
marked o c f = Some (record { opens = o; counts = c; is_whole = false; form = f })

abbrev pub begins : {p : Part} → Form p → Option (Rule p)
begins f = marked 0 0 f

-- a construct that counts for the limit on nesting; it ends at its form's `close`
abbrev pub opens : {p : Part} → Form p → Option (Rule p)
opens f = marked 1 0 f

abbrev pub counts : {p : Part} → Form p → Option (Rule p)
counts f = marked 0 1 f

abbrev pub whole : {p : Part} → Option (Rule p) → Option (Rule p)
whole (Some r) = Some (record { opens = r.opens; counts = r.counts; is_whole = true; form = r.form })
whole None = None

-- fixed tokens in a row
abbrev pub keyword_then : {p : Part} → Keyword → Form p → Form p
keyword_then w f = take (The_keyword w) (λ v. f)

abbrev pub sign_then : {p : Part} → Sign → Form p → Form p
sign_then s f = take (The_sign s) (λ v. f)

-- names in parentheses: of a stack; of a variable and a stack
abbrev pub stack_then : {p : Part} → (Named → Form p) → Form p
stack_then k = sign_then sign.Open (take A_name (λ s. sign_then sign.Close (k s)))

abbrev pub variable_and_stack_then : {p : Part} → (Named → Named → Form p) → Form p
variable_and_stack_then k = sign_then sign.Open (take A_name (λ x. sign_then sign.Comma (take A_name (λ s. sign_then sign.Close (k x s)))))

-- behind a local's statements: `delocal`, its kind, its name, `=`
abbrev pub delocal_then : {p : Part} → LocalKind → Named → (Named → Form p) → Form p
delocal_then j x k = keyword_then keyword.Delocal (take (Same_kind j) (λ i. take (Same_name x) (λ y. sign_then sign.Equals (k y))))

-- a local behind `local int`, and behind `local stack`
abbrev pub local_int : {p : Part} → (Stm → Form p) → Form p
local_int k = take A_name
    (λ x. sign_then sign.Equals (part Whole (λ e. part Body (λ s. delocal_then kind.Int x (λ y. part Whole (λ f. k (LocalInt x e s y f)))))))

abbrev pub local_stack : {p : Part} → (Stm → Form p) → Form p
local_stack k = take A_name
    (λ x. sign_then sign.Equals (keyword_then keyword.Nil (part Body (λ s. delocal_then kind.Stack x (λ y. keyword_then keyword.Nil (k (LocalStack x s y)))))))

-- a name, and behind it names in parentheses
abbrev pub call_then : {p : Part} → (Named → List Named → Form p) → Form p
call_then k = take A_name (λ f. sign_then sign.Open (part Names (λ xs. sign_then sign.Close (k f xs))))

-- trees of optional parts

abbrev pub variable : Named → Option Exp → Exp
variable x None = Var x
variable x (Some i) = Element x i

abbrev pub assignment : Named → Option Exp → Update → Exp → Stm
assignment x None u e = Assign x u e
assignment x (Some i) u e = AssignElement x i u e

abbrev pub declared : Named → Option (ℕ × Span) → Declaration
declared x None = Int x
declared x (Some n) = Array x n.0 n.1

abbrev pub parameter : Named → Bool → Parameter
parameter x false = IntParameter x
parameter x true = ArrayParameter x

abbrev pub nothing : Cell
nothing = cell_of [] Empty []

-- a cell with one procedure more
abbrev pub with_procedure : Cell → Procedure → Cell
with_procedure (cell_of ds b ps) p = cell_of ds b (ps ++ p ∷ [])

-- the declarations and the statements of `main`, and the procedures of a cell
abbrev pub with_main : List Declaration → Block → Cell → Cell
with_main ds b (cell_of es c ps) = cell_of ds b ps

-- where a cell has neither declarations nor statements, one of its procedures may be `main`
abbrev pub is_bare : List Declaration → Block → Bool
is_bare [] Empty = true
is_bare [] (More s b) = false
is_bare (d ∷ ds) b = false

abbrev pub skip_block : Block
skip_block = More Skip Empty

-- An operand, by its first token.
abbrev pub operand : {p : Part} → Token → (Exp → Form p) → Option (Rule p)
operand (Number n at) k = begins (k (Num n at))
operand (Name x at) k = begins (part Index (λ i. k (variable (named x at) i)))
operand (Sign_of sign.Open _) k = opens (part (Level weakest) (λ e. sign_then sign.Close (close (k e))))
operand (Sign_of sign.Minus _) k = marked 1 1 (part (Level 0) (λ e. close (k (Neg e))))
operand (Keyword_of keyword.Empty _) k = begins (stack_then (λ s. k (EmptyOf s)))
operand (Keyword_of keyword.Top _) k = begins (stack_then (λ s. k (TopOf s)))
operand _ k = None

-- Behind the operand e: operators of the level behind l, then of the one behind that, and so on for as many levels as the second number says.
abbrev pub chains : {p : Part} → ℕ → ℕ → Exp → (Exp → Form p) → Form p
chains l zero e k = k e
chains l (suc n) e k = part (Chain (suc l) e) (λ f. chains (suc l) n f k)

-- Operators of one level, from left to right, each with a right side of a stronger level.
abbrev pub chain_rule : Option Infix → (n : ℕ) (e : Exp) → Option (Rule (Chain n e))
chain_rule None n e = None
chain_rule (Some op) n e = cond (nat_eq op.level n) (counts (part (Level (n - 1)) (λ r. part (Chain n (joined op.joint e r)) done))) None

-- Behind the name that a statement begins with: a swap with another name, or an assignment.
abbrev pub behind_target : {p : Part} → Named → Option Named → (Stm → Form p) → Form p
behind_target x (Some y) k = k (Swap x y)
behind_target x None k = part Target_index (λ i. take An_update (λ u. part Whole (λ e. k (assignment x i u e))))

-- A statement, by its first token.
abbrev pub statement : {p : Part} → Token → (Stm → Form p) → Option (Rule p)
statement (Name x at) k = begins (part Swap_partner (λ other. behind_target (named x at) other k))
statement (Keyword_of keyword.If _) k = opens
    (part Whole (λ e. keyword_then keyword.Then (part Body (λ s. part Else_part (λ t. keyword_then keyword.Fi (part Whole (λ f. close (k (If e s t f)))))))))
statement (Keyword_of keyword.From _) k = opens
    (part Whole (λ e. part Do_part (λ s. part Loop_part (λ t. keyword_then keyword.Until (part Whole (λ f. close (k (Loop e s t f))))))))
statement (Keyword_of keyword.Local _) k = opens (part Local (λ s. close (k s)))
statement (Keyword_of keyword.Call _) k = begins (call_then (λ f xs. k (Call f xs)))
statement (Keyword_of keyword.Uncall _) k = begins (call_then (λ f xs. k (Uncall f xs)))
statement (Keyword_of keyword.Skip _) k = begins (k Skip)
statement (Keyword_of keyword.Push _) k = begins (variable_and_stack_then (λ x s. k (Push x s)))
statement (Keyword_of keyword.Pop _) k = begins (variable_and_stack_then (λ x s. k (Pop x s)))
statement _ k = None

abbrev pub declaration : {p : Part} → Token → (Declaration → Form p) → Option (Rule p)
declaration (Keyword_of keyword.Int _) k = begins (take A_name (λ x. part Bound (λ n. k (declared x n))))
declaration (Keyword_of keyword.Stack _) k = begins (take A_name (λ s. k (StackOf s)))
declaration _ k = None

abbrev pub a_parameter : {p : Part} → Token → (Parameter → Form p) → Option (Rule p)
a_parameter (Keyword_of keyword.Int _) k = begins (take A_name (λ x. part Brackets (λ b. k (parameter x b))))
a_parameter (Keyword_of keyword.Stack _) k = begins (take A_name (λ s. k (StackParameter s)))
a_parameter _ k = None

-- a procedure behind its name
abbrev pub behind_name : {p : Part} → Named → (Procedure → Form p) → Form p
behind_name f k = sign_then sign.Open (part Parameters (λ xs. sign_then sign.Close (part Body (λ b. k (procedure_of f xs b)))))

-- `main` behind its name
abbrev pub behind_main : {p : Part} → (List Declaration → Block → Form p) → Form p
behind_main k = sign_then sign.Open (sign_then sign.Close (part Declarations (λ ds. part Statements (λ b. k ds b))))

-- What a part is behind its first token.
abbrev pub rule : (p : Part) → Token → Option (Rule p)
rule A_cell t = None
rule Declarations t = declaration t (λ d. part Declarations (λ ds. done (d ∷ ds)))
rule Bound (Sign_of sign.OpenIndex _) = begins (take A_number (λ n. sign_then sign.CloseIndex (done (Some n))))
rule Bound _ = None
rule (Procedures main c) (Keyword_of keyword.Procedure _) = begins (part (A_procedure main c) done)
rule (Procedures main c) _ = None
rule (A_procedure main c) (Name f at) = begins (behind_name (named f at) (λ p. part (Procedures main (with_procedure c p)) done))
rule (A_procedure true c) (Keyword_of keyword.Main _) = begins (behind_main (λ ds b. part (Procedures false (with_main ds b c)) done))
rule (A_procedure main c) _ = None
rule Parameters t = a_parameter t (λ x. part More_parameters (λ xs. done (x ∷ xs)))
rule More_parameters (Sign_of sign.Comma _) = begins (part A_parameter (λ x. part More_parameters (λ xs. done (x ∷ xs))))
rule More_parameters _ = None
rule A_parameter t = a_parameter t done
rule Brackets (Sign_of sign.OpenIndex _) = begins (sign_then sign.CloseIndex (done true))
rule Brackets _ = None
rule Body t = statement t (λ s. part Statements (λ b. done (More s b)))
rule Statements t = statement t (λ s. part Statements (λ b. done (More s b)))
rule Else_part (Keyword_of keyword.Else _) = begins (part Body done)
rule Else_part _ = None
rule Do_part (Keyword_of keyword.Do _) = begins (part Body done)
rule Do_part _ = None
rule Loop_part (Keyword_of keyword.Loop _) = begins (part Body done)
rule Loop_part _ = None
rule Local (Keyword_of keyword.Int _) = begins (local_int done)
rule Local (Keyword_of keyword.Stack _) = begins (local_stack done)
rule Local _ = None
rule Names (Name x at) = begins (part More_names (λ xs. done (named x at ∷ xs)))
rule Names _ = None
rule More_names (Sign_of sign.Comma _) = begins (take A_name (λ x. part More_names (λ xs. done (x ∷ xs))))
rule More_names _ = None
rule Swap_partner (Sign_of sign.Swap _) = begins (take A_name (λ y. done (Some y)))
rule Swap_partner _ = None
rule Target_index (Sign_of sign.OpenIndex _) = opens (part Whole (λ e. sign_then sign.CloseIndex (close (done (Some e)))))
rule Target_index _ = None
rule Whole t = whole (operand t (λ e. chains 0 weakest e done))
rule (Level n) t = operand t (λ e. chains 0 n e done)
rule (Chain n e) t = chain_rule (operator_at t) n e
rule Index (Sign_of sign.OpenIndex _) = opens (part (Level weakest) (λ e. sign_then sign.CloseIndex (close (done (Some e)))))
rule Index _ = None

-- What a part is where it is left out, if it may be.
abbrev pub left_out : (p : Part) → Option (Tree p)
left_out A_cell = Some nothing
left_out Declarations = Some []
left_out Bound = Some None
left_out (Procedures main c) = Some c
left_out (A_procedure main c) = None
left_out Parameters = Some []
left_out More_parameters = Some []
left_out A_parameter = None
left_out Brackets = Some false
left_out Body = None
left_out Statements = Some Empty
left_out Else_part = Some skip_block
left_out Do_part = Some skip_block
left_out Loop_part = Some skip_block
left_out Local = None
left_out Names = Some []
left_out More_names = Some []
left_out Swap_partner = Some None
left_out Target_index = Some None
left_out Whole = None
left_out (Level n) = None
left_out (Chain n e) = Some e
left_out Index = Some None

-- how a part is told that may not be left out
abbrev pub label : Part → What
label (A_procedure main c) = what.Name
label A_parameter = what.Kind
label Body = what.Statement
label Local = what.Kind
label Whole = what.Expression
label (Level n) = what.Expression
label _ = what.End
