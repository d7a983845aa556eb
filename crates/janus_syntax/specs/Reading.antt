-- What the parser's functions say of what they return: where the machine stands behind a part, or how it is
-- refused in it, in each place where the part may stand. It serves the proofs.
use Rattle.std.specs.Prelude.{◌≡◌, ℕ, suc, ◌-◌, ◌<◌, ◌≤◌, List, [], ◌∷◌, length, Option, Some, None, Result, Ok, Err, cond, drop}
use Rattle.janus_syntax.specs.declared.fault.What.{What}
use Rattle.janus_syntax.specs.declared.fault.What.TheVariants as what
use Rattle.janus_syntax.specs.declared.fault.SyntaxFault.{SyntaxFault}
use Rattle.janus_syntax.specs.declared.fault.SyntaxFault.TheVariants as fault
use Rattle.janus_syntax.specs.declared.token.Span.{Span}
use Rattle.janus_syntax.specs.declared.token.Keyword.{Keyword}
use Rattle.janus_syntax.specs.declared.token.Sign.{Sign}
use Rattle.janus_syntax.specs.declared.operator.Infix.{Infix}
use Rattle.janus_syntax.specs.declared.problem.Problem.{Problem}
use Rattle.janus_syntax.specs.declared.problem.Problem.TheVariants as problem
use Rattle.janus_syntax.specs.Tokens.{Token, Sign_of, Keyword_of}
use Rattle.janus_syntax.specs.Tree.{Name as Named, Exp}
use Rattle.janus_syntax.specs.Operators.{operator_at}
use Rattle.janus_syntax.specs.Forms.{Part, Index, Tree, Class, Seen, Form, take, part, Rule}
use Rattle.janus_syntax.specs.Table.{stack_then, variable_and_stack_then, operand, chains, variable}
use Rattle.janus_syntax.specs.Grammar.{Count, all, entered, fits, operator_limit, Refusal, Expected, TooNested, DelocalName}
use Rattle.janus_syntax.specs.Text.{place_before}
use Rattle.janus_syntax.specs.Reader.{Stack, at, run, next, Outcome, Ended, Failed, Nested, outcome_of}

-- how tokens are refused, unless memory ran out
abbrev pub FailsAs : (Refusal → Type 0) → Problem → Type 0
FailsAs fails (problem.Expected w left) = fails (Expected w left)
FailsAs fails (problem.TooNested left) = fails (TooNested left)
FailsAs fails (problem.DelocalName left) = fails (DelocalName left)
FailsAs fails problem.Memory = Unit {0}

-- what was read, or how it is refused
abbrev pub Reads : {X : Type 0} → (X → Type 0) → (Refusal → Type 0) → Result X Problem → Type 0
Reads found fails (Ok x) = found x
Reads found fails (Err e) = FailsAs fails e

-- its place is one of the tokens
abbrev pub Within : Problem → ℕ → Type 0
Within (problem.Expected w left) size = left ≤ size
Within (problem.TooNested left) size = left ≤ size
Within (problem.DelocalName left) size = left ≤ size
Within problem.Memory size = Unit {0}

-- a problem as the refusal of a text with these tokens, which ends there
abbrev pub fault_of : ℕ → List Token → Problem → SyntaxFault
fault_of end tokens (problem.Expected w left) = fault.Expected w (place_before end (drop (length tokens - left) tokens))
fault_of end tokens (problem.TooNested left) = fault.TooNested (place_before end (drop (length tokens - left) tokens))
fault_of end tokens (problem.DelocalName left) = fault.DelocalName (place_before end (drop (length tokens - left) tokens))
fault_of end tokens problem.Memory = fault.Memory

-- a token of a class at the front
pub record TokenGoes (c : Class) (v : Seen c) (from rest : List Token) : Type 0 where
  pub goes : (goal p : Part) (k : Seen c → Form p) (S : Stack goal p) (m : Count) → run all from (at (take c k) S m) ≡ run all rest (at (k v) S m)
  pub shorter : length rest < length from

abbrev pub TokenFails : Class → List Token → Refusal → Type 0
TokenFails c from e = (goal p : Part) (k : Seen c → Form p) (S : Stack goal p) (m : Count) → run all from (at (take c k) S m) ≡ outcome_of e

-- a stack's name in parentheses at the front
pub record IsStack (s : Named) (from rest : List Token) : Type 0 where
  pub goes : (goal p : Part) (k : Named → Form p) (S : Stack goal p) (m : Count) → run all from (at (stack_then k) S m) ≡ run all rest (at (k s) S m)
  pub shorter : length rest < length from

abbrev pub FailsStack : List Token → Refusal → Type 0
FailsStack from e = (goal p : Part) (k : Named → Form p) (S : Stack goal p) (m : Count) → run all from (at (stack_then k) S m) ≡ outcome_of e

-- the names of a variable and a stack in parentheses at the front
pub record IsVariableAndStack (x s : Named) (from rest : List Token) : Type 0 where
  pub goes : (goal p : Part) (k : Named → Named → Form p) (S : Stack goal p) (m : Count) →
      run all from (at (variable_and_stack_then k) S m) ≡ run all rest (at (k x s) S m)
  pub shorter : length rest < length from

abbrev pub FailsVariableAndStack : List Token → Refusal → Type 0
FailsVariableAndStack from e = (goal p : Part) (k : Named → Named → Form p) (S : Stack goal p) (m : Count) →
    run all from (at (variable_and_stack_then k) S m) ≡ outcome_of e

-- this keyword at the front
pub record BeginsWith (w : Keyword) (from behind : List Token) : Type 0 where
  pub at : Span
  pub is : from ≡ Keyword_of w at ∷ behind

-- this sign at the front
pub record BeginsWithSign (s : Sign) (from behind : List Token) : Type 0 where
  pub at : Span
  pub is : from ≡ Sign_of s at ∷ behind

abbrev pub count : ℕ → ℕ → Count
count d u = record { depth = d; used = u }

-- ---- forms and parts, with `depth` constructs open

-- the machine stands at a form, in front of these tokens
abbrev pub Stands : {goal p : Part} → ℕ → Outcome goal → List Token → Form p → Stack goal p → Type 0
Stands depth out rest f S = (u : ℕ) × (u ≤ operator_limit) × (out ≡ run all rest (at f S (count depth u)))

-- from one form to another
abbrev pub Moves : {p : Part} → ℕ → Form p → List Token → Form p → List Token → Type 0
Moves {p} depth f from f' rest = (goal : Part) (S : Stack goal p) (u : ℕ) → u ≤ operator_limit → Stands depth (run all from (at f S (count depth u))) rest f' S

-- refused within a form
abbrev pub Stops : {p : Part} → ℕ → Form p → List Token → Refusal → Type 0
Stops {p} depth f from e = (goal : Part) (S : Stack goal p) (u : ℕ) → u ≤ operator_limit → run all from (at f S (count depth u)) ≡ outcome_of e

-- a part at the front
pub record IsPart (q : Part) (depth : ℕ) (v : Tree q) (from rest : List Token) : Type 0 where
  pub goes : (p : Part) (k : Tree q → Form p) → Moves depth (part q k) from (k v) rest
  pub shorter : length rest ≤ length from

abbrev pub FailsPart : (q : Part) → ℕ → List Token → Refusal → Type 0
FailsPart q depth from e = (p : Part) (k : Tree q → Form p) → Stops depth (part q k) from e

-- ---- expressions

-- a part is begun
abbrev pub begun : {goal p : Part} → What → Option (Rule p) → List Token → Stack goal p → Count → Outcome goal
begun w None rest S m = Failed w (suc (length rest))
begun w (Some r) rest S m = cond (fits (entered r m)) (run all rest (at r.form S (entered r m))) (Nested (suc (length rest)))

abbrev pub begin : {goal p : Part} → List Token → (Exp → Form p) → Stack goal p → Count → Outcome goal
begin [] k S m = Ended None what.Expression
begin (t ∷ rest) k S m = begun what.Expression (operand t k) rest S m

-- an expression of this level at the front
pub record IsExp (level depth used : ℕ) (e : Exp) (total : ℕ) (from rest : List Token) : Type 0 where
  pub goes : (goal p : Part) (k : Exp → Form p) (S : Stack goal p) →
      begin from (λ x. chains 0 level x k) S (count depth used) ≡ run all rest (at (k e) S (count depth total))
  pub within : total ≤ operator_limit
  pub shorter : length rest < length from

abbrev pub FailsExp : ℕ → ℕ → ℕ → List Token → Refusal → Type 0
FailsExp level depth used from e = (goal p : Part) (k : Exp → Form p) (S : Stack goal p) →
    begin from (λ x. chains 0 level x k) S (count depth used) ≡ outcome_of e

abbrev pub seen_operator : Option Token → Option Infix
seen_operator None = None
seen_operator (Some t) = operator_at t

-- the operator of this level at the front
pub record IsOperator (level : ℕ) (op : Infix) (from rest : List Token) : Type 0 where
  pub token : Token
  pub is : from ≡ token ∷ rest
  pub operator : operator_at token ≡ Some op
  pub level_is : op.level ≡ level

-- an operator of this level at the front
pub record IsSeen (level : ℕ) (from : List Token) : Type 0 where
  pub operator : Infix
  pub is : seen_operator (next from) ≡ Some operator
  pub level_is : operator.level ≡ level

-- behind a name of an expression: its index, if there is one
pub record IsIndexed (depth used : ℕ) (x : Named) (e : Exp) (total : ℕ) (from rest : List Token) : Type 0 where
  pub goes : (goal p : Part) (k : Exp → Form p) (S : Stack goal p) →
      run all from (at (part Index (λ i. k (variable x i))) S (count depth used)) ≡ run all rest (at (k e) S (count depth total))
  pub within : total ≤ operator_limit
  pub shorter : length rest ≤ length from

abbrev pub FailsIndexed : ℕ → ℕ → Named → List Token → Refusal → Type 0
FailsIndexed depth used x from e = (goal p : Part) (k : Exp → Form p) (S : Stack goal p) →
    run all from (at (part Index (λ i. k (variable x i))) S (count depth used)) ≡ outcome_of e
