-- What the parser's functions on procedures say of what they return. It serves the proofs.
use Rattle.std.specs.Prelude.{◌≡◌, ℕ, ◌<◌, ◌≤◌, List, [], ◌∷◌, length, Option, Some, None, Bool, true, false}
use Rattle.std.specs.Borrow.{Bor}
use Rattle.janus_syntax.specs.declared.fault.What.TheVariants as what
use Rattle.janus_syntax.specs.declared.token.Keyword.TheVariants as keyword
use Rattle.janus_syntax.specs.declared.text_token.TextToken as code_token
use Rattle.janus_syntax.specs.declared.tree.Parameter as code_parameter
use Rattle.janus_syntax.specs.Tokens.{Token, Keyword_of}
use Rattle.janus_syntax.specs.TextTokens.{views}
use Rattle.janus_syntax.specs.Tree.{Name as Named, Parameter, Procedure, Declaration, Block, Cell, parameter_view}
use Rattle.janus_syntax.specs.Forms.{Part, Procedures, A_procedure, Brackets, Form, part}
use Rattle.janus_syntax.specs.Table.{a_parameter, parameter, behind_name, behind_main}
use Rattle.janus_syntax.specs.Grammar.{all, operator_limit, Refusal}
use Rattle.janus_syntax.specs.Reader.{Stack, at, run, Outcome, Ended, outcome_of, next}
use Rattle.janus_syntax.specs.Reading.{begun, count, BeginsWith, Stands, Moves, Stops}

-- ---- parameters

-- whether a token begins a parameter
abbrev pub is_parameter : Option Token → Bool
is_parameter (Some (Keyword_of keyword.Int place)) = true
is_parameter (Some (Keyword_of keyword.Stack place)) = true
is_parameter _ = false

abbrev pub begin_parameter : {goal p : Part} → List Token → (Parameter → Form p) → Stack goal p → ℕ → Outcome goal
begin_parameter [] k S u = Ended None what.Kind
begin_parameter (t ∷ rest) k S u = begun what.Kind (a_parameter t k) rest S (count 0 u)

-- a parameter at the front
pub record IsParameter (x : Parameter) (from rest : List Token) : Type 0 where
  pub begins : is_parameter (next from) ≡ true
  pub goes : (goal p : Part) (k : Parameter → Form p) (S : Stack goal p) (u : ℕ) → u ≤ operator_limit → Stands 0 (begin_parameter from k S u) rest (k x) S
  pub shorter : length rest < length from

-- refused within a parameter
pub record FailsParameter (from : List Token) (e : Refusal) : Type 0 where
  pub begins : is_parameter (next from) ≡ true
  pub stops : (goal p : Part) (k : Parameter → Form p) (S : Stack goal p) (u : ℕ) → u ≤ operator_limit → begin_parameter from k S u ≡ outcome_of e

-- a parameter, or none begins here
abbrev pub IsParameterOrOther : List Token → Option (code_parameter.Parameter × Bor (List code_token.TextToken)) → Type 0
IsParameterOrOther from None = is_parameter (next from) ≡ false
IsParameterOrOther from (Some x) = IsParameter (parameter_view x.0) from (views x.1.now)

-- behind the name of an `int` parameter: brackets, if they stand here
pub record IsBracketed (x : Named) (y : Parameter) (from rest : List Token) : Type 0 where
  pub goes : (p : Part) (k : Parameter → Form p) → Moves 0 (part Brackets (λ b. k (parameter x b))) from (k y) rest
  pub shorter : length rest ≤ length from

abbrev pub FailsBracketed : Named → List Token → Refusal → Type 0
FailsBracketed x from e = (p : Part) (k : Parameter → Form p) → Stops 0 (part Brackets (λ b. k (parameter x b))) from e

-- ---- procedures

-- a procedure behind its name f
pub record IsBehindName (f : Named) (q : Procedure) (from rest : List Token) : Type 0 where
  pub goes : (p : Part) (k : Procedure → Form p) → Moves 0 (behind_name f k) from (k q) rest
  pub shorter : length rest ≤ length from

abbrev pub FailsBehindName : Named → List Token → Refusal → Type 0
FailsBehindName f from e = (p : Part) (k : Procedure → Form p) → Stops 0 (behind_name f k) from e

-- `main` behind its name
pub record IsBehindMain (ds : List Declaration) (b : Block) (from rest : List Token) : Type 0 where
  pub goes : (p : Part) (k : List Declaration → Block → Form p) → Moves 0 (behind_main k) from (k ds b) rest
  pub shorter : length rest ≤ length from

abbrev pub FailsBehindMain : List Token → Refusal → Type 0
FailsBehindMain from e = (p : Part) (k : List Declaration → Block → Form p) → Stops 0 (behind_main k) from e

-- `main` at the front, where it may stand
abbrev pub IsMain : Bool → List Token → List Token → Type 0
IsMain true from behind = BeginsWith keyword.Main from behind
IsMain false from behind = ⊥

-- The machine stands at more procedures of a cell, of which one may be `main` or not.
pub record AtProcedures (main : Bool) (c : Cell) (goal : Part) (out : Outcome goal) (rest : List Token) (p : Part) (k : Cell → Form p)
    (S : Stack goal p) : Type 0 where
  pub other : Part
  pub form : Cell → Form other
  pub stack : Stack goal other
  pub stands : Stands 0 out rest (part (Procedures main c) form) stack
  pub onward : (d : Cell) (ts : List Token) (u : ℕ) → run all ts (at (form d) stack (count 0 u)) ≡ run all ts (at (k d) S (count 0 u))

-- one procedure more, or `main`, behind `procedure`: with it the cell is d, and `main` may follow or not
pub record IsNext (main : Bool) (c : Cell) (more : Bool) (d : Cell) (from rest : List Token) : Type 0 where
  pub goes : (p : Part) (k : Cell → Form p) (goal : Part) (S : Stack goal p) (u : ℕ) → u ≤ operator_limit →
      AtProcedures more d goal (run all from (at (part (A_procedure main c) k) S (count 0 u))) rest p k S
  pub shorter : length rest ≤ length from
