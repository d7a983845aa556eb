-- What the parser's loops have read so far: their invariants say it.
use Rattle.std.specs.Prelude.{◌≡◌, ◌+◌, List, suc, ◌≤◌, ◌++◌, ℕ, Bool, ◌<◌, length}
use Rattle.janus_syntax.specs.Tokens.{Token}
use Rattle.janus_syntax.specs.Tree.{Block, Cell, Declaration, Exp, Name as Named, Parameter}
use Rattle.janus_syntax.specs.Forms.{Chain, Declarations, Form, More_names, More_parameters, Names, Parameters, Part, Procedures, Statements, part}
use Rattle.janus_syntax.specs.Table.{chains}
use Rattle.janus_syntax.specs.Grammar.{Count, all, depth_limit, operator_limit}
use Rattle.janus_syntax.specs.Reader.{Outcome, Stack, at, run}
use Rattle.janus_syntax.specs.Reading.{Stands, begin, count}
use Rattle.janus_syntax.specs.Statements.{followed_by}
use Rattle.janus_syntax.specs.Procedures.{AtProcedures}

-- ---- operators

-- Behind e, operators of the level behind `level` may stand: the expression so far, with `to_come` levels more.
pub record IsSoFar (level weakest depth used : ℕ) (e : Exp) (total : ℕ) (from rest : List Token) : Type 0 where
  pub to_come : ℕ
  pub levels : level + to_come ≡ weakest
  pub goes : (goal p : Part) (k : Exp → Form p) (S : Stack goal p) →
      begin from (λ x. chains 0 weakest x k) S (count depth used) ≡ run all rest (at (chains level to_come e k) S (count depth total))
  pub within : total ≤ operator_limit
  pub shorter : length rest < length from

-- the machine stands at the chain of a level; behind it, it goes on as k has it
pub record AtChain (level to_come : ℕ) (e : Exp) (c : Count) (goal : Part) (out : Outcome goal) (rest : List Token) (p : Part) (k : Exp → Form p)
    (S : Stack goal p) : Type 0 where
  pub other : Part
  pub form : Exp → Form other
  pub stack : Stack goal other
  pub stands : out ≡ run all rest (at (part (Chain (suc level) e) form) stack c)
  pub onward : (f : Exp) (ts : List Token) (m : Count) → run all ts (at (form f) stack m) ≡ run all ts (at (chains (suc level) to_come f k) S m)

-- in the midst of the operators of the level behind `level`
pub record IsChain (level weakest depth used : ℕ) (e : Exp) (total : ℕ) (from rest : List Token) : Type 0 where
  pub to_come : ℕ
  pub levels : level + suc to_come ≡ weakest
  pub goes : (goal p : Part) (k : Exp → Form p) (S : Stack goal p) →
      AtChain level to_come e (count depth total) goal (begin from (λ x. chains 0 weakest x k) S (count depth used)) rest p k S
  pub within : total ≤ operator_limit
  pub shorter : length rest < length from

-- ---- names

-- In the midst of names: the machine stands at more of them.
pub record AtNames (depth : ℕ) (xs : List Named) (goal : Part) (out : Outcome goal) (rest : List Token) (p : Part) (k : List Named → Form p)
    (S : Stack goal p) : Type 0 where
  pub other : Part
  pub form : List Named → Form other
  pub stack : Stack goal other
  pub stands : Stands depth out rest (part More_names form) stack
  pub onward : (ys : List Named) (ts : List Token) (u : ℕ) → run all ts (at (form ys) stack (count depth u)) ≡ run all ts (at (k (xs ++ ys)) S (count depth u))

-- names read so far
pub record AreNamed (xs : List Named) (from rest : List Token) : Type 0 where
  pub goes : (depth : ℕ) → depth ≤ depth_limit → (p : Part) (k : List Named → Form p) (goal : Part) (S : Stack goal p) (u : ℕ) → u ≤ operator_limit →
      AtNames depth xs goal (run all from (at (part Names k) S (count depth u))) rest p k S
  pub shorter : length rest ≤ length from

-- ---- statements

-- In the midst of statements: the machine stands at more of them.
pub record AtStatements (depth : ℕ) (b : Block) (goal : Part) (out : Outcome goal) (rest : List Token) (p : Part) (k : Block → Form p)
    (S : Stack goal p) : Type 0 where
  pub other : Part
  pub form : Block → Form other
  pub stack : Stack goal other
  pub stands : Stands depth out rest (part Statements form) stack
  pub onward : (a : Block) (ts : List Token) (u : ℕ) → run all ts (at (form a) stack (count depth u)) ≡ run all ts (at (k (followed_by b a)) S (count depth u))

-- statements read so far, behind others
pub record AreSoFar (depth : ℕ) (before now : Block) (from rest : List Token) : Type 0 where
  pub block : Block
  pub is : now ≡ followed_by before block
  pub goes : (p : Part) (k : Block → Form p) (goal : Part) (S : Stack goal p) (u : ℕ) → u ≤ operator_limit →
      AtStatements depth block goal (run all from (at (part Statements k) S (count depth u))) rest p k S
  pub shorter : length rest ≤ length from

-- ---- declarations

-- In the midst of declarations: the machine stands at more of them.
pub record AtDeclarations (ds : List Declaration) (goal : Part) (out : Outcome goal) (rest : List Token) (p : Part) (k : List Declaration → Form p)
    (S : Stack goal p) : Type 0 where
  pub other : Part
  pub form : List Declaration → Form other
  pub stack : Stack goal other
  pub stands : Stands 0 out rest (part Declarations form) stack
  pub onward : (es : List Declaration) (ts : List Token) (u : ℕ) → run all ts (at (form es) stack (count 0 u)) ≡ run all ts (at (k (ds ++ es)) S (count 0 u))

-- declarations read so far
pub record AreDeclared (ds : List Declaration) (from rest : List Token) : Type 0 where
  pub goes : (p : Part) (k : List Declaration → Form p) (goal : Part) (S : Stack goal p) (u : ℕ) → u ≤ operator_limit →
      AtDeclarations ds goal (run all from (at (part Declarations k) S (count 0 u))) rest p k S
  pub shorter : length rest ≤ length from

-- ---- parameters and procedures

-- In the midst of parameters: the machine stands at more of them.
pub record AtParameters (xs : List Parameter) (goal : Part) (out : Outcome goal) (rest : List Token) (p : Part) (k : List Parameter → Form p)
    (S : Stack goal p) : Type 0 where
  pub other : Part
  pub form : List Parameter → Form other
  pub stack : Stack goal other
  pub stands : Stands 0 out rest (part More_parameters form) stack
  pub onward : (ys : List Parameter) (ts : List Token) (u : ℕ) → run all ts (at (form ys) stack (count 0 u)) ≡ run all ts (at (k (xs ++ ys)) S (count 0 u))

-- parameters read so far
pub record AreParameters (xs : List Parameter) (from rest : List Token) : Type 0 where
  pub goes : (p : Part) (k : List Parameter → Form p) (goal : Part) (S : Stack goal p) (u : ℕ) → u ≤ operator_limit →
      AtParameters xs goal (run all from (at (part Parameters k) S (count 0 u))) rest p k S
  pub shorter : length rest ≤ length from

-- procedures read so far behind the cell c: with them it is d
pub record AreProcedures (main : Bool) (c : Cell) (more : Bool) (d : Cell) (from rest : List Token) : Type 0 where
  pub goes : (p : Part) (k : Cell → Form p) (goal : Part) (S : Stack goal p) (u : ℕ) → u ≤ operator_limit →
      AtProcedures more d goal (run all from (at (part (Procedures main c) k) S (count 0 u))) rest p k S
  pub shorter : length rest ≤ length from
