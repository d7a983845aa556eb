-- Which body runs where a procedure is called, as the text of its cell has it.
use Rattle.std.specs.Prelude.{◌≡◌, ℕ, List, map, Contains, Option, None, Some, string_bytes}
use Rattle.janus_meaning.specs.Fault.{Fine}
use Rattle.janus_meaning.specs.Syntax.{Name, Proc, names_of}
use Rattle.janus_meaning.specs.Store.{find}
use Rattle.janus_meaning.specs.World.{define}
use Rattle.janus_slots.specs.Numbers.{IsNumbered}
use Rattle.janus_syntax.specs.Tree.{Block, block_view, procedure_view, procedures_view}
use Rattle.janus_syntax.specs.View.{plain_procedure}
use Rattle.janus_syntax.specs.declared.tree.Procedure.{Procedure}
use Rattle.janus_places.specs.Table.{IsTableOf}
use Rattle.kernel_machine.specs.State.{here, node_at}
use Rattle.kernel_runner.specs.Program.{procedures_of}
use Rattle.kernel_runner.specs.declared.program.Program.{Program}
use Rattle.kernel_history.specs.Fields.{past_of}
use Rattle.kernel_history.specs.Bodies.{IsCellAt}
use Rattle.kernel_history.specs.declared.tree.EndedCell.{EndedCell}
use Rattle.kernel_history.specs.declared.tree.HistoryTree.{HistoryTree}
use Rattle.steps_walk.specs.declared.body.Body.{Body}

-- a procedure of a text as one of the meaning
abbrev pub plain : Procedure → Proc
plain p = plain_procedure (procedure_view p)

-- its block, as the text has it
abbrev pub text_body : Procedure → Block
text_body p = block_view p.body.items

-- the names of its parameters, the first one first
abbrev pub parameters_of : Procedure → List Name
parameters_of p = names_of (plain p).params

-- it is one of these, and whatever is defined before them, a call of this name runs it
pub record IsNewest (procedures : List Procedure) (name : Name) (p : Procedure) : Type 0 where
  pub one : Contains procedures p
  pub found : (rest : List Proc) → find name (define (map plain_procedure (procedures_view procedures)) rest) ≡ Fine (plain p)

-- the procedures with which the code of the open cell begins: its own over those of the position
abbrev pub procedures_over : Program → HistoryTree → List Proc
procedures_over program tree = define (procedures_of program) (here (past_of tree)).procedures

-- the text of the open cell defines it, or that of the cell of a node
abbrev pub IsDefinedIn : Program → HistoryTree → Option ℕ → Procedure → Type 0
IsDefinedIn program tree None p = Contains program.cell.procedures.items p
IsDefinedIn program tree (Some n) p = (cell : EndedCell) × IsCellAt tree n cell × Contains cell.program.cell.procedures.items p

-- a call of this name passes these over
abbrev pub ArePassed : List Procedure → Name → Type 0
ArePassed procedures name = (rest : List Proc) → find name (define (map plain_procedure (procedures_view procedures)) rest) ≡ find name rest

-- it passes over the open cell, and over the cell of each node from the position up to this one, which is left out
pub data IsPassed (program : Program) (tree : HistoryTree) (name : Name) : ℕ → Type 0 where
  Position : ArePassed program.cell.procedures.items name → IsPassed program tree name tree.position
  Above : (n : ℕ) (cell : EndedCell) → IsPassed program tree name n → IsCellAt tree n cell → ArePassed cell.program.cell.procedures.items name →
      IsPassed program tree name (node_at (past_of tree) n).parent

-- no newer cell defines the name than that of this node
abbrev pub IsNewestIn : Program → HistoryTree → Name → Option ℕ → Type 0
IsNewestIn program tree name None = Unit {0}
IsNewestIn program tree name (Some n) = IsPassed program tree name n

-- a call of this name runs it, and there it is defined, which is the newest cell that defines the name
pub record IsTextOf (program : Program) (tree : HistoryTree) (name : Name) (node : Option ℕ) (p : Procedure) : Type 0 where
  pub found : find name (procedures_over program tree) ≡ Fine (plain p)
  pub defined : IsDefinedIn program tree node p
  pub newest : IsNewestIn program tree name node

-- and the name has this number
pub record IsInEffect (entries : List Name) (program : Program) (tree : HistoryTree) (number : ℕ) (node : Option ℕ) (p : Procedure) : Type 0 where
  pub name : Name
  pub numbered : IsNumbered entries number name
  pub text : IsTextOf program tree name node p

-- what is kept of a body is that of this procedure
pub record IsBodyOf (body : Body) (p : Procedure) : Type 0 where
  pub parameters : map string_bytes body.parameters.items ≡ parameters_of p
  pub table : IsTableOf body.table (text_body p)

-- it is that of the procedure which a call of its number runs
pub record IsMet (entries : List Name) (program : Program) (tree : HistoryTree) (body : Body) : Type 0 where
  pub procedure : Procedure
  pub in_effect : IsInEffect entries program tree body.number body.node procedure
  pub is : IsBodyOf body procedure
