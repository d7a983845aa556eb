-- What is printed is read again.
use Rattle.std.specs.Prelude.{◌≡◌, ℕ, List, [], ◌∷◌, Contains}
use Rattle.janus_syntax.specs.Tree.{Exp, Block, Empty, Declaration, Procedure, Cell, cell_of}
use Rattle.janus_syntax.specs.Text.{HasTree, HasExp}
use Rattle.janus_syntax.specs.Printing.{printed, printed_exp, printed_procedure}
use Rattle.janus_syntax.specs.View.{plain_exp, plain_procedure, plain_cell}

-- the text that is printed of the tree of a text has a tree, which is the same but for the places
abbrev pub CellReadsBack : Type 0
CellReadsBack = (text : List ℕ) (c : Cell) → HasTree text c → (again : Cell) × HasTree (printed c) again × (plain_cell again ≡ plain_cell c)

-- the same of an expression
abbrev pub ExpReadsBack : Type 0
ExpReadsBack = (text : List ℕ) (e : Exp) → HasExp text e → (again : Exp) × HasExp (printed_exp e) again × (plain_exp again ≡ plain_exp e)

-- the text that is printed of one procedure of a text's tree is a cell with that procedure alone
abbrev pub ProcedureReadsBack : Type 0
ProcedureReadsBack = (text : List ℕ) (ds : List Declaration) (b : Block) (ps : List Procedure) (p : Procedure) → HasTree text (cell_of ds b ps) →
    Contains ps p →
    (again : Procedure) × HasTree (printed_procedure p) (cell_of [] Empty (again ∷ [])) × (plain_procedure again ≡ plain_procedure p)
