-- Of which texts the trees of a walk are, whose places it tells.
use Rattle.std.specs.Prelude.{◌≡◌, ℕ, List, length, Option, None, Some}
use Rattle.janus_syntax.specs.Text.{HasTree}
use Rattle.janus_syntax.specs.Tree.{Cell}
use Rattle.kernel_runner.specs.Program as program
use Rattle.kernel_history.specs.Bodies.{IsCellAt}
use Rattle.kernel_history.specs.declared.tree.EndedCell.{EndedCell}
use Rattle.steps_walk.specs.declared.walk.Walk.{Walk}
use Rattle.steps_walk.specs.Walk.{program_of, tree_of}

-- how many nodes stand before the open cell, without the root
abbrev pub nodes_in : {L : Type 0} → Walk L → ℕ
nodes_in w = length (tree_of w).cells.nodes

-- the tree of the open cell, or of the cell of a node, with the places of all that stands in it
abbrev pub IsTreeAt : {L : Type 0} → Walk L → Option ℕ → Cell → Type 0
IsTreeAt w None t = t ≡ program.tree_of (program_of w)
IsTreeAt w (Some n) t = (cell : EndedCell) × IsCellAt (tree_of w) n cell × (t ≡ program.tree_of cell.program)

-- a text has just that tree
abbrev pub IsTextAt : {L : Type 0} → Walk L → Option ℕ → List ℕ → Type 0
IsTextAt w node text = (t : Cell) × IsTreeAt w node t × HasTree text t
