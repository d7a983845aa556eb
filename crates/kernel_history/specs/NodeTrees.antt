-- A tree of a node's cell. Of the places of its names and numbers, and of the names behind `delocal`, nothing is said.
use Rattle.std.specs.Prelude.{◌≡◌, ◌⊎◌, ℕ, ◌<◌, ◌≤◌, length}
use Rattle.janus_syntax.specs.Tree.{Cell}
use Rattle.janus_syntax.specs.View.{plain_cell}
use Rattle.kernel_machine.specs.State.{Past, node_at}

-- the node has a cell, and this tree is read as it
pub record IsTreeAt (s : Past) (n : ℕ) (tree : Cell) : Type 0 where
  pub below_root : 0 < n
  pub known : n < length s.nodes
  pub meant : (node_at s n).cell ≡ plain_cell tree

-- it is the root, or there is no such node
abbrev pub HasNoTree : Past → ℕ → Type 0
HasNoTree s n = (n ≡ 0) ⊎ (length s.nodes ≤ n)
