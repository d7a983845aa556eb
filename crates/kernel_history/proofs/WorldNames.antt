-- The names of worlds along the tree, and those of procedures in the table.
use Rattle.std.proofs.Common.{◌≡◌, ℕ, ◌≤◌, List, [], ◌∷◌, ◌++◌, length, get_or, sym, ap, ◌∙◌, arith}
use Rattle.std.proofs.lemmas.List.{get_or_append_left, get_or_at}
use Rattle.cell_tree.specs.declared.node.Node.{Node}
use Rattle.janus_meaning.specs.Syntax.{Name, Proc}
use Rattle.janus_meaning.specs.Store.{Store, cleared}
use Rattle.janus_meaning.specs.World.{World, empty_world, entered, define}
use Rattle.janus_meaning.proofs.Shapes.{keeps_shape}
use Rattle.janus_slots.specs.Slots.{names_in}
use Rattle.janus_slots.specs.Law.{AreListed}
use Rattle.janus_slots.proofs.Whole.{names_cleared}
use Rattle.kernel_machine.specs.Language.{Code, Forward, CodeExec, start_of, end_of}
use Rattle.kernel_machine.specs.State as state
use Rattle.kernel_machine.specs.State.{Past, node_at, world_at, here, worlds_from}
use Rattle.kernel_machine.specs.Legal.{IsLegal}
use Rattle.kernel_machine.proofs.Trees.{IsNext, run_below, worlds-more}
use Rattle.kernel_history.specs.Fields.{node_of, nodes_of, past_of}
use Rattle.kernel_history.specs.declared.tree.EndedCell.{EndedCell}
use Rattle.kernel_history.specs.declared.tree.HistoryTree.{HistoryTree}
use Rattle.kernel_history.proofs.Nodes.{count_of_nodes, one_more}

-- ---- a cell leaves the names with which its steps begin

same_names : (r s : Store) → cleared r ≡ cleared s → names_in r ≡ names_in s
same_names r s e = sym (names_cleared r) ∙ ap names_in e ∙ names_cleared s

pub exec_names : (code : Code) (w : World) (n : ℕ) (v : World) → CodeExec code w n v → names_in v.store ≡ names_in (start_of code w).store
unfolding CodeExec
exec_names code w n v e = same_names v.store (start_of code w).store (keeps_shape _ _ _ _ _ e.ran)

-- so the node below has the names with which its cell begins at the position
pub names_below : (s : Past) (c : ℕ) → IsLegal s → IsNext s c → names_in (world_at s c).store ≡ names_in (entered (node_at s c).cell (here s)).store
names_below s c legal next = exec_names (Forward (node_at s c).cell) (here s) (node_at s c).steps (world_at s c) (run_below s c legal next)

-- ---- the worlds of a tree with a node more

module _ (tree larger : HistoryTree) (node : Node EndedCell) (nodes : larger.cells.nodes ≡ tree.cells.nodes ++ node ∷ []) (legal : IsLegal (past_of tree)) where
  -- the world to which the node's cell leads
  abbrev last_world : World
  last_world = end_of (node_of node).cell (world_at (past_of tree) node.parent) node.content.steps

  worlds_grown : (past_of larger).worlds ≡ (past_of tree).worlds ++ last_world ∷ []
  worlds_grown = ap (λ (all : List state.Node). worlds_from [] all) (one_more tree larger node nodes) ∙ worlds-more [] (nodes_of tree) (node_of node)

  pub world_kept : (n : ℕ) → n ≤ length tree.cells.nodes → world_at (past_of larger) n ≡ world_at (past_of tree) n
  world_kept n low =
      let size = count_of_nodes tree in
      let many = legal.worlds in
      ap (λ (worlds : List World). get_or worlds n empty_world) worlds_grown
      ∙ get_or_append_left (past_of tree).worlds (last_world ∷ []) empty_world n (omega arith)

  pub world_added : world_at (past_of larger) (length (nodes_of tree)) ≡ last_world
  world_added =
      ap (λ (worlds : List World). get_or worlds (length (nodes_of tree)) empty_world) worlds_grown
      ∙ get_or_at (past_of tree).worlds last_world [] empty_world (length (nodes_of tree)) legal.worlds

-- ---- procedures that are named in the table

listed_both : (es : List Name) (more ps : List Proc) → AreListed es (define more ps) → AreListed es more × AreListed es ps
listed_both es [] ps h = (tt, h)
listed_both es (p ∷ more) ps h = let rest = listed_both es more (p ∷ ps) h in ((rest.1.0, rest.0), rest.1.1)

-- those that are defined over others
pub listed_own : (es : List Name) (more ps : List Proc) → AreListed es (define more ps) → AreListed es more
listed_own es more ps h = (listed_both es more ps h).0
