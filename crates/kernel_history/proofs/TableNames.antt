-- That no other names stand in the table of procedures' names than those of the nodes and of an open posted cell.
use Rattle.std.proofs.Common.{inl, inr, ◌≡◌, ℕ, ◌<◌, ◌++◌, List, [], ◌∷◌, length, take, suc, zero, sym, ap, ◌∙◌, subst, arith}
use Rattle.std.specs.Prelude.{◌+◌}
use Rattle.std.proofs.lemmas.Bool.{cases_lt}
use Rattle.cell_tree.specs.declared.node.Node.{Node}
use Rattle.janus_meaning.specs.Syntax.{Name}
use Rattle.janus_slots.specs.Numbers.{IsNumbered, GoOn}
use Rattle.kernel_loader.specs.program.Program.{Program}
use Rattle.kernel_history.specs.TableNames.{AreOfNodes, AreItsOwn, ListsNoOtherFor}
use Rattle.kernel_history.specs.declared.tree.EndedCell.{EndedCell}
use Rattle.kernel_history.specs.declared.tree.HistoryTree.{HistoryTree}
use Rattle.kernel_history.specs.declared.job.Work.{Work}
use Rattle.kernel_history.specs.declared.job.Work.TheVariants.{Cell as RunCell}
use Rattle.kernel_loader.proofs.Unlisted.{taken_back}
use Rattle.kernel_history.proofs.Nodes.{cell_grown, cell_new}

-- a name of low number stands in front
front : (n : ℕ) (xs : List Name) (k : ℕ) (x : Name) → k < n → IsNumbered xs k x → IsNumbered (take n xs) k x
front zero xs k x low at = absurd (omega arith)
front (suc n) [] k x low at = at
front (suc n) (y ∷ ys) zero x low at = at
front (suc n) (y ∷ ys) (suc k) x low at = front n ys k x (omega arith) at

pub names_nodes : (tree other : HistoryTree) (entries : List Name) → other.cells.nodes ≡ tree.cells.nodes → AreOfNodes tree entries →
    AreOfNodes other entries
names_nodes tree other entries e h =
    subst (λ (nodes : List (Node EndedCell)). AreOfNodes (record other { cells = record other.cells { nodes = nodes } }) entries) (sym e) h

pub names_same : (tree : HistoryTree) (old new : List Name) → new ≡ old → AreOfNodes tree old → AreOfNodes tree new
names_same tree old new e h = subst (λ (l : List Name). AreOfNodes tree l) (sym e) h

-- a posted cell becomes a node: its names are those of a node then
pub names_grown : (tree larger : HistoryTree) (node : Node EndedCell) (entries : List Name) → larger.cells.nodes ≡ tree.cells.nodes ++ node ∷ [] →
    AreOfNodes tree (take node.content.program.first_name entries) × AreItsOwn node.content.program entries → AreOfNodes larger entries
names_grown tree larger node entries nodes h = λ k x at.
    elim (cases_lt k node.content.program.first_name) [
      | inl low ↦
          (let older = h.0 k x (front node.content.program.first_name entries k x low at) in
          (older.0, older.1, cell_grown tree larger node older.0 older.1 nodes older.2, older.3))
      | inr high ↦ (length tree.cells.nodes + 1, node.content, cell_new tree larger node nodes, h.1 k x high at)
    ]

-- the work's own stay in it while it runs
pub names_still : (tree : HistoryTree) (work : Work) (old new : List Name) → new ≡ old → ListsNoOtherFor tree work old → ListsNoOtherFor tree work new
names_still tree work old new e h = subst (λ (l : List Name). ListsNoOtherFor tree work l) (sym e) h

-- an empty table has none
pub none_listed : (tree : HistoryTree) (entries : List Name) → entries ≡ [] → AreOfNodes tree entries
none_listed tree entries e = λ k x at. absurd (nothing k x (subst (λ (l : List Name). IsNumbered l k x) e at))
  where
    nothing : (k : ℕ) (x : Name) → IsNumbered [] k x → ⊥
    nothing k x h = cc

-- a posted cell is loaded: behind the names that stood there come its own
pub names_begun : (tree : HistoryTree) (old met at : List Name) (program : Program) → program.first_name ≡ length old → GoOn old met → at ≡ met →
    AreItsOwn program met → AreOfNodes tree old → ListsNoOtherFor tree (RunCell program) at
names_begun tree old met at program first onward same own h = (
  names_same tree old (take program.first_name at) (ap (λ (l : List Name). take program.first_name l) same
      ∙ taken_back old met program.first_name first onward) h,
  subst (λ (l : List Name). AreItsOwn program l) (sym same) own,
)
