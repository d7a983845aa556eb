-- How far an undo and a redo can go.
use Rattle.std.specs.Prelude.{◌≡◌, ℕ, ◌≤◌, ◌↔◌, IsTrue, length, suc}
use Rattle.kernel_machine.specs.State.{Past}
use Rattle.kernel_machine.specs.Legal.{can_undo, can_redo}
use Rattle.kernel_machine.specs.declared.extent.Extent.{Extent}

-- `e.undo` cells can be undone, and `e.redo` redone, and no more; and the nodes are counted without the root
pub record IsExtent (s : Past) (e : Extent) : Type 0 where
  pub undo : (k : ℕ) → IsTrue (can_undo s.nodes s.position k) ↔ (k ≤ e.undo)
  pub redo : (k : ℕ) → IsTrue (can_redo s.favourites s.position k) ↔ (k ≤ e.redo)
  pub nodes : suc e.nodes ≡ length s.nodes
