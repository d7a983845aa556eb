-- A text has one answer in a world, want of memory aside: the one cell that it is, or its one refusal.
use Rattle.std.proofs.Common.{◌≡◌, ℕ, ◌<◌, List, [], length, refl, sym, ap, ◌∙◌, subst, arith}
use Rattle.std.specs.Prelude.{Contains}
use Rattle.janus_meaning.specs.Shape.{shape_of, heads_of}
use Rattle.janus_meaning.specs.World.{World, Cell}
use Rattle.janus_syntax.specs.Tree as tree
use Rattle.janus_syntax.specs.Forms.{A_cell}
use Rattle.janus_syntax.proofs.TextLaws.{one_tree, one_refusal, not_both as tree_or_refusal}
use Rattle.janus_check.specs.Check.{cell_faults}
use Rattle.janus_syntax.specs.View.{plain_cell}
use Rattle.janus_check.specs.Fault.{IsFirst}
use Rattle.janus_check.specs.declared.fault.CheckFault as check
use Rattle.janus_check.proofs.FormedLemmas.{formed_no_faults}
use Rattle.kernel_machine.specs.Language.{IsSound}
use Rattle.kernel_machine.specs.Text.{Accepts, IsUnformed, Refuses}
use Rattle.kernel_machine.specs.declared.outcome.Refusal.{Refusal}
use Rattle.kernel_machine.specs.declared.outcome.Refusal.TheVariants.{Syntax, Check, HistoryFull, TooFar, NoNode, Closing, Memory}
use Rattle.janus_check.proofs.FirstLemmas.{one_first}

pub one_cell : (w : World) (text : List ℕ) (c d : Cell) → Accepts w text c → Accepts w text d → c ≡ d
one_cell w text c d p q = p.meant ∙ ap plain_cell (one_tree A_cell text p.tree q.tree p.is_tree q.is_tree) ∙ sym q.meant

-- the first fault of the check
one_check : (w : World) (text : List ℕ) (f h : check.CheckFault) → IsUnformed w text f → IsUnformed w text h → f ≡ h
one_check w text f h p q =
    let same : q.tree ≡ p.tree = one_tree A_cell text q.tree p.tree q.is_tree p.is_tree in
    let first : IsFirst h (cell_faults (shape_of w.store) (heads_of w.procedures) p.tree) =
    subst (λ (t : tree.Cell). IsFirst h (cell_faults (shape_of w.store) (heads_of w.procedures) t)) same q.first in
    one_first (cell_faults (shape_of w.store) (heads_of w.procedures) p.tree) f h p.first first

pub one_answer : (w : World) (text : List ℕ) (r q : Refusal) → Refuses w text r → (r ≡ Memory → ⊥) → Refuses w text q → (q ≡ Memory → ⊥) → r ≡ q
one_answer w text Memory q a real b other = absurd (real refl)
one_answer w text r Memory a real b other = absurd (other refl)
one_answer w text HistoryFull q a real b other = absurd a
one_answer w text TooFar q a real b other = absurd a
one_answer w text NoNode q a real b other = absurd a
one_answer w text r HistoryFull a real b other = absurd b
one_answer w text r TooFar a real b other = absurd b
one_answer w text r NoNode a real b other = absurd b
one_answer w text Closing q a real b other = absurd a
one_answer w text r Closing a real b other = absurd b
one_answer w text (Syntax f) (Syntax h) a real b other = ap Syntax (one_refusal A_cell text f h a b)
one_answer w text (Check f) (Check h) a real b other = ap Check (one_check w text f h a b)
one_answer w text (Syntax f) (Check h) a real b other = absurd (tree_or_refusal A_cell text b.tree f b.is_tree a)
one_answer w text (Check f) (Syntax h) a real b other = absurd (tree_or_refusal A_cell text a.tree h a.is_tree b)

nothing_there : (f : check.CheckFault) (fs : List check.CheckFault) → fs ≡ [] → Contains fs f → ⊥
nothing_there f fs e c = let l = subst (λ (xs : List check.CheckFault). c.0 < length xs) e c.1 in absurd (omega arith)

-- a cell that is well formed is not refused
pub not_both : (w : World) (text : List ℕ) (c : Cell) (r : Refusal) → IsSound w → Accepts w text c → Refuses w text r → (r ≡ Memory → ⊥) → ⊥
not_both w text c Memory sound a b real = real refl
not_both w text c HistoryFull sound a b real = b
not_both w text c TooFar sound a b real = b
not_both w text c NoNode sound a b real = b
not_both w text c Closing sound a b real = b
not_both w text c (Syntax f) sound a b real = tree_or_refusal A_cell text a.tree f a.is_tree b
not_both w text c (Check f) sound a b real =
    let same : b.tree ≡ a.tree = one_tree A_cell text b.tree a.tree b.is_tree a.is_tree in
    let first : IsFirst f (cell_faults (shape_of w.store) (heads_of w.procedures) a.tree) =
    subst (λ (t : tree.Cell). IsFirst f (cell_faults (shape_of w.store) (heads_of w.procedures) t)) same b.first in
    nothing_there f (cell_faults (shape_of w.store) (heads_of w.procedures) a.tree)
    (formed_no_faults (shape_of w.store) (heads_of w.procedures) a.tree a.formed) first.one
