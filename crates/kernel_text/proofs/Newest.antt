-- The newest procedure of a name is the first one of it.
use Rattle.std.proofs.Common.{◌≡◌, ◌<◌, ℕ, zero, suc, length, get_or, drop, arith, List, [], ◌∷◌, ap}
use Rattle.std.specs.Borrow.{Bor}
use Rattle.janus_meaning.specs.Syntax.{Name, Proc}
use Rattle.janus_meaning.specs.Store.{find, pick, same_name}
use Rattle.janus_syntax.specs.Tree.{procedure_view}
use Rattle.janus_syntax.specs.View.{plain_procedure}
use Rattle.janus_syntax.specs.declared.tree.Procedure.{Procedure}
use Rattle.kernel_core.specs.Defined.{in_a_row}

abbrev pub plain : Bor Procedure → Proc
plain b = plain_procedure (procedure_view b.now)

-- the first one of the rest is found, or what is found behind it
pub find_next : (f : Name) (all : List (Bor Procedure)) (i : ℕ) (b : Bor Procedure) → i < length all → get_or all i b ≡ b →
    find f (in_a_row (drop i all)) ≡ pick (same_name f (plain b).name) (plain b) (find f (in_a_row (drop (suc i) all)))
find_next f [] i b l e = absurd (omega arith)
find_next f (z ∷ all) zero b l e = ap (λ (c : Bor Procedure). pick (same_name f (plain c).name) (plain c) (find f (in_a_row all))) e
find_next f (z ∷ all) (suc i) b l e = find_next f all i b (omega arith) e
