-- The names of procedures that are gone through.
use Rattle.std.proofs.Common.{◌≡◌, ◌<◌, ℕ, zero, suc, length, get_or, take, arith, List, [], ◌∷◌, ◌++◌, string_bytes, ap}
use Rattle.std.specs.Borrow.{Bor}
use Rattle.janus_meaning.specs.Syntax.{Name}
use Rattle.janus_syntax.specs.Tree.{procedure_view}
use Rattle.janus_syntax.specs.View.{plain_procedure}
use Rattle.janus_syntax.specs.declared.tree.Procedure.{Procedure}
use Rattle.kernel_text.specs.Defined.{in_a_row}
use Rattle.kernel_text.specs.Procedures.{procedure_names}

pub names_more : (all : List (Bor Procedure)) (i : ℕ) (b : Bor Procedure) → i < length all → get_or all i b ≡ b →
    procedure_names (in_a_row (take (suc i) all)) ≡ procedure_names (in_a_row (take i all)) ++ string_bytes b.now.name.text ∷ []
names_more [] i b l e = absurd (omega arith)
names_more (z ∷ all) zero b l e = ap (λ (c : Bor Procedure). string_bytes c.now.name.text ∷ []) e
names_more (z ∷ all) (suc i) b l e = ap (λ (ns : List Name). (plain_procedure (procedure_view z.now)).name ∷ ns) (names_more all i b (omega arith) e)
