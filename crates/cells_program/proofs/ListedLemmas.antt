-- Procedures are told one after the other.
use Rattle.std.proofs.Common.{◌≡◌, ◌<◌, ◌+◌, ℕ, zero, suc, length, get_or, take, arith, List, [], ◌∷◌, ◌++◌, refl, sym, ap, ◌∙◌, append_assoc, append-nil}
use Rattle.std.proofs.Common.{add-one, Option, inr}
use Rattle.std.specs.Prelude.{Result, Ok, Err, OnErr}
use Rattle.std.specs.Borrow.{Bor}
use Rattle.janus_meaning.specs.Syntax.{Proc}
use Rattle.janus_meaning.specs.World.{World}
use Rattle.janus_syntax.specs.declared.tree.Procedure.{Procedure}
use Rattle.kernel_core.specs.Defined.{in_a_row}
use Rattle.kernel_core.specs.post.PostFault.TheVariants.{Memory}
use Rattle.kernel_text.specs.Lines.{post_fault_line}
use Rattle.kernel_text.specs.ProcedureTexts.{procedure_text}
use Rattle.exact_write.specs.Sent.{SentSome}
use Rattle.kernel_text.proofs.Newest.{plain}
use Rattle.cells_program.specs.Lines.{ended_line}
use Rattle.cells_program.specs.Listing.{IsListed, listing_text}

-- one procedure more
told_more : (ps : List Proc) (p : Proc) → listing_text (ps ++ p ∷ []) ≡ listing_text ps ++ ended_line (procedure_text p)
told_more [] p = append-nil (ended_line (procedure_text p))
told_more (q ∷ ps) p = ap (λ (t : List ℕ). ended_line (procedure_text q) ++ t) (told_more ps p)
    ∙ sym (append_assoc (ended_line (procedure_text q)) (listing_text ps) (ended_line (procedure_text p)))

row_more : (all : List (Bor Procedure)) (i : ℕ) (b : Bor Procedure) → i < length all → get_or all i b ≡ b →
    in_a_row (take (suc i) all) ≡ in_a_row (take i all) ++ plain b ∷ []
row_more [] i b l e = absurd (omega arith)
row_more (z ∷ all) zero b l e = ap (λ (c : Bor Procedure). plain c ∷ []) e
row_more (z ∷ all) (suc i) b l e = ap (λ (ps : List Proc). plain z ∷ ps) (row_more all i b (omega arith) e)

pub listed_next : (all : List (Bor Procedure)) (i : ℕ) (b : Bor Procedure) → i < length all → get_or all i b ≡ b →
    listing_text (in_a_row (take (i + 1) all)) ≡ listing_text (in_a_row (take i all)) ++ ended_line (procedure_text (plain b))
listed_next all i b l is =
    ap (λ (n : ℕ). listing_text (in_a_row (take n all))) (add-one i) ∙ ap listing_text (row_more all i b l is) ∙ told_more (in_a_row (take i all)) (plain b)

-- there was no memory for the list, and its line did not go out as a whole
pub want_err : {E : Type 0} (a b : Option (List ℕ)) (w : World) (res : Result (Unit {0}) E) → OnErr res (SentSome a b (ended_line (post_fault_line Memory)))
    → OnErr res ((out : List ℕ) × IsListed w out × SentSome a b out)
want_err a b w (Ok x) p = tt
want_err a b w (Err f) p = (ended_line (post_fault_line Memory), inr refl, p)
