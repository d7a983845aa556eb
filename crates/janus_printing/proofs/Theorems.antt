-- What is printed is read again.
use Rattle.std.proofs.Common.{◌≡◌, ℕ, zero, suc, ◌<◌, List, [], ◌∷◌, length, get_or, true, sym, subst, arith}
use Rattle.janus_syntax.specs.Tokens.{Token}
use Rattle.janus_syntax.specs.Tree.{Procedure, cell_of}
use Rattle.janus_syntax.specs.Operators.{weakest}
use Rattle.janus_syntax.specs.Lexical.{AreTokens}
use Rattle.janus_syntax.specs.Printing.{Piece, no_text, with_pieces, whole_pieces, procedure_pieces, cell_pieces}
use Rattle.janus_printing.specs.ReadBack.{CellReadsBack, ExpReadsBack, ProcedureReadsBack}
use Rattle.janus_printing.proofs.Fits.{FitsProcedure, FitsProcedures}
use Rattle.janus_printing.proofs.CellMeasures.{cell_fits, exp_fits}
use Rattle.janus_printing.proofs.CellAgain.{cell_again, procedure_alone, expression_again}
use Rattle.janus_printing.proofs.Pieces.{tail, AreFine, printed_tail, fine_exp, fine_procedure, fine_cell}
use Rattle.janus_printing.proofs.Spelled.{Spelled}
use Rattle.janus_printing.proofs.Lexed.{pieces_lexed}

-- the text of fine pieces has tokens, which spell them
tokens_of : (ps : List Piece) → AreFine ps → (ts : List Token) × AreTokens (with_pieces no_text ps).text ts × Spelled ps ts []
tokens_of ps f =
    let l = pieces_lexed (tail true ps) true ps f in
    (l.0, subst (λ text. AreTokens text l.0) (sym (printed_tail no_text ps)) l.1, l.2)

pub cell_reads_back : CellReadsBack
cell_reads_back text c has =
    let fits = cell_fits text c has in
    let l = tokens_of (cell_pieces c) (fine_cell c fits) in
    let r = cell_again c l.0 fits l.2 in
    (r.0, record { tokens = l.0; are_tokens = l.1; is_tree = r.1 }, r.2)

-- one of procedures that fit
one_fits : (ps : List Procedure) (k : ℕ) (p : Procedure) → k < length ps → get_or ps k p ≡ p → FitsProcedures ps → FitsProcedure p
one_fits [] k p h e f = absurd (omega (arith, h))
one_fits (q ∷ ps) zero p h e f = subst FitsProcedure e f.0
one_fits (q ∷ ps) (suc k) p h e f = one_fits ps k p (omega (arith, h)) e f.1

pub procedure_reads_back : ProcedureReadsBack
procedure_reads_back text ds b ps p has in_ps =
    let fits = cell_fits text (cell_of ds b ps) has in
    let f = one_fits ps in_ps.0 p in_ps.1 in_ps.2 fits.2 in
    let l = tokens_of (procedure_pieces p) (fine_procedure p f) in
    let r = procedure_alone p l.0 f l.2 in
    (r.0, record { tokens = l.0; are_tokens = l.1; is_tree = r.1 }, r.2)

pub exp_reads_back : ExpReadsBack
exp_reads_back text e has =
    let fits = exp_fits text e has in
    let l = tokens_of (whole_pieces e) (fine_exp e weakest 0 fits.0) in
    let r = expression_again e l.0 fits l.2 in
    (r.0, record { tokens = l.0; are_tokens = l.1; is_tree = r.1 }, r.2)
