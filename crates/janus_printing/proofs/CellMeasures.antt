-- The tree of a text fits: a cell's, and an expression's.
use Rattle.std.proofs.Common.{ℕ, suc, List, [], length, sym, subst, arith}
use Rattle.janus_syntax.specs.Tree.{Exp, Cell, cell_of}
use Rattle.janus_syntax.specs.Forms.{A_cell, Statements, Procedures, Whole, done, part}
use Rattle.janus_syntax.specs.Table.{is_bare}
use Rattle.janus_syntax.specs.Text.{HasTree, HasExp}
use Rattle.janus_printing.proofs.Inside.{inside}
use Rattle.janus_printing.proofs.Fits.{FitsWhole, FitsCell}
use Rattle.janus_printing.proofs.Good.{good_tokens}
use Rattle.janus_printing.proofs.ExpressionMeasures.{whole_read}
use Rattle.janus_printing.proofs.BlockMeasures.{statements_read}
use Rattle.janus_printing.proofs.StatementMeasures.{blocks_measured}
use Rattle.janus_printing.proofs.DeclarationMeasures.{declarations_read}
use Rattle.janus_printing.proofs.ProcedureMeasures.{procedures_read}

pub cell_fits : (text : List ℕ) (c : Cell) → HasTree text c → FitsCell c
cell_fits text c has =
    let m = has.is_tree.0 in
    let ds = declarations_read (suc (length has.tokens)) {p = A_cell} 0 0 (λ ds. part Statements (λ b. part (Procedures (is_bare ds b) (cell_of ds b [])) done))
    c has.tokens m [] (omega arith) (good_tokens has.are_tokens) has.is_tree.1 in
    let n = length ds.middle in
    let b = statements_read n (blocks_measured n) {p = A_cell} 0 ds.total (λ b. part (Procedures (is_bare ds.tree b) (cell_of ds.tree b [])) done)
    c ds.middle m [] (omega arith) ds.good ds.onward in
    let ps = procedures_read (suc (length b.middle)) A_cell (is_bare ds.tree b.tree) (cell_of ds.tree b.tree []) b.total done c b.middle m [] (omega arith)
    b.good (ds.fits, b.fits, tt) b.onward in
    let end = inside ps.onward in
    subst FitsCell (sym end.tree) ps.fits

pub exp_fits : (text : List ℕ) (e : Exp) → HasExp text e → FitsWhole e 0
exp_fits text e has =
    let read = whole_read {p = Whole} 0 0 done e has.tokens has.is_tree.0 [] (good_tokens has.are_tokens) has.is_tree.1 in
    let end = inside read.onward in
    subst (λ x. FitsWhole x 0) (sym end.tree) read.fits
