use Rattle.std.proofs.Common.{◌≡◌, [], Bool, subst}
use Rattle.std.proofs.lemmas.Result.{err_from_is_err_and}
use Rattle.janus_syntax.specs.TextTokens.{views}
use Rattle.janus_syntax.proofs.Steps.{passes_on}
use Rattle.janus_syntax.specs.Tree.{Cell, cell_of, cell_view}
use Rattle.janus_syntax.specs.Forms.{Procedures}
use Rattle.janus_syntax.specs.Table.{is_bare}
use Rattle.janus_syntax.specs.Reading.{IsPart, FailsPart}
use Rattle.janus_syntax.proofs.Declared.{cell_is, cell_stops_end, cell_stops_procedures}
use Rattle.janus_syntax.proofs.cell.all_tokens_cell.Goals as goal

-- what is known of the procedures behind the cell that was made, and behind the one of the grammar
as_read : (P : Bool → Cell → Type 0) (main m : Bool) (c d : Cell) → main ≡ m → c ≡ d → P main c → P m d
as_read P main m c d e f x = subst (λ b. P b d) e (subst (P main) f x)

pub returns-in_err-cell : goal.returns-in_err-cell
returns-in_err-cell c =
    let h = c.in_ok-read.ensures in
    let p = err_from_is_err_and c.from_residual-in_err-cell.result c.from_residual-in_err-cell.ensures.1 in
    rw (p.1, p.2) (passes_on _ _ c.in_err-cell.field-0.0 c.in_err-cell.ensures
    (λ out f. cell_stops_procedures h.declarations h.statements out
    (as_read (λ m d. FailsPart (Procedures m d) 0 (views c.in_ok-read.rest.now) out) c.in_ok-read.main _ (cell_view c.in_ok-read.read) _ h.bare h.cell f)))

pub returns-in_err-end : goal.returns-in_err-end
returns-in_err-end c =
    let h = c.in_ok-read.ensures in
    let i = as_read (λ m d. IsPart (Procedures m d) 0 (cell_view c.in_ok-cell.cell) (views c.in_ok-read.rest.now) (views c.in_ok-cell.rest.now))
    c.in_ok-read.main (is_bare h.listed h.block) (cell_view c.in_ok-read.read) (cell_of h.listed h.block []) h.bare h.cell c.in_ok-cell.ensures in
    let p = err_from_is_err_and c.from_residual-in_err-end.result c.from_residual-in_err-end.ensures.1 in
    rw (p.1, p.2) (passes_on _ _ c.in_err-end.field-0.0 c.in_err-end.ensures (λ out f. cell_stops_end h.declarations h.statements out i f))

pub returns : goal.returns
returns c =
    let h = c.in_ok-read.ensures in
    let i = as_read (λ m d. IsPart (Procedures m d) 0 (cell_view c.in_ok-cell.cell) (views c.in_ok-read.rest.now) (views c.in_ok-cell.rest.now))
    c.in_ok-read.main (is_bare h.listed h.block) (cell_view c.in_ok-read.read) (cell_of h.listed h.block []) h.bare h.cell c.in_ok-cell.ensures in
    cell_is h.declarations h.statements i c.in_ok-end.ensures
