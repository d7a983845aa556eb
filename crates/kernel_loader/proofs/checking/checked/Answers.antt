use Rattle.std.proofs.Common.{refl, sym, ap, subst}
use Rattle.janus_syntax.specs.Tree.{cell_view}
use Rattle.janus_syntax.specs.View.{plain_cell}
use Rattle.janus_check.specs.Names.{shape_in, heads_in}
use Rattle.kernel_machine.specs.Text.{Refuses}
use Rattle.kernel_machine.specs.declared.outcome.Refusal.{Refusal}
use Rattle.kernel_machine.proofs.Texts.{refuses_check}
use Rattle.kernel_loader.proofs.Made.{formed_here}
use Rattle.kernel_loader.proofs.checking.checked.Goals as goal

pub returns-in-Ok-clause-accepts : goal.returns-in-Ok-clause-accepts
returns-in-Ok-clause-accepts g c = λ w text known tree. record {
  tree = cell_view c.args.cell;
  is_tree = tree;
  formed = formed_here w (g.T.SymbolTable.known c.args.table.now) (cell_view c.args.cell) (cell_view c.args.cell) known c.in-Ok.ensures.well_formed refl;
  meant = ap plain_cell c.in-Ok.ensures.same;
}

pub returns-in-Err-clause-refuses : goal.returns-in-Err-clause-refuses
returns-in-Err-clause-refuses g c = λ w text known tree.
    let table = g.T.SymbolTable.known c.args.table.now in
    subst (λ (r : Refusal). Refuses w text r) (sym c.of_check.ensures)
    (refuses_check w text c.in-Err.fault (cell_view c.args.cell) (shape_in table.names) (heads_in table.procedures) tree known.names known.heads
    c.in-Err.ensures.first)
