use Rattle.std.proofs.Common.{refl, arith}
use Rattle.janus_syntax.specs.Tree.{procedure_view, procedures_view}
use Rattle.janus_syntax.specs.Printing.{procedure_pieces, procedures_pieces}
use Rattle.janus_syntax.proofs.Pieces.{next_item, last_item}
use Rattle.janus_syntax.proofs.printer.put_procedures.Goals as goal

pub loop-i-preserved : goal.loop-i-preserved
loop-i-preserved c =
    let x = c.index-procedures-i.result in
    next_item (λ xs. procedures_pieces (procedures_view xs)) c.args.procedures.now c.loop-i.i x (procedure_pieces (procedure_view x))
    c.args.line.now _ _ c.loop-i-test.true c.index-procedures-i.is (λ ys. refl) c.loop-i.invariant c.put_procedure.ensures

pub returns : goal.returns
returns c = last_item (λ xs. procedures_pieces (procedures_view xs)) c.args.procedures.now c.loop-i.i c.args.line.now _ (omega (arith, c.loop-i-test.false))
    refl c.loop-i.invariant
