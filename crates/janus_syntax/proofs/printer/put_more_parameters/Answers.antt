use Rattle.std.proofs.Common.{refl, arith, ◌∷◌}
use Rattle.janus_syntax.specs.declared.token.Sign.TheVariants as sign
use Rattle.janus_syntax.specs.Tree.{parameter_view, parameters_view}
use Rattle.janus_syntax.specs.Printing.{A_sign, parameter_pieces, more_parameters_pieces}
use Rattle.janus_syntax.proofs.Pieces.{both, next_item, last_item}
use Rattle.janus_syntax.proofs.printer.put_more_parameters.Goals as goal

pub loop-i-preserved : goal.loop-i-preserved
loop-i-preserved c =
    let x = c.index-parameters-i.result in
    next_item (λ xs. more_parameters_pieces (parameters_view xs)) c.args.parameters.now c.loop-i.i x (A_sign sign.Comma ∷ parameter_pieces (parameter_view x))
    c.args.line.now _ _ c.loop-i-test.true c.index-parameters-i.is (λ ys. refl) c.loop-i.invariant (both c.put_sign.ensures c.put_parameter.ensures)

pub returns : goal.returns
returns c = last_item (λ xs. more_parameters_pieces (parameters_view xs)) c.args.parameters.now c.loop-i.i c.args.line.now
    _ (omega (arith, c.loop-i-test.false)) refl c.loop-i.invariant
