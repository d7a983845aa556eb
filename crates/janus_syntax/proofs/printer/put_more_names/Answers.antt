use Rattle.std.proofs.Common.{refl, arith, string_bytes, [], ◌∷◌}
use Rattle.janus_syntax.specs.declared.token.Sign.TheVariants as sign
use Rattle.janus_syntax.specs.Tree.{names_view}
use Rattle.janus_syntax.specs.Printing.{A_name, A_sign, more_names_pieces}
use Rattle.janus_syntax.proofs.Pieces.{both, next_item, last_item}
use Rattle.janus_syntax.proofs.printer.put_more_names.Goals as goal

pub loop-i-preserved : goal.loop-i-preserved
loop-i-preserved c =
    let x = c.index-names-i.result in
    next_item (λ xs. more_names_pieces (names_view xs)) c.args.names.now c.loop-i.i x (A_sign sign.Comma ∷ A_name (string_bytes x.text) ∷ [])
    c.args.line.now _ _ c.loop-i-test.true c.index-names-i.is (λ ys. refl) c.loop-i.invariant (both c.put_sign.ensures c.put_name.ensures)

pub returns : goal.returns
returns c = last_item (λ xs. more_names_pieces (names_view xs)) c.args.names.now c.loop-i.i c.args.line.now _ (omega (arith, c.loop-i-test.false))
    refl c.loop-i.invariant
