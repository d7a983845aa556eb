use Rattle.std.proofs.Common.{refl, arith}
use Rattle.janus_syntax.specs.Tree.{declaration_view, declarations_view}
use Rattle.janus_syntax.specs.Printing.{declaration_pieces, declarations_pieces}
use Rattle.janus_syntax.proofs.Pieces.{next_item, last_item}
use Rattle.janus_syntax.proofs.printer.put_declarations.Goals as goal

pub loop-i-preserved : goal.loop-i-preserved
loop-i-preserved c =
    let x = c.index-declarations-i.result in
    next_item (λ xs. declarations_pieces (declarations_view xs)) c.args.declarations.now c.loop-i.i x (declaration_pieces (declaration_view x))
    c.args.line.now _ _ c.loop-i-test.true c.index-declarations-i.is (λ ys. refl) c.loop-i.invariant c.put_declaration.ensures

pub returns : goal.returns
returns c = last_item (λ xs. declarations_pieces (declarations_view xs)) c.args.declarations.now c.loop-i.i c.args.line.now
    _ (omega (arith, c.loop-i-test.false)) refl c.loop-i.invariant
