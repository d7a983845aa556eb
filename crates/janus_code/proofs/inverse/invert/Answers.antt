use Rattle.std.proofs.Common.{ap, ◌∙◌}
use Rattle.janus_syntax.specs.Tree.{block_view, Empty}
use Rattle.janus_code.specs.Cells.{turned}
use Rattle.janus_code.proofs.Cells.{inverse_block_is}
use Rattle.janus_code.proofs.inverse.invert.Goals as goal

pub returns-clause-block : goal.returns-clause-block
returns-clause-block c =
    inverse_block_is c.in_ok-statements.statements.items c.args.cell.now.statements.items
    (c.in_ok-statements.ensures ∙ ap (λ l. turned (block_view l) Empty) c.deref-2.ensures.value)
