use Rattle.std.proofs.Common.{ap, ◌∙◌}
use Rattle.janus_syntax.specs.Tree.{If, exp_view, block_view}
use Rattle.janus_syntax.proofs.Views.{view_if}
use Rattle.janus_code.proofs.statements.if_of.Goals as goal

pub returns : goal.returns
returns c =
    view_if c.in_ok-test.test c.in_ok-test.last c.args.then_part c.args.else_part
    ∙ ap (λ e. If e (block_view c.args.then_part.items) (block_view c.args.else_part.items) (exp_view c.in_ok-test.last.value)) c.in_ok-test.ensures.0
    ∙ ap (If (exp_view c.args.test.now) (block_view c.args.then_part.items) (block_view c.args.else_part.items)) c.in_ok-test.ensures.1
