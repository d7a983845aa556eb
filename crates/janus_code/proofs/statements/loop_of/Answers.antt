use Rattle.std.proofs.Common.{ap, ◌∙◌}
use Rattle.janus_syntax.specs.Tree.{Loop, exp_view, block_view}
use Rattle.janus_syntax.proofs.Views.{view_loop}
use Rattle.janus_code.proofs.statements.loop_of.Goals as goal

pub returns : goal.returns
returns c =
    view_loop c.in_ok-entry.entry c.in_ok-entry.exit c.args.do_part c.args.loop_part
    ∙ ap (λ e. Loop e (block_view c.args.do_part.items) (block_view c.args.loop_part.items) (exp_view c.in_ok-entry.exit.value)) c.in_ok-entry.ensures.0
    ∙ ap (Loop (exp_view c.args.entry.now) (block_view c.args.do_part.items) (block_view c.args.loop_part.items)) c.in_ok-entry.ensures.1
