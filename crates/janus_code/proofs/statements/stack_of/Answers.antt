use Rattle.std.proofs.Common.{ap, ◌∙◌}
use Rattle.janus_syntax.specs.Tree.{LocalStack, name_view, block_view}
use Rattle.janus_syntax.proofs.Views.{view_local_stack}
use Rattle.janus_code.proofs.statements.stack_of.Goals as goal

pub returns : goal.returns
returns c =
    view_local_stack c.in_ok-name.name c.in_ok-name.end c.args.block
    ∙ ap (λ x. LocalStack x (block_view c.args.block.items) (name_view c.in_ok-name.end)) c.in_ok-name.ensures.0
    ∙ ap (LocalStack (name_view c.args.name.now) (block_view c.args.block.items)) c.in_ok-name.ensures.1
