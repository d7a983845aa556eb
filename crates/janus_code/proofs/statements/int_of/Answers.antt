use Rattle.std.proofs.Common.{ap, ◌∙◌}
use Rattle.janus_syntax.specs.Tree.{LocalInt, name_view, exp_view, block_view}
use Rattle.janus_syntax.proofs.Views.{view_local_int}
use Rattle.janus_code.proofs.statements.int_of.Goals as goal

pub returns : goal.returns
returns c =
    view_local_int c.in_ok-name.name c.in_ok-name.end c.in_ok-first.first c.in_ok-first.last c.args.block
    ∙ ap (λ x. LocalInt x (exp_view c.in_ok-first.first.value) (block_view c.args.block.items) (name_view c.in_ok-name.end) (exp_view c.in_ok-first.last.value))
    c.in_ok-name.ensures.0
    ∙ ap (λ y. LocalInt (name_view c.args.name.now) (exp_view c.in_ok-first.first.value) (block_view c.args.block.items) y (exp_view c.in_ok-first.last.value))
    c.in_ok-name.ensures.1
    ∙ ap (λ e. LocalInt (name_view c.args.name.now) e (block_view c.args.block.items) (name_view c.args.end.now) (exp_view c.in_ok-first.last.value))
    c.in_ok-first.ensures.0
    ∙ ap (LocalInt (name_view c.args.name.now) (exp_view c.args.first.now) (block_view c.args.block.items) (name_view c.args.end.now)) c.in_ok-first.ensures.1
