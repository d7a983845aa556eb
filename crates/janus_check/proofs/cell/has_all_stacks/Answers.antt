use Rattle.std.proofs.Common.{◌+◌, ap, ◌∙◌, sym}
use Rattle.std.specs.Prelude.{nat_le}
use Rattle.janus_meaning.specs.Limit.{live_stack_limit}
use Rattle.janus_meaning.specs.Shape.{stack_count}
use Rattle.janus_check.specs.Names.{shape_in}
use Rattle.janus_check.proofs.ScopeLemmas.{stacks-over}
use Rattle.janus_check.proofs.cell.has_all_stacks.Goals as goal

pub returns : goal.returns
returns g c =
    let table = g.T.SymbolTable.known in
    ap (λ n. nat_le live_stack_limit (n + c.stacks-2.result)) c.stacks.ensures.count
    ∙ ap (λ n. nat_le live_stack_limit (stack_count (shape_in (table c.args.env.now).names) + n)) c.stacks-2.ensures.count
    ∙ ap (nat_le live_stack_limit) (sym (stacks-over (shape_in (table c.args.env.now).names) c.args.own.now.names))
