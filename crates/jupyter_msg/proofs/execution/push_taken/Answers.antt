use Rattle.std.proofs.Common.{refl, sym}
use Rattle.jupyter_msg.proofs.execution.push_taken.Goals as goal

pub returns-clause-more : goal.returns-clause-more
returns-clause-more c =
    (record { name = c.args.name; expression = c.in-Some.expression }, c.in_ok-push.ensures.items, refl, sym c.in-Some.ensures)
