use Rattle.std.proofs.Common.{map, sym, ap, ◌∙◌}
use Rattle.kernel_text.specs.Minutes.{Posted, Ended}
use Rattle.kernel_text.specs.Request.{request_of}
use Rattle.kernel_text.specs.Written.{entry_of}
use Rattle.kernel_ask.specs.Tail.{last_end}
use Rattle.kernel_ask.proofs.Walk.{mapped, end_behind, post_behind}
use Rattle.kernel_ask.proofs.tail.last_end.Goals as goal

pub loop-entry-preserved : goal.loop-entry-preserved
loop-entry-preserved c =
    let front = map entry_of c.in-Some.front.now in
    let last = mapped c.loop-entry.rest.now c.in-Some.front.now c.in-Some.entry.now (Posted c.in-Posted.lane (request_of c.in-Posted.job))
    c.in-Some.ensures.cases.0 (ap entry_of c.in-Posted.is) in
    sym (post_behind (0, 0) front c.in-Posted.lane (request_of c.in-Posted.job)) ∙ sym (ap (last_end (0, 0)) last) ∙ c.loop-entry.invariant

pub returns-in-Ended : goal.returns-in-Ended
returns-in-Ended c =
    let front = map entry_of c.in-Some.front.now in
    let e = c.in-Ended in
    let last = mapped c.loop-entry.rest.now c.in-Some.front.now c.in-Some.entry.now (Ended e.number e.outcome e.count e.node) c.in-Some.ensures.cases.0
    (ap entry_of e.is) in
    sym (end_behind (0, 0) front e.number e.outcome e.count e.node) ∙ sym (ap (last_end (0, 0)) last) ∙ c.loop-entry.invariant
