use Rattle.kernel_ask.specs.Request.{request_of}
use Rattle.kernel_audit.proofs.Numbered.{posted_iff, posted_none}
use Rattle.kernel_audit.proofs.comparison.finds_post.Goals as goal

pub returns-in-Some-clause-posted : goal.returns-in-Some-clause-posted
returns-in-Some-clause-posted c =
    posted_iff c.args.minutes.now c.args.ticket.now.number c.in-Some.entry.now c.args.ticket.now.lane (request_of c.args.ticket.now.job)
    _ c.in-Some.ensures.some c.is_post.ensures

pub returns-in-None-clause-posted : goal.returns-in-None-clause-posted
returns-in-None-clause-posted c =
    posted_none c.args.minutes.now c.args.ticket.now.number c.args.ticket.now.lane (request_of c.args.ticket.now.job) c.in-None.ensures.none
