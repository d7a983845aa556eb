use Rattle.kernel_audit.proofs.Numbered.{ended_iff, ended_none}
use Rattle.kernel_audit.proofs.comparison.finds_end.Goals as goal

pub returns-in-Some-clause-ended : goal.returns-in-Some-clause-ended
returns-in-Some-clause-ended c =
    let d = c.args.done.now in
    ended_iff c.args.minutes.now d.number c.in-Some.entry.now d.outcome d.count d.node _ c.requires.ends c.in-Some.ensures.some c.is_end.ensures

pub returns-in-None-clause-ended : goal.returns-in-None-clause-ended
returns-in-None-clause-ended c = let d = c.args.done.now in
    ended_none c.args.minutes.now d.number d.outcome d.count d.node c.requires.ends c.in-None.ensures.none
