use Rattle.steps_walk.proofs.FacingOn.{turned_on}
use Rattle.steps_walk.proofs.turning.turn_on.Goals as goal

pub returns-clause-turns : goal.returns-clause-turns
returns-clause-turns g c = λ at h unbroken.
    let r = c.args.runner.now in
    turned_on r c.args.program.now at c.mirror.new.self h unbroken (c.mirror.ensures.stands r.counted.store h.standing)
    (c.mirror.ensures.place r.counted.store h.standing) (λ k a. c.mirror.ensures.agrees k r.counted.store h.standing a) c.mirror.ensures.counts
