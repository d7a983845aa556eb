use Rattle.kernel_runner.proofs.Running.{turned_round}
use Rattle.kernel_runner.proofs.runner.Runner.turn.Goals as goal

pub returns-clause-turns : goal.returns-clause-turns
returns-clause-turns g c = λ at h.
    let r = c.args.self.now in
    turned_round r c.args.program.now at c.mirror.new.self h (c.mirror.ensures.stands r.counted.store h.standing)
    (c.mirror.ensures.place r.counted.store h.standing)
    (λ k a. c.mirror.ensures.agrees k r.counted.store h.standing a) c.mirror.ensures.counts
