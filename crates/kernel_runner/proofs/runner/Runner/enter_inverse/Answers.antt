use Rattle.std.proofs.Common.{refl}
use Rattle.kernel_runner.proofs.Borders.{entered_inverse_here}
use Rattle.kernel_runner.proofs.runner.Runner.enter_inverse.Goals as goal

pub returns-clause-enters : goal.returns-clause-enters
returns-clause-enters g c = λ from can.
    entered_inverse_here c.args.self.now
    (record {
      counted = c.args.self.now.counted;
      cursor = c.enter_inverse.new.self;
      procedures = c.args.self.now.procedures;
      entries = c.args.self.now.entries;
    }) c.args.program.now from can refl refl refl
    (record { stands = c.enter_inverse.ensures.stands; place = c.enter_inverse.ensures.place; counts = c.enter_inverse.ensures.counts })
