use Rattle.std.proofs.Common.{◌≡◌}
use Rattle.steps_program.proofs.Entering.{enters, anyway}
use Rattle.steps_program.proofs.program.enter.Goals as goal

pub returns-in-Ok-clause-enters : goal.returns-in-Ok-clause-enters
returns-in-Ok-clause-enters g c =
    enters c.args.kernel.machine c.args.text.now c.begin.new.kernel.machine c.taken_out.result c.in-Ok.ensures.begins c.taken_out.ensures.stands

pub returns-in-Ok-clause-silent : goal.returns-in-Ok-clause-silent
returns-in-Ok-clause-silent g c = anyway (c.begin.new.writer ≡ c.args.writer.now) c.taken_out.result c.in-Ok.ensures.silent
