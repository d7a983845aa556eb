use Rattle.std.proofs.Common.{subst}
use Rattle.kernel_machine.specs.Runs.{IsBegin}
use Rattle.kernel_machine.specs.declared.outcome.Begun.{Begun}
use Rattle.steps_program.proofs.program.begin_posted.Goals as goal

pub returns-in-Going-clause-begins : goal.returns-in-Going-clause-begins
returns-in-Going-clause-begins g c =
    subst (λ (t : Begun). IsBegin c.args.kernel.now.machine t c.begin.new.self.machine) c.in-Going.is c.begin.ensures.begin
