use Rattle.steps_walk.proofs.Entering.{entered}
use Rattle.steps_program.proofs.Entering.{stands_inside}
use Rattle.steps_program.proofs.program.taken_out.Goals as goal

pub of-requires : goal.of-requires
of-requires g c = entered _ _ c.in-Some.ensures c.legal_law.ensures.legal

pub returns-in-Ok-clause-stands : goal.returns-in-Ok-clause-stands
returns-in-Ok-clause-stands g c =
    stands_inside c.args.kernel.machine c.in-Some.open c.in-Ok.walk c.in-Ok.ensures.runner c.in-Ok.ensures.program c.in-Ok.ensures.tree c.in-Some.ensures
