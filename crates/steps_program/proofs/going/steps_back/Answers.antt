use Rattle.std.proofs.Common.{ap, ◌∙◌}
use Rattle.steps_program.specs.Counted.{came_back}
use Rattle.steps_program.proofs.going.steps_back.Goals as goal

pub returns-clause-goes : goal.returns-clause-goes
returns-clause-goes g c = record {
  back = record { moves = c.back.ensures.moves; goes = c.back.ensures.goes; counted = c.back.ensures.counted };
  led = c.came_back.ensures ∙ ap came_back c.count.ensures;
}
