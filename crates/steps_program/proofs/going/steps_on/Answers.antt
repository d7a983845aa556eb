use Rattle.steps_program.proofs.going.steps_on.Goals as goal

pub returns-clause-goes : goal.returns-clause-goes
returns-clause-goes g c = record {
  moves = c.on-told.ensures.moves;
  told = c.on-told.result;
  runs = c.on-told.ensures.runs;
  led = c.came_by.ensures;
  counted = c.on-told.ensures.counted;
}
