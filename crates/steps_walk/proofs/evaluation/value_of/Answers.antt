use Rattle.steps_walk.specs.Walk.{slots_in}
use Rattle.steps_walk.proofs.Values.{no_value}
use Rattle.steps_walk.proofs.evaluation.value_of.Goals as goal

pub returns-in-None : goal.returns-in-None
returns-in-None g c = λ names h. no_value (slots_in c.args.walk.now) names c.args.name.now c.in-Some.slot (c.in-Some.ensures names h) c.in-None.ensures.none
