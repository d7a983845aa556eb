use Rattle.steps_walk.proofs.InSight.{local, few_locals, under_locals}
use Rattle.steps_walk.proofs.sight.Sight.slot.Goals as goal

pub returns-in_default : goal.returns-in_default
returns-in_default c = λ g h. under_locals c.args.self.now c.args.name.now g h c.slot.result c.in_default.ensures.slot c.slot.ensures

pub returns-then-below-base : goal.returns-then-below-base
returns-then-below-base c = λ g h.
    absurd
    (few_locals c.args.self.now c.args.name.now g h c.in-Some.below c.len-base.result c.in-Some.ensures.slot c.len-base.ensures c.if-below-base.true)

pub returns : goal.returns
returns c = λ g h. local c.args.self.now c.args.name.now g h c.in-Some.below c.len-base.result c.in-Some.ensures.slot c.len-base.ensures
