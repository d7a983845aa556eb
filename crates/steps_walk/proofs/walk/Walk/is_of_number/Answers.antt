use Rattle.steps_walk.proofs.Levels.{body_there}
use Rattle.steps_walk.proofs.walk.Walk.is_of_number.Goals as goal

pub returns : goal.returns
returns g c = λ same.
    let w = c.args.self.now in
    let k = c.args.k in
    let b = c.in-Some.body.now in
    body_there w c.args.number k b (rw c.deref.ensures.value at c.in-Some.ensures.lookup.1) (rw c.deref.ensures.value at c.in-Some.ensures.lookup.3.0)
    c.if-body-number.false
