use Rattle.std.proofs.Common.{arith}
use Rattle.steps_walk.proofs.walk.Walk.has_same_locals.Goals as goal

pub returns : goal.returns
returns g c = λ same.
    let many = c.len.ensures.many in
    let inside = c.if-level-len.false in
    (c.in-Some.table.now, c.in-Some.ensures.some, omega (arith, many, inside), c.has_same_locals.ensures.0 same)
