use Rattle.std.proofs.Common.{◌<◌, length, arith}
use Rattle.steps_walk.proofs.Levels.{body_there}
use Rattle.steps_walk.proofs.walk.Walk.body_of.Goals as goal

pub returns-then-index-number-clause-some : goal.returns-then-index-number-clause-some
returns-then-index-number-clause-some g c =
    let test = c.loop-k-test.true in
    let all = c.len-k-end.ensures in
    let within : c.loop-k.k < length c.args.self.now.met.items = omega (arith, test, all) in
    body_there c.args.self.now c.args.number c.loop-k.k c.index.result.now c.index.ensures within c.if-index-number.true
