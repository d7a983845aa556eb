use Rattle.std.proofs.Common.{subst}
use Rattle.steps_walk.specs.Standing.{IsCodeAt}
use Rattle.steps_walk.proofs.walk.Walk.sight_here.Goals as goal

pub returns-clause-is : goal.returns-clause-is
returns-clause-is g c =
    let level = c.in_ok-level.level in
    record {
      level = level;
      here = c.in_ok-level.ensures.here c.open_calls.ensures;
      code = subst (λ i. IsCodeAt c.args.self.now i level.body) c.open_calls.ensures c.in_ok-level.ensures.code;
      of = c.in_ok-sight.ensures.is;
    }
