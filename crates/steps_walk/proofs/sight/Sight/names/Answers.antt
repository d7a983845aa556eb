use Rattle.std.proofs.Common.{map}
use Rattle.steps_walk.proofs.InSight.{listed}
use Rattle.steps_walk.proofs.sight.Sight.names.Goals as goal

pub returns : goal.returns
returns c = λ g h.
    listed c.args.self.now g h (map (λ b. b.now) c.in_ok-names.names.items) _ (c.in_ok-names.ensures.open h.locals h.there) c.in_ok-add.ensures
