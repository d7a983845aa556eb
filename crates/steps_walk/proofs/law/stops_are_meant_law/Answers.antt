use Rattle.steps_walk.proofs.Stops.{stops_are_meant}
use Rattle.steps_walk.proofs.law.stops_are_meant_law.Goals as goal

pub returns : goal.returns
returns c = stops_are_meant
