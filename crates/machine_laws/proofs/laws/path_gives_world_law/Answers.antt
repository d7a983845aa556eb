use Rattle.machine_laws.proofs.Paths.{path_gives_world}
use Rattle.machine_laws.proofs.laws.path_gives_world_law.Goals as goal

pub returns : goal.returns
returns c = path_gives_world
