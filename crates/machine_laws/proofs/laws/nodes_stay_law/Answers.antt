use Rattle.machine_laws.proofs.OverTime.{nodes_stay, same_node_same_world}
use Rattle.machine_laws.proofs.laws.nodes_stay_law.Goals as goal

pub returns : goal.returns
returns c = record { stay = nodes_stay; same = same_node_same_world }
