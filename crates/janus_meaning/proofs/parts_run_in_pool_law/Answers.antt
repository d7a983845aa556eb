use Rattle.janus_meaning.proofs.Parts.{parts_run_in_pool, world_in_parts}
use Rattle.janus_meaning.proofs.parts_run_in_pool_law.Goals as goal

pub returns-clause-runs : goal.returns-clause-runs
returns-clause-runs c = parts_run_in_pool

pub returns-clause-worlds : goal.returns-clause-worlds
returns-clause-worlds c = world_in_parts
