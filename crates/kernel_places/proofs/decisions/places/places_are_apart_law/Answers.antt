use Rattle.kernel_places.proofs.Apart.{apart, there}
use Rattle.kernel_places.proofs.decisions.places.places_are_apart_law.Goals as goal

pub returns-clause-apart : goal.returns-clause-apart
returns-clause-apart c = apart

pub returns-clause-there : goal.returns-clause-there
returns-clause-there c = there
