use Rattle.janus_check.proofs.FormedLemmas.{faults_are_exact}
use Rattle.janus_check.proofs.faults_are_exact_law.Goals as goal

pub returns : goal.returns
returns c = faults_are_exact
