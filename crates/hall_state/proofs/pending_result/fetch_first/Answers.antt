use Rattle.hall_state.proofs.PendingResults.{is_endless}
use Rattle.hall_state.proofs.pending_result.fetch_first.Goals as goal

pub returns-clause-unended : goal.returns-clause-unended
returns-clause-unended g c =
    is_endless c.args.kernel.now.machine.minutes c.args.pending_results.now c.args.number c.fetch.result c.fetch.ensures.unended
