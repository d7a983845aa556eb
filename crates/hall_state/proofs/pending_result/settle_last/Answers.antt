use Rattle.hall_state.proofs.PendingResults.{settles}
use Rattle.hall_state.proofs.pending_result.settle_last.Goals as goal

pub returns : goal.returns
returns c =
    let s = c.settle.ensures in
    settles c.args.pending_results.now c.index-pending_results-index.result c.settle.new.self c.args.made c.values-values.result.0
    c.requires.there s.ended s.untold
    s.shown s.values c.values-values.ensures
