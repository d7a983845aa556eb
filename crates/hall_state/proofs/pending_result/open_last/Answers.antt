use Rattle.std.proofs.Common.{◌<◌, List, length, refl, rules, subst}
use Rattle.kernel_audit.specs.Minutes.{Entry}
use Rattle.hall_state.specs.LastEnds.{IsLastEnd}
use Rattle.hall_state.proofs.PendingResults.{within, waits, stands, opens}
use Rattle.hall_state.proofs.pending_result.open_last.Goals as goal

pub returns : goal.returns
returns g c =
    let m = c.args.kernel.now.machine in
    let es = c.args.pending_results.now in
    let end = c.in-Some.end in
    let is = subst (λ (l : List Entry). IsLastEnd l end) c.minutes.ensures.entries c.in-Some.ensures.some in
    opens m es end c.index-pending_results-index.result c.take_out-making.new.self _ is (within m es end c.requires is) refl refl refl
    c.take_out-making.ensures.taken
    c.shown_after-shown.ensures (c.take_out-making.ensures.making m.state.past (stands m es end c.requires is))

pub offset_bounds-pending_results-index : goal.offset_bounds-pending_results-index
offset_bounds-pending_results-index g c =
    let m = c.args.kernel.now.machine in
    let es = c.args.pending_results.now in
    let end = c.in-Some.end in
    let is = subst (λ (l : List Entry). IsLastEnd l end) c.minutes.ensures.entries c.in-Some.ensures.some in
    let low : end.index < length es = within m es end c.requires is in
    search rules

pub bounds-pending_results-index : goal.bounds-pending_results-index
bounds-pending_results-index g c =
    let m = c.args.kernel.now.machine in
    let es = c.args.pending_results.now in
    let end = c.in-Some.end in
    let is = subst (λ (l : List Entry). IsLastEnd l end) c.minutes.ensures.entries c.in-Some.ensures.some in
    within m es end c.requires is

pub shown_after-shown-requires-clause-still : goal.shown_after-shown-requires-clause-still
shown_after-shown-requires-clause-still g c =
    let m = c.args.kernel.now.machine in
    let es = c.args.pending_results.now in
    let end = c.in-Some.end in
    let is = subst (λ (l : List Entry). IsLastEnd l end) c.minutes.ensures.entries c.in-Some.ensures.some in
    stands m es end c.requires is

pub take_out-making-requires-clause-empty : goal.take_out-making-requires-clause-empty
take_out-making-requires-clause-empty g c =
    let m = c.args.kernel.now.machine in
    let es = c.args.pending_results.now in
    let end = c.in-Some.end in
    let is = subst (λ (l : List Entry). IsLastEnd l end) c.minutes.ensures.entries c.in-Some.ensures.some in
    (waits m es end c.index-pending_results-index.result c.requires is).empty

pub take_out-making-requires-clause-room : goal.take_out-making-requires-clause-room
take_out-making-requires-clause-room g c =
    let m = c.args.kernel.now.machine in
    let es = c.args.pending_results.now in
    let end = c.in-Some.end in
    let is = subst (λ (l : List Entry). IsLastEnd l end) c.minutes.ensures.entries c.in-Some.ensures.some in
    (waits m es end c.index-pending_results-index.result c.requires is).room
