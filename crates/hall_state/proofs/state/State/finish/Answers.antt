use Rattle.std.proofs.Common.{List, rules, sym, subst, ◌∙◌}
use Rattle.std.proofs.lemmas.List.{with_items_is, places}
use Rattle.kernel_audit.specs.Notes.{wished_in}
use Rattle.hall_state.specs.OpenResults.{IsOpen}
use Rattle.hall_state.specs.PendingResults.{AreBeside, AreKept, AreUntold}
use Rattle.hall_state.specs.declared.open_result.OpenResult.{OpenResult}
use Rattle.hall_state.specs.declared.pending_result.PendingResult.{PendingResult}
use Rattle.hall_state.proofs.BesidePosts.{open_is, goes_on, stands_there, beside_then, results_then, kept_then_too, untold_then}
use Rattle.hall_state.proofs.state.State.finish.Goals as goal

pub settle_last-spent-requires-clause-there : goal.settle_last-spent-requires-clause-there
settle_last-spent-requires-clause-there g c =
    let old = c.args.self.now in
    let m = old.kernel.machine in
    let wished = wished_in old.notes in
    let es = c.deref_mut.result.now in
    let r : OpenResult = c.finish.new.self in
    let h : ∥ IsOpen old.settled m wished r ∥₁ =
    goes_on old.settled m wished c.finish.new.self c.in-Some.made c.finish.ensures.goes
    (open_is old.settled m wished c.in-Some.made old.under_way (sym c.take.ensures.value ∙ c.in-Some.is) old.results) in
    let b : ∥ AreBeside old.settled m.minutes wished es ∥₁ =
    subst (λ (l : List PendingResult). ∥ AreBeside old.settled m.minutes wished l ∥₁) (sym c.deref_mut.ensures.value) old.beside in
    stands_there old.settled m wished r es c.show_legal.ensures b h

pub invariant_of-self : goal.invariant_of-self
invariant_of-self g c =
    let old = c.args.self.now in
    let m = old.kernel.machine in
    let wished = wished_in old.notes in
    let es = c.deref_mut.result.now in
    let r : OpenResult = c.finish.new.self in
    let h : ∥ IsOpen old.settled m wished r ∥₁ =
    goes_on old.settled m wished c.finish.new.self c.in-Some.made c.finish.ensures.goes
    (open_is old.settled m wished c.in-Some.made old.under_way (sym c.take.ensures.value ∙ c.in-Some.is) old.results) in
    let b : ∥ AreBeside old.settled m.minutes wished es ∥₁ =
    subst (λ (l : List PendingResult). ∥ AreBeside old.settled m.minutes wished l ∥₁) (sym c.deref_mut.ensures.value) old.beside in
    let next = c.settle_last-spent.new.pending_results in
    record {
      counted = old.counted;
      told = old.told;
      closes = old.closes;
      open_comms = old.open_comms;
      course = old.course;
      beside = subst (λ (l : List PendingResult). ∥ AreBeside r.number m.minutes wished l ∥₁)
          (sym (with_items_is old.pending_results next (search (rules, places))))
          (beside_then old.settled m wished r es next c.settle_last-spent.ensures b h);
      results = results_then old.settled m wished r es next c.settle_last-spent.ensures c.take.new.self c.take.ensures.after h;
    }

pub returns-in-Some-clause-kept : goal.returns-in-Some-clause-kept
returns-in-Some-clause-kept g c =
    let old = c.args.self.now in
    let m = old.kernel.machine in
    let wished = wished_in old.notes in
    let es = c.deref_mut.result.now in
    let r : OpenResult = c.finish.new.self in
    let h : ∥ IsOpen old.settled m wished r ∥₁ =
    goes_on old.settled m wished c.finish.new.self c.in-Some.made c.finish.ensures.goes
    (open_is old.settled m wished c.in-Some.made old.under_way (sym c.take.ensures.value ∙ c.in-Some.is) old.results) in
    let b : ∥ AreBeside old.settled m.minutes wished es ∥₁ =
    subst (λ (l : List PendingResult). ∥ AreBeside old.settled m.minutes wished l ∥₁) (sym c.deref_mut.ensures.value) old.beside in
    let next = c.settle_last-spent.new.pending_results in
    subst (λ (l : List PendingResult). AreKept old.settled old.pending_results.items l)
    (sym (with_items_is old.pending_results next (search (rules, places))))
    (subst (λ (l : List PendingResult). AreKept old.settled l next) c.deref_mut.ensures.value
    (kept_then_too old.settled m wished r es next c.settle_last-spent.ensures h))

pub returns-in-Some-clause-untold : goal.returns-in-Some-clause-untold
returns-in-Some-clause-untold g c =
    let old = c.args.self.now in
    let m = old.kernel.machine in
    let wished = wished_in old.notes in
    let es = c.deref_mut.result.now in
    let r : OpenResult = c.finish.new.self in
    let h : ∥ IsOpen old.settled m wished r ∥₁ =
    goes_on old.settled m wished c.finish.new.self c.in-Some.made c.finish.ensures.goes
    (open_is old.settled m wished c.in-Some.made old.under_way (sym c.take.ensures.value ∙ c.in-Some.is) old.results) in
    let b : ∥ AreBeside old.settled m.minutes wished es ∥₁ =
    subst (λ (l : List PendingResult). ∥ AreBeside old.settled m.minutes wished l ∥₁) (sym c.deref_mut.ensures.value) old.beside in
    let next = c.settle_last-spent.new.pending_results in
    subst (λ (l : List PendingResult). AreUntold old.settled r.number l)
    (sym (with_items_is old.pending_results next (search (rules, places))))
    (untold_then old.settled m wished r es next c.settle_last-spent.ensures h)
