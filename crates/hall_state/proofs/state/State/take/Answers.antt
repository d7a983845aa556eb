use Rattle.std.proofs.Common.{◌≡◌, List, IfNone, true, false, rules, sym, subst}
use Rattle.std.proofs.lemmas.List.{with_items_is, places}
use Rattle.kernel_audit.specs.Notes.{wished_in}
use Rattle.hall_state.specs.PendingResults.{AreBeside, WasTold}
use Rattle.hall_state.specs.declared.pending_result.PendingResult.{PendingResult}
use Rattle.hall_state.proofs.BesidePosts.{beside_on, first_made, once_told, first_told, nowhere, nowhere_settled}
use Rattle.hall_state.proofs.state.State.take.Goals as goal

pub invariant_of-self : goal.invariant_of-self
invariant_of-self g c =
    let old = c.args.self.now in
    let m = old.kernel.machine in
    let wished = wished_in old.notes in
    let b = subst (λ (l : List PendingResult). ∥ AreBeside old.settled m.minutes wished l ∥₁) (sym c.deref_mut.ensures.value) old.beside in
    let fetched = c.fetch_first.ensures in
    record {
      counted = old.counted;
      told = old.told;
      closes = old.closes;
      open_comms = old.open_comms;
      course = old.course;
      beside = subst (λ (l : List PendingResult). ∥ AreBeside old.settled m.minutes wished l ∥₁)
          (sym (with_items_is old.pending_results c.fetch_first.new.pending_results (search (rules, places))))
          (beside_on old.settled m.minutes wished c.deref_mut.result.now c.fetch_first.new.pending_results c.args.number c.fetch_first.result b
          fetched.told fetched.none);
      results = old.results;
    }

pub invariant_of-self-else-is_first : goal.invariant_of-self-else-is_first
invariant_of-self-else-is_first g c =
    let old = c.args.self.now in
    let m = old.kernel.machine in
    let wished = wished_in old.notes in
    let b = subst (λ (l : List PendingResult). ∥ AreBeside old.settled m.minutes wished l ∥₁) (sym c.deref_mut-else-is_first.ensures.value) old.beside in
    let fetched = c.fetch.ensures in
    record {
      counted = old.counted;
      told = old.told;
      closes = old.closes;
      open_comms = old.open_comms;
      course = old.course;
      beside = subst (λ (l : List PendingResult). ∥ AreBeside old.settled m.minutes wished l ∥₁)
          (sym (with_items_is old.pending_results c.fetch.new.pending_results (search (rules, places))))
          (beside_on old.settled m.minutes wished c.deref_mut-else-is_first.result.now c.fetch.new.pending_results c.args.number c.fetch.result b
          fetched.told fetched.none);
      results = old.results;
    }

pub returns-then-is_first-clause-made : goal.returns-then-is_first-clause-made
returns-then-is_first-clause-made g c =
    let old = c.args.self.now in
    let m = old.kernel.machine in
    let wished = wished_in old.notes in
    let b = subst (λ (l : List PendingResult). ∥ AreBeside old.settled m.minutes wished l ∥₁) (sym c.deref_mut.ensures.value) old.beside in
    first_made old.settled m.minutes wished c.deref_mut.result.now c.fetch_first.new.pending_results c.args.number c.fetch_first.result
    (c.args.is_first ≡ true) b
    c.fetch_first.ensures.untold c.fetch_first.ensures.told

pub returns-then-is_first-clause-once : goal.returns-then-is_first-clause-once
returns-then-is_first-clause-once g c =
    let old = c.args.self.now in
    let m = old.kernel.machine in
    let wished = wished_in old.notes in
    let b = subst (λ (l : List PendingResult). ∥ AreBeside old.settled m.minutes wished l ∥₁) (sym c.deref_mut.ensures.value) old.beside in
    once_told old.settled m.minutes wished c.deref_mut.result.now c.fetch_first.new.pending_results c.args.number c.fetch_first.result b
    c.fetch_first.ensures.told

pub returns-else-is_first-clause-once : goal.returns-else-is_first-clause-once
returns-else-is_first-clause-once g c =
    let old = c.args.self.now in
    let m = old.kernel.machine in
    let wished = wished_in old.notes in
    let b = subst (λ (l : List PendingResult). ∥ AreBeside old.settled m.minutes wished l ∥₁) (sym c.deref_mut-else-is_first.ensures.value) old.beside in
    once_told old.settled m.minutes wished c.deref_mut-else-is_first.result.now c.fetch.new.pending_results c.args.number c.fetch.result b
    c.fetch.ensures.told

pub returns-then-is_first-clause-first : goal.returns-then-is_first-clause-first
returns-then-is_first-clause-first g c =
    let old = c.args.self.now in
    let m = old.kernel.machine in
    let wished = wished_in old.notes in
    let b = subst (λ (l : List PendingResult). ∥ AreBeside old.settled m.minutes wished l ∥₁) (sym c.deref_mut.ensures.value) old.beside in
    subst (λ (l : List PendingResult). IfNone c.fetch_first.result (c.args.is_first ≡ true → WasTold old.settled l c.args.number)) c.deref_mut.ensures.value
    (first_told old.settled m.minutes wished c.deref_mut.result.now c.args.number c.fetch_first.result (c.args.is_first ≡ true) b
    c.fetch_first.ensures.unended)

pub returns-else-is_first-clause-unended : goal.returns-else-is_first-clause-unended
returns-else-is_first-clause-unended g c =
    let old = c.args.self.now in
    let m = old.kernel.machine in
    let wished = wished_in old.notes in
    let b = subst (λ (l : List PendingResult). ∥ AreBeside old.settled m.minutes wished l ∥₁) (sym c.deref_mut-else-is_first.ensures.value) old.beside in
    nowhere old.settled m wished c.deref_mut-else-is_first.result.now c.args.number c.fetch.result old.under_way (c.args.is_first ≡ false)
    c.show_legal.ensures b old.results c.fetch.ensures.unended

pub returns-else-is_first-clause-settled : goal.returns-else-is_first-clause-settled
returns-else-is_first-clause-settled g c =
    let old = c.args.self.now in
    let m = old.kernel.machine in
    let wished = wished_in old.notes in
    let b = subst (λ (l : List PendingResult). ∥ AreBeside old.settled m.minutes wished l ∥₁) (sym c.deref_mut-else-is_first.ensures.value) old.beside in
    nowhere_settled old.settled m wished c.deref_mut-else-is_first.result.now c.args.number c.fetch.result (c.args.is_first ≡ false)
    c.show_legal.ensures b c.fetch.ensures.unended
