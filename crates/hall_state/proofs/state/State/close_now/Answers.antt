use Rattle.std.proofs.Common.{◌≡◌, ◌∙◌, List, ap, sym, subst, rules}
use mathlib.Core.Logic.{∥∥₁_map}
use Rattle.kernel_audit.specs.Minutes.{Entry}
use Rattle.kernel_audit.specs.Notes.{wished_in, has_shutdown, comms_in}
use Rattle.kernel_audit.specs.Runs.{Machine}
use Rattle.kernel_audit.specs.Wishes.{WishOf}
use Rattle.kernel_audit.specs.declared.note.Note.TheVariants.{Shut}
use Rattle.kernel_audit.proofs.Course.{came_on}
use Rattle.hall_state.specs.OpenResults.{AreSettled}
use Rattle.hall_state.specs.PendingResults.{AreBeside}
use Rattle.hall_state.proofs.BesidePosts.{results_shut}
use Rattle.hall_state.proofs.state.State.close_now.Goals as goal

pub invariant_of-self : goal.invariant_of-self
invariant_of-self g c =
    let old = c.args.self.now in
    let m = old.kernel.machine in
    let next = c.shut.new.self.machine in
    let minutes : next.minutes ≡ m.minutes = ap (λ (k : Machine). k.minutes) c.shut.ensures.shut in
    let state : next.state ≡ m.state = ap (λ (k : Machine). k.state) c.shut.ensures.shut in
    let kept = c.front.ensures.keeper in
    let noted : wished_in c.front.new.self ≡ wished_in old.notes = ap wished_in kept ∙ c.note_shutdown.ensures.noted in
    record {
      counted = search rules;
      told = search rules;
      closes = ap has_shutdown kept ∙ c.note_shutdown.ensures.shut ∙ sym (ap (λ (k : Machine). k.closing) c.shut.ensures.shut);
      open_comms = ap comms_in kept ∙ c.note_shutdown.ensures.comms ∙ old.open_comms;
      course = came_on old.notes c.front.new.self Shut m next (kept ∙ c.note_shutdown.ensures.last) old.course c.shut.ensures.shut;
      beside = subst (λ (w : List (List WishOf)). ∥ AreBeside old.settled next.minutes w old.pending_results.items ∥₁) (sym noted)
          (subst (λ (l : List Entry). ∥ AreBeside old.settled l (wished_in old.notes) old.pending_results.items ∥₁) (sym minutes) old.beside);
      results = subst (λ (w : List (List WishOf)). ∥ AreSettled old.settled next w old.under_way ∥₁) (sym noted)
          (∥∥₁_map old.results (λ h. results_shut old.settled m next (wished_in old.notes) old.under_way minutes state h));
    }
