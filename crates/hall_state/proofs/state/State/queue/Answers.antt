use Rattle.std.proofs.Common.{◌≡◌, ◌≤◌, List, refl, ap, ◌∙◌, sym, subst, arith, length, ◌++◌, ◌∷◌, []}
use mathlib.Core.Logic.{∥∥₁_map}
use Rattle.kernel_audit.specs.Request.{request_of}
use Rattle.kernel_audit.specs.Minutes.{Entry, Posted, posted_in, ended_in}
use Rattle.kernel_audit.specs.Runs.{Machine, posted}
use Rattle.kernel_audit.specs.Wishes.{WishOf}
use Rattle.kernel_audit.specs.Notes.{wished_in}
use Rattle.kernel_audit.specs.declared.note.Note.TheVariants.{Posted as NotePosted}
use Rattle.kernel_audit.proofs.InOrder.{no_more_end}
use Rattle.kernel_audit.proofs.Course.{came_on}
use Rattle.hall_state.specs.OpenResults.{AreSettled}
use Rattle.hall_state.specs.PendingResults.{IsWaiting, AreBeside}
use Rattle.hall_state.specs.declared.pending_result.PendingResult.{PendingResult}
use Rattle.hall_state.proofs.Posts.{one_more}
use Rattle.hall_state.proofs.BesidePosts.{beside_posted, results_posted, many_wishes}
use Rattle.hall_state.proofs.state.State.queue.Goals as goal

pub invariant_of-self-2 : goal.invariant_of-self-2
invariant_of-self-2 g c =
    let old = c.args.self.now in
    let is = c.in_ok-number.ensures.post.2 in
    let more : posted_in c.post.new.self.machine.minutes ≡ _ =
    ap (λ (m : Machine). posted_in m.minutes) is ∙ one_more old.kernel.machine c.lane.result (request_of c.args.job) in
    let items = c.push_reserved.ensures.items ∙ ap (λ es. es ++ c.new.result ∷ []) c.reserve.ensures.items in
    let next : Machine = posted old.kernel.machine c.lane.result (request_of c.args.job) in
    let entry : List Entry = Posted c.lane.result (request_of c.args.job) ∷ [] in
    let wished = wished_in c.note_wishes-wishes.new.notes in
    let low : ended_in old.kernel.machine.minutes ≤ length (wished_in old.notes) =
    omega (
      arith,
      no_more_end old.kernel.machine c.show_legal.ensures.minutes,
      many_wishes old.settled old.kernel.machine.minutes (wished_in old.notes)
          old.pending_results.items old.beside,
    ) in
    let own = subst (λ (w : List WishOf). IsWaiting w c.new.result) (ap (λ v. v.items) c.note_wishes-wishes.ensures.wishes) c.new.ensures in
    record {
      counted = omega arith;
      told = c.follow.ensures;
      closes = c.note_wishes-wishes.ensures.shut ∙ old.closes ∙ sym (ap (λ (m : Machine). m.closing) is);
      open_comms = c.note_wishes-wishes.ensures.comms ∙ old.open_comms;
      course = came_on old.notes c.note_wishes-wishes.new.notes (NotePosted c.taken.result) old.kernel.machine c.post.new.self.machine
          c.note_wishes-wishes.ensures.last old.course
          (c.lane.result, request_of c.args.job, c.in_ok-number.number, c.in_ok-number.ensures.post);
      beside = ∥∥₁_map old.beside (λ a.
          subst (λ (l : List Entry). AreBeside old.settled l (wished_in c.note_wishes-wishes.new.notes) c.push_reserved.new.self.items)
          (sym (ap (λ (m : Machine). m.minutes) is))
          (subst (λ (w : List (List WishOf)). AreBeside old.settled next.minutes w c.push_reserved.new.self.items) (sym c.note_wishes-wishes.ensures.noted)
          (subst (λ (es : List PendingResult). AreBeside old.settled next.minutes (wished_in old.notes ++ c.taken.result.items ∷ []) es) (sym items)
          (beside_posted old.settled old.kernel.machine.minutes (wished_in old.notes) old.pending_results.items c.lane.result (request_of c.args.job)
          c.taken.result.items
          c.new.result (no_more_end old.kernel.machine c.show_legal.ensures.minutes) own a))));
      results = ∥∥₁_map old.results (λ a.
          subst (λ (w : List (List WishOf)). AreSettled old.settled c.post.new.self.machine w old.under_way) (sym c.note_wishes-wishes.ensures.noted)
          (results_posted old.settled old.kernel.machine c.post.new.self.machine (wished_in old.notes) c.taken.result.items entry old.under_way
          (ap (λ (m : Machine). m.minutes) is) refl (ap (λ (m : Machine). m.state) is) low a));
    }

pub returns-clause-pending_result : goal.returns-clause-pending_result
returns-clause-pending_result g c =
    let e = c.new.result in
    let given = ap (λ v. v.items) (c.note_wishes-wishes.ensures.wishes ∙ c.taken.ensures) in (
      e,
      subst (λ (w : List WishOf). IsWaiting w e) given c.new.ensures,
      c.push_reserved.ensures.items ∙ ap (λ es. es ++ e ∷ []) c.reserve.ensures.items,
    )

pub returns-clause-serves : goal.returns-clause-serves
returns-clause-serves g c = c.in_ok-number.ensures.post.0.serves
