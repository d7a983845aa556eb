use Rattle.std.proofs.Common.{◌≡◌, ◌≤◌, ℕ, List, Option, Some, ap, arith, rules, sym, subst, ◌∙◌}
use Rattle.std.proofs.lemmas.List.{with_items_is, places}
use mathlib.Core.Logic.{∥∥₁_map}
use Rattle.kernel_audit.specs.Minutes.{Entry, ended_in}
use Rattle.kernel_audit.specs.Notes.{wished_in}
use Rattle.kernel_audit.specs.Wishes.{WishOf}
use Rattle.kernel_audit.proofs.Course.{came_on}
use Rattle.hall_state.specs.OpenResults.{AreSettled}
use Rattle.hall_state.specs.PendingResults.{AreBeside, AreKept}
use Rattle.hall_state.specs.declared.pending_result.PendingResult.{PendingResult}
use Rattle.hall_state.specs.declared.open_result.OpenResult.{OpenResult}
use Rattle.hall_state.proofs.Turns.{just_ended, wrote_none}
use Rattle.hall_state.proofs.BesidePosts.{one_is_open, all_settled, last_index, beside_opened, results_opened, order_from}
use Rattle.hall_state.proofs.BesidePosts.{kept_then, opens_kept, untold_through}
use Rattle.hall_state.proofs.state.State.turn.Goals as goal

pub open_last-opened-requires : goal.open_last-opened-requires
open_last-opened-requires g c =
    let old = c.args.self.now in
    let f = c.finish.new.self in
    let m = c.noted_turn_on-turn.new.kernel.machine in
    let before = f.kernel.machine.minutes in
    let wished = wished_in f.notes in
    let es = c.deref_mut.result.now in
    let ended = just_ended _ before m (sym c.is_end.ensures ∙ c.if-is_end.true) c.noted_turn_on-turn.ensures.ends in
    let all : ended_in before ≡ f.settled = all_settled f.settled f.kernel.machine wished f.under_way c.finish.ensures.all f.results in
    let b : ∥ AreBeside (ended_in before) before wished es ∥₁ =
    subst (λ (l : List PendingResult). ∥ AreBeside (ended_in before) before wished l ∥₁) (sym c.deref_mut.ensures.value)
    (subst (λ (k : ℕ). ∥ AreBeside k before wished f.pending_results.items ∥₁) (sym all) f.beside) in
    (before, wished, ended, b, one_is_open before m c.show_legal-then-is_end.ensures ended)

pub invariant_of-self : goal.invariant_of-self
invariant_of-self g c =
    let old = c.args.self.now in
    let f = c.finish.new.self in
    let m = c.noted_turn_on-turn.new.kernel.machine in
    let before = f.kernel.machine.minutes in
    let wished = wished_in c.note_turn.new.notes in
    let es = c.deref_mut.result.now in
    let ended = just_ended _ before m (sym c.is_end.ensures ∙ c.if-is_end.true) c.noted_turn_on-turn.ensures.ends in
    let all : ended_in before ≡ f.settled = all_settled f.settled f.kernel.machine (wished_in f.notes) f.under_way c.finish.ensures.all f.results in
    let b : ∥ AreBeside (ended_in before) before wished es ∥₁ =
    subst (λ (l : List PendingResult). ∥ AreBeside (ended_in before) before wished l ∥₁) (sym c.deref_mut.ensures.value)
    (subst (λ (k : ℕ). ∥ AreBeside k before wished f.pending_results.items ∥₁) (sym all)
    (subst (λ (w : List (List WishOf)). ∥ AreBeside f.settled before w f.pending_results.items ∥₁) (sym c.note_turn.ensures.wishes) f.beside)) in
    let next = c.open_last-opened.new.pending_results in
    let r = c.open_last-opened.result in
    let s = c.open_last-opened.ensures in
    let legal = c.show_legal-then-is_end.ensures in
    record {
      counted = f.counted ∙ sym c.noted_turn_on-turn.ensures.posts;
      told = c.follow.ensures;
      closes = c.note_turn.ensures.shut ∙ f.closes ∙ sym c.noted_turn_on-turn.ensures.closing;
      open_comms = c.note_turn.ensures.comms ∙ f.open_comms;
      course = came_on f.notes c.note_turn.new.notes c.noted_turn_on-turn.result.1 f.kernel.machine m c.note_turn.ensures.noted f.course
          c.noted_turn_on-turn.ensures.goes;
      beside = subst (λ (l : List PendingResult). ∥ AreBeside f.settled m.minutes wished l ∥₁)
          (sym (with_items_is f.pending_results next (search (rules, places))))
          (subst (λ (k : ℕ). ∥ AreBeside k m.minutes wished next ∥₁) all (∥∥₁_map b (λ a. beside_opened before wished es next m r ended a s)));
      results = subst (λ (k : ℕ). ∥ AreSettled k m wished (Some r) ∥₁) all
          (∥∥₁_map b (λ a. results_opened before wished es next m r legal ended a s));
    }

-- where no job ended no more was written down, and the turn is noted
pub invariant_of-self-else-is_end : goal.invariant_of-self-else-is_end
invariant_of-self-else-is_end g c =
    let f = c.finish.new.self in
    let m = c.noted_turn_on-turn.new.kernel.machine in
    let before = f.kernel.machine.minutes in
    let wished = wished_in c.note_turn.new.notes in
    let same : m.minutes ≡ before = wrote_none _ before m (sym c.is_end.ensures ∙ c.if-is_end.false) c.noted_turn_on-turn.ensures.ends in
    let all : ended_in before ≡ f.settled = all_settled f.settled f.kernel.machine (wished_in f.notes) f.under_way c.finish.ensures.all f.results in
    record {
      counted = f.counted ∙ sym c.noted_turn_on-turn.ensures.posts;
      told = f.told ∙ sym same;
      closes = c.note_turn.ensures.shut ∙ f.closes ∙ sym c.noted_turn_on-turn.ensures.closing;
      open_comms = c.note_turn.ensures.comms ∙ f.open_comms;
      course = came_on f.notes c.note_turn.new.notes c.noted_turn_on-turn.result.1 f.kernel.machine m c.note_turn.ensures.noted f.course
          c.noted_turn_on-turn.ensures.goes;
      beside = subst (λ (w : List (List WishOf)). ∥ AreBeside f.settled m.minutes w f.pending_results.items ∥₁) (sym c.note_turn.ensures.wishes)
          (subst (λ (l : List Entry). ∥ AreBeside f.settled l (wished_in f.notes) f.pending_results.items ∥₁) (sym same) f.beside);
      results = subst (λ (o : Option OpenResult). ∥ AreSettled f.settled m wished o ∥₁) (sym c.finish.ensures.all) ∣ ap ended_in same ∙ all ∣₁;
    }

pub returns-then-is_end-clause-kept : goal.returns-then-is_end-clause-kept
returns-then-is_end-clause-kept g c =
    let old = c.args.self.now in
    let f = c.finish.new.self in
    let m = c.noted_turn_on-turn.new.kernel.machine in
    let before = f.kernel.machine.minutes in
    let wished = wished_in f.notes in
    let es = c.deref_mut.result.now in
    let ended = just_ended _ before m (sym c.is_end.ensures ∙ c.if-is_end.true) c.noted_turn_on-turn.ensures.ends in
    let all : ended_in before ≡ f.settled = all_settled f.settled f.kernel.machine wished f.under_way c.finish.ensures.all f.results in
    let next = c.open_last-opened.new.pending_results in
    let r = c.open_last-opened.result in
    let s = c.open_last-opened.ensures in
    let index : r.index ≡ f.settled = last_index before m r.index s.outcome s.count s.node ended s.last ∙ all in
    let stays : AreKept f.settled f.pending_results.items c.make-more.new.self.pending_results.items =
    kept_then f.settled f.settled f.pending_results.items _ c.make-more.new.self.pending_results.items (omega arith)
    (subst (λ (l : List PendingResult). AreKept f.settled f.pending_results.items l)
    (sym (with_items_is f.pending_results next (search (rules, places))))
    (subst (λ (l : List PendingResult). AreKept f.settled l next) c.deref_mut.ensures.value (opens_kept f.settled m es next r index s)))
    c.make-more.ensures.kept in
    let more : old.settled ≤ ended_in old.kernel.machine.minutes =
    order_from old.settled old.kernel.machine.minutes (wished_in old.notes) old.pending_results.items old.beside in
    let same : ended_in before ≡ ended_in old.kernel.machine.minutes = ap (λ k. ended_in k.machine.minutes) c.finish.ensures.kernel in
    kept_then old.settled f.settled old.pending_results.items f.pending_results.items c.make-more.new.self.pending_results.items
    (omega (arith, more, same, all))
    c.finish.ensures.kept stays

pub returns-then-is_end-clause-untold : goal.returns-then-is_end-clause-untold
returns-then-is_end-clause-untold g c =
    let old = c.args.self.now in
    let f = c.finish.new.self in
    let m = c.noted_turn_on-turn.new.kernel.machine in
    let before = f.kernel.machine.minutes in
    let wished = wished_in f.notes in
    let es = c.deref_mut.result.now in
    let ended = just_ended _ before m (sym c.is_end.ensures ∙ c.if-is_end.true) c.noted_turn_on-turn.ensures.ends in
    let all : ended_in before ≡ f.settled = all_settled f.settled f.kernel.machine wished f.under_way c.finish.ensures.all f.results in
    let next = c.open_last-opened.new.pending_results in
    let r = c.open_last-opened.result in
    let s = c.open_last-opened.ensures in
    let index : r.index ≡ f.settled = last_index before m r.index s.outcome s.count s.node ended s.last ∙ all in
    let stays : AreKept f.settled f.pending_results.items c.make-more.new.self.pending_results.items =
    kept_then f.settled f.settled f.pending_results.items _ c.make-more.new.self.pending_results.items (omega arith)
    (subst (λ (l : List PendingResult). AreKept f.settled f.pending_results.items l)
    (sym (with_items_is f.pending_results next (search (rules, places))))
    (subst (λ (l : List PendingResult). AreKept f.settled l next) c.deref_mut.ensures.value (opens_kept f.settled m es next r index s)))
    c.make-more.ensures.kept in
    untold_through old.settled f.settled c.make-more.new.self.settled f.pending_results.items c.make-more.new.self.pending_results.items
    c.finish.ensures.untold stays c.make-more.ensures.untold
