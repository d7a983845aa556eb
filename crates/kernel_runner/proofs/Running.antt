-- What a runner shows where it stands, at the end of its code, and where it turns round.
use Rattle.std.proofs.Common.{◌≡◌, ◌≢◌, inl, inr, ℕ, ◌+◌, ◌-◌, ◌<◌, ◌≤◌, Bool, ◌&&◌, true, false, not, List, [], ◌∷◌, refl, sym, ap, ◌∙◌, subst, length, arith}
use Rattle.std.proofs.lemmas.List.{reverse-reverse}
use Rattle.std.specs.Prelude.{reverse}
use Rattle.janus_meaning.specs.Fault.{StepLimit}
use Rattle.janus_meaning.specs.Syntax.{Name}
use Rattle.janus_meaning.specs.Store.{Store}
use Rattle.janus_meaning.specs.Stepping.{mirror}
use Rattle.janus_meaning.specs.Meaning.{Block, Part, Exec as BlockExec}
use Rattle.janus_meaning.specs.World.{World, stacks_in, size_of, oldest}
use Rattle.janus_meaning.specs.Cells.{around}
use Rattle.janus_meaning.specs.Limit.{step_limit}
use Rattle.janus_meaning.proofs.Worlds.{worlds_start_and_end}
use Rattle.janus_slots.specs.Slots.{names_in, in_slots, under_names, outside_in, procedures_in}
use Rattle.janus_slots.proofs.Whole.{names_size, size_same, twice_same, under_named}
use Rattle.janus_machine.specs.FrameCalls.{Caller, given_back}
use Rattle.janus_machine.specs.StoreState.{IsWhole, declared_store, shown_store}
use Rattle.janus_machine.specs.Open.{Agrees}
use Rattle.janus_machine.specs.Nested.{AreOpenCalls}
use Rattle.janus_machine.specs.Cursors.{place_of, has_ended, IsStanding}
use Rattle.janus_machine.specs.Cursor.{calls_of, are_no_calls}
use Rattle.janus_machine.specs.Counts.{steps_taken}
use Rattle.janus_machine.specs.Steps.{Refuses, SliceEndsBy}
use Rattle.janus_machine.specs.declared.machine.End as ends
use Rattle.janus_machine.specs.declared.machine.End.TheVariants as end
use Rattle.janus_machine.specs.declared.machine.Stepped.{Stepped}
use Rattle.janus_machine.specs.declared.machine.Stepped.TheVariants.{Went, Ended, Fault}
use Rattle.janus_machine.specs.Law.{seen_at}
use Rattle.janus_meaning.specs.Faults.{fault_of}
use Rattle.janus_meaning.specs.declared.fault.Fault as machine
use Rattle.janus_machine.specs.declared.linked_code.LinkedCode.{LinkedCode}
use Rattle.janus_machine.specs.declared.direction.Direction.{Direction}
use Rattle.janus_machine.specs.declared.cursor.Call.{Call}
use Rattle.janus_machine.specs.declared.cursor.Cursor.{Cursor}
use Rattle.janus_machine.specs.declared.procedures.Procedures.{Procedures}
use Rattle.janus_machine.proofs.Seen.{seen_is}
use Rattle.kernel_machine.specs.Language.{CodePart, CodeExec, CodeStop, run_block}
use Rattle.kernel_machine.specs.StepsOfSlices.{steps_on}
use Rattle.kernel_machine.specs.declared.progress.Progress.{Progress}
use Rattle.kernel_runner.specs.Runner.{Place, at_count, start_at, block_of, slots_of, world_inside, Stands, Comes, progress_at}
use Rattle.kernel_runner.specs.declared.program.Program.{Program}
use Rattle.kernel_runner.specs.declared.runner.Runner.{Runner}
use Rattle.kernel_runner.proofs.Going.{run_means, back_means, the_same, stops_at}
use Rattle.kernel_runner.proofs.Slotted.{shown_whole}
use Rattle.janus_meaning.proofs.Cleared.{same_size}
use Rattle.janus_meaning.proofs.Shapes.{keeps_shape}

-- ---- at an end no call is open

none_called : (cs : List Call) → are_no_calls cs ≡ true → reverse cs ≡ []
none_called [] e = refl
none_called (c ∷ cs) e = cc

second : (a b : Bool) → (a && b) ≡ true → b ≡ true
second true b e = e
second false b e = cc

no_callers : (t : Procedures) (b : LinkedCode) (d : Direction) (cs : List Call) (hs : List Caller) → cs ≡ [] → AreOpenCalls t b d cs hs → hs ≡ []
no_callers t b d [] [] e h = refl
no_callers t b d [] (x ∷ hs) e h = absurd h
no_callers t b d (c ∷ cs) hs e h = cc

module _ {L : Type 0} (runner : Runner L) (program : Program) (at : Place) where
  ended_callers : IsStanding runner.procedures program.book runner.cursor runner.counted.store → has_ended runner.cursor ≡ true →
      runner.counted.store.callers ≡ []
  ended_callers standing ended =
      no_callers runner.procedures program.book runner.cursor.direction (calls_of runner.cursor) runner.counted.store.callers
      (none_called runner.cursor.calls.items (second _ (are_no_calls runner.cursor.calls.items) ended)) standing.calls

  abbrev seen : Store
  seen = seen_at (procedures_in runner.entries (start_at at).procedures) runner.procedures program.book runner.cursor runner.counted.store

  -- the declared names, with what is seen at the cursor in their slots
  shown_at : (back : Bool) → Stands runner program at back → shown_store runner.counted.store ≡ under_names (names_in (start_at at).store)
      (oldest (size_of (start_at at).store) seen)
  shown_at back h =
      let size = size_of (start_at at).store in
      let declared : declared_store runner.counted.store ≡ oldest size seen =
      ap (λ (n : ℕ). oldest n (given_back runner.counted.store.slots runner.counted.store.callers)) h.declared
      ∙ ap (oldest size)
      (sym (seen_is (procedures_in runner.entries (start_at at).procedures) runner.procedures program.book runner.cursor runner.counted.store h.standing)) in
      ap (under_names (reverse runner.counted.store.texts)) declared
      ∙ ap (λ (g : List Name). under_names g (oldest size seen)) (ap reverse h.texts ∙ reverse-reverse (names_in (start_at at).store))

  -- the world shown is that after the counted steps
  part_at : (back : Bool) → Stands runner program at back →
      Part (outside_in runner.entries (around (start_at at))) (Block (block_of runner.entries (run_block at.code) (start_at at))) (slots_of (start_at at))
      at.count seen → CodePart at.code at.world at.count (world_inside at runner)
  unfolding CodePart
  part_at back h part =
      let by = (the_same runner program at back at.count h).shown seen part in
      record {
        limit = h.few;
        store = by.store;
        part = by.part;
        shown = ap (λ (s : Store). record { store = s; procedures = (start_at at).procedures }) (shown_at back h ∙ by.declared);
      }

  -- the store is the world after the counted steps
  pub stands_part : (back : Bool) → Stands runner program at back → CodePart at.code at.world at.count (world_inside at runner)
  stands_part false h = part_at false h (run_means runner program at h).part
  stands_part true h = part_at true h (back_means runner program at h).part

  -- At the end of the code the store has the slots of the world to which it has led.
  record EndsIn : Type 0 where
    store : Store
    ran : BlockExec (around (start_at at)) (Block (run_block at.code)) (start_at at).store at.count store
    slots : in_slots store ≡ runner.counted.store.slots
    names : names_in store ≡ names_in (start_at at).store

  ends_in : Stands runner program at false → has_ended runner.cursor ≡ true → EndsIn
  ends_in h ended =
      let same = the_same runner program at false at.count h in
      let run = (run_means runner program at h).ended ended in
      let g = names_in (start_at at).store in
      let end : Store = under_names g runner.counted.store.slots in
      let ran = same.ended runner.counted.store.slots run in
      let kept : in_slots end ≡ runner.counted.store.slots = same.kept runner.counted.store.slots run in
      let size : size_of end ≡ size_of (start_at at).store = same_size end (start_at at).store (keeps_shape _ _ _ _ _ ran) in
      let many : length g ≡ size_of runner.counted.store.slots = names_size (start_at at).store ∙ sym size ∙ sym (size_same end) ∙ ap size_of kept in
      record { store = end; ran = ran; slots = kept; names = under_named g runner.counted.store.slots many }

  pub whole_at_end : Stands runner program at false → has_ended runner.cursor ≡ true → IsWhole runner.counted.store
  whole_at_end h ended =
      let end = ends_in h ended in
      record {
        declared = h.declared ∙ sym (names_size (start_at at).store) ∙ ap length (sym end.names) ∙ names_size end.store ∙ sym (size_same end.store)
            ∙ ap size_of end.slots;
        callers = ended_callers h.standing ended;
        slots = ap in_slots (sym end.slots) ∙ twice_same end.store ∙ end.slots;
      }

  pub at_end : Stands runner program at false → has_ended runner.cursor ≡ true → CodeExec at.code at.world at.count (world_inside at runner)
  unfolding CodeExec
  at_end h ended =
      let end = ends_in h ended in
      let shows : shown_store runner.counted.store ≡ end.store =
      shown_whole runner.counted.store end.store (whole_at_end h ended) (record { slots = sym end.slots; texts = h.texts ∙ ap reverse (sym end.names) }) in
      record {
        limit = h.few;
        ran = subst (λ (s : Store). BlockExec (around (start_at at)) (Block (run_block at.code)) (start_at at).store at.count s) (sym shows) end.ran;
        procedures = refl;
      }

  -- code that is under way has no end within the counted steps
  pub not_ended : Stands runner program at false → has_ended runner.cursor ≡ false → (i : ℕ) (u : World) → CodeExec at.code at.world i u → at.count < i
  unfolding CodeExec CodePart
  not_ended h going i u e =
      let means = run_means runner program at h in
      let early : at.count ≤ i = (worlds_start_and_end (start_at at) (run_block at.code)).in_time i at.count u (world_inside at runner) e
      (stands_part false h) in
      let other : i ≢ at.count =
      λ (same : i ≡ at.count). means.going going (in_slots u.store)
      ((the_same runner program at false at.count h).ends u.store
      (subst (λ (x : ℕ). BlockExec (around (start_at at)) (Block (run_block at.code)) (start_at at).store x u.store) same e.ran)) in
      omega arith

  limit_met : Stands runner program at false → at.count ≡ step_limit → has_ended runner.cursor ≡ false → CodeStop at.code at.world at.count StepLimit
  unfolding CodeStop
  limit_met h limit going =
      let means = run_means runner program at h in
      let same = the_same runner program at false at.count h in
      let by = same.shown seen means.part in
      inr (
        limit,
        refl,
        elim by.part [
          | inl under_way ↦ (by.store, under_way)
          | inr done ↦ absurd (means.going going (in_slots by.store) (same.ends by.store done))
        ],
      )

  -- why the next step is refused
  pub refused_at : (f : machine.Fault) → Stands runner program at false → has_ended runner.cursor ≡ false →
      Refuses (procedures_in runner.entries (start_at at).procedures)
      (stacks_in (start_at at).store) runner.procedures program.book runner.cursor runner.counted.store
      f → CodeStop at.code at.world at.count (fault_of f)
  refused_at f h going refuses =
      elim refuses [
        | inl limited ↦ subst (λ (x : machine.Fault). CodeStop at.code at.world at.count (fault_of x)) (sym limited.1)
            (limit_met h (sym h.counted ∙ limited.0.all) going)
        | inr halted ↦
            let few = h.few in
            let other : at.count ≢ step_limit = λ (e : at.count ≡ step_limit). halted.0 (record { forward = h.turned; all = h.counted ∙ e }) in
            stops_at runner program at f h (omega arith) halted.1
      ]

  -- ---- turned round

  pub turned_round : (cursor : Cursor) → Stands runner program at false → IsStanding runner.procedures program.book cursor runner.counted.store →
      place_of runner.procedures program.book cursor runner.counted.store.callers ≡ mirror
      (place_of runner.procedures program.book runner.cursor runner.counted.store.callers) →
      ((k : ℕ) → Agrees k runner.procedures program.book runner.cursor runner.counted.store →
      Agrees k runner.procedures program.book cursor runner.counted.store) →
      (cursor.count ≡ runner.cursor.count) × (cursor.turned ≡ not runner.cursor.turned) →
      Stands {L = L} (record { counted = runner.counted; cursor = cursor; procedures = runner.procedures; entries = runner.entries }) program at true
  turned_round cursor h standing place agrees counts = record {
    cell = h.cell;
    good = h.good;
    few = h.few;
    counted = counts.0 ∙ h.counted;
    turned = counts.1 ∙ ap not h.turned;
    standing = standing;
    declared = h.declared;
    texts = h.texts;
    agrees = agrees _ h.agrees;
    ready = h.ready;
    listed = h.listed;
    defined = h.defined;
    faces = (run_means runner program at h).turned cursor place;
  }

-- where it began no local and no call is open
pub whole_at_start : {L : Type 0} (runner : Runner L) (program : Program) (at : Place) → at.count ≡ 0 → Stands runner program at true →
    IsWhole runner.counted.store
whole_at_start runner program at none h =
    let means = back_means runner program at h in
    let start : runner.counted.store.slots ≡ in_slots (start_at at).store = means.at_start none in
    record {
      declared = h.declared ∙ sym (size_same (start_at at).store) ∙ sym (ap size_of start);
      callers = ended_callers runner program at h.standing (means.begun.1 none);
      slots = ap in_slots start ∙ twice_same (start_at at).store ∙ sym start;
    }

-- it stands at a count by another name
pub stands_at : {L : Type 0} (runner : Runner L) (program : Program) (at : Place) (n k : ℕ) (back : Bool) → n ≡ k → Stands runner program (at_count n at) back →
    Stands runner program (at_count k at) back
stands_at runner program at n k back e h = subst (λ (x : ℕ). Stands runner program (at_count x at) back) e h

-- ---- by why a slice ends, after t steps of m

module _ {L : Type 0} (runner : Runner L) (program : Program) (at : Place) (t m : ℕ) (s : Stands runner program (at_count (at.count + t) at) false) where
  -- a slice that left the block
  pub run_ended : (n : ℕ) → t ≤ m → n ≡ runner.cursor.count → has_ended runner.cursor ≡ true → CodeExec at.code at.world n (world_inside at runner) ×
      (n ≤ at.count + m)
  run_ended n low is ended =
      let e : n ≡ at.count + t = is ∙ s.counted in (
        subst (λ (x : ℕ). CodeExec at.code at.world x (world_inside at runner)) (sym e) (at_end runner program (at_count (at.count + t) at) s ended),
        omega arith,
      )

  -- one whose next step is refused
  pub run_stopped : (n : ℕ) (f : machine.Fault) → t < m → n ≡ runner.cursor.count → has_ended runner.cursor ≡ false →
      Refuses (procedures_in runner.entries (start_at at).procedures)
      (stacks_in (start_at at).store) runner.procedures program.book runner.cursor runner.counted.store
      f →
      CodePart at.code at.world n (world_inside at runner) × CodeStop at.code at.world n (fault_of f) × (n < at.count + m)
  run_stopped n f low is going refuses =
      let e : n ≡ at.count + t = is ∙ s.counted in (
        subst (λ (x : ℕ). CodePart at.code at.world x (world_inside at runner)) (sym e) (stands_part runner program (at_count (at.count + t) at) false s),
        subst (λ (x : ℕ). CodeStop at.code at.world x (fault_of f)) (sym e) (refused_at runner program (at_count (at.count + t) at) f s going refuses),
        omega arith,
      )

  -- and one that took all its steps
  pub run_went : t ≡ m → has_ended runner.cursor ≡ false → CodePart at.code at.world (at.count + m) (world_inside at runner) ×
      ((n : ℕ) (u : World) → CodeExec at.code at.world n u → at.count + m < n)
  run_went all going =
      subst (λ (x : ℕ). CodePart at.code at.world (at.count + x) (world_inside at runner) ×
      ((n : ℕ) (u : World) → CodeExec at.code at.world n u → at.count + x < n)) all
      (stands_part runner program (at_count (at.count + t) at) false s, λ n u e. not_ended runner program (at_count (at.count + t) at) s going n u e)

  -- whatever ends it
  comes_at : (e : ends.End) (n : ℕ) → t ≤ m → n ≡ runner.cursor.count →
      SliceEndsBy (procedures_in runner.entries (start_at at).procedures) (stacks_in (start_at at).store) m t runner.procedures program.book runner.cursor
      runner.counted.store e →
      Comes program at (at.count + m) (progress_at e n) runner
  comes_at end.Cut n low is why = record {
    reaches = run_went why.0 why.1;
    is = stands_at runner program at _ _ false (ap (λ (x : ℕ). at.count + x) why.0) s;
    whole = tt;
  }
  comes_at end.Ended n low is why = record {
    reaches = run_ended n low is why;
    is = stands_at runner program at _ _ false (sym (is ∙ s.counted)) s;
    whole = whole_at_end runner program (at_count (at.count + t) at) s why;
  }
  comes_at (end.Fault f) n low is why = record {
    reaches = run_stopped n f why.0 is why.1 why.2;
    is = stands_at runner program at _ _ false (sym (is ∙ s.counted)) s;
    whole = tt;
  }

  pub comes : (ran : Progress) (e : ends.End) (n : ℕ) → ran ≡ progress_at e n → t ≤ m → n ≡ runner.cursor.count →
      SliceEndsBy (procedures_in runner.entries (start_at at).procedures) (stacks_in (start_at at).store) m t runner.procedures program.book runner.cursor
      runner.counted.store e →
      Comes program at (at.count + m) ran runner
  comes ran e n same low is why = subst (λ (x : Progress). Comes program at (at.count + m) x runner) (sym same) (comes_at e n low is why)

  -- so many steps are told
  pub told : (e : ends.End) (n c : ℕ) → n - c ≡ t →
      SliceEndsBy (procedures_in runner.entries (start_at at).procedures) (stacks_in (start_at at).store) m t runner.procedures program.book runner.cursor
      runner.counted.store e →
      steps_on c m (progress_at e n) ≡ t
  told end.Cut n c is why = sym why.0
  told end.Ended n c is why = is
  told (end.Fault f) n c is why = is

-- a step is one at most
pub one_taken : (r : Stepped) → steps_taken r ≤ 1
one_taken Went = omega arith
one_taken Ended = omega arith
one_taken (Fault f) = omega arith
