-- A runner that goes on or back through the code of a cell: what a slice of the machine makes of where it stood.
use Rattle.std.proofs.Common.{◌≡◌, ℕ, List, ◌+◌, ◌-◌, ◌<◌, ◌≤◌, Bool, true, false, sym, ap, ◌∙◌, subst, arith, inl, inr}
use Rattle.janus_meaning.specs.Syntax.{Blk, Proc, facing}
use Rattle.janus_meaning.specs.Cells.{around}
use Rattle.janus_meaning.specs.Stepping.{Halt}
use Rattle.janus_meaning.specs.World.{stacks_in}
use Rattle.janus_meaning.specs.Limit.{step_limit}
use Rattle.janus_slots.specs.Slots.{procedures_in}
use Rattle.janus_slots.specs.Law.{RunsTheSame}
use Rattle.janus_slots.proofs.Laws.{runs_are_the_same}
use Rattle.janus_machine.specs.Bodies.{AreInEffect}
use Rattle.janus_machine.specs.Counts.{counted, Counts}
use Rattle.janus_machine.specs.Cursors.{IsStanding, has_ended}
use Rattle.janus_meaning.specs.Faults.{fault_of}
use Rattle.janus_machine.specs.Law.{RunMeans, BackMeans}
use Rattle.janus_machine.specs.Open.{Agrees}
use Rattle.janus_machine.specs.Steps.{AreSteps, next_of, NoneBroken, IsSafeAhead, KeepsMet, SliceEndsBy}
use Rattle.janus_machine.specs.declared.machine.End as ends
use Rattle.janus_machine.specs.declared.machine.End.TheVariants as end
use Rattle.janus_machine.specs.declared.counted_store.CountedStore.{CountedStore}
use Rattle.janus_machine.specs.declared.cursor.Cursor.{Cursor}
use Rattle.janus_meaning.specs.declared.fault.Fault as machine
use Rattle.janus_machine.proofs.BodiesInEffect.{defined_in_effect}
use Rattle.janus_machine.proofs.Courses.{runs_mean, backs_mean}
use Rattle.kernel_machine.specs.Language.{CodeStop, run_block}
use Rattle.kernel_runner.specs.Runner.{Place, at_count, start_at, block_of, slots_of, Stands}
use Rattle.kernel_runner.specs.declared.program.Program.{Program}
use Rattle.kernel_runner.specs.declared.runner.Runner.{Runner}
use Rattle.kernel_runner.proofs.Slotted.{good_slots}

module _ {L : Type 0} (runner : Runner L) (program : Program) (at : Place) where
  -- the start of the code, with slots in place of names
  abbrev pub start_procedures : List Proc
  start_procedures = procedures_in runner.entries (start_at at).procedures

  abbrev pub start_block : Blk
  start_block = block_of runner.entries (run_block at.code) (start_at at)

  pub in_effect : (back : Bool) → Stands runner program at back → AreInEffect runner.procedures start_procedures
  in_effect back h = defined_in_effect runner.procedures at.bodies start_procedures h.defined

  -- the laws of the machine, at a runner
  pub run_means : Stands runner program at false → RunMeans start_procedures (stacks_in (start_at at).store) start_block (slots_of (start_at at))
      at.count runner.procedures program.book runner.cursor runner.counted.store
  run_means h = runs_mean _ _ _ _ _ _ _ _ _ h.standing h.faces.0

  pub back_means : Stands runner program at true → BackMeans start_procedures (stacks_in (start_at at).store) start_block (slots_of (start_at at))
      at.count runner.procedures program.book runner.cursor runner.counted.store
  back_means h = backs_mean _ _ _ _ _ _ _ _ _ (good_slots runner.entries (start_at at) h.good) h.standing h.faces

  -- that slots run as names do
  pub the_same : (back : Bool) (n : ℕ) → Stands runner program at back → RunsTheSame runner.entries (around (start_at at)) (run_block at.code)
      (start_at at).store n
  the_same back n h = runs_are_the_same runner.entries (around (start_at at)) (run_block at.code) (start_at at).store n h.listed

  pub safe_on : (m : ℕ) → Stands runner program at false → IsSafeAhead runner.procedures program.book m runner.cursor runner.counted.store
  safe_on m h = (run_means h).safe m (in_effect false h) h.agrees h.faces.1

  pub unbroken_on : (m : ℕ) → Stands runner program at false → NoneBroken start_procedures (stacks_in (start_at at).store) runner.procedures program.book m
      runner.cursor runner.counted.store
  unbroken_on m h = (run_means h).unbroken m h.faces.1

  pub safe_back : (m : ℕ) → Stands runner program at true → IsSafeAhead runner.procedures program.book m runner.cursor runner.counted.store
  safe_back m h = (back_means h).safe m (in_effect true h) h.agrees

  pub stops_at : (f : machine.Fault) → Stands runner program at false → at.count < step_limit →
      next_of start_procedures (stacks_in (start_at at).store) runner.procedures program.book runner.cursor runner.counted.store ≡ Halt (fault_of f) →
      CodeStop at.code at.world at.count (fault_of f)
  unfolding CodeStop
  stops_at f h early halts = inl (early, (the_same false at.count h).stopped (fault_of f) ((run_means h).stop (fault_of f) halts))

  pub at_start : Stands runner program at true → has_ended runner.cursor ≡ true → at.count ≡ 0
  at_start h ended = (back_means h).begun.0 ended

  pub no_fault_back : (f : machine.Fault) → Stands runner program at true →
      next_of start_procedures (stacks_in (start_at at).store) runner.procedures program.book runner.cursor runner.counted.store ≡ Halt (fault_of f) → ⊥
  no_fault_back f h halts = (back_means h).fault (fault_of f) halts

module _ {L : Type 0} (runner : Runner L) (program : Program) (at : Place) where
  module _ (held : CountedStore L) (cursor : Cursor) (t : ℕ) where
    -- what a slice of m steps promises of its steps, and of what is open, where the store agrees with the cursor
    abbrev pub TakesSteps : ℕ → Type 0
    TakesSteps m =
        (ps : List Proc) (k : ℕ) → AreInEffect runner.procedures ps →
        Agrees k runner.procedures program.book runner.cursor runner.counted.store
        → NoneBroken ps k runner.procedures program.book m runner.cursor runner.counted.store →
        AreSteps ps k t runner.procedures program.book runner.cursor runner.counted.store cursor held.store

    -- and of why it ends
    abbrev pub EndsThere : ℕ → ends.End → Type 0
    EndsThere m e =
        (ps : List Proc) (k : ℕ) → AreInEffect runner.procedures ps → Agrees k runner.procedures program.book runner.cursor runner.counted.store
        → NoneBroken ps k runner.procedures program.book m runner.cursor runner.counted.store
        → SliceEndsBy ps k m t runner.procedures program.book cursor held.store e

    abbrev pub KeepsAgreement : Type 0
    KeepsAgreement = (k : ℕ) → Agrees k runner.procedures program.book runner.cursor runner.counted.store →
        Agrees k runner.procedures program.book cursor held.store

    abbrev pub gone : Runner L
    gone = record { counted = held; cursor = cursor; procedures = runner.procedures; entries = runner.entries }

    pub gone_on : (m : ℕ) → Stands runner program at false → IsStanding runner.procedures program.book cursor held.store →
        KeepsMet runner.counted.store held.store →
        KeepsAgreement → Counts t runner.cursor cursor → TakesSteps m
        → Stands gone program (at_count (at.count + t) at) false
    gone_on m h standing names agrees counts steps =
        let now : cursor.count ≡ at.count + t = counts.count ∙ ap (λ (b : Bool). counted b runner.cursor.count t) h.turned ∙ ap (λ (n : ℕ). n + t) h.counted in
        let few = standing.few in
        record {
          cell = h.cell;
          good = h.good;
          few = omega arith;
          counted = now;
          turned = counts.turned ∙ h.turned;
          standing = standing;
          declared = names.declared ∙ h.declared;
          texts = names.texts ∙ h.texts;
          agrees = agrees _ h.agrees;
          ready = h.ready;
          listed = h.listed;
          defined = h.defined;
          faces = (
            (run_means runner program at h).more t cursor held.store
                (steps _ _ (in_effect runner program at false h) h.agrees ((run_means runner program at h).unbroken m h.faces.1)),
            h.faces.1,
          );
        }

    pub gone_back : (m : ℕ) → Stands runner program at true → IsStanding runner.procedures program.book cursor held.store →
        KeepsMet runner.counted.store held.store →
        KeepsAgreement → Counts t runner.cursor cursor → TakesSteps m
        → Stands gone program (at_count (at.count - t) at) true × (t ≤ at.count)
    gone_back m h standing names agrees counts steps =
        let means = back_means runner program at h in
        let taken = steps _ _ (in_effect runner program at true h) h.agrees (means.unbroken m) in
        let within : t ≤ at.count = means.no_further t cursor held.store taken in
        let few = h.few in (
          record {
            cell = h.cell;
            good = h.good;
            few = omega arith;
            counted = counts.count ∙ ap (λ (b : Bool). counted b runner.cursor.count t) h.turned ∙ ap (λ (n : ℕ). n - t) h.counted;
            turned = counts.turned ∙ h.turned;
            standing = standing;
            declared = names.declared ∙ h.declared;
            texts = names.texts ∙ h.texts;
            agrees = agrees _ h.agrees;
            ready = h.ready;
            listed = h.listed;
            defined = h.defined;
            faces = means.back t cursor held.store within taken;
          },
          within,
        )

    ends_back : (m : ℕ) (e : ends.End) → Stands runner program at true → EndsThere m e →
        SliceEndsBy (start_procedures runner program at) (stacks_in (start_at at).store) m t runner.procedures program.book cursor held.store e
    ends_back m e h why = why _ _ (in_effect runner program at true h) h.agrees ((back_means runner program at h).unbroken m)

    -- a slice back, by why it ends
    pub back_cut : (m : ℕ) (e : ends.End) → Stands runner program at true → IsStanding runner.procedures program.book cursor held.store →
        KeepsMet runner.counted.store held.store → KeepsAgreement → t ≤ m → Counts t runner.cursor cursor → TakesSteps m →
        EndsThere m e → Stands gone program (at_count (at.count - m) at) true
    back_cut m end.Cut h standing names agrees low counts steps why =
        let s = gone_back m h standing names agrees counts steps in
        subst (λ (x : ℕ). Stands gone program (at_count (at.count - x) at) true) (ends_back m end.Cut h why).0 s.0
    back_cut m end.Ended h standing names agrees low counts steps why =
        let s = gone_back m h standing names agrees counts steps in
        let start : at.count - t ≡ 0 =
        (back_means gone program (at_count (at.count - t) at) s.0).begun.0 (ends_back m end.Ended h why) in
        let e : at.count - t ≡ at.count - m = omega arith in
        subst (λ (x : ℕ). Stands gone program (at_count x at) true) e s.0
    back_cut m (end.Fault f) h standing names agrees low counts steps why =
        let s = gone_back m h standing names agrees counts steps in
        absurd (
        elim (ends_back m (end.Fault f) h why).2 [
          | inl at ↦ (let facing : true ≡ false = sym s.0.turned ∙ at.0.forward in cc)
          | inr halted ↦ (back_means gone program (at_count (at.count - t) at) s.0).fault (fault_of f) halted.1
        ]
        )

    -- and how many steps it took: m, or all that there were
    pub back_taken : (m : ℕ) (e : ends.End) → Stands runner program at true → IsStanding runner.procedures program.book cursor held.store →
        KeepsMet runner.counted.store held.store → KeepsAgreement → t ≤ m → Counts t runner.cursor cursor → TakesSteps m →
        EndsThere m e →
        t ≡ at.count - (at.count - m)
    back_taken m end.Cut h standing names agrees low counts steps why =
        let within = (gone_back m h standing names agrees counts steps).1 in
        let all = (ends_back m end.Cut h why).0 in
        omega arith
    back_taken m end.Ended h standing names agrees low counts steps why =
        let s = gone_back m h standing names agrees counts steps in
        let within = s.1 in
        let start : at.count - t ≡ 0 =
        (back_means gone program (at_count (at.count - t) at) s.0).begun.0 (ends_back m end.Ended h why) in
        omega arith
    back_taken m (end.Fault f) h standing names agrees low counts steps why =
        let s = gone_back m h standing names agrees counts steps in
        absurd (
        elim (ends_back m (end.Fault f) h why).2 [
          | inl at ↦ (let facing : true ≡ false = sym s.0.turned ∙ at.0.forward in cc)
          | inr halted ↦ (back_means gone program (at_count (at.count - t) at) s.0).fault (fault_of f) halted.1
        ]
        )

-- how many steps a cursor that faces onward has counted
pub counted_on : (turned : Bool) (old new t : ℕ) → turned ≡ false → new ≡ counted turned old t → new - old ≡ t
counted_on true old new t e h = cc
counted_on false old new t e h = omega arith
