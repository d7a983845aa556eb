use Rattle.std.proofs.Common.{◌≡◌, ◌+◌, refl, ap, ◌∙◌, sym, subst, arith}
use Rattle.janus_frames.specs.Calls.{names_lent}
use Rattle.janus_frames.specs.FramesState.{FramesState}
use Rattle.janus_frames.specs.Kept.{held_of}
use Rattle.janus_frames.specs.Run.{HasRowRoom, HasCellRoom, IsSafeRunOn, RunsOn, KeepsNames, KeepsValues, undeclared}
use Rattle.janus_frames.specs.StoreState.{StoreState, state_of}
use Rattle.janus_frames.proofs.Runnable.{runnable-as, runs-on-as, cell-room, held-ran, told-room, told-kept}
use Rattle.janus_frames.proofs.store.Store.run_on.Goals as goal

pub run_on-requires-clause-room : goal.run_on-requires-clause-room
run_on-requires-clause-room g c =
    let a = c.self.inside in
    let row = c.args.row.now in
    subst (HasCellRoom row) (sym c.tell_names.ensures) (told-room a.frames row (names_lent a.frames.callers + row.names)
    (cell-room a.frames a.declared a.texts c.self.invariant row (subst (HasRowRoom row) (sym c.self.view_is) c.requires.room)))

pub run_on-requires-clause-told : goal.run_on-requires-clause-told
run_on-requires-clause-told g c =
    subst (λ (f : FramesState). f.results ≡ names_lent f.callers + c.args.row.now.names) (sym c.tell_names.ensures) refl

pub run_on-requires-clause-sound : goal.run_on-requires-clause-sound
run_on-requires-clause-sound g c =
    let a = c.self.inside in
    let row = c.args.row.now in
    let s = subst (IsSafeRunOn row c.args.at c.args.m) (sym c.self.view_is) c.requires.sound in
    subst (λ f. IsSafeRunOn row c.args.at c.args.m (undeclared f)) (sym c.tell_names.ensures)
    (s.0, runnable-as row (held_of a) (undeclared a.frames) refl refl s.0 c.args.at s.1, s.2)

pub invariant_of-self : goal.invariant_of-self
invariant_of-self g c =
    let a = c.self.inside in
    let row = c.args.row.now in
    held-ran a.frames a.declared a.texts c.self.invariant row (subst (HasRowRoom row) (sym c.self.view_is) c.requires.room) c.run_on.new.self
    c.run_on.result.at c.run_on.ensures.there.there c.run_on.ensures.size
    (told-kept a.frames c.tell_names.new.self c.run_on.new.self (names_lent a.frames.callers + row.names) c.tell_names.ensures c.run_on.ensures.kept)

pub returns-clause-run : goal.returns-clause-run
returns-clause-run g c =
    let a = c.self.inside in
    let row = c.args.row.now in
    let f = c.run_on.new.self in
    let new : StoreState = state_of f.slots a.declared a.texts f.callers f.writes in
    subst (λ h. RunsOn row c.args.at c.args.m c.run_on.result h new) c.self.view_is
    (runs-on-as row c.args.at (undeclared a.frames) (held_of a) (undeclared f) new refl refl refl refl c.args.m c.run_on.result
    (subst (λ f'. RunsOn row c.args.at c.args.m c.run_on.result (undeclared f') (undeclared f)) c.tell_names.ensures c.run_on.ensures.run))

pub returns-clause-kept : goal.returns-clause-kept
returns-clause-kept g c =
    let a = c.self.inside in
    let f = c.run_on.new.self in
    let new : StoreState = state_of f.slots a.declared a.texts f.callers f.writes in
    subst (λ h. KeepsNames h new) c.self.view_is (record {
      declared = refl;
      texts = refl;
      callers = c.run_on.ensures.kept.callers ∙ ap (λ (f : FramesState). f.callers) c.tell_names.ensures;
    })

pub returns-clause-written : goal.returns-clause-written
returns-clause-written g c =
    let old = ap (λ (h : StoreState). h.writes) c.self.view_is in
    let told = ap (λ (f : FramesState). f.writes) c.tell_names.ensures in
    (omega (arith, old, told, c.run_on.ensures.written), omega (arith, old, told, c.run_on.ensures.written))

pub returns-clause-stays : goal.returns-clause-stays
returns-clause-stays g c = λ few.
    let a = c.self.inside in
    let x = c.run_on.ensures.stays few in
    (ap (λ (f : FramesState). state_of f.slots a.declared a.texts f.callers f.writes) (x.0 ∙ c.tell_names.ensures) ∙ c.self.view_is, x.1, x.2)

pub returns-clause-unwritten : goal.returns-clause-unwritten
returns-clause-unwritten g c = λ none.
    let old = ap (λ (h : StoreState). h.writes) c.self.view_is in
    let told = ap (λ (f : FramesState). f.writes) c.tell_names.ensures in
    subst (λ (h : StoreState). KeepsValues h.slots c.run_on.new.self.slots) c.self.view_is
    (subst (λ (f : FramesState). KeepsValues f.slots c.run_on.new.self.slots) c.tell_names.ensures (c.run_on.ensures.unwritten (none ∙ sym (told ∙ old))))
