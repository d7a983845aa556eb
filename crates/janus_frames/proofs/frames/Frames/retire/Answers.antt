use Rattle.std.proofs.Common.{◌≡◌, ◌+◌, ◌-◌, ◌<◌, set, ap, ◌∙◌, sym, subst, arith}
use Rattle.std.specs.Prelude.{reverse}
use Rattle.janus_meaning.specs.Store.{Slot, cleared_val}
use Rattle.janus_meaning.specs.World.{size_of}
use Rattle.janus_memory.specs.Memory.{Plain, val_at, content_at, number_at}
use Rattle.janus_frames.specs.Cells.{IsPresent}
use Rattle.janus_frames.specs.Calls.{own_names}
use Rattle.janus_frames.specs.FramesState.{FramesState, with_names}
use Rattle.janus_frames.specs.Inside.{frames_in, AreIn}
use Rattle.janus_frames.specs.Stores.{rest_of}
use Rattle.janus_frames.proofs.Opening as opening
use Rattle.janus_frames.proofs.Totals.{one_stack}
use Rattle.janus_frames.proofs.frames.Frames.retire.Goals as goal

pub release-requires-clause-empty : goal.release-requires-clause-empty
release-requires-clause-empty g c =
    let a = c.self.inside in
    let m = a.memory in
    let t = a.top in
    let cs = reverse a.calls.items in
    let i = c.self.invariant.inside in
    let own : own_names 0 (frames_in m t cs).callers < size_of (frames_in m t cs).slots =
    subst (λ (h : FramesState). own_names 0 h.callers < size_of h.slots) (sym c.self.view_is) c.requires.own in
    let there = opening.last-there m t cs i own in
    let f = c.requires.first in
    let e : (frames_in m t cs).slots ≡ Slot f.0 f.1 f.2 = ap (λ (h : FramesState). h.slots) c.self.view_is ∙ f.3 in
    let newest : val_at m (t - 1) ≡ f.1 = opening.newest-value m t cs i own f.0 f.1 f.2 e in
    let first : cleared_val (val_at m (t - 1)) ≡ val_at m (t - 1) = ap cleared_val newest ∙ f.4 ∙ sym newest in
    let last : t - 1 ≡ m.base + (t - m.base - 1) = omega (arith, there) in
    let p : IsPresent (val_at m (t - 1)) = subst (λ q. IsPresent (val_at m q)) (sym last) (i.frames.present (t - m.base - 1) (omega (arith, there))) in
    opening.none-on (number_at m (t - 1)) (content_at m (t - 1)) first

pub invariant_of-self : goal.invariant_of-self
invariant_of-self g c =
    let a = c.self.inside in
    let m = a.memory in
    let t = a.top in
    let cs = reverse a.calls.items in
    let i = c.self.invariant.inside in
    let own : own_names 0 (frames_in m t cs).callers < size_of (frames_in m t cs).slots =
    subst (λ (h : FramesState). own_names 0 h.callers < size_of h.slots) (sym c.self.view_is) c.requires.own in
    let there = opening.last-there m t cs i own in
    let f = c.requires.first in
    let e : (frames_in m t cs).slots ≡ Slot f.0 f.1 f.2 = ap (λ (h : FramesState). h.slots) c.self.view_is ∙ f.3 in
    let newest : val_at m (t - 1) ≡ f.1 = opening.newest-value m t cs i own f.0 f.1 f.2 e in
    let first : cleared_val (val_at m (t - 1)) ≡ val_at m (t - 1) = ap cleared_val newest ∙ f.4 ∙ sym newest in
    let last : t - 1 ≡ m.base + (t - m.base - 1) = omega (arith, there) in
    let p : IsPresent (val_at m (t - 1)) = subst (λ q. IsPresent (val_at m q)) (sym last) (i.frames.present (t - m.base - 1) (omega (arith, there))) in
    let n = set m.contents (t - 1) Plain in
    let s = m.spare + one_stack (val_at m (t - 1)) in
    let new : c.release.new.self ≡ record m { contents = n; spare = s } = c.release.ensures ∙ opening.released-is m (t - 1) p in
    let cl = opening.release-closed m t cs i c.law.ensures.contents (omega (arith, there)) p (opening.none-held (val_at m (t - 1)) first) in
    record { inside = subst (λ n. AreIn n (t - 1) cs) (sym new) (opening.fewer-in m t cs i own n s cl); call_room = c.self.invariant.call_room }

pub returns : goal.returns
returns g c =
    let a = c.self.inside in
    let m = a.memory in
    let t = a.top in
    let cs = reverse a.calls.items in
    let i = c.self.invariant.inside in
    let own : own_names 0 (frames_in m t cs).callers < size_of (frames_in m t cs).slots =
    subst (λ (h : FramesState). own_names 0 h.callers < size_of h.slots) (sym c.self.view_is) c.requires.own in
    let there = opening.last-there m t cs i own in
    let f = c.requires.first in
    let e : (frames_in m t cs).slots ≡ Slot f.0 f.1 f.2 = ap (λ (h : FramesState). h.slots) c.self.view_is ∙ f.3 in
    let newest : val_at m (t - 1) ≡ f.1 = opening.newest-value m t cs i own f.0 f.1 f.2 e in
    let first : cleared_val (val_at m (t - 1)) ≡ val_at m (t - 1) = ap cleared_val newest ∙ f.4 ∙ sym newest in
    let last : t - 1 ≡ m.base + (t - m.base - 1) = omega (arith, there) in
    let p : IsPresent (val_at m (t - 1)) = subst (λ q. IsPresent (val_at m q)) (sym last) (i.frames.present (t - m.base - 1) (omega (arith, there))) in
    let n = set m.contents (t - 1) Plain in
    let s = m.spare + one_stack (val_at m (t - 1)) in
    let new : c.release.new.self ≡ record m { contents = n; spare = s } = c.release.ensures ∙ opening.released-is m (t - 1) p in
    let cl = opening.release-closed m t cs i c.law.ensures.contents (omega (arith, there)) p (opening.none-held (val_at m (t - 1)) first) in
    ap (λ n. frames_in n (t - 1) cs) new
    ∙ opening.fewer-state m t cs i own n s cl (rest_of (frames_in m t cs).slots) (sym (ap rest_of (opening.fewer-slots m t cs i own n s cl)))
    ∙ ap (λ (h : FramesState). with_names (rest_of h.slots) h) c.self.view_is
