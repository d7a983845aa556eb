use Rattle.std.proofs.Common.{◌≡◌, ◌-◌, ◌<◌, ◌^◌, ℕ, List, ap, ◌∙◌, sym, subst, arith}
use Rattle.std.specs.Prelude.{reverse}
use Rattle.janus_meaning.specs.Fault.{Fine}
use Rattle.janus_meaning.specs.Store.{Val, look}
use Rattle.janus_meaning.specs.World.{size_of}
use Rattle.janus_slots.specs.Slots.{slot}
use Rattle.janus_memory.specs.Memory.{val_at, content_at, number_at}
use Rattle.janus_frames.specs.Cells.{from}
use Rattle.janus_frames.specs.Calls.{given_back}
use Rattle.janus_frames.specs.FramesState.{FramesState}
use Rattle.janus_frames.specs.Shown.{through, outer_count, AreLow}
use Rattle.janus_frames.specs.declared.frames.OpenCall.{OpenCall}
use Rattle.janus_frames.proofs.Following.{calls-low}
use Rattle.janus_frames.proofs.Inwards as inwards
use Rattle.janus_frames.proofs.Sight as sight
use Rattle.janus_frames.proofs.frames.Frames.shown.Goals as goal

pub place_shown-place-requires-clause-calls : goal.place_shown-place-requires-clause-calls
place_shown-place-requires-clause-calls g c =
    let a = c.self.inside in
    let m = a.memory in
    let t = a.top in
    let cs = reverse a.calls.items in
    let i = c.self.invariant.inside in
    let k : c.args.k < outer_count (t - m.base) m.base cs =
    inwards.outer-at m t cs i c.args.k (subst (λ (h : FramesState). c.args.k < size_of (given_back h.slots h.callers)) (sym c.self.view_is) c.requires) in
    let o = i.frames.order in
    let l = i.long in
    subst (λ (os : List OpenCall). AreLow (2 ^ 63) os) (sym c.deref.ensures.value)
    (calls-low (val_at m) m.base (t - m.base) (2 ^ 63) a.calls.items i.frames.nested (omega (arith, o, l, c.law.ensures.low)))

pub place_shown-place-requires-clause-base : goal.place_shown-place-requires-clause-base
place_shown-place-requires-clause-base g c =
    let a = c.self.inside in
    let m = a.memory in
    let t = a.top in
    let cs = reverse a.calls.items in
    let i = c.self.invariant.inside in
    let k : c.args.k < outer_count (t - m.base) m.base cs =
    inwards.outer-at m t cs i c.args.k (subst (λ (h : FramesState). c.args.k < size_of (given_back h.slots h.callers)) (sym c.self.view_is) c.requires) in
    let o = i.frames.order in
    let l = i.long in
    omega (arith, o, l, c.law.ensures.low, c.base.ensures)

pub place_shown-place-requires-clause-low : goal.place_shown-place-requires-clause-low
place_shown-place-requires-clause-low g c =
    let a = c.self.inside in
    let m = a.memory in
    let t = a.top in
    let cs = reverse a.calls.items in
    let i = c.self.invariant.inside in
    let k : c.args.k < outer_count (t - m.base) m.base cs =
    inwards.outer-at m t cs i c.args.k (subst (λ (h : FramesState). c.args.k < size_of (given_back h.slots h.callers)) (sym c.self.view_is) c.requires) in
    let o = i.frames.order in
    let l = i.long in
    let u = inwards.outer-top m t cs i in omega (arith, u, k, l, c.law.ensures.low)

pub view-requires-clause-there : goal.view-requires-clause-there
view-requires-clause-there g c =
    let a = c.self.inside in
    let m = a.memory in
    let t = a.top in
    let cs = reverse a.calls.items in
    let i = c.self.invariant.inside in
    let k : c.args.k < outer_count (t - m.base) m.base cs =
    inwards.outer-at m t cs i c.args.k (subst (λ (h : FramesState). c.args.k < size_of (given_back h.slots h.callers)) (sym c.self.view_is) c.requires) in
    let o = i.frames.order in
    let l = i.long in
    let place = c.place_shown-place.result in
    let same : (w : ℕ → Val) → through w (from w m.base) cs c.args.k ≡ w place =
    λ w. ap (λ b. through w (from w b) cs c.args.k) (sym c.base.ensures)
    ∙ ap (λ (os : List OpenCall). through w (from w c.base.result) (reverse os) c.args.k) (sym c.deref.ensures.value) ∙ c.place_shown-place.ensures w in
    let low = inwards.place-low m t cs i c.args.k place k same in
    let p = inwards.found-present m t cs i c.args.k place k same in
    omega (arith, low, l)

pub view-requires-clause-here : goal.view-requires-clause-here
view-requires-clause-here g c =
    let a = c.self.inside in
    let m = a.memory in
    let t = a.top in
    let cs = reverse a.calls.items in
    let i = c.self.invariant.inside in
    let k : c.args.k < outer_count (t - m.base) m.base cs =
    inwards.outer-at m t cs i c.args.k (subst (λ (h : FramesState). c.args.k < size_of (given_back h.slots h.callers)) (sym c.self.view_is) c.requires) in
    let o = i.frames.order in
    let l = i.long in
    let place = c.place_shown-place.result in
    let same : (w : ℕ → Val) → through w (from w m.base) cs c.args.k ≡ w place =
    λ w. ap (λ b. through w (from w b) cs c.args.k) (sym c.base.ensures)
    ∙ ap (λ (os : List OpenCall). through w (from w c.base.result) (reverse os) c.args.k) (sym c.deref.ensures.value) ∙ c.place_shown-place.ensures w in
    let low = inwards.place-low m t cs i c.args.k place k same in
    let p = inwards.found-present m t cs i c.args.k place k same in
    sight.present-here (number_at m place) (content_at m place) p

pub returns : goal.returns
returns g c =
    let a = c.self.inside in
    let m = a.memory in
    let t = a.top in
    let cs = reverse a.calls.items in
    let i = c.self.invariant.inside in
    let k : c.args.k < outer_count (t - m.base) m.base cs =
    inwards.outer-at m t cs i c.args.k (subst (λ (h : FramesState). c.args.k < size_of (given_back h.slots h.callers)) (sym c.self.view_is) c.requires) in
    let o = i.frames.order in
    let l = i.long in
    let place = c.place_shown-place.result in
    let same : (w : ℕ → Val) → through w (from w m.base) cs c.args.k ≡ w place =
    λ w. ap (λ b. through w (from w b) cs c.args.k) (sym c.base.ensures)
    ∙ ap (λ (os : List OpenCall). through w (from w c.base.result) (reverse os) c.args.k) (sym c.deref.ensures.value) ∙ c.place_shown-place.ensures w in
    let low = inwards.place-low m t cs i c.args.k place k same in
    let p = inwards.found-present m t cs i c.args.k place k same in
    ap (λ (h : FramesState). look (slot c.args.k) (given_back h.slots h.callers)) (sym c.self.view_is)
    ∙ inwards.shown-look m t cs i c.args.k k ∙ ap Fine (same (val_at m)) ∙ ap Fine (sym c.view.ensures)
