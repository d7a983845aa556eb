use Rattle.std.proofs.Common.{◌<◌, ap, ◌∙◌, sym, subst}
use Rattle.std.specs.Prelude.{slice_get, Some}
use Rattle.janus_meaning.specs.Store.{look}
use Rattle.janus_meaning.specs.World.{size_of, listed}
use Rattle.janus_slots.specs.Slots.{slot}
use Rattle.janus_frames.specs.StoreState.{StoreState}
use Rattle.janus_frames.proofs.Texts.{listed-at}
use Rattle.janus_frames.proofs.Reading.{look-there, size-stored}
use Rattle.janus_meaning.proofs.Results.{fine_inj}
use Rattle.janus_frames.proofs.store.Store.sight_entry.Goals as goal

pub returns : goal.returns
returns g c =
    let a = c.self.inside in
    let s = c.slots_law.ensures.sight in
    let l : c.args.i < size_of a.frames.slots = subst (λ (h : StoreState). c.args.i < size_of h.slots) (sym c.self.view_is) c.requires in
    let low : c.args.i < s.1 = subst (λ n. c.args.i < n) (ap size_of s.2 ∙ size-stored s.0 s.1) l in
    let v = fine_inj (s.0 c.args.i) _ (sym (look-there s.0 s.1 c.args.i low (s.3 c.args.i low)) ∙ ap (look (slot c.args.i)) (sym s.2) ∙ c.value.ensures) in
    ap (λ (h : StoreState). slice_get (listed h.slots) c.args.i) (sym c.self.view_is)
    ∙ ap (λ t. slice_get (listed t) c.args.i) s.2
    ∙ listed-at s.0 s.1 c.args.i low
    ∙ ap (λ u. Some (slot c.args.i, u)) v
