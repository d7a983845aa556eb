use Rattle.std.proofs.Common.{ap, ◌∙◌, sym}
use Rattle.janus_meaning.specs.World.{size_of}
use Rattle.janus_frames.specs.StoreState.{StoreState, shown_store}
use Rattle.janus_frames.proofs.Declared as declared
use Rattle.janus_frames.proofs.store.Store.len.Goals as goal

pub returns-clause-shown : goal.returns-clause-shown
returns-clause-shown g c =
    let a = c.self.inside in
    let s = c.slots_law.ensures.shown in
    sym (ap (λ (h : StoreState). size_of (shown_store h)) (sym c.self.view_is)
    ∙ declared.shown-many a.frames a.declared a.texts c.self.invariant s.0 s.1 s.2 s.3)
