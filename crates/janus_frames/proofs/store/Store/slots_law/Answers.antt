use Rattle.std.proofs.Common.{◌≡◌, ap, ◌∙◌, subst}
use Rattle.std.specs.Prelude.{reverse}
use Rattle.janus_meaning.specs.Store.{look}
use Rattle.janus_slots.specs.Numbers.{IsUnmet}
use Rattle.janus_slots.specs.Slots.{names_in, in_slots}
use Rattle.janus_frames.specs.StoreState.{StoreState, shown_store, declared_store}
use Rattle.janus_frames.proofs.Declared as declared
use Rattle.janus_frames.proofs.store.Store.slots_law.Goals as goal

pub returns-clause-shown : goal.returns-clause-shown
returns-clause-shown g c =
    let a = c.self.inside in
    let s = c.slots_law.ensures.shown in
    subst (λ (h : StoreState). names_in (shown_store h) ≡ reverse h.texts) c.self.view_is
    (declared.told-names a.frames a.declared a.texts c.self.invariant s.0 s.1 s.2 s.3)

pub returns-clause-unmet : goal.returns-clause-unmet
returns-clause-unmet g c = λ x none.
    let a = c.self.inside in
    let s = c.slots_law.ensures.shown in
    subst (λ (h : StoreState). IsUnmet h.texts x) c.self.view_is
    (declared.none-text a.frames a.declared a.texts c.self.invariant s.0 s.1 s.2 s.3 x (ap (λ (h : StoreState). look x (shown_store h)) c.self.view_is ∙ none))

pub returns-clause-slotted : goal.returns-clause-slotted
returns-clause-slotted g c =
    let a = c.self.inside in
    let s = c.slots_law.ensures.shown in
    subst (λ (h : StoreState). in_slots (shown_store h) ≡ declared_store h) c.self.view_is
    (declared.told-slots a.frames a.declared a.texts c.self.invariant s.0 s.1 s.2 s.3)

pub returns-clause-declared : goal.returns-clause-declared
returns-clause-declared g c =
    let a = c.self.inside in
    let s = c.slots_law.ensures.shown in
    subst (λ (h : StoreState). in_slots (declared_store h) ≡ declared_store h) c.self.view_is
    (declared.declared-slots a.frames a.declared a.texts c.self.invariant s.0 s.1 s.2 s.3)

pub returns-clause-whole : goal.returns-clause-whole
returns-clause-whole g c = λ all alone. declared.whole-by c.args.self.now (returns-clause-declared g c) all alone
