use Rattle.std.proofs.Common.{◌≡◌, ◌-◌, suc, [], take, ap, ◌∙◌, sym, subst, arith}
use Rattle.janus_meaning.specs.Store.{Slot}
use Rattle.janus_meaning.specs.World.{size_of}
use Rattle.janus_frames.specs.Calls.{own_names}
use Rattle.janus_frames.specs.FramesState.{FramesState, with_names}
use Rattle.janus_frames.specs.Kept.{AreHeld}
use Rattle.janus_frames.specs.Stores.{IsFirstOnTop, rest_of}
use Rattle.janus_frames.specs.StoreState.{StoreState}
use Rattle.janus_frames.proofs.Declared.{same-state}
use Rattle.janus_frames.proofs.Sizes as sizes
use Rattle.janus_frames.proofs.store.Store.retire.Goals as goal

pub retire-requires-clause-first : goal.retire-requires-clause-first
retire-requires-clause-first g c = subst (λ (h : StoreState). IsFirstOnTop h.slots) (sym c.self.view_is) c.requires.first

pub retire-requires-clause-own : goal.retire-requires-clause-own
retire-requires-clause-own g c =
    let a = c.self.inside in
    let f = c.requires.first in
    let e : a.frames.slots ≡ Slot f.0 f.1 f.2 = ap (λ (h : StoreState). h.slots) c.self.view_is ∙ f.3 in
    let n : a.frames.callers ≡ [] = ap (λ (h : StoreState). h.callers) c.self.view_is ∙ c.requires.whole.callers in
    let z : own_names 0 a.frames.callers ≡ 0 = ap (own_names 0) n in
    let s : size_of a.frames.slots ≡ suc (size_of f.2) = ap size_of e in
    omega (arith, z, s)

pub overflow_sub-self : goal.overflow_sub-self
overflow_sub-self g c =
    let a = c.self.inside in
    let f = c.requires.first in
    let e : a.frames.slots ≡ Slot f.0 f.1 f.2 = ap (λ (h : StoreState). h.slots) c.self.view_is ∙ f.3 in
    let s : size_of a.frames.slots ≡ suc (size_of f.2) = ap size_of e in
    let d : a.declared ≡ size_of a.frames.slots = subst (λ (h : StoreState). h.declared ≡ size_of h.slots) (sym c.self.view_is) c.requires.whole.declared in
    omega (arith, s, d)

pub invariant_of-self : goal.invariant_of-self
invariant_of-self g c =
    let a = c.self.inside in
    let i = c.self.invariant in
    let f = c.requires.first in
    let e : a.frames.slots ≡ Slot f.0 f.1 f.2 = ap (λ (h : StoreState). h.slots) c.self.view_is ∙ f.3 in
    let n : a.frames.callers ≡ [] = ap (λ (h : StoreState). h.callers) c.self.view_is ∙ c.requires.whole.callers in
    let d : a.declared ≡ size_of a.frames.slots = subst (λ (h : StoreState). h.declared ≡ size_of h.slots) (sym c.self.view_is) c.requires.whole.declared in
    subst (λ (f : FramesState). AreHeld f (a.declared - 1) c.truncate.new.self) (sym (c.retire.ensures ∙ ap (λ s. with_names (rest_of s) a.frames) e))
    (sizes.held-retired a.frames a.declared a.texts i f.0 f.1 f.2 c.truncate.new.self n d e c.truncate.ensures.names c.truncate.ensures.one_number)

pub returns : goal.returns
returns g c =
    let a = c.self.inside in
    let n : a.frames.callers ≡ [] = ap (λ (h : StoreState). h.callers) c.self.view_is ∙ c.requires.whole.callers in
    let new = c.retire.new.self in
    let s : new.slots ≡ rest_of c.args.self.now.slots = ap (λ (f : FramesState). f.slots) c.retire.ensures
    ∙ ap (λ (h : StoreState). rest_of h.slots) c.self.view_is in
    let d : a.declared - 1 ≡ c.args.self.now.declared - 1 = ap (λ (h : StoreState). h.declared - 1) c.self.view_is in
    let t : c.truncate.new.self ≡ take (c.args.self.now.declared - 1) c.args.self.now.texts =
    c.truncate.ensures.names ∙ ap (λ (h : StoreState). take (h.declared - 1) h.texts) c.self.view_is in
    let k : new.callers ≡ [] = ap (λ (f : FramesState). f.callers) c.retire.ensures ∙ n in
    let w : new.writes ≡ c.args.self.now.writes = ap (λ (f : FramesState). f.writes) c.retire.ensures ∙ ap (λ (h : StoreState). h.writes) c.self.view_is in
    same-state new.slots (rest_of c.args.self.now.slots) (a.declared - 1) (c.args.self.now.declared - 1) c.truncate.new.self
    (take (c.args.self.now.declared - 1) c.args.self.now.texts) new.callers [] new.writes c.args.self.now.writes s d t k w
