use Rattle.std.proofs.Common.{◌<◌, length, refl, sym, subst, arith}
use Rattle.janus_frames.specs.Calls.{CanLend, names_of, slots_of}
use Rattle.janus_frames.specs.StoreState.{StoreState, state_of}
use Rattle.janus_frames.specs.StoreState.{IsEntered}
use Rattle.janus_frames.proofs.Sizes as sizes
use Rattle.janus_frames.proofs.Calling.{as-many}
use Rattle.janus_frames.proofs.store.Store.bind.Goals as goal

pub enter-requires-clause-room : goal.enter-requires-clause-room
enter-requires-clause-room g c =
    let a = c.self.inside in
    let i = c.self.invariant in
    let can : CanLend (names_of c.args.args.now) a.frames.slots = subst (λ (h : StoreState). CanLend (names_of c.args.args.now) h.slots) (sym c.self.view_is)
    c.requires.found in
    let calls : length a.frames.callers < 8192 = subst (λ (h : StoreState). length h.callers < 8192) (sym c.self.view_is) c.requires.room.calls in
    let few = c.requires.room.params in
    let many = as-many (slots_of c.args.args.now) in
    sizes.call-room a.frames a.declared a.texts i (length (slots_of c.args.args.now)) calls few

pub invariant_of-self : goal.invariant_of-self
invariant_of-self g c =
    let a = c.self.inside in
    let i = c.self.invariant in
    let can : CanLend (names_of c.args.args.now) a.frames.slots = subst (λ (h : StoreState). CanLend (names_of c.args.args.now) h.slots) (sym c.self.view_is)
    c.requires.found in
    let calls : length a.frames.callers < 8192 = subst (λ (h : StoreState). length h.callers < 8192) (sym c.self.view_is) c.requires.room.calls in
    let few = c.requires.room.params in
    let many = as-many (slots_of c.args.args.now) in
    sizes.held-entered a.frames a.declared a.texts i c.enter.new.self (names_of c.args.args.now) can c.enter.ensures.entered c.enter.ensures.room calls
    (omega (arith, few, many))

pub returns : goal.returns
returns g c =
    let a = c.self.inside in
    let i = c.self.invariant in
    let f = c.enter.new.self in
    subst (λ (h : StoreState). IsEntered (names_of c.args.args.now) h (state_of f.slots a.declared a.texts f.callers f.writes)) c.self.view_is
    (record { declared = refl; texts = refl; unwritten = c.enter.ensures.unwritten; entered = c.enter.ensures.entered })
