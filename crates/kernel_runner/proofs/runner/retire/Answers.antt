use Rattle.std.proofs.Common.{◌≡◌, ℕ, ◌+◌, ◌<◌, length, sym, ap, ◌∙◌, subst, arith, add-one}
use Rattle.janus_meaning.specs.Store.{Store}
use Rattle.janus_meaning.specs.World.{dropped, declare}
use Rattle.janus_machine.specs.StoreState.{shown_store}
use Rattle.janus_machine.specs.Stores.{IsFirstOnTop, rest_of}
use Rattle.kernel_runner.proofs.Declaring.{dropped_more, dropped_all, first_on_top, first_in_slots, becomes_then, becomes_rest, becomes_same}
use Rattle.kernel_runner.proofs.Slotted.{whole_is}
use Rattle.kernel_runner.proofs.runner.retire.Goals as goal

pub retire-requires-clause-first : goal.retire-requires-clause-first
retire-requires-clause-first g c =
    let d = c.requires.declared in
    let low : c.loop-i._i < length d.1.declarations = rw d.1.many c.loop-i-test.true in
    let is = whole_is c.loop-i.store (dropped c.loop-i._i (declare d.1.declarations d.0)) c.loop-i.invariant.whole c.loop-i.invariant.texts
    (c.loop-i.invariant.shown ∙ ap (dropped c.loop-i._i) d.1.declared) in
    subst (λ (s : Store). IsFirstOnTop s) (sym is.slots)
    (first_in_slots (dropped c.loop-i._i (declare d.1.declarations d.0)) (first_on_top d.1.declarations d.0 c.loop-i._i low))

pub retire-requires-clause-whole : goal.retire-requires-clause-whole
retire-requires-clause-whole g c = c.loop-i.invariant.whole

pub loop-i-preserved : goal.loop-i-preserved
loop-i-preserved g c =
    let next : rest_of (shown_store c.loop-i.store) ≡ dropped (c.loop-i._i + 1) (shown_store c.args.store.now) =
    ap rest_of c.loop-i.invariant.shown ∙ sym (dropped_more c.loop-i._i (shown_store c.args.store.now))
    ∙ ap (λ (n : ℕ). dropped n (shown_store c.args.store.now)) (sym (add-one c.loop-i._i)) in
    becomes_then _ _ _ _ _ c.loop-i.invariant
    (becomes_same _ _ _ _ next (becomes_rest _ _ c.loop-i.invariant.whole c.loop-i.invariant.texts c.retire.ensures))

pub returns : goal.returns
returns g c = record {
  becomes = λ before over.
      becomes_same _ _ _ _
      (ap (dropped c.loop-i._i) over.declared ∙ subst (λ (n : ℕ). dropped n (declare over.declarations before) ≡ before) (over.many ∙ (omega arith))
      (dropped_all over.declarations before))
      c.loop-i.invariant;
}
