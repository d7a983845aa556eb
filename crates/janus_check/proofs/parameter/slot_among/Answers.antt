use Rattle.std.proofs.Common.{◌≡◌, true, false, ◌+◌, ◌-◌, length, ap, ◌∙◌, sym, drop, map, arith}
use Rattle.std.proofs.lemmas.List.{length-map, length-drop}
use Rattle.janus_meaning.specs.Store.{same_name}
use Rattle.janus_meaning.specs.Syntax.{names_of}
use Rattle.janus_meaning.specs.Shape.{kind_at, pick_newest}
use Rattle.janus_slots.specs.Slots.{slot, slot_in}
use Rattle.janus_syntax.specs.Tree.{parameter_view, parameters_view}
use Rattle.janus_syntax.specs.View.{name_of, plain_parameter}
use Rattle.janus_check.proofs.LookupLemmas.{same_as_bytes}
use Rattle.janus_check.proofs.DropLemmas.{dropped}
use Rattle.janus_check.proofs.SlotLemmas.{slot_here, slot_behind}
use Rattle.janus_check.proofs.parameter.slot_among.Goals as goal

pub returns-then-eq : goal.returns-then-eq
returns-then-eq c =
    let x = name_of c.args.name.now in
    let p = c.index-parameters-i.result in
    let e = plain_parameter (parameter_view p) in
    let i = c.loop-i.i in
    let ps = c.args.parameters.now in
    let rest = map plain_parameter (parameters_view (drop (i + 1) ps)) in
    let same : same_name x e.0 ≡ true = ap (same_name x) (sym c.name_of_parameter.ensures.text) ∙ same_as_bytes x (name_of c.name_of_parameter.result.now)
    ∙ sym c.if-eq.ensures in
    let long : length rest ≡ length ps - 1 - i =
    omega (
      arith,
      length-map (parameters_view (drop (i + 1) ps)) plain_parameter,
      length-map (drop (i + 1) ps) parameter_view,
      length-drop (i + 1) ps,
      c.loop-i-test.true,
    ) in
    sym c.loop-i.invariant.1
    ∙ sym (ap (λ ps. slot_in (names_of (map plain_parameter (parameters_view ps))) x) (dropped ps i p c.index-parameters-i.is c.loop-i-test.true))
    ∙ slot_here x e rest same ∙ ap slot long

pub loop-i-preserved : goal.loop-i-preserved
loop-i-preserved c =
    let x = name_of c.args.name.now in
    let p = c.index-parameters-i.result in
    let e = plain_parameter (parameter_view p) in
    let i = c.loop-i.i in
    let ps = c.args.parameters.now in
    let rest = map plain_parameter (parameters_view (drop (i + 1) ps)) in
    let other : same_name x e.0 ≡ false = ap (same_name x) (sym c.name_of_parameter.ensures.text) ∙ same_as_bytes x (name_of c.name_of_parameter.result.now)
    ∙ sym c.if-eq.ensures in
    let there = dropped ps i p c.index-parameters-i.is c.loop-i-test.true in (
      sym (ap (λ b. pick_newest b e.1 (kind_at x rest)) other) ∙ ap (λ ps. kind_at x (map plain_parameter (parameters_view ps))) there ∙ c.loop-i.invariant.0,
      sym (slot_behind x e rest other) ∙ ap (λ ps. slot_in (names_of (map plain_parameter (parameters_view ps))) x) there ∙ c.loop-i.invariant.1,
    )
