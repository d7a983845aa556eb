use Rattle.std.proofs.Common.{◌≡◌, ◌<◌, List, map, drop, ◌∷◌, ◌++◌, ◌+◌, [], length, ap, ◌∙◌, sym, subst, arith}
use Rattle.std.proofs.lemmas.List.{map-append, length-drop}
use Rattle.janus_check.specs.Slots.{slot, stacked}
use Rattle.janus_syntax.specs.Tree.{parameter_view, parameters_view}
use Rattle.janus_syntax.specs.View.{plain_parameter}
use Rattle.janus_check.specs.Names.{meant_kind}
use Rattle.janus_check.proofs.DropLemmas.{dropped}
use Rattle.janus_check.proofs.SlotLemmas.{seen_long}
use Rattle.janus_code.specs.declared.code.FlatParameter.{FlatParameter}
use Rattle.janus_code.specs.Expressions.{symbol_name}
use Rattle.janus_code.specs.Procedures.{param_of, params_of, ParametersHaveNumbers}
use Rattle.janus_code.specs.Slotted.{all_slots, slots_from}
use Rattle.janus_code.proofs.Lists.{parameters_more, one_between}
use Rattle.janus_code.proofs.Slotting.{slots_long}
use Rattle.janus_code.proofs.procedure.flat_parameters.Goals as goal

pub loop-i-preserved : goal.loop-i-preserved
loop-i-preserved c =
    let ps = c.args.parameters.now in
    let i = c.loop-i.i in
    let p = c.index-parameters-i.result in
    let e = plain_parameter (parameter_view p) in
    let rest = map plain_parameter (parameters_view (drop (i + 1) ps)) in
    let xs = slots_from 0 (length ps) in
    let y : FlatParameter = record { name = c.symbol_of.result; kind = c.kind_of.result } in
    let ys = c.loop-i.flat.items in
    let v = c.loop-i.invariant in
    let number : c.symbol_of.result.number ≡ length rest =
    omega (arith, c.symbol_of.ensures.number, seen_long (drop (i + 1) ps), length-drop (i + 1) ps, c.loop-i-test.true) in
    let name : symbol_name all_slots c.symbol_of.result ≡ slot (length rest) = c.symbol_of.ensures.name ∙ ap slot (sym c.symbol_of.ensures.number)
    ∙ ap slot number in
    let inside : c.symbol_of.result.number < length xs = omega (arith, c.symbol_of.ensures.number, slots_long 0 (length ps), c.loop-i-test.true) in (
      ap (λ (ys : List FlatParameter). params_of all_slots ys ++ stacked rest) c.in_ok-push.ensures.items
          ∙ ap (λ l. l ++ stacked rest) (map-append (param_of all_slots) ys (y ∷ []))
          ∙ one_between (params_of all_slots ys) (param_of all_slots y) (stacked rest)
          ∙ ap (λ n. params_of all_slots ys ++ (n, meant_kind c.kind_of.result) ∷ stacked rest) name
          ∙ ap (λ k. params_of all_slots ys ++ (slot (length rest), k) ∷ stacked rest) c.kind_of.ensures
          ∙ ap (λ ps. params_of all_slots ys ++ stacked (map plain_parameter (parameters_view ps))) (dropped ps i p c.index-parameters-i.is c.loop-i-test.true)
          ∙ v.0,
      subst (λ (ys : List FlatParameter). ParametersHaveNumbers xs ys) (sym c.in_ok-push.ensures.items) (parameters_more xs ys y v.1 inside),
    )
