use Rattle.std.proofs.Common.{◌+◌, ◌++◌, ◌∷◌, [], take, drop, ap, ◌∙◌, sym}
use Rattle.std.proofs.lemmas.List.{map-append}
use Rattle.janus_syntax.specs.Tree.{parameter_view, parameters_view}
use Rattle.janus_check.specs.Fault.{first_from}
use Rattle.janus_check.specs.Check.{parameter_name, parameter_faults, parameters_faults}
use Rattle.janus_check.proofs.FirstLemmas.{first_from-append}
use Rattle.janus_check.proofs.DropLemmas.{dropped, taken}
use Rattle.janus_check.proofs.parameter.parameters_fault.Goals as goal

pub loop-i-preserved : goal.loop-i-preserved
loop-i-preserved c =
    let ps = c.args.parameters.now in
    let i = c.loop-i.i in
    let p = c.index-parameters-i.result in
    let before = parameters_view (take i ps) in
    let rest = parameters_view (drop (i + 1) ps) in
    let next = c.loop-i.next in
    ap (λ b. first_from c.parameter_fault-next.result (parameters_faults b rest))
    (ap parameters_view (taken ps i p c.index-parameters-i.is c.loop-i-test.true) ∙ map-append parameter_view (take i ps) (p ∷ []))
    ∙ ap (λ f. first_from f (parameters_faults (before ++ parameter_view p ∷ []) rest))
    (c.parameter_fault-next.ensures ∙ ap (λ n. first_from next (parameter_faults before n)) c.name_of_parameter.ensures.name)
    ∙ sym (first_from-append next (parameter_faults before (parameter_name (parameter_view p))) (parameters_faults (before ++ parameter_view p ∷ []) rest))
    ∙ ap (λ ps. first_from next (parameters_faults before (parameters_view ps))) (dropped ps i p c.index-parameters-i.is c.loop-i-test.true)
    ∙ c.loop-i.invariant
