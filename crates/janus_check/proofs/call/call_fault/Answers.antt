use Rattle.std.proofs.Common.{◌∷◌, ◌++◌, [], length, ap, ◌∙◌, sym}
use Rattle.std.proofs.lemmas.List.{length-map}
use Rattle.janus_syntax.specs.Tree.{name_view, names_view}
use Rattle.janus_check.specs.declared.fault.CheckFault.TheVariants.{Unknown, Arity}
use Rattle.janus_check.specs.Names.{meant_kind, meant_kinds}
use Rattle.janus_check.specs.Fault.{first_from}
use Rattle.janus_check.specs.Check.{twice_faults, loose_faults, kinds_faults, counted_faults, found_faults}
use Rattle.janus_check.specs.Sight.{in_sight}
use Rattle.janus_check.proofs.FirstLemmas.{two_parts}
use Rattle.janus_check.proofs.CallLemmas.{count_same, count_differs}
use Rattle.janus_check.proofs.call.call_fault.Goals as goal

pub returns-in-None : goal.returns-in-None
returns-in-None g c =
    let g = in_sight c.args.sight.now in
    let at = c.args.called.now.span in
    let ys = names_view c.args.arguments.now in
    let first = c.args.first in
    two_parts first c.twice_fault-next.result c.loose_fault.result (twice_faults [] ys) (Unknown at ∷ loose_faults g ys) c.twice_fault-next.ensures
    (c.loose_fault.ensures ∙ ap (λ f. first_from f (loose_faults g ys)) c.sooner.ensures)
    ∙ ap (λ o. first_from first (twice_faults [] ys ++ found_faults g o at ys)) (sym c.in-None.ensures)

pub returns-in-Some : goal.returns-in-Some
returns-in-Some g c =
    let g = in_sight c.args.sight.now in
    let at = c.args.called.now.span in
    let ys = names_view c.args.arguments.now in
    let cs = meant_kinds c.in-Some.kinds.now in
    let first = c.args.first in
    let many = count_same (length cs) (length ys)
    (length-map c.in-Some.kinds.now meant_kind ∙ c.if-kinds-arguments.true ∙ sym (length-map c.args.arguments.now name_view)) in
    two_parts first c.twice_fault-next.result c.kinds_fault.result (twice_faults [] ys) (kinds_faults g cs ys) c.twice_fault-next.ensures c.kinds_fault.ensures
    ∙ ap (λ b. first_from first (twice_faults [] ys ++ counted_faults b g cs at ys)) (sym many)
    ∙ ap (λ o. first_from first (twice_faults [] ys ++ found_faults g o at ys)) (sym c.in-Some.ensures)

pub returns-in-Some-2 : goal.returns-in-Some-2
returns-in-Some-2 g c =
    let g = in_sight c.args.sight.now in
    let at = c.args.called.now.span in
    let ys = names_view c.args.arguments.now in
    let cs = meant_kinds c.in-Some.kinds.now in
    let first = c.args.first in
    let other = count_differs (length cs) (length ys)
    (λ e. c.if-kinds-arguments.false (sym (length-map c.in-Some.kinds.now meant_kind) ∙ e ∙ length-map c.args.arguments.now name_view)) in
    two_parts first c.twice_fault-next.result c.loose_fault-in-Some-2.result (twice_faults [] ys) (Arity at ∷ loose_faults g ys) c.twice_fault-next.ensures
    (c.loose_fault-in-Some-2.ensures ∙ ap (λ f. first_from f (loose_faults g ys)) c.sooner-in-Some-2.ensures)
    ∙ ap (λ b. first_from first (twice_faults [] ys ++ counted_faults b g cs at ys)) (sym other)
    ∙ ap (λ o. first_from first (twice_faults [] ys ++ found_faults g o at ys)) (sym c.in-Some.ensures)
