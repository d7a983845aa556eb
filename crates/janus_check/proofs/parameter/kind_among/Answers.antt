use Rattle.std.proofs.Common.{◌≡◌, true, false, Some, ◌+◌, ap, ◌∙◌, sym, drop, map}
use Rattle.janus_meaning.specs.Store.{same_name}
use Rattle.janus_meaning.specs.Shape.{kind_at, pick_newest}
use Rattle.janus_syntax.specs.Tree.{parameter_view, parameters_view}
use Rattle.janus_syntax.specs.View.{name_of, plain_parameter}
use Rattle.janus_check.proofs.LookupLemmas.{same_as_bytes}
use Rattle.janus_check.proofs.DropLemmas.{dropped}
use Rattle.janus_check.proofs.parameter.kind_among.Goals as goal

pub returns-then-eq : goal.returns-then-eq
returns-then-eq c =
    let x = name_of c.args.name.now in
    let p = c.index-parameters-i.result in
    let e = plain_parameter (parameter_view p) in
    let i = c.loop-i.i in
    let ps = c.args.parameters.now in
    let rest = kind_at x (map plain_parameter (parameters_view (drop (i + 1) ps))) in
    let same : same_name x e.0 ≡ true = ap (same_name x) (sym c.name_of_parameter.ensures.text) ∙ same_as_bytes x (name_of c.name_of_parameter.result.now)
    ∙ sym c.if-eq.ensures in
    ap Some c.kind_of.ensures ∙ sym (ap (λ b. pick_newest b e.1 rest) same)
    ∙ ap (λ ps. kind_at x (map plain_parameter (parameters_view ps))) (dropped ps i p c.index-parameters-i.is c.loop-i-test.true) ∙ c.loop-i.invariant

pub loop-i-preserved : goal.loop-i-preserved
loop-i-preserved c =
    let x = name_of c.args.name.now in
    let p = c.index-parameters-i.result in
    let e = plain_parameter (parameter_view p) in
    let i = c.loop-i.i in
    let ps = c.args.parameters.now in
    let rest = kind_at x (map plain_parameter (parameters_view (drop (i + 1) ps))) in
    let other : same_name x e.0 ≡ false = ap (same_name x) (sym c.name_of_parameter.ensures.text) ∙ same_as_bytes x (name_of c.name_of_parameter.result.now)
    ∙ sym c.if-eq.ensures in
    sym (ap (λ b. pick_newest b e.1 rest) other)
    ∙ ap (λ ps. kind_at x (map plain_parameter (parameters_view ps))) (dropped ps i p c.index-parameters-i.is c.loop-i-test.true) ∙ c.loop-i.invariant
