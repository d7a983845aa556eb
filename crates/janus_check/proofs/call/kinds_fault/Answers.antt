use Rattle.std.proofs.Common.{◌≡◌, ◌<◌, ◌+◌, ◌∷◌, length, get_or, drop, add-one, ap, ◌∙◌, sym, arith}
use Rattle.std.proofs.Math.Seq.{drop-cons}
use Rattle.janus_syntax.specs.Tree.{name_view, names_view}
use Rattle.janus_check.specs.declared.env.Kind.TheVariants.{Number}
use Rattle.janus_check.specs.Names.{meant_kind, meant_kinds}
use Rattle.janus_check.specs.Fault.{first_from}
use Rattle.janus_check.specs.Check.{use_faults, kinds_faults}
use Rattle.janus_check.specs.Sight.{in_sight}
use Rattle.janus_check.proofs.FirstLemmas.{first_from-append}
use Rattle.janus_check.proofs.DropLemmas.{dropped}
use Rattle.janus_check.proofs.call.kinds_fault.Goals as goal

pub loop-i-preserved : goal.loop-i-preserved
loop-i-preserved g c =
    let g = in_sight c.args.sight.now in
    let ks = c.args.kinds.now in
    let ys = c.args.arguments.now in
    let i = c.loop-i.i in
    let k = get_or ks i Number in
    let y = c.index-arguments-i.result in
    let next = c.loop-i.next in
    let inside : i < length ks = omega (arith, c.requires, c.loop-i-test.true) in
    let kinds : k ∷ drop (i + 1) ks ≡ drop i ks = ap (λ n. k ∷ drop n ks) (add-one i) ∙ sym (drop-cons ks i Number inside) in
    let rest = kinds_faults g (meant_kinds (drop (i + 1) ks)) (names_view (drop (i + 1) ys)) in
    ap (λ f. first_from f rest) c.use_fault-next.ensures
    ∙ sym (first_from-append next (use_faults g (meant_kind k) (name_view y)) rest)
    ∙ ap (λ ks. first_from next (kinds_faults g (meant_kinds ks) (names_view (y ∷ drop (i + 1) ys)))) kinds
    ∙ ap (λ ys. first_from next (kinds_faults g (meant_kinds (drop i ks)) (names_view ys))) (dropped ys i y c.index-arguments-i.is c.loop-i-test.true)
    ∙ c.loop-i.invariant
