use Rattle.std.proofs.Common.{◌≡◌, ℤ, pos, nat_abs, int_lt, false, option_copied, ap, ◌∙◌, sym, to_z, of_z, w32, arith}
use Rattle.std.proofs.lemmas.Int.{to_z-of_z}
use Rattle.janus_meaning.specs.Fault.{Fine, IndexRange}
use Rattle.janus_memory.specs.Values.{read_or}
use Rattle.janus_memory.proofs.Elements.{found_is}
use Rattle.steps_walk.proofs.evaluation.item.Goals as goal

pub returns-in-Some : goal.returns-in-Some
returns-in-Some c =
    let z = to_z-of_z w32 c.args.index c.ranges.index in
    let positive : int_lt c.args.index (pos 0) ≡ false = ap (λ n. int_lt n (pos 0)) (sym z) ∙ c.if-index-lt0.false in
    let looked = c.get.ensures.lookup in
    let n : ℤ = c.in-Some.number.now in
    let y : to_z w32 (of_z w32 n) ≡ n = grind (arith, to_z-of_z) in
    ap Fine y ∙ ap (λ r. read_or IndexRange (option_copied r)) (sym c.in-Some.is)
    ∙ found_is c.args.items.now c.args.index _ c.get.result (ap nat_abs z) positive looked.0 looked.1

pub returns-in-None : goal.returns-in-None
returns-in-None c =
    let z = to_z-of_z w32 c.args.index c.ranges.index in
    let positive : int_lt c.args.index (pos 0) ≡ false = ap (λ n. int_lt n (pos 0)) (sym z) ∙ c.if-index-lt0.false in
    let looked = c.get.ensures.lookup in
    ap (λ r. read_or IndexRange (option_copied r)) (sym c.in-None.is)
    ∙ found_is c.args.items.now c.args.index _ c.get.result (ap nat_abs z) positive looked.0 looked.1
