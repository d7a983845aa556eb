use Rattle.std.proofs.Common.{◌≡◌, pos, nat_abs, int_lt, false, ap, ◌∙◌, sym, w32}
use Rattle.std.proofs.lemmas.Int.{to_z-of_z}
use Rattle.janus_meaning.specs.Fault.{IndexRange}
use Rattle.janus_memory.specs.Values.{read_or}
use Rattle.janus_memory.proofs.Elements.{found_is}
use Rattle.janus_memory.proofs.arrays.element_of.Goals as goal

pub returns : goal.returns
returns c =
    let z = to_z-of_z w32 c.args.index c.ranges.index in
    let positive : int_lt c.args.index (pos 0) ≡ false = ap (λ n. int_lt n (pos 0)) (sym z) ∙ c.if-index-lt0.false in
    let looked = c.get.ensures.lookup in
    ap (read_or IndexRange) c.copied.ensures ∙ found_is c.args.items.now c.args.index _ c.get.result (ap nat_abs z) positive looked.0 looked.1
