use Rattle.std.proofs.Common.{arith, bit_xor, get_or, ◌<◌, length}
use Rattle.std.proofs.lemmas.List.{get_or_default}
use Rattle.std.proofs.lemmas.List.Edits.{map_over_more}
use Rattle.jupyter_signature.proofs.keyed_hash.xor_pad.Goals as goal

pub loop-octet-preserved : goal.loop-octet-preserved
loop-octet-preserved c =
    let ys = c.loop-octet.octet-items in
    let i = c.loop-octet.octet-index in
    let within : i < length ys = omega arith in
    map_over_more (λ octet. bit_xor octet c.args.pad) c.args.block ys i (get_or ys i 0) (omega arith) c.loop-octet.invariant
    (get_or_default ys i 0 (get_or ys i 0) within)
