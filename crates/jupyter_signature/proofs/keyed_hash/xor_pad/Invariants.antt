use Rattle.std.proofs.Common.{◌≡◌, ◌++◌, take, drop}
use Rattle.jupyter_signature.specs.Hmac.{xor_pad}
use Rattle.jupyter_signature.proofs.keyed_hash.xor_pad.Given as goal

abbrev pub invariant-loop-octet : goal.invariant-loop-octet
invariant-loop-octet l =
    l.octet-items ≡ xor_pad l.pad (take l.octet-index l.fn.block) ++ drop l.octet-index l.fn.block
