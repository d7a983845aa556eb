use Rattle.std.proofs.Common.{◌≡◌, ◌∷◌, map, take, string_bytes}
use Rattle.std.specs.List.{join_with_byte}
use Rattle.kernel_ask.proofs.shown.parted.Given as goal

abbrev pub invariant-loop-next : goal.invariant-loop-next
invariant-loop-next l = string_bytes l.text ≡ join_with_byte 10 (l.first ∷ map string_bytes (take l.next-index l.rest))
