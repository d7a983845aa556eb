use Rattle.std.proofs.Common.{◌≡◌, map, take, string_bytes}
use Rattle.janus_meaning.specs.World.{listed}
use Rattle.kernel_text.specs.ValueTexts.{value_text}
use Rattle.kernel_ask.proofs.standing.value_texts.Given as goal

abbrev pub invariant-loop-i : goal.invariant-loop-i
invariant-loop-i g l = map string_bytes l.texts.items ≡ map value_text (take l.i (listed l.world.store))
