use Rattle.std.proofs.Common.{◌≡◌, map, take, string_bytes}
use Rattle.serde_json.specs.View.{view}
use Rattle.kernel_message.specs.Json.{text}
use Rattle.kernel_reply.proofs.lists.text_items.Given as goal

abbrev pub invariant-loop-string : goal.invariant-loop-string
invariant-loop-string l = map view l.items.items ≡ map (λ s. text (string_bytes s)) (take l.string-index l.strings)
