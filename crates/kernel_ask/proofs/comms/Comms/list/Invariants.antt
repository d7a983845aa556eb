use Rattle.std.proofs.Common.{◌≡◌, ◌++◌, map, string_bytes}
use Rattle.kernel_ask.proofs.comms.Comms.list.Given as goal

-- the copies, and the ids that are left
abbrev pub invariant-loop-id : goal.invariant-loop-id
invariant-loop-id l = map string_bytes l.ids.items ++ map string_bytes l.id-iterator ≡ l.self
