use Rattle.std.proofs.Common.{◌≡◌, map, take, string_bytes}
use Rattle.kernel_ask.specs.Added.{with_matches}
use Rattle.kernel_ask.specs.Matches.{names_of}
use Rattle.kernel_ask.proofs.matches.add_declared.Given as goal

abbrev pub invariant-loop-i : goal.invariant-loop-i
invariant-loop-i g l = map string_bytes l.names.keys ≡ with_matches l.prefix (map string_bytes l.initial.names.keys) (take l.i (names_of l.world.store))
