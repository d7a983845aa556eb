use Rattle.std.proofs.Common.{◌≡◌, ◌++◌, map, drop, string_bytes}
use Rattle.steps_walk.proofs.sight.add_parameters.Given as goal

-- those so far and what is left are all
abbrev pub invariant-loop-i : goal.invariant-loop-i
invariant-loop-i l =
    map (λ b. b.now) l.all.items ++ map string_bytes (drop l.i l.names) ≡ map (λ b. b.now) l.fn.all.items ++ map string_bytes l.names
