use Rattle.std.proofs.Common.{◌≡◌, ◌-◌, ◌++◌, length, map, reverse, take}
use Rattle.steps_walk.proofs.sight.add_declared.Given as goal

-- those so far and what is left are all
abbrev pub invariant-loop-i : goal.invariant-loop-i
invariant-loop-i l =
    map (λ b. b.now) l.all.items ++ reverse (take (length l.names - l.i) l.names) ≡ map (λ b. b.now) l.fn.all.items ++ reverse l.names
