use Rattle.std.proofs.Common.{◌≡◌, ◌+◌, length, drop}
use Rattle.kernel_loader.specs.InEffect.{in_effect_from}
use Rattle.kernel_loader.proofs.tables.count_in_effect.Given as goal

-- those counted so far and those from here on are all
abbrev pub invariant-loop-number : goal.invariant-loop-number
invariant-loop-number l =
    l.count + length (in_effect_from l.procedures l.number (drop l.number l.entries)) ≡ length (in_effect_from l.procedures 0 l.entries)
