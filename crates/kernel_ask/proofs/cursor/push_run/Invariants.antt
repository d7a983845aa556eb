use Rattle.std.proofs.Common.{◌≡◌, ◌++◌, drop, string_bytes}
use Rattle.kernel_ask.specs.Cursor.{first_run}
use Rattle.kernel_ask.proofs.cursor.push_run.Given as goal

-- what is still to come of the run stands behind what was added
abbrev pub invariant-loop-c : goal.invariant-loop-c
invariant-loop-c l = string_bytes l.run ++ first_run (drop l.c-index l.characters) ≡ string_bytes l.initial.run ++ first_run l.characters
