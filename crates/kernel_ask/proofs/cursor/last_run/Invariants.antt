use Rattle.std.proofs.Common.{◌≡◌, take, string_bytes}
use Rattle.std.specs.List.{list_all}
use Rattle.kernel_ask.specs.Cursor.{goes_on, longest_end}
use Rattle.kernel_ask.proofs.cursor.last_run.Given as goal

abbrev pub invariant-loop-c : goal.invariant-loop-c
invariant-loop-c l = string_bytes l.run ≡ longest_end (list_all goes_on) (take l.c-index l.characters)
