use Rattle.std.proofs.Common.{◌≡◌, take, string_bytes}
use Rattle.kernel_ask.specs.Cursor.{is_name, longest_end}
use Rattle.kernel_ask.proofs.cursor.last_name.Given as goal

abbrev pub invariant-loop-c : goal.invariant-loop-c
invariant-loop-c l = string_bytes l.name ≡ longest_end is_name (take l.c-index l.characters)
