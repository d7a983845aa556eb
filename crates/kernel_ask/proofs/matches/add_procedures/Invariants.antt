use Rattle.std.proofs.Common.{◌≡◌, map, take, string_bytes}
use Rattle.kernel_text.specs.Defined.{in_a_row}
use Rattle.kernel_ask.specs.Added.{with_matches}
use Rattle.kernel_text.specs.Procedures.{procedure_names}
use Rattle.kernel_ask.proofs.matches.add_procedures.Given as goal

abbrev pub invariant-loop-i : goal.invariant-loop-i
invariant-loop-i l =
    map string_bytes l.names.keys ≡ with_matches l.prefix (map string_bytes l.initial.names.keys) (procedure_names (in_a_row (take l.i l.procedures)))
