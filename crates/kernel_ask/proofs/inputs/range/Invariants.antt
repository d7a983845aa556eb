use Rattle.std.proofs.Common.{◌≡◌, length, map, take}
use Rattle.std.specs.List.{filter}
use Rattle.kernel_ask.specs.History.{numbered, is_within, input_of}
use Rattle.kernel_ask.proofs.Counted.{texts}
use Rattle.kernel_ask.proofs.inputs.range.Given as goal

-- the inputs of the first entries
abbrev pub invariant-loop-entry : goal.invariant-loop-entry
invariant-loop-entry l = record {
  number : l.number ≡ length (take l.counter (texts (take l.entry-index l.entries)));
  told : map input_of l.told.items ≡ filter (λ i. is_within l.start l.stop i.0) (numbered 1 (take l.counter (texts (take l.entry-index l.entries))));
}
