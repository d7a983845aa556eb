use Rattle.std.proofs.Common.{◌≡◌, ◌≤◌, ◌++◌, map, length, drop, reverse}
use Rattle.kernel_text.specs.Written.{entry_of}
use Rattle.kernel_ask.specs.History.{inputs, input_of}
use Rattle.kernel_ask.specs.Tail.{counted_in}
use Rattle.kernel_ask.proofs.tail.last_first.Given as goal

-- what is left has so many counted cells, and its inputs and then those that are told are all
abbrev pub invariant-loop-entry : goal.invariant-loop-entry
invariant-loop-entry l = record {
  number : l.number ≡ counted_in (map entry_of l.rest);
  within : l.before ≤ l.number;
  told : drop l.before (inputs (map entry_of l.rest) l.counter) ++ reverse (map input_of l.told.items) ≡ drop l.before
      (inputs (map entry_of l.entries) l.counter);
}

abbrev pub decreases-loop-entry : goal.decreases-loop-entry
decreases-loop-entry l = length l.rest
