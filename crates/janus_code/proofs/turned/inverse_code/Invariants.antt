use Rattle.std.proofs.Common.{◌≡◌, length}
use Rattle.janus_code.specs.Inverted.{IsInverse}
use Rattle.janus_code.proofs.InvertedPairs.{ArePairs}
use Rattle.janus_code.proofs.turned.inverse_code.Given as goal

abbrev pub invariant-loop-i : goal.invariant-loop-i
invariant-loop-i l = record {
  as_many : length l.statements.items ≡ l.i;
  inverse : ArePairs (IsInverse l.code.members.items l.members.items) l.code.statements.items l.statements.items;
}
