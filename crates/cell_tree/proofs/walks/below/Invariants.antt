use Rattle.std.proofs.Common.{◌≡◌, ◌<◌, ◌≤◌, ◌+◌, ◌-◌, length}
use Rattle.cell_tree.specs.Paths.{downward}
use Rattle.cell_tree.proofs.walks.below.Given as goal

abbrev pub invariant-loop-count : goal.invariant-loop-count
invariant-loop-count l = record {
  known : l.at < length l.favourites;
  few : l.count ≤ l.most;
  long : l.count + length (downward l.favourites l.at (l.most - l.count)) ≡ length (downward l.favourites l.node l.most);
}
