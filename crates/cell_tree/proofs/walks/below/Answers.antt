use Rattle.std.proofs.Common.{◌≡◌, ℕ, ◌+◌, ◌-◌, ◌<◌, length, get_or, suc, ap, ◌∙◌, arith}
use Rattle.cell_tree.specs.Paths.{downward}
use Rattle.cell_tree.proofs.Ways.{downward_more}
use Rattle.cell_tree.proofs.walks.below.Goals as goal

pub loop-count-preserved : goal.loop-count-preserved
loop-count-preserved c =
    let favourites = c.args.favourites.now in
    let at = c.loop-count in
    let one = c.loop-count-test.true in
    let long = at.invariant.long in
    let left : at.count < c.args.most = omega arith in
    let rest = c.args.most - (at.count + 1) in
    let child = get_or favourites at.at 0 in
    let more : c.args.most - at.count ≡ suc rest = omega arith in
    let step : length (downward favourites at.at (c.args.most - at.count)) ≡ suc (length (downward favourites child rest)) =
    ap (λ (n : ℕ). length (downward favourites at.at n)) more ∙ downward_more favourites at.at rest c.if-at-eq0.false in
    record { known = c.requires.nodes at.at at.invariant.known; few = omega arith; long = omega arith }
