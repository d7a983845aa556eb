use Rattle.std.proofs.Common.{◌≡◌, ℕ, ◌+◌, ◌<◌, sym, ap, ◌∙◌, arith}
use Rattle.cell_tree.specs.Tree.{parents_of}
use Rattle.cell_tree.specs.Paths.{depth}
use Rattle.cell_tree.proofs.Trees.{count_of_parents}
use Rattle.cell_tree.proofs.Paths.{depth_more}
use Rattle.cell_tree.proofs.walks.above.Goals as goal

pub loop-count-preserved : goal.loop-count-preserved
loop-count-preserved g c =
    let parents = parents_of c.args.nodes.now in
    let at = c.loop-count in
    let count = count_of_parents c.args.nodes.now in
    let known = at.invariant.known in
    let some : 0 < at.at = omega (arith, c.if-at-eq0.false) in
    let low = c.parent_of-at.ensures.before some in
    let one = c.loop-count-test.true in
    let deep = at.invariant.deep in
    let step : depth parents at.at ≡ depth parents c.parent_of-at.result + 1 =
    depth_more parents at.at c.requires.ordered some (omega arith) ∙ ap (λ (n : ℕ). depth parents n + 1) (sym c.parent_of-at.ensures.parent) in
    record { known = omega arith; few = omega arith; deep = omega arith }
