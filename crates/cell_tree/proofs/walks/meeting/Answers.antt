use Rattle.std.proofs.Common.{ℕ, ◌<◌, sym, ap, ◌∙◌, arith}
use Rattle.cell_tree.specs.Tree.{parents_of}
use Rattle.cell_tree.specs.Paths.{meeting_of}
use Rattle.cell_tree.proofs.Trees.{count_of_parents}
use Rattle.cell_tree.proofs.Paths.{meeting_up, meeting_up_second, meeting_same}
use Rattle.cell_tree.proofs.walks.meeting.Goals as goal

pub loop-a-preserved-then-a-b : goal.loop-a-preserved-then-a-b
loop-a-preserved-then-a-b g c =
    let nodes = c.args.nodes.now in
    let at = c.loop-a in
    let count = count_of_parents nodes in
    let over : at.b < at.a = omega (arith, c.if-a-b.true) in
    let known = at.invariant.first in
    let low = c.parent_of-a.ensures.before (omega arith) in
    record {
      first = omega arith;
      second = at.invariant.second;
      meets =
          ap (λ (n : ℕ). meeting_of (parents_of nodes) n at.b) c.parent_of-a.ensures.parent
          ∙ meeting_up (parents_of nodes) at.a at.b c.requires.ordered (omega arith) over
          ∙ at.invariant.meets;
    }

pub loop-a-preserved : goal.loop-a-preserved
loop-a-preserved g c =
    let nodes = c.args.nodes.now in
    let at = c.loop-a in
    let count = count_of_parents nodes in
    let over : at.a < at.b = omega (arith, c.if-a-b.false, c.loop-a-test.true) in
    let known = at.invariant.second in
    let low = c.parent_of-b.ensures.before (omega arith) in
    record {
      first = at.invariant.first;
      second = omega arith;
      meets =
          ap (λ (n : ℕ). meeting_of (parents_of nodes) at.a n) c.parent_of-b.ensures.parent
          ∙ meeting_up_second (parents_of nodes) at.a at.b c.requires.ordered (omega arith) over
          ∙ at.invariant.meets;
    }

pub returns : goal.returns
returns g c =
    let nodes = c.args.nodes.now in
    let at = c.loop-a in
    let count = count_of_parents nodes in
    let known = at.invariant.first in
    sym (meeting_same (parents_of nodes) at.a c.requires.ordered (omega arith))
    ∙ ap (λ (n : ℕ). meeting_of (parents_of nodes) at.a n) c.loop-a-test.false
    ∙ at.invariant.meets
