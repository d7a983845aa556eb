use Rattle.std.proofs.Common.{◌<◌, sym, subst, ◌∙◌, arith}
use Rattle.kernel_history.proofs.Nodes.{parent_there, count_of_nodes}
use Rattle.steps_walk.specs.Bodies.{IsPassed, Position, Above}
use Rattle.steps_walk.proofs.Bodies.{found_here, none_here, found_there, none_there}
use Rattle.steps_walk.proofs.body.text_of.Goals as goal

pub returns-in-Some-clause-some : goal.returns-in-Some-clause-some
returns-in-Some-clause-some c =
    found_here c.args.program.now c.args.tree.now c.args.name.now c.in-Some.procedure.now (rw c.deref.ensures.value at c.in-Some.ensures.some)

pub loop-at-init : goal.loop-at-init
loop-at-init c =
    let size = count_of_nodes c.args.tree.now in
    let known = c.requires.position in
    let none = rw c.deref.ensures.value at c.in_default.ensures.none in
    (omega (arith, size, known), none_here c.args.program.now c.args.tree.now c.args.name.now none, Position none)

pub returns-in-Some-newest-clause-some : goal.returns-in-Some-newest-clause-some
returns-in-Some-newest-clause-some c =
    let tree = c.args.tree.now in
    let n = c.loop-at.at in
    let test = c.loop-at-test.true in
    let some : 0 < n = omega (arith, test) in
    found_there c.args.program.now tree c.args.name.now c.requires n c.content.result.now some c.loop-at.invariant.0 (some, c.content.ensures) _
    (sym (parent_there tree n)) c.loop-at.invariant.1 c.loop-at.invariant.2 c.in-Some-newest.procedure.now
    (rw c.deref-in-loop-at.ensures.value at c.in-Some-newest.ensures.some)

pub loop-at-preserved : goal.loop-at-preserved
loop-at-preserved c =
    let tree = c.args.tree.now in
    let n = c.loop-at.at in
    let test = c.loop-at-test.true in
    let some : 0 < n = omega (arith, test) in
    let known = c.loop-at.invariant.0 in
    let low = c.parent-at.ensures.before some in
    let none = rw c.deref-in-loop-at.ensures.value at c.in_default-newest.ensures.none in (
      omega (arith, low, known),
      none_there c.args.program.now tree c.args.name.now c.requires n c.content.result.now some known (some, c.content.ensures) c.parent-at.result
          (c.parent-at.ensures.parent ∙ sym (parent_there tree n)) c.loop-at.invariant.1 none,
      subst (IsPassed c.args.program.now tree c.args.name.now) (sym (c.parent-at.ensures.parent ∙ sym (parent_there tree n)))
          (Above n c.content.result.now c.loop-at.invariant.2 (some, c.content.ensures) none),
    )
