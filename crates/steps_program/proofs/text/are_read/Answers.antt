use Rattle.std.proofs.Common.{arith}
use Rattle.std.specs.Prelude.{Some}
use Rattle.steps_program.specs.Walked.{IsReadAt}
use Rattle.steps_program.proofs.Entering.{one_more_node}
use Rattle.steps_program.proofs.text.are_read.Goals as goal

pub loop-k-init : goal.loop-k-init
loop-k-init g c = record { own = c.in_ok-is_read.ensures c.if-not-branch.false; nodes = λ n some none. absurd (omega (arith, some, none)) }

pub loop-k-preserved : goal.loop-k-preserved
loop-k-preserved g c = record {
  own = c.loop-k.invariant.own;
  nodes = one_more_node (λ n. IsReadAt c.args.sources.now c.args.walk.now (Some n)) c.loop-k.k c.loop-k.invariant.nodes
      (c.in_ok-is_read-2.ensures c.if-not-branch-2.false);
}

pub returns : goal.returns
returns g c =
    let many = c.nodes-k-end.ensures in
    let done = c.loop-k-test.false in
    λ yes. record { own = c.loop-k.invariant.own; nodes = λ n some low. c.loop-k.invariant.nodes n some (omega (arith, low, many, done)) }
