use Rattle.std.proofs.Common.{ℕ, sym, subst, arith}
use Rattle.std.specs.Prelude.{Option}
use Rattle.steps_walk.specs.Bodies.{IsTextOf}
use Rattle.steps_walk.specs.Walk.{runner_of, program_of, tree_of}
use Rattle.steps_walk.proofs.Meeting.{made}
use Rattle.steps_walk.proofs.MetBodies.{has_number, runs_named}
use Rattle.steps_walk.proofs.walk.Walk.made_body.Goals as goal

pub returns-in_ok-of-in-Some-clause-met : goal.returns-in_ok-of-in-Some-clause-met
returns-in_ok-of-in-Some-clause-met g c =
    let w = c.args.self.now in
    let is = c.in_ok-of-in-Some.ensures in
    let name = c.name-name.result.now in
    let p = c.in-Some.procedure.now in
    made (runner_of w).entries (program_of w) (tree_of w) c.in_ok-of-in-Some.field-0 c.args.number name p is.number c.name-name.ensures
    (subst (λ (o : Option ℕ). IsTextOf (program_of w) (tree_of w) name o p) (sym is.node) c.in-Some.ensures.some) is.is

pub returns-then-number-len-clause-some : goal.returns-then-number-len-clause-some
returns-then-number-len-clause-some g c = λ has.
    let low = has_number c.args.self.now c.requires c.args.number has in
    let many = c.len.ensures in
    let past = c.if-number-len.true in
    absurd (omega (arith, low, many, past))

pub returns-in-None-clause-some : goal.returns-in-None-clause-some
returns-in-None-clause-some g c = λ has.
    absurd (runs_named c.args.self.now c.requires c.args.number c.name-name.result.now has c.name-name.ensures c.in-None.ensures.none)
