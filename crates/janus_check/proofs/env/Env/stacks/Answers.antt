use Rattle.std.proofs.Common.{ap, ◌∙◌, arith}
use Rattle.janus_meaning.specs.Shape.{stack_count}
use Rattle.janus_check.specs.Names.{shape_in}
use Rattle.janus_check.proofs.ScopeLemmas.{stacks_within, length-shape}
use Rattle.janus_check.proofs.env.Env.stacks.Goals as goal

pub returns-clause-small : goal.returns-clause-small
returns-clause-small c =
    let count = c.self.invariant.1 ∙ ap (λ s. stack_count (shape_in s.names)) c.self.view_is in
    omega (
      arith,
      count,
      stacks_within (shape_in c.args.self.now.names),
      length-shape c.args.self.now.names,
      c.len-names.ensures.count,
      c.len-names.ensures.small,
    )
