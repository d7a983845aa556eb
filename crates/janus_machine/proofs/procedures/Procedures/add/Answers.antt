use Rattle.std.proofs.Common.{◌∙◌, ◌∷◌, [], ◌++◌, ap}
use Rattle.janus_machine.proofs.Bodies.{pushed_wide, added_defined}
use Rattle.janus_machine.proofs.procedures.Procedures.add.Goals as goal

pub invariant_of-self : goal.invariant_of-self
invariant_of-self c = record {
  wide = pushed_wide c.reach.new.self.bodies.items c.push.new.self.items (record { procedure = c.args.procedure; hidden = 0 })
      _ _ c.push.ensures.items c.reach.new.self.wide c.in_ok-reach.ensures.reached;
}

pub returns-clause-defined : goal.returns-clause-defined
returns-clause-defined c stack h =
    added_defined c.args.self.now _ (record { procedure = c.args.procedure; hidden = 0 }) stack
    (c.in_ok-push.ensures.items ∙ ap (λ bodies. bodies ++ record { procedure = c.args.procedure; hidden = 0 } ∷ []) c.in_ok-reach.ensures.bodies)
    c.in_ok-reach.ensures.newest h
