use Rattle.std.proofs.Common.{List, map, refl, ap, ◌∙◌, sym}
use Rattle.std.proofs.lemmas.List.{take-map}
use Rattle.janus_machine.specs.declared.procedures.Body.{Body}
use Rattle.janus_machine.proofs.Bodies.{forgotten_defined}
use Rattle.janus_machine.proofs.procedures.Procedures.forget.Goals as goal

pub returns-clause-kept : goal.returns-clause-kept
returns-clause-kept c =
    ap (λ (bodies : List Body). map (λ (b : Body). b.procedure) bodies) c.truncate.ensures.items
    ∙ sym (take-map (λ (b : Body). b.procedure) c.args.from c.args.self.now.bodies.items)

pub returns-clause-defined : goal.returns-clause-defined
returns-clause-defined c stack h below = forgotten_defined c.args.self.now _ c.args.from stack c.truncate.ensures.items refl h below
