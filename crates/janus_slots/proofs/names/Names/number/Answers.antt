use Rattle.std.proofs.Common.{IfSome, ◌∙◌, sym, subst}
use Rattle.janus_slots.specs.Numbers.{IsNumbered, IsUnmet}
use Rattle.janus_slots.proofs.Places.{if_numbered, unmet_there}
use Rattle.janus_slots.proofs.names.Names.number.Goals as goal

pub returns-clause-met : goal.returns-clause-met
returns-clause-met c =
    subst (λ xs. IfSome c.get_index_of.result (λ i. IsNumbered xs i c.args.name.now)) c.self.view_is
    (if_numbered c.args.name.now c.self.inside.names.keys c.get_index_of.result c.get_index_of.ensures.index)

pub returns-clause-unmet : goal.returns-clause-unmet
returns-clause-unmet c =
    λ none. subst (λ xs. IsUnmet xs c.args.name.now) c.self.view_is
    (unmet_there c.args.name.now c.self.inside.names.keys (sym c.get_index_of.ensures.index ∙ none))
