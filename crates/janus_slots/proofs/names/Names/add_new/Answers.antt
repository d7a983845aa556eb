use Rattle.std.proofs.Common.{◌++◌, ◌∷◌, [], map, string_bytes, ap, ◌∙◌, sym, subst}
use Rattle.janus_slots.specs.Numbers.{IsUnmet, HaveOneNumber}
use Rattle.janus_slots.proofs.Places.{one_more, inserted_last}
use Rattle.janus_slots.proofs.names.Names.add_new.Goals as goal

pub returns-clause-added : goal.returns-clause-added
returns-clause-added c =
    let unmet = subst (λ xs. IsUnmet xs (string_bytes c.args.name)) (sym c.self.view_is) c.requires in
    inserted_last c.self.inside.names.keys c.insert.new.self.keys c.args.name unmet c.in_ok-insert.ensures.keys
    ∙ ap (λ xs. xs ++ string_bytes c.args.name ∷ []) c.self.view_is

pub invariant_of-self-2 : goal.invariant_of-self-2
invariant_of-self-2 c =
    let unmet = subst (λ xs. IsUnmet xs (string_bytes c.args.name)) (sym c.self.view_is) c.requires in
    subst HaveOneNumber (sym (inserted_last c.self.inside.names.keys c.insert.new.self.keys c.args.name unmet c.in_ok-insert.ensures.keys))
    (one_more (map string_bytes c.self.inside.names.keys) (string_bytes c.args.name) c.self.invariant unmet)
