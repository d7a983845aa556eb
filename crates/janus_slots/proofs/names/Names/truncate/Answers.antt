use Rattle.std.proofs.Common.{map, take, string_bytes, ap, ◌∙◌, sym, subst}
use Rattle.std.proofs.lemmas.List.{take-map}
use Rattle.janus_slots.specs.Numbers.{HaveOneNumber}
use Rattle.janus_slots.proofs.Places.{fewer_names}
use Rattle.janus_slots.proofs.names.Names.truncate.Goals as goal

pub returns-clause-names : goal.returns-clause-names
returns-clause-names c =
    ap (map string_bytes) c.truncate.ensures.keys ∙ sym (take-map string_bytes c.args.len c.self.inside.names.keys) ∙ ap (take c.args.len) c.self.view_is

fewer : goal.invariant_of-self
fewer c =
    subst HaveOneNumber (sym (ap (map string_bytes) c.truncate.ensures.keys ∙ sym (take-map string_bytes c.args.len c.self.inside.names.keys)))
    (fewer_names (map string_bytes c.self.inside.names.keys) c.args.len c.self.invariant)

pub invariant_of-self : goal.invariant_of-self
invariant_of-self c = fewer c

pub returns-clause-one_number : goal.returns-clause-one_number
returns-clause-one_number c = fewer c
