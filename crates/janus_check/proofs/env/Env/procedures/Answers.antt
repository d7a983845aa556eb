use Rattle.std.proofs.Common.{string_bytes, ap, ◌∙◌, sym}
use Rattle.std.proofs.lemmas.List.{length-map}
use Rattle.janus_meaning.specs.Shape.{different}
use Rattle.janus_check.specs.Names.{meant_kinds, heads_in}
use Rattle.janus_check.proofs.ScopeLemmas.{different_alone}
use Rattle.janus_check.proofs.env.Env.procedures.Goals as goal

pub returns-clause-distinct : goal.returns-clause-distinct
returns-clause-distinct c =
    c.len.ensures.len ∙ sym (length-map c.self.inside.procedures.entries (λ e. (string_bytes e.0, e.1.items)))
    ∙ sym (different_alone meant_kinds _ c.self.invariant.2)
    ∙ ap (λ s. different (heads_in s.procedures)) c.self.view_is
