use Rattle.std.proofs.Common.{ap, ◌∙◌, sym}
use Rattle.janus_meaning.specs.Shape.{kind_at}
use Rattle.janus_check.specs.Names.{kind_found, meant_kind, shape_in}
use Rattle.janus_check.proofs.LookupLemmas.{looked_up, kind_meant}
use Rattle.janus_check.proofs.env.Env.kind.Goals as goal

pub returns : goal.returns
returns c =
    ap kind_found (c.copied.ensures ∙ c.get.ensures.value) ∙ sym (kind_meant _)
    ∙ looked_up (λ k. k) meant_kind c.args.name.now c.self.inside.names.entries c.self.invariant.0
    ∙ ap (λ s. kind_at c.args.name.now (shape_in s.names)) c.self.view_is
