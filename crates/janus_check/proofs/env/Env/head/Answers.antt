use Rattle.std.proofs.Common.{Some, sym, ap, ◌∙◌}
use Rattle.janus_meaning.specs.Shape.{head_at}
use Rattle.janus_check.specs.Names.{meant_kinds, heads_in}
use Rattle.janus_check.proofs.LookupLemmas.{meant, looked_up}
use Rattle.janus_check.proofs.env.Env.head.Goals as goal

pub returns-in-Some : goal.returns-in-Some
returns-in-Some c =
    let found = looked_up (λ ks. ks.items) meant_kinds c.args.name.now c.self.inside.procedures.entries c.self.invariant.2 in
    ap (λ s. head_at c.args.name.now (heads_in s.procedures)) (sym c.self.view_is)
    ∙ sym (ap (meant (λ ks. meant_kinds ks.items)) c.in-Some.ensures.value ∙ found)
    ∙ ap (λ ks. Some (meant_kinds ks)) (sym c.deref.ensures.value)

pub returns-in-None : goal.returns-in-None
returns-in-None c =
    let found = looked_up (λ ks. ks.items) meant_kinds c.args.name.now c.self.inside.procedures.entries c.self.invariant.2 in
    ap (λ s. head_at c.args.name.now (heads_in s.procedures)) (sym c.self.view_is)
    ∙ sym (ap (meant (λ ks. meant_kinds ks.items)) c.in-None.ensures.value ∙ found)
