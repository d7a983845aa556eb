use Rattle.std.proofs.Common.{[], ◌∷◌, ◌++◌, map, string_bytes, ap, ◌∙◌, sym, subst}
use Rattle.janus_meaning.specs.Shape.{head_at}
use Rattle.janus_check.specs.Names.{meant_kinds, heads_in, AreAdded}
use Rattle.janus_check.proofs.LookupLemmas.{seen_last, added_more}
use Rattle.janus_check.proofs.env.Env.define.Goals as goal

pub returns-clause-ok : goal.returns-clause-ok
returns-clause-ok c =
    let absent = ap (λ s. head_at (string_bytes c.args.name) (heads_in s.procedures)) c.self.view_is ∙ c.requires in
    seen_last (λ ks. ks.items) meant_kinds c.self.inside.procedures c.insert.new.self.entries c.args.name c.args.kinds c.self.invariant.2 absent
    c.in_ok-insert.ensures.entries
    ∙ ap (λ s. s.procedures ++ (string_bytes c.args.name, c.args.kinds.items) ∷ []) c.self.view_is

pub invariant_of-self-2 : goal.invariant_of-self-2
invariant_of-self-2 c =
    let absent = ap (λ s. head_at (string_bytes c.args.name) (heads_in s.procedures)) c.self.view_is ∙ c.requires in
    let more = seen_last (λ ks. ks.items) meant_kinds c.self.inside.procedures c.insert.new.self.entries c.args.name c.args.kinds c.self.invariant.2 absent
    c.in_ok-insert.ensures.entries in (
      c.self.invariant.0,
      c.self.invariant.1,
      subst (AreAdded meant_kinds []) (sym more)
          (added_more meant_kinds [] (map (λ e. (string_bytes e.0, e.1.items)) c.self.inside.procedures.entries) (string_bytes c.args.name)
          c.args.kinds.items c.self.invariant.2 absent),
    )
