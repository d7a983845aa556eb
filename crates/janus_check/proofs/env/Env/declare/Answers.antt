use Rattle.std.proofs.Common.{[], ◌∷◌, ◌++◌, map, string_bytes, ap, ◌∙◌, sym, subst}
use Rattle.janus_meaning.specs.Shape.{kind_at, count_stack, stack_count}
use Rattle.janus_check.specs.Names.{meant_kind, shape_in, AreNewNames}
use Rattle.janus_check.proofs.LookupLemmas.{seen_last, added_more}
use Rattle.janus_check.proofs.ScopeLemmas.{stacks-append}
use Rattle.janus_check.proofs.env.Env.declare.Goals as goal

pub returns-clause-ok : goal.returns-clause-ok
returns-clause-ok c =
    let absent = ap (λ s. kind_at (string_bytes c.args.name) (shape_in s.names)) c.self.view_is ∙ c.requires in
    seen_last (λ k. k) meant_kind c.self.inside.names c.insert.new.self.entries c.args.name c.args.kind c.self.invariant.0 absent c.in_ok-insert.ensures.entries
    ∙ ap (λ s. s.names ++ (string_bytes c.args.name, c.args.kind) ∷ []) c.self.view_is

pub invariant_of-self-2 : goal.invariant_of-self-2
invariant_of-self-2 c =
    let absent = ap (λ s. kind_at (string_bytes c.args.name) (shape_in s.names)) c.self.view_is ∙ c.requires in
    let more = seen_last (λ k. k) meant_kind c.self.inside.names c.insert.new.self.entries c.args.name c.args.kind c.self.invariant.0 absent
    c.in_ok-insert.ensures.entries in (
      subst (AreNewNames []) (sym more)
          (added_more meant_kind [] (map (λ e. (string_bytes e.0, e.1)) c.self.inside.names.entries) (string_bytes c.args.name)
          c.args.kind c.self.invariant.0 absent),
      c.stacks_with-stacks.ensures ∙ ap (λ s. count_stack (meant_kind c.args.kind) (stack_count (shape_in s.names))) (sym c.self.view_is)
          ∙ sym (ap (λ s. stack_count (shape_in s)) more ∙ stacks-append (map (λ e. (string_bytes e.0, e.1)) c.self.inside.names.entries)
          (string_bytes c.args.name) c.args.kind),
      c.self.invariant.2,
    )
