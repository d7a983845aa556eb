use Rattle.std.proofs.Common.{sym, ap, ◌∙◌}
use Rattle.janus_meaning.specs.Shape.{kind_at}
use Rattle.janus_syntax.specs.View.{name_of}
use Rattle.janus_check.specs.Names.{shape_in, kind_found}
use Rattle.janus_check.proofs.ScopeLemmas.{kind_own, kind_older}
use Rattle.janus_check.proofs.scope.kind_declared.Goals as goal

pub returns-in-Some : goal.returns-in-Some
returns-in-Some g c =
    let table = g.T.SymbolTable.known in
    kind_own (name_of c.args.name.now) (shape_in (table c.args.env.now).names) c.args.own.now.names c.in-Some.kind
    (sym (ap kind_found c.in-Some.is) ∙ c.kind.ensures ∙ ap (λ x. kind_at x (shape_in c.args.own.now.names)) c.deref.ensures)

pub returns-in-None : goal.returns-in-None
returns-in-None g c =
    let table = g.T.SymbolTable.known in
    kind_older (name_of c.args.name.now) (shape_in (table c.args.env.now).names) c.args.own.now.names c.kind-in-None.result
    (sym (ap kind_found c.in-None.is) ∙ c.kind.ensures ∙ ap (λ x. kind_at x (shape_in c.args.own.now.names)) c.deref.ensures)
    (c.kind-in-None.ensures ∙ ap (λ x. kind_at x (shape_in (table c.args.env.now).names)) c.deref-in-None.ensures)
