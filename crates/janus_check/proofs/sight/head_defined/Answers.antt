use Rattle.std.proofs.Common.{Some, None, ap, ◌∙◌, sym, subst}
use Rattle.std.specs.Prelude.{◌≡◌, MatchOption}
use Rattle.janus_meaning.specs.Shape.{head_at}
use Rattle.janus_syntax.specs.View.{name_of}
use Rattle.janus_check.specs.Names.{meant_kinds, heads_in}
use Rattle.janus_check.proofs.ScopeLemmas.{at_first, at_second}
use Rattle.janus_check.proofs.sight.head_defined.Goals as goal

pub returns-in-Some : goal.returns-in-Some
returns-in-Some g c =
    let table = g.T.SymbolTable.known in
    at_first (name_of c.args.name.now) (heads_in c.args.own.now.procedures) (heads_in (table c.args.env.now).procedures) (meant_kinds c.in-Some.kinds.now)
    (ap (λ x. head_at x (heads_in c.args.own.now.procedures)) (sym c.deref.ensures) ∙ c.in-Some.ensures)

pub returns-in-None : goal.returns-in-None
returns-in-None g c =
    let table = g.T.SymbolTable.known in
    let x = name_of c.args.name.now in
    let env = heads_in (table c.args.env.now).procedures in
    let out = ap (λ x. head_at x (heads_in c.args.own.now.procedures)) (sym c.deref.ensures) ∙ c.in-None.ensures in
    subst (λ o. MatchOption c.head-in-None.result (o ≡ None) (λ kinds. o ≡ Some (meant_kinds kinds.now)))
    (ap (λ x. head_at x env) c.deref-in-None.ensures ∙ sym (at_second x (heads_in c.args.own.now.procedures) env out))
    c.head-in-None.ensures
