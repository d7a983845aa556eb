use Rattle.std.proofs.Common.{◌≡◌, ◌++◌, ◌∷◌, [], None, ap, ◌∙◌, sym}
use Rattle.janus_meaning.specs.Shape.{head_at, count_new, different}
use Rattle.janus_syntax.specs.View.{name_of}
use Rattle.janus_check.specs.Names.{meant_kinds, heads_in}
use Rattle.janus_check.proofs.NoFaults.{none_out}
use Rattle.janus_check.proofs.LookupLemmas.{found_some}
use Rattle.janus_check.proofs.ScopeLemmas.{above-append}
use Rattle.janus_check.proofs.HeadLemmas.{head_added}
use Rattle.janus_check.proofs.procedure.add.Goals as goal

pub returns-clause-heads : goal.returns-clause-heads
returns-clause-heads g c =
    let f = name_of c.args.name.now in
    let own = heads_in c.args.own.now.procedures in
    let cs = meant_kinds c.args.kinds.items in
    let absent : head_at f own ≡ None =
    ap (λ f. head_at f own) (sym c.deref.ensures)
    ∙ none_out (head_at c.deref.result.now own)
    (sym (c.is_some.ensures ∙ found_some (λ ks. meant_kinds ks.now) (head_at c.deref.result.now own) c.head.result c.head.ensures) ∙ c.if-is_some.false) in
    ap heads_in c.in_ok-define.ensures.ok
    ∙ above-append meant_kinds [] c.args.own.now.procedures ((_, c.args.kinds.items) ∷ [])
    ∙ ap (λ f. (f, cs) ∷ own) c.in_ok-clone.ensures.cases
    ∙ sym (head_added own f cs absent)

pub returns-clause-counted : goal.returns-clause-counted
returns-clause-counted g c =
    let table = g.T.SymbolTable.known in
    let f = name_of c.args.name.now in
    let own = heads_in c.args.own.now.procedures in
    let env = heads_in (table c.args.env.now).procedures in
    let cs = meant_kinds c.args.kinds.items in
    let new = ap heads_in c.in_ok-define.ensures.ok ∙ above-append meant_kinds [] c.args.own.now.procedures ((_, c.args.kinds.items) ∷ [])
    ∙ ap (λ f. (f, cs) ∷ own) c.in_ok-clone.ensures.cases in
    c.counted-total.ensures
    ∙ ap (λ f. count_new (head_at f (own ++ env)) c.args.count) c.deref-2.ensures
    ∙ ap (count_new (head_at f (own ++ env))) c.requires
    ∙ ap (λ n. different (n ++ env)) (sym new)
