use Rattle.std.proofs.Common.{◌||◌, ◌∷◌, ◌++◌, [], sym, ap, ◌∙◌, if◌then◌else◌}
use Rattle.janus_meaning.specs.Shape.{kind_at}
use Rattle.janus_syntax.specs.View.{name_of}
use Rattle.janus_check.specs.Names.{shape_in, over, meant_kind}
use Rattle.janus_check.proofs.ScopeLemmas.{out_of_own, over-append, found_known}
use Rattle.janus_check.proofs.cell.declare_name.Goals as goal

pub declare-requires : goal.declare-requires
declare-requires g c =
    let table = g.T.SymbolTable.known in
    let g = over (shape_in (table c.args.env.now).names) c.args.own.now.names in
    let known = c.is_some-known.ensures ∙ found_known (name_of c.args.name.now) g c.kind_declared.result c.kind_declared.ensures in
    ap (λ x. kind_at x (shape_in c.args.own.now.names)) c.in_ok-clone.ensures.cases
    ∙ out_of_own (name_of c.args.name.now) (shape_in (table c.args.env.now).names) c.args.own.now.names (sym known ∙ c.if-not-known.true)

pub returns-in_ok-declare-clause-names : goal.returns-in_ok-declare-clause-names
returns-in_ok-declare-clause-names g c =
    let table = g.T.SymbolTable.known in
    let g = over (shape_in (table c.args.env.now).names) c.args.own.now.names in
    let x = name_of c.args.name.now in
    let known = c.is_some-known.ensures ∙ found_known x g c.kind_declared.result c.kind_declared.ensures in
    ap (over (shape_in (table c.args.env.now).names))
    (c.in_ok-declare.ensures.ok ∙ ap (λ t. c.args.own.now.names ++ (t, c.args.kind) ∷ []) c.in_ok-clone.ensures.cases)
    ∙ over-append (shape_in (table c.args.env.now).names) c.args.own.now.names ((x, c.args.kind) ∷ [])
    ∙ ap (λ b. if b then g else (x, meant_kind c.args.kind) ∷ g)
    ((λ i. sym c.if-not-known.true i || sym c.if-not-full.true i) ∙ (λ i. known i || c.is_full-full.ensures i))
