use Rattle.std.proofs.Common.{Some, ap, ◌∙◌, sym}
use Rattle.janus_meaning.specs.Shape.{head_at}
use Rattle.janus_check.specs.Names.{Known, meant_kinds, heads_in}
use Rattle.kernel_runner.specs.Procedures.{in_effect}
use Rattle.kernel_loader.specs.InEffect.{kinds_in_effect}
use Rattle.kernel_loader.proofs.InEffect.{head_in_effect, no_head_in_effect}
use Rattle.kernel_loader.proofs.tables.TablesSymbolTable.head.Goals as goal

pub returns-in_default : goal.returns-in_default
returns-in_default g c =
    let t = c.self.inside.procedures.now in
    let es = c.self.inside.entries.now in
    let f = c.args.name.now in
    ap (λ (k : Known). head_at f (heads_in k.procedures)) (sym c.self.view_is) ∙ no_head_in_effect t es f (c.number.ensures.unmet c.in_default.is)

pub returns-in-Some-body : goal.returns-in-Some-body
returns-in-Some-body g c =
    let t = c.self.inside.procedures.now in
    let es = c.self.inside.entries.now in
    let f = c.args.name.now in
    ap (λ (k : Known). head_at f (heads_in k.procedures)) (sym c.self.view_is)
    ∙ head_in_effect t es f c.in-Some.number c.one_number_law.ensures c.in-Some.ensures.met
    ∙ ap kinds_in_effect (sym c.body.ensures ∙ ap in_effect c.in-Some-body.is)
    ∙ ap (λ ks. Some (meant_kinds ks)) (sym c.kinds.ensures)

pub returns-in-None : goal.returns-in-None
returns-in-None g c =
    let t = c.self.inside.procedures.now in
    let es = c.self.inside.entries.now in
    let f = c.args.name.now in
    ap (λ (k : Known). head_at f (heads_in k.procedures)) (sym c.self.view_is)
    ∙ head_in_effect t es f c.in-Some.number c.one_number_law.ensures c.in-Some.ensures.met
    ∙ ap kinds_in_effect (sym c.body.ensures ∙ ap in_effect c.in-None.is)
