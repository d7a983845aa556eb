use Rattle.std.proofs.Common.{◌≡◌, ◌+◌, length, ap, ◌∙◌, sym, arith}
use Rattle.janus_meaning.specs.Shape.{kind_at}
use Rattle.janus_meaning.specs.Syntax.{names_of}
use Rattle.janus_slots.specs.Slots.{slot, slot_in}
use Rattle.janus_syntax.specs.View.{name_of}
use Rattle.janus_check.specs.Names.{shape_in, over}
use Rattle.janus_check.proofs.ScopeLemmas.{length-shape}
use Rattle.janus_check.proofs.SlotLemmas.{seen_not, slot_older}
use Rattle.janus_check.proofs.scope.declared_slot.Goals as goal

pub unreachable-requires : goal.unreachable-requires
unreachable-requires g c =
    let table = g.T.SymbolTable.known in
    let own = c.args.own.now.names in
    let env = (table c.args.env.now).names in
    seen_not (name_of c.args.name.now) own env c.requires
    (ap (λ x. kind_at x (shape_in own)) (sym c.deref.ensures) ∙ c.in-None.ensures.slot)
    (ap (λ x. kind_at x (shape_in env)) (sym c.deref-in-None.ensures) ∙ c.in-None-place.ensures.slot)

pub returns-in-Some : goal.returns-in-Some
returns-in-Some g c =
    let table = g.T.SymbolTable.known in
    let g = shape_in (table c.args.env.now).names in
    let place : length g + c.in-Some.index ≡ c.len-older.result + c.in-Some.index =
    omega (arith, length-shape (table c.args.env.now).names, c.len-older.ensures.count) in
    ap (slot_in (names_of (over g c.args.own.now.names))) (sym c.deref.ensures) ∙ c.in-Some.ensures.slot g ∙ ap slot place

pub returns-in-Some-place : goal.returns-in-Some-place
returns-in-Some-place g c =
    let table = g.T.SymbolTable.known in
    let own = c.args.own.now.names in
    let env = (table c.args.env.now).names in
    slot_older (name_of c.args.name.now) (shape_in env) own (ap (λ x. kind_at x (shape_in own)) (sym c.deref.ensures) ∙ c.in-None.ensures.slot)
    ∙ ap (slot_in (names_of (shape_in env))) (sym c.deref-in-None.ensures) ∙ c.in-Some-place.ensures.slot
