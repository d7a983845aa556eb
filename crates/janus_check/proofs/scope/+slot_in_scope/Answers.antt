use Rattle.std.proofs.Common.{true, false, length, ap, ◌∙◌, sym, subst, arith}
use Rattle.janus_meaning.specs.Syntax.{names_of, Local}
use Rattle.janus_slots.specs.Slots.{slot, slot_in}
use Rattle.janus_syntax.specs.View.{name_of}
use Rattle.janus_check.specs.Names.{shape_in, over, meant_kind}
use Rattle.janus_check.specs.Scope.{scoped, IsSeen}
use Rattle.janus_check.proofs.SlotLemmas.{slot_here, slot_behind, seen_behind, depth_of, same_by}
use Rattle.janus_check.proofs.scope.+slot_in_scope.Goals as goal

pub slot_in_scope-requires : goal.slot_in_scope-requires
slot_in_scope-requires g t c κs within =
    let declared = over (shape_in (g.T.SymbolTable.known c.args.env.now).names) c.args.own.now.names in
    let x = name_of c.args.name.now in
    let y = name_of c.in-Local.local.now in
    let other = same_by x y false c.if-eq.ensures in
    let long = ap (λ s. length (scoped declared s)) c.in-Local.is in (
      omega (arith, c.decreases, ap depth_of c.in-Local.is),
      (
        within,
        (
          seen_behind x (y, meant_kind c.in-Local.field-1) (scoped declared c.in-Local.outer.now) other
              (subst (λ s. IsSeen (scoped declared s) x) c.in-Local.is c.requires.seen),
          omega (arith, long, c.requires.small),
        ),
      ),
    )

pub returns-then-eq : goal.returns-then-eq
returns-then-eq g t c =
    let declared = over (shape_in (g.T.SymbolTable.known c.args.env.now).names) c.args.own.now.names in
    let x = name_of c.args.name.now in
    let y = name_of c.in-Local.local.now in
    let same = same_by x y true c.if-eq.ensures in
    ap (λ s. slot_in (names_of (scoped declared s)) x) c.in-Local.is
    ∙ slot_here x (y, meant_kind c.in-Local.field-1) (scoped declared c.in-Local.outer.now) same ∙ ap slot (sym c.len.ensures)

pub returns-else-eq : goal.returns-else-eq
returns-else-eq g t c =
    let declared = over (shape_in (g.T.SymbolTable.known c.args.env.now).names) c.args.own.now.names in
    let x = name_of c.args.name.now in
    let y = name_of c.in-Local.local.now in
    let other = same_by x y false c.if-eq.ensures in
    ap (λ s. slot_in (names_of (scoped declared s)) x) c.in-Local.is
    ∙ slot_behind x (y, meant_kind c.in-Local.field-1) (scoped declared c.in-Local.outer.now) other ∙ c.slot_in_scope.ensures
