use Rattle.std.proofs.Common.{◌≡◌, ◌+◌, ap, ◌∙◌, sym, arith}
use Rattle.janus_meaning.specs.World.{stacks_in}
use Rattle.janus_meaning.proofs.Worlds.{oldest_whole}
use Rattle.janus_slots.specs.Slots.{in_slots}
use Rattle.janus_slots.proofs.Whole.{stacks_same}
use Rattle.kernel_runner.specs.StoreState.{StoreState, IsWhole, shown_store, declared_store, live_stacks}
use Rattle.janus_meaning.specs.Shape.{stack_count}
use Rattle.janus_check.specs.Names.{Known, shape_in}
use Rattle.kernel_loader.proofs.Tabled.{stacks_entered}
use Rattle.kernel_loader.proofs.sight.DeclaredNamesSymbolTable.stacks.Goals as goal

-- between two cells the stacks that live are those of the declared names
stacks_live : (h : StoreState) → IsWhole h → in_slots (shown_store h) ≡ declared_store h → live_stacks h ≡ stacks_in (shown_store h)
stacks_live h whole slotted =
    let all : declared_store h ≡ h.slots = ap (λ cs. declared_store (record h { callers = cs })) whole.callers
    ∙ oldest_whole h.declared h.slots (sym whole.declared) in
    let same : stacks_in (shown_store h) ≡ stacks_in h.slots = sym (stacks_same (shown_store h)) ∙ ap stacks_in (slotted ∙ all) in
    let alone : live_stacks h ≡ stacks_in h.slots + 0 = ap (λ cs. live_stacks (record h { callers = cs })) whole.callers in
    omega (arith, same, alone)

pub returns-clause-count : goal.returns-clause-count
returns-clause-count g c =
    let h = c.self.inside.store.now in
    let live = stacks_live h c.self.invariant.whole c.slots_law.ensures.slotted in
    let told = stacks_entered (shown_store h) c.self.invariant.values in
    let known = ap (λ (k : Known). stack_count (shape_in k.names)) c.self.view_is in
    omega (arith, live, told, known, c.stacks_left.ensures)

pub returns-clause-small : goal.returns-clause-small
returns-clause-small g c = omega arith
