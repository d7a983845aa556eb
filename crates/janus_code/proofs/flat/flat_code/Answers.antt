use Rattle.std.proofs.Common.{◌≡◌, ℕ, List, ◌≤◌, length, ap, ◌∙◌, sym, subst, arith}
use Rattle.janus_meaning.specs.Syntax.{names_of}
use Rattle.janus_check.specs.Slots.{block_in}
use Rattle.janus_syntax.specs.View.{block_of}
use Rattle.janus_check.specs.Sight.{in_sight}
use Rattle.janus_code.specs.Flat.{block_at, tree_at}
use Rattle.janus_code.specs.Held.{AreReached}
use Rattle.janus_code.specs.Numbered.{HaveNumbers}
use Rattle.janus_code.specs.Slotted.{all_slots}
use Rattle.janus_code.specs.declared.code.Statement.{Statement}
use Rattle.janus_code.proofs.Slotting.{all_long, are_all, same_code, code_is, no_numbers}
use Rattle.janus_code.proofs.flat.flat_code.Goals as goal

pub returns-clause-block : goal.returns-clause-block
returns-clause-block g c =
    let b = c.in_ok-body.body in
    let block = block_in c.args.entries.now (names_of (in_sight c.args.sight.now)) (block_of c.args.block.now) in
    let few : c.flat_block.new.draft.width ≤ length all_slots = omega (arith, all_long, c.number_law.ensures) in
    let made : HaveNumbers all_slots c.flat_block.new.draft.statements.items =
    c.in_ok-body.ensures.numbered all_slots few (subst (HaveNumbers all_slots) (sym c.new.ensures.items) (no_numbers all_slots)) in
    let all : HaveNumbers all_slots c.shrink_to_fit.new.self.items = subst (HaveNumbers all_slots) (sym c.shrink_to_fit.ensures.items) made in
    let is : block_at (tree_at all_slots c.shrink_to_fit-2.new.self.items c.shrink_to_fit.new.self.items) c.shrink_to_fit-2.new.self.items b ≡ block =
    subst (λ (ms : List ℕ). block_at (tree_at all_slots ms c.shrink_to_fit.new.self.items) ms b ≡ block) (sym c.shrink_to_fit-2.ensures.items)
    (subst (λ (ss : List Statement). block_at (tree_at all_slots c.flat_block.new.draft.members.items ss) c.flat_block.new.draft.members.items b ≡ block)
    (sym c.shrink_to_fit.ensures.items) c.in_ok-body.ensures.block) in
    λ xs s h. same_code xs all_slots _ s are_all h all ∙ code_is _ ∙ is

pub returns-clause-reached : goal.returns-clause-reached
returns-clause-reached g c =
    let b = c.in_ok-body.body in
    let d = c.flat_block.new.draft in
    let made : AreReached d.members.items d.statements.items b = λ n lt.
    c.in_ok-body.ensures.inside n (omega (arith, ap length c.new.ensures.items)) lt in
    subst (λ (ms : List ℕ). AreReached ms c.shrink_to_fit.new.self.items b) (sym c.shrink_to_fit-2.ensures.items)
    (subst (λ (ss : List Statement). AreReached d.members.items ss b) (sym c.shrink_to_fit.ensures.items) made)
