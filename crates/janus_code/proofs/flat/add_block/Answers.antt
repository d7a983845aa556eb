use Rattle.std.proofs.Common.{ℕ, List, sym, subst, arith}
use Rattle.janus_code.specs.Grown.{Grows}
use Rattle.janus_code.proofs.HeldLemmas.{members_added}
use Rattle.janus_code.proofs.Trees.{grows_by_members, below_if, block_added}
use Rattle.janus_code.proofs.flat.add_block.Goals as goal

pub invariant_of-draft : goal.invariant_of-draft
invariant_of-draft c = record {
  below = below_if c.args.draft.now.members.items c.args.numbers.now c.extend_from_slice.new.self.items c.args.draft.now.statements.items
      _ c.args.draft.now.below c.extend_from_slice.ensures.items;
}

pub returns-clause-grows : goal.returns-clause-grows
returns-clause-grows c =
    let d = c.args.draft.now in
    subst (λ (ms : List ℕ). Grows d.members.items d.statements.items ms d.statements.items) (sym c.in_ok-extend_from_slice.ensures.items)
    (grows_by_members d.members.items c.args.numbers.now d.statements.items d.below)

pub returns-clause-block : goal.returns-clause-block
returns-clause-block c =
    let d = c.args.draft.now in
    let ms = d.members.items in
    let ns = c.args.numbers.now in
    λ xs. block_added xs ms ns d.statements.items (c.extend_from_slice.new.self.items) (record { start = c.len-start.result; end = c.len.result })
    d.below c.requires c.in_ok-extend_from_slice.ensures.items (omega (arith, d.members.ok.0))
    (omega (arith, d.members.ok.0, c.in_ok-extend_from_slice.ensures.len))

pub returns-clause-members : goal.returns-clause-members
returns-clause-members c =
    let d = c.args.draft.now in
    members_added d.members.items c.args.numbers.now (c.extend_from_slice.new.self.items) (record { start = c.len-start.result; end = c.len.result })
    c.in_ok-extend_from_slice.ensures.items (omega (arith, d.members.ok.0))
    (omega (arith, d.members.ok.0, c.in_ok-extend_from_slice.ensures.len))
