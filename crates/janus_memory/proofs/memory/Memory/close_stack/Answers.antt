use Rattle.std.proofs.Common.{◌+◌, refl, ap, ◌∙◌}
use Rattle.janus_memory.specs.Memory.{MemoryState, content_at, stack_of, closed}
use Rattle.janus_memory.specs.declared.cell.Cell.{Cell}
use Rattle.janus_memory.specs.declared.cell.Held.TheVariants as helds
use Rattle.janus_memory.proofs.Cells.{read-cell}
use Rattle.janus_memory.proofs.Changing as changing
use Rattle.janus_memory.proofs.Reading as reading
use Rattle.janus_memory.proofs.memory.Memory.close_stack.Goals as goal

pub give-requires-clause-room : goal.give-requires-clause-room
give-requires-clause-room g c =
    let a = c.self.inside in
    let p = a.base + c.args.k in
    let l = reading.frame-low a c.args.self.now c.self.view_is c.args.k c.requires.there in
    let e = reading.held-read a p c.index.result.now l c.index.ensures (helds.Stack c.in-Stack.stack) c.in-Stack.is in
    changing.spare-room a c.self.invariant p c.in-Stack.stack l e

pub invariant_of-self : goal.invariant_of-self
invariant_of-self g c =
    let a = c.self.inside in
    let p = a.base + c.args.k in
    let l = reading.frame-low a c.args.self.now c.self.view_is c.args.k c.requires.there in
    let e = reading.held-read a p c.index.result.now l c.index.ensures (helds.Stack c.in-Stack.stack) c.in-Stack.is in
    changing.close-kept a c.self.invariant p c.in-Stack.stack l (record { number = c.index_mut.result.now.number; held = helds.Nothing }) e refl
    c.give.new.self c.give.ensures (reading.empty-seen a c.args.self.now c.self.view_is p c.index.result.now c.in-Stack.stack l c.index.ensures c.in-Stack.is
    (ap (λ p. stack_of (content_at c.args.self.now p)) (reading.same-place a c.args.self.now c.self.view_is c.args.k) ∙ c.requires.empty))

pub returns-in-Stack : goal.returns-in-Stack
returns-in-Stack g c =
    let a = c.self.inside in
    let p = a.base + c.args.k in
    let l = reading.frame-low a c.args.self.now c.self.view_is c.args.k c.requires.there in
    let e = reading.held-read a p c.index.result.now l c.index.ensures (helds.Stack c.in-Stack.stack) c.in-Stack.is in
    let r = read-cell a.cells.items p c.index_mut.result.now l c.index_mut.ensures.value in
    changing.close-seen a c.self.invariant p c.in-Stack.stack l (record { number = c.index_mut.result.now.number; held = helds.Nothing }) e refl
    c.give.new.self c.give.ensures (reading.empty-seen a c.args.self.now c.self.view_is p c.index.result.now c.in-Stack.stack l c.index.ensures c.in-Stack.is
    (ap (λ p. stack_of (content_at c.args.self.now p)) (reading.same-place a c.args.self.now c.self.view_is c.args.k)
    ∙ c.requires.empty)) (ap (λ (c : Cell). c.number) r)
    ∙ ap (λ (m : MemoryState). closed m (m.base + c.args.k)) c.self.view_is
