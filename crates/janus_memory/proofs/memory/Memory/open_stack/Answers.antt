use Rattle.std.proofs.Common.{◌+◌, length, refl, ap, ◌∙◌, arith}
use Rattle.janus_memory.specs.Memory.{MemoryState, opened}
use Rattle.janus_memory.specs.declared.cell.Cell.{Cell}
use Rattle.janus_memory.specs.declared.cell.Held.TheVariants as helds
use Rattle.janus_memory.proofs.Cells.{read-cell}
use Rattle.janus_memory.proofs.Changing as changing
use Rattle.janus_memory.proofs.Owned as owned
use Rattle.janus_memory.proofs.Reading as reading
use Rattle.janus_memory.proofs.memory.Memory.open_stack.Goals as goal

pub overflow_cast-stack : goal.overflow_cast-stack
overflow_cast-stack g c =
    let a = c.self.inside in
    let l = owned.spare-low (length a.arrays) a.stacks.spare c.take-stack.new.self.spare a.cells.items c.take-stack.result c.self.invariant.owned
    c.take-stack.ensures.spare in
    omega (arith, l)

pub invariant_of-self : goal.invariant_of-self
invariant_of-self g c =
    let a = c.self.inside in
    let p = a.base + c.args.k in
    let l = reading.frame-low a c.args.self.now c.self.view_is c.args.k c.requires.there in
    let e = reading.held-read a p c.index.result.now l c.index.ensures helds.Nothing c.in-Nothing.is in
    changing.open-kept a c.self.invariant p c.take-stack.result l (record {
      number = c.index_mut.result.now.number;
      held = helds.Stack c.take-stack.result;
    }) e refl
    c.take-stack.new.self c.take-stack.ensures.spare c.take-stack.ensures.lists c.take-stack.ensures.empty

pub returns-in-Nothing : goal.returns-in-Nothing
returns-in-Nothing g c =
    let a = c.self.inside in
    let p = a.base + c.args.k in
    let l = reading.frame-low a c.args.self.now c.self.view_is c.args.k c.requires.there in
    let e = reading.held-read a p c.index.result.now l c.index.ensures helds.Nothing c.in-Nothing.is in
    let r = read-cell a.cells.items p c.index_mut.result.now l c.index_mut.ensures.value in
    changing.open-seen a c.self.invariant p c.take-stack.result l (record {
      number = c.index_mut.result.now.number;
      held = helds.Stack c.take-stack.result;
    }) e refl
    c.take-stack.new.self c.take-stack.ensures.spare c.take-stack.ensures.lists c.take-stack.ensures.empty (ap (λ (c : Cell). c.number) r)
    ∙ ap (λ (m : MemoryState). opened m (m.base + c.args.k)) c.self.view_is
