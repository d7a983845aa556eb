use Rattle.std.proofs.Common.{◌≡◌, ◌+◌, ap, ◌∙◌, w32, to_z, of_z}
use Rattle.std.proofs.lemmas.Int.{to_z-of_z}
use Rattle.janus_memory.specs.Memory.{MemoryState, with_number}
use Rattle.janus_memory.specs.declared.cell.Cell.{Cell}
use Rattle.janus_memory.proofs.Changing as changing
use Rattle.janus_memory.proofs.Cells.{read-cell}
use Rattle.janus_memory.proofs.Reading as reading
use Rattle.janus_memory.proofs.memory.Memory.put.Goals as goal

pub invariant_of-self : goal.invariant_of-self
invariant_of-self g c =
    let a = c.self.inside in
    let p = a.base + c.args.k in
    let l = reading.frame-low a c.args.self.now c.self.view_is c.args.k c.requires in
    let r = read-cell a.cells.items p c.index_mut.result.now l c.index_mut.ensures.value in
    changing.number-kept a c.self.invariant p 0 l (record { number = to_z w32 (of_z w32 c.args.number); held = c.index_mut.result.now.held })
    (ap (λ (c : Cell). c.held) r)

pub returns : goal.returns
returns g c =
    let a = c.self.inside in
    let p = a.base + c.args.k in
    let l = reading.frame-low a c.args.self.now c.self.view_is c.args.k c.requires in
    let r = read-cell a.cells.items p c.index_mut.result.now l c.index_mut.ensures.value in
    let z : to_z w32 (of_z w32 c.args.number) ≡ c.args.number = to_z-of_z w32 c.args.number c.ranges.number in
    changing.number-seen a c.self.invariant p 0 l (record { number = to_z w32 (of_z w32 c.args.number); held = c.index_mut.result.now.held }) c.args.number
    (ap (λ (c : Cell). c.held) r) z
    ∙ ap (λ (m : MemoryState). with_number m (m.base + c.args.k) c.args.number) c.self.view_is
