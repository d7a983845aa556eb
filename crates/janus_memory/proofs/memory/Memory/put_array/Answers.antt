use Rattle.std.proofs.Common.{ap, ◌∙◌, sym}
use Rattle.janus_memory.specs.Memory.{HasArray}
use Rattle.janus_memory.specs.Memory.{with_content}
use Rattle.janus_memory.specs.Inside.{heap_of}
use Rattle.janus_memory.specs.declared.cell.Cell.{Cell}
use Rattle.janus_memory.specs.declared.cell.Held.TheVariants as helds
use Rattle.janus_memory.proofs.Cells.{read-cell, held_at, plain-held}
use Rattle.janus_memory.proofs.Changing as changing
use Rattle.janus_memory.proofs.Reading as reading
use Rattle.janus_memory.proofs.memory.Memory.put_array.Goals as goal

pub invariant_of-self-2 : goal.invariant_of-self-2
invariant_of-self-2 g c =
    let a = c.self.inside in
    let p = c.args.at in
    let l = reading.place-low a c.args.self.now c.self.view_is p c.requires.there in
    let e = plain-held (heap_of a) (held_at a.cells.items p) (sym (reading.content-seen a c.args.self.now c.self.view_is p l) ∙ c.requires.plain) in
    changing.put-kept a c.self.invariant p 0 l (record { number = c.index_mut.result.now.number; held = helds.Array c.in_ok-array.array }) e
    c.add.new.self c.args.items.items c.in_ok-array.ensures.added (ap helds.Array c.in_ok-array.ensures.index)

pub returns-clause-ok : goal.returns-clause-ok
returns-clause-ok g c =
    let a = c.self.inside in
    let p = c.args.at in
    let l = reading.place-low a c.args.self.now c.self.view_is p c.requires.there in
    let e = plain-held (heap_of a) (held_at a.cells.items p) (sym (reading.content-seen a c.args.self.now c.self.view_is p l) ∙ c.requires.plain) in
    let r = read-cell a.cells.items p c.index_mut.result.now l c.index_mut.ensures.value in
    changing.put-seen a c.self.invariant p 0 l (record { number = c.index_mut.result.now.number; held = helds.Array c.in_ok-array.array }) e
    c.add.new.self c.args.items.items c.in_ok-array.ensures.added (ap helds.Array c.in_ok-array.ensures.index) (ap (λ (c : Cell). c.number) r)
    ∙ ap (λ m. with_content m p (HasArray c.args.items.items)) c.self.view_is
