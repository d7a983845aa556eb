use Rattle.std.proofs.Common.{refl, ap, ◌∙◌}
use Rattle.janus_memory.specs.Memory.{released}
use Rattle.janus_memory.specs.declared.cell.Cell.{Cell}
use Rattle.janus_memory.specs.declared.cell.Held.TheVariants as helds
use Rattle.janus_memory.proofs.Cells.{read-cell}
use Rattle.janus_memory.proofs.Changing as changing
use Rattle.janus_memory.proofs.Reading as reading
use Rattle.janus_memory.proofs.memory.Memory.release.Goals as goal

pub release-requires : goal.release-requires
release-requires g c =
    let a = c.self.inside in
    reading.array-low a c.args.at c.index.result.now (reading.place-low a c.args.self.now c.self.view_is c.args.at c.requires.there) c.index.ensures
    c.in-Array.array
    c.self.invariant c.in-Array.is

pub give-requires-clause-room : goal.give-requires-clause-room
give-requires-clause-room g c =
    let a = c.self.inside in
    let p = c.args.at in
    let l = reading.place-low a c.args.self.now c.self.view_is c.args.at c.requires.there in
    let e = reading.held-read a p c.index.result.now l c.index.ensures (helds.Stack c.in-Stack.stack) c.in-Stack.is in
    changing.spare-room a c.self.invariant p c.in-Stack.stack l e

pub invariant_of-self-in-Stack : goal.invariant_of-self-in-Stack
invariant_of-self-in-Stack g c =
    let a = c.self.inside in
    let p = c.args.at in
    let l = reading.place-low a c.args.self.now c.self.view_is c.args.at c.requires.there in
    let e = reading.held-read a p c.index.result.now l c.index.ensures (helds.Stack c.in-Stack.stack) c.in-Stack.is in
    changing.close-kept a c.self.invariant p c.in-Stack.stack l (record { number = c.index_mut-in-Stack.result.now.number; held = helds.Nothing }) e refl
    c.give.new.self c.give.ensures (reading.empty-seen a c.args.self.now c.self.view_is p c.index.result.now c.in-Stack.stack l c.index.ensures c.in-Stack.is
    c.requires.empty)

pub returns-in-Stack : goal.returns-in-Stack
returns-in-Stack g c =
    let a = c.self.inside in
    let p = c.args.at in
    let l = reading.place-low a c.args.self.now c.self.view_is c.args.at c.requires.there in
    let e = reading.held-read a p c.index.result.now l c.index.ensures (helds.Stack c.in-Stack.stack) c.in-Stack.is in
    let r = read-cell a.cells.items p c.index_mut-in-Stack.result.now l c.index_mut-in-Stack.ensures.value in
    changing.give-seen a c.self.invariant p c.in-Stack.stack l (record { number = c.index_mut-in-Stack.result.now.number; held = helds.Nothing }) e refl
    c.give.new.self c.give.ensures (reading.empty-seen a c.args.self.now c.self.view_is p c.index.result.now c.in-Stack.stack l c.index.ensures c.in-Stack.is
    c.requires.empty) (ap (λ (c : Cell). c.number) r)
    ∙ ap (λ m. released m c.args.at) c.self.view_is

pub invariant_of-self : goal.invariant_of-self
invariant_of-self g c =
    let a = c.self.inside in
    let p = c.args.at in
    let l = reading.place-low a c.args.self.now c.self.view_is p c.requires.there in
    let e = reading.held-read a p c.index.result.now l c.index.ensures (helds.Array c.in-Array.array) c.in-Array.is in
    changing.free-kept a c.self.invariant p c.in-Array.array l (record { number = c.index_mut.result.now.number; held = helds.Nothing }) e
    c.release.new.self refl c.release.ensures

pub returns-in-Array : goal.returns-in-Array
returns-in-Array g c =
    let a = c.self.inside in
    let p = c.args.at in
    let l = reading.place-low a c.args.self.now c.self.view_is p c.requires.there in
    let e = reading.held-read a p c.index.result.now l c.index.ensures (helds.Array c.in-Array.array) c.in-Array.is in
    let r = read-cell a.cells.items p c.index_mut.result.now l c.index_mut.ensures.value in
    changing.free-seen a c.self.invariant p c.in-Array.array l (record { number = c.index_mut.result.now.number; held = helds.Nothing }) e
    c.release.new.self refl c.release.ensures (ap (λ (c : Cell). c.number) r)
    ∙ ap (λ m. released m p) c.self.view_is
