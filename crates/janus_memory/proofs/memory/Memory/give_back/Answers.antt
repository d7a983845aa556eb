use Rattle.std.proofs.Common.{pos, refl, ap, ◌∙◌, subst}
use Rattle.janus_memory.specs.Memory.{Plain, IsBare, carried}
use Rattle.janus_memory.specs.declared.cell.Held.TheVariants as helds
use Rattle.janus_memory.proofs.Cells.{read-cell}
use Rattle.janus_memory.proofs.Changing as changing
use Rattle.janus_memory.proofs.Reading as reading
use Rattle.janus_memory.proofs.memory.Memory.give_back.Goals as goal

pub invariant_of-self : goal.invariant_of-self
invariant_of-self g c =
    let a = c.self.inside in
    let l = reading.place-low a c.args.self.now c.self.view_is c.args.from c.requires.from in
    let n = reading.place-low a c.args.self.now c.self.view_is c.args.to c.requires.to in
    let b = subst IsBare (reading.content-seen a c.args.self.now c.self.view_is c.args.to n) c.requires.bare in
    let r = read-cell a.cells.items c.args.from c.index-cell.result.now l c.index-cell.ensures in
    changing.carry-kept a c.self.invariant c.args.from c.args.to l n c.requires.apart b c.index-cell.result.now
    (record { number = pos 0; held = helds.Nothing }) r tt

pub returns : goal.returns
returns g c =
    let a = c.self.inside in
    let l = reading.place-low a c.args.self.now c.self.view_is c.args.from c.requires.from in
    let n = reading.place-low a c.args.self.now c.self.view_is c.args.to c.requires.to in
    let b = subst IsBare (reading.content-seen a c.args.self.now c.self.view_is c.args.to n) c.requires.bare in
    let r = read-cell a.cells.items c.args.from c.index-cell.result.now l c.index-cell.ensures in
    changing.carry-seen a c.self.invariant c.args.from c.args.to l n c.requires.apart b c.index-cell.result.now
    (record { number = pos 0; held = helds.Nothing }) r tt
    Plain refl refl
    ∙ ap (λ m. carried Plain m c.args.from c.args.to) c.self.view_is
