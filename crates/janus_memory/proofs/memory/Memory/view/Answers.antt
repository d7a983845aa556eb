use Rattle.janus_memory.proofs.Reading as reading
use Rattle.janus_memory.proofs.memory.Memory.view.Goals as goal

pub items-requires : goal.items-requires
items-requires g c =
    let a = c.self.inside in
    reading.array-low a c.args.at c.index.result.now (reading.place-low a c.args.self.now c.self.view_is c.args.at c.requires.there) c.index.ensures
    c.in-Array.array
    c.self.invariant c.in-Array.is

pub values-requires : goal.values-requires
values-requires g c =
    let a = c.self.inside in
    reading.stack-low a c.args.at c.index.result.now (reading.place-low a c.args.self.now c.self.view_is c.args.at c.requires.there) c.index.ensures
    c.in-Stack.stack
    c.self.invariant c.in-Stack.is
