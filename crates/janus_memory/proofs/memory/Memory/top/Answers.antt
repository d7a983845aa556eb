use Rattle.std.proofs.Common.{◌+◌}
use Rattle.janus_memory.proofs.Reading as reading
use Rattle.janus_memory.proofs.memory.Memory.top.Goals as goal

pub top-requires : goal.top-requires
top-requires g c =
    let a = c.self.inside in
    let p = a.base + c.args.k in
    reading.stack-low a p c.index.result.now (reading.frame-low a c.args.self.now c.self.view_is c.args.k c.requires) c.index.ensures c.in-Stack.stack
    c.self.invariant c.in-Stack.is
