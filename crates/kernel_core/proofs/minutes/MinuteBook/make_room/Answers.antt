use Rattle.std.proofs.Common.{arith}
use Rattle.kernel_core.proofs.Writing.{size_of}
use Rattle.kernel_core.proofs.minutes.MinuteBook.make_room.Goals as goal

pub overflow_sub-places : goal.overflow_sub-places
overflow_sub-places c = omega (arith, size_of c.args.self.now c.requires.kept, c.requires.kept.order, c.len.ensures, c.args.self.now.entries.ok.0)
