use Rattle.std.proofs.Common.{◌+◌, arith, refl}
use Rattle.kernel_core.proofs.Writing.{size_of, ended_kept}
use Rattle.kernel_core.proofs.minutes.MinuteBook.end.Goals as goal

pub push_reserved-requires : goal.push_reserved-requires
push_reserved-requires c = omega (arith, size_of c.args.self.now c.requires.kept, c.requires.some, c.requires.kept.room, c.args.self.now.entries.ok.0)

pub returns-clause-kept : goal.returns-clause-kept
returns-clause-kept c =
    ended_kept c.args.self.now (record { entries = c.push_reserved.new.self; posted = c.args.self.now.posted; ended = c.args.self.now.ended + 1 })
    (c.args.self.now.ended + 1) c.args.outcome c.args.count c.args.node c.requires.kept c.requires.some
    c.push_reserved.ensures.items refl refl c.push_reserved.ensures.capacity
