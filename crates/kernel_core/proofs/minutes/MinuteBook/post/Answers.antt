use Rattle.std.proofs.Common.{◌+◌, arith, refl}
use Rattle.kernel_core.proofs.Writing.{size_of, posted_kept}
use Rattle.kernel_core.proofs.minutes.MinuteBook.post.Goals as goal

pub push_reserved-requires : goal.push_reserved-requires
push_reserved-requires c = omega (arith, size_of c.args.self.now c.requires.kept, c.requires.kept.order, c.requires.room, c.args.self.now.entries.ok.0)

pub returns-clause-kept : goal.returns-clause-kept
returns-clause-kept c =
    posted_kept c.args.self.now (record { entries = c.push_reserved.new.self; posted = c.args.self.now.posted + 1; ended = c.args.self.now.ended })
    c.args.lane c.args.job c.requires.kept c.requires.room c.requires.within
    c.push_reserved.ensures.items refl refl c.push_reserved.ensures.capacity
