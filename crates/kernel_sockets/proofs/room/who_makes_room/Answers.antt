use Rattle.std.proofs.Common.{rules}
use Rattle.kernel_sockets.proofs.Leaving.{strangers_before}
use Rattle.kernel_sockets.proofs.room.who_makes_room.Goals as goal

pub returns-clause-strangers_first : goal.returns-clause-strangers_first
returns-clause-strangers_first c = strangers_before c.args.stays c.args.now c.args.sights.now c.loop-place.found (search rules)
