use Rattle.kernel_watch.proofs.Pings.{ping_counted}
use Rattle.kernel_watch.proofs.notice.Notice.answered.Goals as goal

pub returns-clause-counted : goal.returns-clause-counted
returns-clause-counted c frame time timed is_ping = ping_counted frame time c.args.context.now timed is_ping
