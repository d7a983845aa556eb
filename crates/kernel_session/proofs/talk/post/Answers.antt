use Rattle.std.proofs.Common.{Ok, refl}
use Rattle.kernel_session.proofs.TalkLemmas.{unasked}
use Rattle.kernel_session.proofs.talk.post.Goals as goal

pub returns-in-Ok : goal.returns-in-Ok
returns-in-Ok g c = (Ok c.in-Ok.done, unasked, ((c.job.new.self, c.in-Ok.ensures, refl), refl))
