use Rattle.std.proofs.Common.{Err, refl}
use Rattle.kernel_session.proofs.TalkLemmas.{unasked}
use Rattle.kernel_session.proofs.talk.open_then_ask.Goals as goal

pub returns-in-Err : goal.returns-in-Err
returns-in-Err g c = (Err c.in-Err.field-0, unasked, ((c.comm.new.self, c.in-Err.ensures, refl), refl))
