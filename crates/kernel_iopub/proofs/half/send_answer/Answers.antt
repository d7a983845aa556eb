use Rattle.std.proofs.Common.{[], ◌∷◌, refl, subst}
use Rattle.kernel_watch.specs.Hears.{Hears}
use Rattle.kernel_iopub.specs.Signs.{gone}
use Rattle.kernel_iopub.proofs.SignLemmas.{goes_pong, some_pong}
use Rattle.kernel_iopub.proofs.half.send_answer.Goals as goal

pub returns-in-Ok-clause-ok : goal.returns-in-Ok-clause-ok
returns-in-Ok-clause-ok g c =
    goes_pong (gone (g.W.Write.contents c.args.writer.now) (g.V.Watcher.notices c.args.watcher.now))
    (gone (g.W.Write.contents c.send_pong.new.writer) (g.V.Watcher.notices c.tell.new.self)) c.args.context.now c.in-Ok.ensures.ok
    (subst (λ n. Hears (g.V.Watcher.notices c.args.watcher.now) (g.V.Watcher.notices c.tell.new.self) (n ∷ [])) c.answered.ensures.notice c.tell.ensures)

pub returns-in-Err-clause-err : goal.returns-in-Err-clause-err
returns-in-Err-clause-err g c =
    some_pong (gone (g.W.Write.contents c.args.writer.now) (g.V.Watcher.notices c.args.watcher.now))
    (gone (g.W.Write.contents c.send_pong.new.writer) (g.V.Watcher.notices c.args.watcher.now)) c.args.context.now refl c.in-Err.ensures.err
