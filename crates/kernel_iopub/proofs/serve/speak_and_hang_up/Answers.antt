use Rattle.std.proofs.Common.{OnErr, ℕ, List, Option, sym, subst}
use Rattle.kernel_iopub.specs.Round.{IsServedInPart}
use Rattle.kernel_iopub.specs.Signs.{gone}
use Rattle.kernel_iopub.proofs.serve.speak_and_hang_up.Goals as goal

-- hanging up writes nothing
pub returns-clause-err : goal.returns-clause-err
returns-clause-err g c =
    subst (λ (octets : Option (List ℕ)). OnErr c.speak-spoken.result (IsServedInPart c.args.share.now.amount
    (gone (g.W.Write.contents c.args.writer.now) (g.V.Watcher.notices c.args.watcher.now)) (gone octets (g.V.Watcher.notices c.speak-spoken.new.watcher))))
    (sym c.hang_up.ensures.same) c.speak-spoken.ensures.err
