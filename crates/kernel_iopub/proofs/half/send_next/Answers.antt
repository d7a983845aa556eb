use Rattle.std.proofs.Common.{refl}
use Rattle.zmtp_wire.specs.Message.{message_octets}
use Rattle.kernel_iopub.proofs.SignLemmas.{goes_sends, some_sends}
use Rattle.kernel_iopub.proofs.ServedLemmas.{next_whole, next_begun, next_unbegun}
use Rattle.kernel_iopub.specs.Signs.{gone}
use Rattle.kernel_iopub.proofs.half.send_next.Goals as goal

pub returns-in-Err-clause-err : goal.returns-in-Err-clause-err
returns-in-Err-clause-err g c =
    next_unbegun c.args.share.now.amount (gone (g.W.Write.contents c.args.writer.now) (g.V.Watcher.notices c.args.watcher.now))
    (gone (g.W.Write.contents c.answer.new.writer) (g.V.Watcher.notices c.answer.new.watcher))
    c.args.broadcast.now c.in-Err.ensures.err

pub returns-in-Ok-send_broadcast-clause-ok : goal.returns-in-Ok-send_broadcast-clause-ok
returns-in-Ok-send_broadcast-clause-ok g c =
    next_whole c.args.share.now.amount c.answer.new.share.amount (gone (g.W.Write.contents c.args.writer.now) (g.V.Watcher.notices c.args.watcher.now))
    (gone (g.W.Write.contents c.answer.new.writer) (g.V.Watcher.notices c.answer.new.watcher))
    (gone (g.W.Write.contents c.send_broadcast.new.writer) (g.V.Watcher.notices c.answer.new.watcher)) c.args.broadcast.now c.in-Ok.ensures.ok
    (goes_sends (gone (g.W.Write.contents c.answer.new.writer) (g.V.Watcher.notices c.answer.new.watcher))
    (gone (g.W.Write.contents c.send_broadcast.new.writer) (g.V.Watcher.notices c.answer.new.watcher)) (message_octets c.args.broadcast.now) refl
    c.in-Ok-send_broadcast.ensures.ok)

pub returns-in-Err-send_broadcast-clause-err : goal.returns-in-Err-send_broadcast-clause-err
returns-in-Err-send_broadcast-clause-err g c =
    next_begun c.args.share.now.amount c.answer.new.share.amount (gone (g.W.Write.contents c.args.writer.now) (g.V.Watcher.notices c.args.watcher.now))
    (gone (g.W.Write.contents c.answer.new.writer) (g.V.Watcher.notices c.answer.new.watcher))
    (gone (g.W.Write.contents c.send_broadcast.new.writer) (g.V.Watcher.notices c.answer.new.watcher)) c.args.broadcast.now c.in-Ok.ensures.ok
    (some_sends (gone (g.W.Write.contents c.answer.new.writer) (g.V.Watcher.notices c.answer.new.watcher))
    (gone (g.W.Write.contents c.send_broadcast.new.writer) (g.V.Watcher.notices c.answer.new.watcher)) (message_octets c.args.broadcast.now) refl
    c.in-Err-send_broadcast.ensures.err)
