use Rattle.std.proofs.Common.{[], refl}
use Rattle.exact_write.proofs.SendLemmas.{appends_none}
use Rattle.steps_program.proofs.Calling.{one_more}
use Rattle.steps_program.proofs.output.send_each_call.Goals as goal

pub loop-i-init : goal.loop-i-init
loop-i-init g c = ([], refl, appends_none (g.W.Write.contents c.args.writer.now))

pub loop-i-preserved : goal.loop-i-preserved
loop-i-preserved g c =
    one_more c.args.sources.now c.args.walk.now c.loop-i.i (g.W.Write.contents c.args.writer.now) (g.W.Write.contents c.loop-i.writer)
    (g.W.Write.contents c.send_call.new.writer) c.loop-i.invariant c.in_ok-send_call.ensures
