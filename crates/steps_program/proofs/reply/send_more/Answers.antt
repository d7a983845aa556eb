use Rattle.steps_program.proofs.Saying.{at_fault}
use Rattle.steps_program.proofs.reply.send_more.Goals as goal

pub returns-in-Fault : goal.returns-in-Fault
returns-in-Fault g c =
    at_fault c.args.sources.now c.args.walk.now c.args.came c.in-Fault.field-0 (g.W.Write.contents c.args.writer.now)
    (g.W.Write.contents c.send_reads.new.writer) c.send_reads.result c.in-Fault.is c.send_reads.ensures
