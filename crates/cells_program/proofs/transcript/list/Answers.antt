use Rattle.kernel_core.specs.State.{here}
use Rattle.cells_program.proofs.ListedLemmas.{want_err}
use Rattle.cells_program.proofs.transcript.list.Goals as goal

pub returns-in-Err-clause-err : goal.returns-in-Err-clause-err
returns-in-Err-clause-err g c =
    want_err (g.W.Write.contents c.args.writer.now) (g.W.Write.contents c.send_post_fault.new.writer) (here c.args.kernel.now.machine.state.past)
    c.send_post_fault.result c.send_post_fault.ensures.err
