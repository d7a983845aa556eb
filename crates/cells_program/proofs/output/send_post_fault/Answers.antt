use Rattle.std.proofs.Common.{codes, refl}
use Rattle.kernel_text.specs.Lines.{post_fault_line}
use Rattle.exact_write.proofs.SendLemmas.{some_first, some_then}
use Rattle.cells_program.specs.Lines.{ended_line}
use Rattle.cells_program.proofs.output.send_post_fault.Goals as goal

pub returns-in_err-send_post_fault-clause-err : goal.returns-in_err-send_post_fault-clause-err
returns-in_err-send_post_fault-clause-err g c =
    some_first (g.W.Write.contents c.args.writer.now) (g.W.Write.contents c.send_post_fault.new.writer) (post_fault_line c.args.fault) (codes "\n")
    (ended_line (post_fault_line c.args.fault)) c.from_residual.result refl c.in_err-send_post_fault.ensures.err

pub returns-clause-err : goal.returns-clause-err
returns-clause-err g c =
    some_then (g.W.Write.contents c.args.writer.now) (g.W.Write.contents c.send_post_fault.new.writer) (g.W.Write.contents c.send.new.writer)
    (post_fault_line c.args.fault) (codes "\n") (ended_line (post_fault_line c.args.fault)) c.send.result refl
    c.in_ok-send_post_fault.ensures.ok c.send.ensures.err
