use Rattle.std.proofs.Common.{codes, refl}
use Rattle.kernel_text.specs.Lines.{counted_text, failed_text, fault_text}
use Rattle.exact_write.proofs.SendLemmas.{some_first, some_then}
use Rattle.kernel_text.proofs.lines.send_failed.Goals as goal

pub returns-in_err-send_fault-clause-err : goal.returns-in_err-send_fault-clause-err
returns-in_err-send_fault-clause-err g c =
    some_first (g.W.Write.contents c.args.writer.now) (g.W.Write.contents c.send_fault.new.writer) (fault_text c.args.fault)
    (counted_text (codes " after ") c.args.steps) (failed_text c.args.fault c.args.steps) c.from_residual.result refl c.in_err-send_fault.ensures.err

pub returns-clause-err : goal.returns-clause-err
returns-clause-err g c =
    some_then (g.W.Write.contents c.args.writer.now) (g.W.Write.contents c.send_fault.new.writer) (g.W.Write.contents c.send_counted.new.writer)
    (fault_text c.args.fault) (counted_text (codes " after ") c.args.steps) (failed_text c.args.fault c.args.steps) c.send_counted.result refl
    c.in_ok-send_fault.ensures.ok c.send_counted.ensures.err
