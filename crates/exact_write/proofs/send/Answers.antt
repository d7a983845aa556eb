use Rattle.std.proofs.Common.{◌+◌, arith}
use Rattle.std.proofs.lemmas.List.{length-drop}
use Rattle.exact_write.proofs.SendLemmas.{appends_more, appends_kept, sent_some}
use Rattle.exact_write.proofs.send.Goals as goal

pub returns-in-Ok-eq0-clause-err : goal.returns-in-Ok-eq0-clause-err
returns-in-Ok-eq0-clause-err g c =
    sent_some _ _ c.args.octets.now (c.loop.at + c.in-Ok-eq0.field-0)
    (appends_more _ _ _ c.args.octets.now c.loop.at c.in-Ok-eq0.field-0 c.loop.invariant.1 c.in-Ok-eq0.ensures.bytes)

pub returns-in-Err-clause-err : goal.returns-in-Err-clause-err
returns-in-Err-clause-err g c =
    sent_some _ _ c.args.octets.now c.loop.at (appends_kept _ _ _ _ c.loop.invariant.1 c.in-Err.ensures.bytes)

pub loop-preserved : goal.loop-preserved
loop-preserved g c = (
  omega (arith, length-drop c.loop.at c.args.octets.now, c.in-Ok.ensures.bound),
  appends_more _ _ _ c.args.octets.now c.loop.at c.in-Ok.count c.loop.invariant.1 c.in-Ok.ensures.bytes,
)

pub returns-clause-err : goal.returns-clause-err
returns-clause-err g c = sent_some _ _ c.args.octets.now c.loop.at c.loop.invariant.1
