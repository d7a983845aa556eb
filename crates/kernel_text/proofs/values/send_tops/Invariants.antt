use Rattle.std.specs.Io.KnownBytes.{Appends}
use Rattle.kernel_text.specs.ValueTexts.{spaced_text}
use Rattle.kernel_text.proofs.values.send_tops.Given as goal

-- the values that came so far are written
abbrev pub invariant-loop-value : goal.invariant-loop-value
invariant-loop-value g l = Appends (g.W.Write.contents l.fn.writer) (g.W.Write.contents l.writer) (spaced_text l.yielded)
