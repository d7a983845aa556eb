use Rattle.std.proofs.Common.{◌≡◌, take}
use Rattle.jupyter_msg.specs.Octets.{octets}
use Rattle.kernel_message.proofs.outgoing.copies.Given as goal

abbrev pub invariant-loop-frame : goal.invariant-loop-frame
invariant-loop-frame l = octets l.copies.items ≡ octets (take l.frame-index l.frames)
