use Rattle.std.proofs.Common.{◌≡◌, ◌++◌, take}
use Rattle.jupyter_msg.specs.Octets.{octets}
use Rattle.jupyter_msg.proofs.message.push_copies.Given as goal

abbrev pub invariant-loop-frame : goal.invariant-loop-frame
invariant-loop-frame l =
    octets l.frames.items ≡ octets l.initial.frames.items ++ octets (take l.frame-index l.more)
