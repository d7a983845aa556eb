-- What is told of a ping that was answered (RFC 37, "Heartbeating").
use Rattle.std.specs.Prelude.{ℕ, ◌+◌, List, length}
use Rattle.zmtp_wire.specs.declared.pong.TheConstants.{PING_OCTETS}
use Rattle.kernel_watch.specs.declared.notice.Notice.{Notice}
use Rattle.kernel_watch.specs.declared.notice.Notice.TheVariants.{Answered}

-- the octets of a ping with this context, in the short form of a frame
abbrev pub ping_octets : List ℕ → ℕ
ping_octets context = PING_OCTETS + length context

abbrev pub answers : List ℕ → Notice
answers context = Answered (ping_octets context)
