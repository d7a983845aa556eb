-- No ping has fewer octets than are told of it.
use Rattle.std.proofs.Common.{◌≡◌, ℕ, ◌≤◌, List, ◌++◌, length, length-append, arith}
use Rattle.zmtp_wire.specs.Frame.{IsFrame}
use Rattle.zmtp_wire.proofs.Pongs.{frame-octets}
use Rattle.zmtp_peer.specs.Pings.{ping}
use Rattle.kernel_watch.specs.Pings.{ping_octets}

pub ping_counted : (frame time context : List ℕ) → length time ≡ 2 → IsFrame frame (ping (time ++ context)) → ping_octets context ≤ length frame
ping_counted frame time context timed is_ping =
    let least = frame-octets frame (ping (time ++ context)) is_ping in
    omega (arith, length-append time context)
