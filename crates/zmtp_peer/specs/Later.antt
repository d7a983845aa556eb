-- What a command behind READY is, without how it lies in memory.
use Rattle.zmtp_peer.specs.declared.later.Later as code
use Rattle.zmtp_peer.specs.declared.later.Later.TheVariants as variant
use Rattle.zmtp_peer.specs.Faults.{fault_of}
use Rattle.zmtp_peer.specs.Events.{Later, Passed, Telling, Refusal, event_of}

abbrev pub later_of : code.Later → Later
later_of variant.Passed = Passed
later_of (variant.Event event) = Telling (event_of event)
later_of (variant.Refused fault) = Refusal (fault_of fault)
