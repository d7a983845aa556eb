-- What the kernel's parts are counted in may go to the threads of the places. That it may is asked of the closure, behind the six lives of its types.
use denote.Param.Send.{sendable}
use Rattle.std.proofs.Crossing.{crosses}
use Rattle.kernel_places.proofs.threads.start.fn.serve_callers.scope.Goals as goal

pub start_all-is_started-requires-send-W : goal.start_all-is_started-requires-send-W
start_all-is_started-requires-send-W g c κs within = search (c.requires.1.1.1.1.1.1.0, crosses, sendable) depth 40 fits 20000

pub start_all-is_started-requires-send-L : goal.start_all-is_started-requires-send-L
start_all-is_started-requires-send-L g c κs within = search (c.requires.1.1.1.1.1.1.1, crosses, sendable) depth 40 fits 20000

pub start_all-is_started-requires-send-S : goal.start_all-is_started-requires-send-S
start_all-is_started-requires-send-S g c κs within = search (c.requires.1.1.1.1.1.1.2, crosses, sendable) depth 40 fits 20000
