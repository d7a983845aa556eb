-- What the kernel's parts are counted in may go to the threads of the places. That it may is asked of the closure, behind the six lives of its types.
use denote.Param.Send.{sendable}
use Rattle.std.proofs.Crossing.{crosses}
use Rattle.kernel_places.proofs.threads.start.fn.serve_all.scope.Goals as goal

pub serve_callers-is_started-requires-send-W : goal.serve_callers-is_started-requires-send-W
serve_callers-is_started-requires-send-W g c κs within = search (c.requires.1.1.1.1.1.1.0, crosses, sendable) depth 40 fits 20000

pub serve_callers-is_started-requires-send-L : goal.serve_callers-is_started-requires-send-L
serve_callers-is_started-requires-send-L g c κs within = search (c.requires.1.1.1.1.1.1.1, crosses, sendable) depth 40 fits 20000

pub start_subscribed-requires-send-W : goal.start_subscribed-requires-send-W
start_subscribed-requires-send-W g c κs within = search (c.requires.1.1.1.1.1.1.0, crosses, sendable) depth 40 fits 20000

pub start_subscribed-requires-send-L : goal.start_subscribed-requires-send-L
start_subscribed-requires-send-L g c κs within = search (c.requires.1.1.1.1.1.1.1, crosses, sendable) depth 40 fits 20000

pub serve_callers-is_started-requires-send-S : goal.serve_callers-is_started-requires-send-S
serve_callers-is_started-requires-send-S g c κs within = search (c.requires.1.1.1.1.1.1.2, crosses, sendable) depth 40 fits 20000

pub start_subscribed-requires-send-S : goal.start_subscribed-requires-send-S
start_subscribed-requires-send-S g c κs within = search (c.requires.1.1.1.1.1.1.2, crosses, sendable) depth 40 fits 20000
