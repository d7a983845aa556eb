use Rattle.std.proofs.Common.{refl}
use Rattle.steps_walk.specs.Standing.{name_of}
use Rattle.steps_program.specs.Places.{source_of}
use Rattle.steps_program.specs.Told.{TellsCall, callee_text, caller_text}
use Rattle.steps_program.proofs.Telling.{both}
use Rattle.steps_program.proofs.output.send_call.Goals as goal

pub returns : goal.returns
returns g c =
    let w = c.args.walk.now in
    let sources = c.args.sources.now in
    let caller = c.in-Some.caller in
    let callee = c.in-Some-level.callee in
    let spot = c.in-Some-spot.spot in
    let from = c.in-Some.ensures in
    let to = c.in-Some-level.ensures in
    both (TellsCall sources w c.args.i) (g.W.Write.contents c.args.writer.now) (g.W.Write.contents c.send_callee.new.writer)
    (g.W.Write.contents c.send_caller.new.writer)
    (callee_text spot.part (name_of w callee)) (caller_text (source_of sources caller.node) spot.span callee.inverse) c.send_caller.result
    (record {
      caller = caller;
      stands = record { here = from.here; call = from.call; faces = from.faces; code = from.code; node = from.node };
      callee = callee;
      runs = record { here = to.here; call = to.call; faces = to.faces; code = to.code; node = to.node };
      spot = spot;
      there = c.in-Some-spot.ensures.some;
      is = refl;
    })
    c.in_ok-send_callee.ensures c.send_caller.ensures
