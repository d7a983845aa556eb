use Rattle.std.proofs.Common.{refl, arith}
use Rattle.steps_walk.proofs.Moving.{stays, further}
use Rattle.steps_program.specs.Counted.{GoesBack}
use Rattle.steps_program.specs.Going.{TakesOneBack, BegunBack, FurtherBack}
use Rattle.steps_program.proofs.Obeying.{led, led_back}
use Rattle.steps_program.proofs.Stopping.{last_back, count_back}
use Rattle.steps_program.proofs.going.go_back.Goals as goal

pub loop-init : goal.loop-init
loop-init g c = record { walks = c.requires; moves = stays c.args.walk.now; passes = BegunBack; taken = omega arith }

pub returns-in-Some-clause-moves : goal.returns-in-Some-clause-moves
returns-in-Some-clause-moves g c =
    led c.args.walk.now c.back.new.self c.arrived.new.walk c.arrived.ensures.kept
    (further c.args.walk.now c.loop.walk c.back.new.self c.loop.invariant.moves c.back.ensures.moves)

pub loop-preserved : goal.loop-preserved
loop-preserved g c = record {
  walks = c.arrived.ensures.kept.walks;
  moves = led c.args.walk.now c.back.new.self c.arrived.new.walk c.arrived.ensures.kept
      (further c.args.walk.now c.loop.walk c.back.new.self c.loop.invariant.moves c.back.ensures.moves);
  passes =
      let taken = c.loop.invariant.taken in
      let many = c.count-end.ensures in
      let going = c.loop-test.true in
      let one : TakesOneBack c.loop.walk c.arrived.new.walk = record {
        some = omega (arith, taken, many, going);
        back = led_back c.loop.walk c.back.new.self c.arrived.new.walk c.arrived.ensures.kept 1
            (record { moves = c.back.ensures.moves; goes = c.back.ensures.goes; counted = c.back.ensures.counted });
      } in
      FurtherBack c.loop.walk c.arrived.new.walk c.loop.invariant.passes one
      c.in_default.ensures.none;
  taken =
      let back : GoesBack 1 c.loop.walk c.back.new.self =
      record { moves = c.back.ensures.moves; goes = c.back.ensures.goes; counted = c.back.ensures.counted } in
      let led = led_back c.loop.walk c.back.new.self c.arrived.new.walk c.arrived.ensures.kept 1 back in
      let one = count_back c.loop.walk c.arrived.new.walk c.loop.invariant.walks led in
      let before = c.loop.invariant.taken in
      omega (arith, one, before);
}

pub returns-in-Some-clause-goes : goal.returns-in-Some-clause-goes
returns-in-Some-clause-goes g c = record {
  mid = c.loop.walk;
  passes = c.loop.invariant.passes;
  last =
      let taken = c.loop.invariant.taken in
      let many = c.count-end.ensures in
      let going = c.loop-test.true in
      let one : TakesOneBack c.loop.walk c.arrived.new.walk = record {
        some = omega (arith, taken, many, going);
        back = led_back c.loop.walk c.back.new.self c.arrived.new.walk c.arrived.ensures.kept 1
            (record { moves = c.back.ensures.moves; goes = c.back.ensures.goes; counted = c.back.ensures.counted });
      } in
      last_back c.args.sources.now c.args.goal.now c.loop.walk c.arrived.new.walk c.in-Some.came one
      c.in-Some.ensures.some;
  moves = led c.args.walk.now c.back.new.self c.arrived.new.walk c.arrived.ensures.kept
      (further c.args.walk.now c.loop.walk c.back.new.self c.loop.invariant.moves c.back.ensures.moves);
}

pub returns-clause-goes : goal.returns-clause-goes
returns-clause-goes g c =
    let taken = c.loop.invariant.taken in
    let many = c.count-end.ensures in
    let done = c.loop-test.false in
    record { mid = c.loop.walk; passes = c.loop.invariant.passes; last = (refl, omega (arith, taken, many, done)); moves = c.loop.invariant.moves }
