use Rattle.std.proofs.Common.{refl}
use Rattle.kernel_history.proofs.settle.slice_inside.Goals as goal

pub returns-in-GoesBack-clause-written : goal.returns-in-GoesBack-clause-written
returns-in-GoesBack-clause-written g c = rw c.in-GoesBack.is (_, refl, c.go_back.ensures.written)

pub returns-in-GoesOn-clause-written : goal.returns-in-GoesOn-clause-written
returns-in-GoesOn-clause-written g c = rw (c.in-GoesOn.is, c.if-asked.true) (_, refl, c.turn_back.ensures.written)

pub returns-in-GoesBack-clause-counted : goal.returns-in-GoesBack-clause-counted
returns-in-GoesBack-clause-counted g c = rw c.in-GoesBack.is (_, refl, c.go_back.ensures.counted)

pub returns-in-GoesOn-clause-counted : goal.returns-in-GoesOn-clause-counted
returns-in-GoesOn-clause-counted g c = rw (c.in-GoesOn.is, c.if-asked.true) (_, refl, c.turn_back.ensures.counted)

pub returns-in-GoesBack-clause-came_back : goal.returns-in-GoesBack-clause-came_back
returns-in-GoesBack-clause-came_back g c = rw c.in-GoesBack.is c.go_back.ensures.came
