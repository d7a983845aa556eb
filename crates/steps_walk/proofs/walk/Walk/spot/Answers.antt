use Rattle.steps_walk.proofs.walk.Walk.spot.Goals as goal

pub returns-clause-some : goal.returns-clause-some
returns-clause-some g c = (c.in_ok-table.table.now, c.in_ok-table.ensures.some, λ b of es names. c.spot-part.ensures es names b of)
