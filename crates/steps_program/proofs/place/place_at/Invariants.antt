use Rattle.std.proofs.Common.{◌≡◌}
use Rattle.steps_program.specs.Places.{place_at}
use Rattle.steps_program.proofs.place.place_at.Given as goal

-- the place so far is that of the octet
abbrev pub invariant-loop-octet : goal.invariant-loop-octet
invariant-loop-octet l = l.place ≡ place_at l.before l.fn.first_line l.octet-index
