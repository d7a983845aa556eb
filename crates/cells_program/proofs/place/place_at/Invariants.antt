use Rattle.std.proofs.Common.{◌≡◌, ◌≤◌, ◌+◌}
use Rattle.cells_program.specs.Place.{place_at}
use Rattle.cells_program.proofs.place.place_at.Given as goal

-- the place so far is that of the octet, and no number in it is past the octet's own but by one
abbrev pub invariant-loop-octet : goal.invariant-loop-octet
invariant-loop-octet l =
    (l.place ≡ place_at l.before l.octet-index) × (l.place.line ≤ l.octet-index + 1) × (l.place.column ≤ l.octet-index + 1)
