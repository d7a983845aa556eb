-- Where an open job stands: words for the contracts of private functions.
use Rattle.std.specs.Prelude.{◌≡◌, Bool, true, false, ⊤}
use Rattle.janus_meaning.specs.World.{Cell}
use Rattle.kernel_core.specs.Request.{Request, RunCell, Undo, Redo, Goto}
use Rattle.kernel_core.specs.State.{Entered, Job, Inside, Posted}
use Rattle.kernel_core.specs.heading.Heading.{Heading}
use Rattle.kernel_core.specs.heading.Heading.TheVariants.{GoesOn, GoesBack}

-- a request for a cell, not for a move
abbrev pub is_cell : Request → Bool
is_cell (RunCell text silent store) = true
is_cell (Undo k) = false
is_cell (Redo k) = false
is_cell (Goto n) = false

-- the job is a posted cell that has been entered
abbrev pub IsInCell : Job → Type 0
IsInCell job = (e : Entered) × (cell : Cell) × (job ≡ Inside e) × (e.work ≡ Posted cell)

-- the next slice goes back: it is asked to, or the job has turned
abbrev pub TurnsBack : Bool → Heading → Type 0
TurnsBack true heading = ⊤
TurnsBack false GoesOn = ⊥
TurnsBack false (GoesBack why) = ⊤

-- the job is inside a cell, and the next slice goes back
abbrev pub MustGoBack : Bool → Job → Type 0
MustGoBack asked job = (e : Entered) × (job ≡ Inside e) × TurnsBack asked e.heading
