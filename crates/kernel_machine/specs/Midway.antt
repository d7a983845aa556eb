-- Where an open job stands, which was begun in an earlier past.
use Rattle.std.specs.Prelude.{false, ◌≡◌, ℕ, ◌+◌, ◌<◌, ◌≤◌, true, List, length, nat_lt, zero, suc}
use Rattle.janus_meaning.specs.World.{World, Cell}
use Rattle.kernel_machine.specs.Language.{Code, Forward}
use Rattle.kernel_machine.specs.Reached.{IsUnderWay, MeetsFault}
use Rattle.kernel_machine.specs.Text.{Accepts}
use Rattle.kernel_machine.specs.Travel as aim
use Rattle.kernel_machine.specs.Travel.{Travel}
use Rattle.kernel_machine.specs.Heading.{Why, WasAsked, Faulted, Heading, GoesOn, GoesBack}
use Rattle.kernel_machine.specs.State.{Past, Work, Posted, Move, Job as Open, Idle, Border, Inside, State, here, code_of, is_full}
use Rattle.kernel_machine.specs.Legal.{can_undo, can_redo, IsMeeting}
use Rattle.kernel_machine.specs.Slices.{cells, stepped, moved}
use Rattle.kernel_machine.specs.Begins.{travel_to}
use Rattle.kernel_machine.specs.Request.{Request, RunCell, Undo, Redo, Goto}

-- what is left of a travel after j cells
abbrev pub after : Travel → ℕ → Travel
after travel zero = travel
after travel (suc j) = stepped (after travel j)

-- the past after j cells of it
abbrev pub gone : Past → Travel → ℕ → Past
gone s travel zero = s
gone s travel (suc j) = moved (gone s travel j) (after travel j)

-- the count at which a job turned
abbrev pub count_of : Why → ℕ
count_of (WasAsked at) = at
count_of (Faulted fault at) = at

-- why the code turned there: it was asked to while it went on, or it met the fault
abbrev pub IsReason : Code → World → Why → Type 0
IsReason code w (WasAsked at) = IsUnderWay code w at
IsReason code w (Faulted fault at) = MeetsFault code w fault at

-- the code goes on after c steps; or it goes back from where it turned, for this reason, and stands no further on
abbrev pub IsAtCount : Code → World → ℕ → Heading → Type 0
IsAtCount code w c GoesOn = IsUnderWay code w c
IsAtCount code w c (GoesBack why) = (c ≤ count_of why) × IsReason code w why

-- a travel that was begun in the past p stands after some of its cells, and has a further one
pub record IsStage (p : Past) (whole : Travel) (s : Past) (t : Travel) : Type 0 where
  pub done : ℕ
  pub left : t ≡ after whole done
  pub stands : s ≡ gone p whole done
  pub count : cells t + done ≡ cells whole
  pub some : 0 < cells t

-- inside a cell that is the travel's next one
abbrev pub KeepsIn : Past → Travel → Past → Work → ℕ → Heading → Type 0
KeepsIn p whole s (Posted cell) c heading = ⊥
KeepsIn p whole s (Move t) c heading = IsStage p whole s t × IsAtCount (code_of s (Move t)) (here s) c heading

-- between two of its cells, or inside one
abbrev pub KeepsAt : Past → Travel → Past → Open → Type 0
KeepsAt p whole s Idle = ⊥
KeepsAt p whole s (Border t) = IsStage p whole s t
KeepsAt p whole s (Inside e) = KeepsIn p whole s e.work e.count e.heading

-- the open job is this travel, which was begun in the past p
abbrev pub Keeps : Past → Travel → State → Type 0
Keeps p whole s = KeepsAt p whole s.past s.job

-- the text is accepted as this cell, and the past is as before
pub record IsCell (p : Past) (text : List ℕ) (cell : Cell) (s : Past) : Type 0 where
  pub accepted : Accepts (here p) text cell
  pub same : s ≡ p

-- the open job runs this cell
abbrev pub CellIn : Past → List ℕ → Past → Work → ℕ → Heading → Type 0
CellIn p text s (Posted cell) c heading = IsCell p text cell s × IsAtCount (Forward cell) (here p) c heading
CellIn p text s (Move t) c heading = ⊥

-- it is inside a cell, never between two
abbrev pub CellAt : Past → List ℕ → Past → Open → Type 0
CellAt p text s Idle = ⊥
CellAt p text s (Border t) = ⊥
CellAt p text s (Inside e) = CellIn p text s e.work e.count e.heading

-- the open job is the cell of this text, which was begun in the past p
abbrev pub CellKeeps : Past → List ℕ → State → Type 0
CellKeeps p text s = CellAt p text s.past s.job

-- The open job is this one. It was begun in the past p, and stands where its slices may have led: a goto is on the way over the nearest node
-- above both ends.
abbrev pub Holds : Past → Request → State → Type 0
Holds p (RunCell text silent store) s = CellKeeps p text s × (is_full p ≡ false)
Holds p (Undo k) s = Keeps p (travel_to aim.Undo k 0) s × (can_undo p.nodes p.position k ≡ true)
Holds p (Redo k) s = Keeps p (travel_to aim.Redo 0 k) s × (can_redo p.favourites p.position k ≡ true)
Holds p (Goto n) s =
    (nat_lt n (length p.nodes) ≡ true)
    × ((up : ℕ) × (down : ℕ) × IsMeeting p.nodes p.position n up down × Keeps p (travel_to (aim.Goto n) up down) s)
