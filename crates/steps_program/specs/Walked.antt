-- All that is written: of the cells before the one that is walked through, and then of the walk.
use Rattle.std.specs.Prelude.{◌≡◌, ◌<◌, ◌≤◌, ℕ, false, true, List, [], ◌∷◌, ◌++◌, map, Option, None, Some, Ok, string_bytes}
use Rattle.kernel_machine.specs.Language.{Forward}
use Rattle.kernel_machine.specs.Request.{RunCell}
use Rattle.kernel_machine.specs.Runs.{Machine, new_machine, IsPost, IsBegin}
use Rattle.kernel_machine.specs.State as state
use Rattle.kernel_machine.specs.State.{here}
use Rattle.kernel_machine.specs.declared.heading.Heading.TheVariants.{GoesOn}
use Rattle.kernel_machine.specs.declared.outcome.Begun.TheVariants.{Going}
use Rattle.steps_walk.specs.Program.{cell_of_program}
use Rattle.steps_walk.specs.Fields.{past_of}
use Rattle.steps_walk.specs.Runner.{Place, Is, Inside}
use Rattle.cells_program.specs.Served.{lane}
use Rattle.steps_walk.specs.declared.walk.Walk.{Walk}
use Rattle.steps_walk.specs.Walk.{runner_of, program_of, tree_of, IsWalking}
use Rattle.steps_program.specs.declared.source.Source.{Source}
use Rattle.steps_walk.specs.Texts.{IsTextAt, nodes_in}
use Rattle.steps_program.specs.Places.{source_of}
use Rattle.steps_program.specs.Before.{Stage, Text, Finds, cell_of, sought, text_of}
use Rattle.steps_program.specs.Transcript.{ReadsAll, Transcribes}

-- a cell of this text is posted to a machine and begun, which stands inside it then
abbrev pub Begins : Machine → List ℕ → Machine → Type 0
Begins old text new =
    (posted : Machine) × (number : ℕ) × IsPost old lane (RunCell text false true) (Ok number) posted × IsBegin posted Going new

-- The walk stands where a machine does that is inside a posted cell: in its code, in the world in which it was entered, beside the same cells, behind as
-- many steps.
pub record StandsInside {L : Type 0} (inside : Machine) (w : Walk L) : Type 0 where
  pub at : Place
  pub stands : Is (runner_of w) (Inside (program_of w) at false)
  pub code : at.code ≡ Forward (cell_of_program (program_of w))
  pub world : at.world ≡ here inside.state.past
  -- the cells before it are those of the machine, each at its node
  pub past : past_of (tree_of w) ≡ inside.state.past
  pub job : inside.state.job ≡ state.Inside (record { work = state.Posted (cell_of_program (program_of w)); count = at.count; heading = GoesOn })

-- a machine begins a cell of this text, and the walk stands there
pub record Enters {L : Type 0} (old : Machine) (text : List ℕ) (w : Walk L) : Type 0 where
  pub inside : Machine
  pub begins : Begins old text inside
  pub stands : StandsInside inside w

-- the text of a node, or for none that of the cell that is walked through, has the very tree whose places the walk tells
abbrev pub IsReadAt : {L : Type 0} → List Source → Walk L → Option ℕ → Type 0
IsReadAt sources w node = (s : Source) × (source_of sources node ≡ Some s) × IsTextAt w node (string_bytes s.text)

-- that is so of the cell that is walked through, and of each node
pub record AreRead {L : Type 0} (sources : List Source) (w : Walk L) : Type 0 where
  pub own : IsReadAt sources w None
  pub nodes : (n : ℕ) → 0 < n → n ≤ nodes_in w → IsReadAt sources w (Some n)

-- the transcript of a walk, to whose cells these texts belong
pub record TellsWalk {L : Type 0} (texts : List Text) (w : Walk L) (input : Option (List ℕ)) (out : List ℕ) : Type 0 where
  pub sources : List Source
  pub are : map text_of sources ≡ texts
  pub read : AreRead sources w
  pub transcribes : Transcribes sources w (ReadsAll input) out

-- A new kernel's machine serves the cells of a file before the one that is looked for, and begins that one; behind what is written of them stands the
-- transcript of a walk from there.
pub record WalksThrough (L : Type 0) (cell : Option ℕ) (file : List ℕ) (input : Option (List ℕ)) (out : List ℕ) : Type 0 where
  pub stage : Stage
  pub before : List ℕ
  pub finds : Finds (sought cell file) file new_machine stage before
  pub walk : Walk L
  pub walks : IsWalking walk
  pub enters : Enters stage.machine stage.gathered walk
  pub told : List ℕ
  pub tells : TellsWalk (stage.ran ++ cell_of stage ∷ []) walk input told
  pub is : out ≡ before ++ told
