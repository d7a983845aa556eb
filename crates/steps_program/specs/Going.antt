-- Where a command goes that is looked at behind each step, and which steps it passes on the way there.
use Rattle.std.specs.Prelude.{◌≡◌, ◌≢◌, ◌↔◌, ◌⊎◌, ◌<◌, ◌+◌, ℕ, ℤ, Bool, true, false, ◌&&◌, nat_eq, nat_le, nat_lt, IsTrue, List, Some}
use Rattle.std.specs.Option.{option_eq}
use Rattle.janus_meaning.specs.Fault.{Res}
use Rattle.janus_meaning.specs.Syntax.{Name}
use Rattle.janus_meaning.specs.Store.{Val}
use Rattle.steps_walk.specs.progress.Progress.TheVariants.{Went, Ended, Stopped}
use Rattle.steps_walk.specs.Runner.{Runs, count_of, steps_of}
use Rattle.steps_walk.specs.declared.walk.Walk.{Walk}
use Rattle.steps_walk.specs.Walk.{runner_of, program_of, calls_in, Moves}
use Rattle.steps_walk.specs.declared.level.Level.{Level}
use Rattle.steps_walk.specs.declared.level.Spot.{Spot}
use Rattle.steps_walk.specs.Standing.{TellsStand, IsMetHere}
use Rattle.steps_walk.specs.Stops.{TellsStop, is_stop}
use Rattle.janus_syntax.specs.declared.tree.Exp.{Exp}
use Rattle.steps_walk.specs.Quiet.{IsNumberAt}
use Rattle.steps_walk.specs.Values.{IsValueHere, TellsHolding, holds_as}
use Rattle.steps_program.specs.declared.going.Came.{Came}
use Rattle.steps_program.specs.declared.going.Came.TheVariants as came
use Rattle.steps_program.specs.declared.going.Goal.{Goal}
use Rattle.steps_program.specs.declared.going.Goal.TheVariants.{Next, Fewer, Line, Holds, Changes}
use Rattle.steps_program.specs.declared.source.Source.{Source}
use Rattle.steps_program.specs.Counted.{GoesBack}
use Rattle.steps_program.specs.Kept.{value_in}
use Rattle.steps_program.specs.Places.{source_of, line_at}

-- ---- where a command goes

-- whether it stops there, if no more calls are open than may be
abbrev pub StopsWithin : {L : Type 0} → Bool → Walk L → Bool → Type 0
StopsWithin true w there = TellsStop w there
StopsWithin false w there = there ≡ false

-- whether a statement or one of its tests comes next, and its place is on this line of the file, by the text in which it stands
pub record TellsOnLine {L : Type 0} (sources : List Source) (line : ℕ) (w : Walk L) (there : Bool) : Type 0 where
  pub told : Level × Spot
  pub stands : TellsStand w told
  pub is : there ≡ (is_stop told.0.inverse told.1.part && option_eq nat_eq (line_at (source_of sources told.0.node) told.1.span) (Some line))

-- whether the call is left that is open with so many, or as many are open and the value of a name there is another one than this
pub record TellsChange {L : Type 0} (name : Name) (depth : ℕ) (old : Res Val) (w : Walk L) (there : Bool) : Type 0 where
  pub value : Res Val
  pub has : IsValueHere w name value
  pub is : IsTrue there ↔ ((calls_in w < depth) ⊎ ((calls_in w ≡ depth) × (value ≢ old)))

-- whether the walk is where a command goes
abbrev pub IsThere : {L : Type 0} → List Source → Goal → Walk L → Bool → Type 0
IsThere sources (Next depth) w there = StopsWithin (nat_le (calls_in w) depth) w there
IsThere sources (Fewer depth) w there = there ≡ nat_lt (calls_in w) depth
IsThere sources (Line line) w there = TellsOnLine sources line w there
IsThere sources (Holds exp) w there = TellsHolding exp.now w there
IsThere sources (Changes name depth old) w there = TellsChange name.now depth (value_in old) w there

-- where it was looked: it is there, or there is no memory to look, which is wanted only in a body that was not met
abbrev pub Arrives : {L : Type 0} → List Source → Goal → Walk L → Came → Type 0
Arrives sources goal w came.There = IsThere sources goal w true
Arrives sources goal w came.Memory = IsMetHere w → ⊥
Arrives sources goal w _ = ⊥

-- at this level, which is the innermost one, an expression was seen not to hold
abbrev pub IsSeenFalse : {L : Type 0} → Exp → Walk L → Level → Type 0
IsSeenFalse exp w level = (r : Res ℤ) × IsNumberAt exp w level r × (holds_as r ≡ false)

-- it was seen to hold; or there is no memory to look
abbrev pub IsSeenTrue : {L : Type 0} → Exp → Walk L → Came → Type 0
IsSeenTrue exp w came.There = TellsHolding exp w true
IsSeenTrue exp w came.Memory = IsMetHere w → ⊥
IsSeenTrue exp w _ = ⊥

-- ---- the way there

-- one step on, after which the code goes on
pub record TakesOne {L : Type 0} (old new : Walk L) : Type 0 where
  pub moves : Moves old new
  pub runs : Runs (program_of old) 1 Went (runner_of old) (runner_of new)
  pub counted : steps_of (runner_of new) ≡ steps_of (runner_of old) + 1

-- steps on, one at least or none, after none of which it is there
pub data Passes {L : Type 0} (sources : List Source) (goal : Goal) (old : Walk L) : Walk L → Type 0 where
  Begun : Passes sources goal old old
  Further : (mid new : Walk L) → Passes sources goal old mid → TakesOne mid new → IsThere sources goal new false → Passes sources goal old new

-- one step back, where one was taken
pub record TakesOneBack {L : Type 0} (old new : Walk L) : Type 0 where
  pub some : 0 < count_of (runner_of old)
  pub back : GoesBack 1 old new

-- the same back: one step at a time
pub data PassesBack {L : Type 0} (sources : List Source) (goal : Goal) (old : Walk L) : Walk L → Type 0 where
  BegunBack : PassesBack sources goal old old
  FurtherBack : (mid new : Walk L) → PassesBack sources goal old mid → TakesOneBack mid new → IsThere sources goal new false →
      PassesBack sources goal old new

-- the step that is left to be taken: to where the command goes, or to the end, or to none where a fault is met; or into a body that was not met, for which
-- there is no memory
abbrev pub TakesLast : {L : Type 0} → List Source → Goal → Walk L → Walk L → Came → Type 0
TakesLast sources goal old new came.There = TakesOne old new × IsThere sources goal new true
TakesLast sources goal old new came.End = (n : ℕ) × Runs (program_of old) 1 (Ended n) (runner_of old) (runner_of new)
TakesLast sources goal old new (came.Fault fault) = (n : ℕ) × Runs (program_of old) 1 (Stopped n fault) (runner_of old) (runner_of new)
TakesLast sources goal old new came.Memory = TakesOne old new × (IsMetHere new → ⊥)
TakesLast sources goal old new came.Start = ⊥

abbrev pub TakesLastBack : {L : Type 0} → List Source → Goal → Walk L → Walk L → Came → Type 0
TakesLastBack sources goal old new came.There = TakesOneBack old new × IsThere sources goal new true
TakesLastBack sources goal old new came.Memory = TakesOneBack old new × (IsMetHere new → ⊥)
TakesLastBack sources goal old new came.Start = (new ≡ old) × (count_of (runner_of new) ≡ 0)
TakesLastBack sources goal old new came.End = ⊥
TakesLastBack sources goal old new (came.Fault fault) = ⊥

-- Steps on, one at least, as far as the first after which the walk is where the command goes, or the end, or a fault, or want of memory.
pub record GoesTo {L : Type 0} (sources : List Source) (goal : Goal) (old new : Walk L) (to : Came) : Type 0 where
  pub mid : Walk L
  pub passes : Passes sources goal old mid
  pub last : TakesLast sources goal mid new to
  pub moves : Moves old new

-- Steps back, as far as the first after which it is there, or the start, or want of memory.
pub record GoesBackTo {L : Type 0} (sources : List Source) (goal : Goal) (old new : Walk L) (to : Came) : Type 0 where
  pub mid : Walk L
  pub passes : PassesBack sources goal old mid
  pub last : TakesLastBack sources goal mid new to
  pub moves : Moves old new
