-- Which steps change no value, and what is seen alike before and behind them.
use Rattle.std.specs.Prelude.{◌≡◌, ℤ, Bool, true, false, not, ◌||◌, List}
use Rattle.janus_meaning.specs.Fault.{Res}
use Rattle.janus_meaning.specs.Syntax.{Name}
use Rattle.janus_meaning.specs.Value.{value}
use Rattle.janus_syntax.specs.View.{exp_of}
use Rattle.janus_syntax.specs.declared.tree.Exp.{Exp}
use Rattle.janus_places.specs.declared.part.Form.{Form}
use Rattle.janus_places.specs.declared.part.Form.TheVariants.{Skip, Assign, AssignElement, Push, Pop, Swap, If, Loop, LocalInt, LocalStack, Call, Uncall}
use Rattle.janus_places.specs.declared.part.Part.{Part}
use Rattle.janus_places.specs.declared.part.Part.TheVariants.{Begin, End, Before, After, Enters, Leaves}
use Rattle.kernel_runner.specs.declared.runner.Runner.{Runner}
use Rattle.kernel_runner.specs.Runner.{CameBy}
use Rattle.steps_walk.specs.declared.level.Level.{Level}
use Rattle.steps_walk.specs.declared.sight.Sight.{Sight}
use Rattle.steps_walk.specs.declared.walk.Walk.{Walk}
use Rattle.steps_walk.specs.Walk.{runner_of, program_of, calls_in, slots_in}
use Rattle.steps_walk.specs.Standing.{IsHere, IsCodeAt, node_at}
use Rattle.steps_walk.specs.Sights.{AreInSight, IsSightAt}
use Rattle.steps_walk.specs.Values.{sighted}

-- ---- steps that change no value

-- whether neither the first step of a statement nor the last one of its blocks changes a value: a `skip` does nothing, and an `if` or a loop makes a test
abbrev pub is_quiet_form : Form → Bool
is_quiet_form Skip = true
is_quiet_form Assign = false
is_quiet_form AssignElement = false
is_quiet_form Push = false
is_quiet_form Pop = false
is_quiet_form Swap = false
is_quiet_form If = true
is_quiet_form Loop = true
is_quiet_form LocalInt = false
is_quiet_form LocalStack = false
is_quiet_form Call = false
is_quiet_form Uncall = false

-- Whether the next step is one of those, or leads on into a block or behind a statement, where code runs as it is written, or where its inverse does.
abbrev pub is_quiet : Bool → Part → Bool
is_quiet inverse Begin = false
is_quiet inverse End = false
is_quiet inverse (Before form) = inverse || is_quiet_form form
is_quiet inverse (After form) = not inverse || is_quiet_form form
is_quiet inverse (Enters form branch) = not inverse || is_quiet_form form
is_quiet inverse (Leaves form branch) = inverse || is_quiet_form form

-- whichever way one step leads from a walk, the names in sight have the values there that they have here
abbrev pub LeavesValues : {L : Type 0} → Walk L → Type 0
LeavesValues {L} w = (next : Runner L) → CameBy (program_of w) 1 1 (runner_of w) next → next.counted.store.slots ≡ slots_in w

-- ---- what is seen

-- the number of an expression over the names in sight at this level, which is the innermost one, or why it has none
pub record IsNumberAt {L : Type 0} (exp : Exp) (w : Walk L) (level : Level) (r : Res ℤ) : Type 0 where
  pub here : IsHere w level
  pub code : IsCodeAt w (calls_in w) level.body
  pub node : level.node ≡ node_at w level.body
  pub sight : Sight
  pub of : IsSightAt w level sight
  pub is : (g : List Name) → AreInSight sight g → r ≡ value (exp_of exp) (sighted (slots_in w) g)

-- at the next level of another walk each expression has the number that it has at this level
abbrev pub IsSeenAlike : {L : Type 0} → Walk L → Level → Walk L → Level → Type 0
IsSeenAlike old level new next = (exp : Exp) (r : Res ℤ) → IsNumberAt exp old level r → IsNumberAt exp new next r
