-- What a command does to the walk, and what there is to tell then.
use Rattle.std.specs.Prelude.{◌≡◌, ◌≢◌, ℕ, Bool, true, false, nat_lt, List, Err}
use Rattle.std.specs.Borrow.{Bor}
use Rattle.janus_meaning.specs.Fault.{Bad, Broken}
use Rattle.janus_syntax.specs.Text.{HasExp, IsParsedExp}
use Rattle.janus_syntax.specs.Tree.{exp_view}
use Rattle.janus_syntax.specs.declared.tree.Exp.{Exp}
use Rattle.steps_walk.specs.declared.walk.Walk.{Walk}
use Rattle.steps_walk.specs.Walk.{calls_in, Moves, KeepsMet}
use Rattle.steps_walk.specs.Values.{IsValueHere}
use Rattle.steps_program.specs.declared.command.Command.{Command}
use Rattle.steps_program.specs.declared.command.Command.TheVariants as command
use Rattle.steps_program.specs.declared.going.Came.{Came}
use Rattle.steps_program.specs.declared.going.Came.TheVariants as came
use Rattle.steps_program.specs.declared.going.Goal.{Goal}
use Rattle.steps_program.specs.declared.going.Goal.TheVariants.{Next, Fewer, Line, Holds, Changes}
use Rattle.steps_program.specs.declared.kept.Kept.{Kept}
use Rattle.steps_program.specs.declared.source.Source.{Source}
use Rattle.steps_program.specs.declared.talk.Reply.{Reply}
use Rattle.steps_program.specs.declared.talk.Reply.TheVariants as reply
use Rattle.steps_program.specs.Counted.{GoesOn, ComesBack, all_steps}
use Rattle.steps_program.specs.Going.{GoesTo, GoesBackTo}
use Rattle.steps_program.specs.Kept.{value_in}

-- ---- a walk that is led somewhere

-- on, or back
abbrev pub Goes : {L : Type 0} → List Source → Bool → Goal → Walk L → Walk L → Came → Type 0
Goes sources true = GoesTo sources
Goes sources false = GoesBackTo sources

-- it has gone there, and then bodies were met
pub record IsLed {L : Type 0} (sources : List Source) (onward : Bool) (goal : Goal) (old new : Walk L) (to : Came) : Type 0 where
  pub at : Walk L
  pub goes : Goes sources onward goal old at to
  pub met : KeepsMet at new
  pub moves : Moves old new

-- ---- what there is to tell

-- where the walk has come, if it goes there
abbrev pub Comes : (Came → Type 0) → Reply → Type 0
Comes goes (reply.Came to) = goes to
Comes goes _ = ⊥

-- the same of a search
abbrev pub Seeks : (Came → Type 0) → Reply → Type 0
Seeks goes (reply.Sought to) = goes to
Seeks goes _ = ⊥

-- until the expression holds that the text is; or the text is refused, and nothing changes
abbrev pub IsLedUntil : {L : Type 0} → List Source → Bool → List ℕ → Walk L → Walk L → Reply → Type 0
IsLedUntil sources onward text old new (reply.Sought to) = (exp : Bor Exp) × HasExp text (exp_view exp.now) × IsLed sources onward (Holds exp) old new to
IsLedUntil sources onward text old new (reply.Refused fault) = IsParsedExp text (Err fault) × (new ≡ old)
IsLedUntil sources onward text old new _ = ⊥

-- what there is to tell where a watch has come, by whether the call is left in which it began
abbrev pub watched : Came → Bool → Reply
watched came.There true = reply.CallLeft
watched came.There false = reply.Sought came.There
watched came.End left = reply.Sought came.End
watched came.Start left = reply.Sought came.Start
watched (came.Fault fault) left = reply.Sought (came.Fault fault)
watched came.Memory left = reply.Sought came.Memory

-- a name is in sight, and it has gone on until its value is another one, or the call is left
pub record IsWatched {L : Type 0} (sources : List Source) (onward : Bool) (name : Bor (List ℕ)) (old new : Walk L) (r : Reply) : Type 0 where
  pub kept : Kept
  pub value : IsValueHere old name.now (value_in kept)
  pub in_sight : value_in kept ≢ Bad Broken
  pub to : Came
  pub led : IsLed sources onward (Changes name (calls_in old) kept) old new to
  pub tells : r ≡ watched to (nat_lt (calls_in new) (calls_in old))

-- until the value of a name is another one than where the command began, or the call is left in which it began; or the name isn't in sight, or there was no
-- memory to keep its value, and nothing changes
abbrev pub IsLedByChange : {L : Type 0} → List Source → Bool → Bor (List ℕ) → Walk L → Walk L → Reply → Type 0
IsLedByChange sources onward name old new reply.NotInSight = IsValueHere old name.now (Bad Broken) × (new ≡ old)
IsLedByChange sources onward name old new reply.NoMemory = new ≡ old
IsLedByChange sources onward name old new r = IsWatched sources onward name old new r

-- Steps and ends by their numbers; other moves as far as the first place at which their goal is met. What looks at the walk, and what is refused, changes
-- nothing.
abbrev pub Obeys : {L : Type 0} → List Source → Command → Walk L → Walk L → Reply → Type 0
Obeys sources (command.Step n) old new r = Comes (GoesOn n old new) r
Obeys sources (command.Back n) old new r = Comes (ComesBack n old new) r
Obeys sources command.Next old new r = Comes (IsLed sources true (Next (calls_in old)) old new) r
Obeys sources command.Finish old new r = Comes (IsLed sources true (Fewer (calls_in old)) old new) r
Obeys sources (command.To line) old new r = Seeks (IsLed sources true (Line line) old new) r
Obeys sources (command.BackTo line) old new r = Seeks (IsLed sources false (Line line) old new) r
Obeys sources command.ToFault old new r = Comes (GoesOn all_steps old new) r
Obeys sources command.ToEnd old new r = Comes (GoesOn all_steps old new) r
Obeys sources command.ToStart old new r = Comes (ComesBack all_steps old new) r
Obeys sources (command.Until text) old new r = IsLedUntil sources true text.now old new r
Obeys sources (command.BackUntil text) old new r = IsLedUntil sources false text.now old new r
Obeys sources (command.Watch name) old new r = IsLedByChange sources true name old new r
Obeys sources (command.BackWatch name) old new r = IsLedByChange sources false name old new r
Obeys sources command.Show old new r = (r ≡ reply.Names) × (new ≡ old)
Obeys sources command.Where old new r = (r ≡ reply.Place) × (new ≡ old)
Obeys sources command.Calls old new r = (r ≡ reply.Calls) × (new ≡ old)
Obeys sources command.List old new r = (r ≡ reply.Lines) × (new ≡ old)
Obeys sources command.Count old new r = (r ≡ reply.Count) × (new ≡ old)
Obeys sources command.Quit old new r = (r ≡ reply.Nothing) × (new ≡ old)
Obeys sources command.Nothing old new r = (r ≡ reply.Nothing) × (new ≡ old)
Obeys sources command.Unknown old new r = (r ≡ reply.Unknown) × (new ≡ old)
