-- What is noted beside the minutes.
use Rattle.std.specs.Prelude.{◌≡◌, ℕ, Bool, true, false, List, [], ◌∷◌, ◌++◌, Result}
use mathlib.Core.List.{IsPrefix}
use Rattle.kernel_ask.specs.Wishes.{WishOf}
use Rattle.kernel_ask.specs.CommChanges.{IsChange}
use Rattle.kernel_ask.specs.declared.answer.HallFault.{HallFault}
use Rattle.kernel_ask.specs.declared.comm_change.CommChange.{CommChange}
use Rattle.kernel_ask.specs.declared.done.Done.{Done}
use Rattle.kernel_audit.specs.declared.note.Note.{Note}
use Rattle.kernel_audit.specs.declared.note.Note.TheVariants.{Posted, Shut, Asked, Changed, Began, Cut, Told}

-- the wishes of the posts, in their order
abbrev pub wished_in : List Note → List (List WishOf)
wished_in [] = []
wished_in (Posted wishes ∷ notes) = wishes.items ∷ wished_in notes
wished_in (Shut ∷ notes) = wished_in notes
wished_in (Asked ∷ notes) = wished_in notes
wished_in (Changed comms ∷ notes) = wished_in notes
wished_in (Began told ∷ notes) = wished_in notes
wished_in (Cut most is_asked told ∷ notes) = wished_in notes
wished_in (Told done ∷ notes) = wished_in notes

-- whether a shutdown came
abbrev pub has_shutdown : List Note → Bool
has_shutdown [] = false
has_shutdown (Posted wishes ∷ notes) = has_shutdown notes
has_shutdown (Shut ∷ notes) = true
has_shutdown (Asked ∷ notes) = has_shutdown notes
has_shutdown (Changed comms ∷ notes) = has_shutdown notes
has_shutdown (Began told ∷ notes) = has_shutdown notes
has_shutdown (Cut most is_asked told ∷ notes) = has_shutdown notes
has_shutdown (Told done ∷ notes) = has_shutdown notes

-- the comms that are open behind these notes, where those were open before them
abbrev pub comms_after : List (List ℕ) → List Note → List (List ℕ)
comms_after before [] = before
comms_after before (Posted wishes ∷ notes) = comms_after before notes
comms_after before (Shut ∷ notes) = comms_after before notes
comms_after before (Asked ∷ notes) = comms_after before notes
comms_after before (Changed comms ∷ notes) = comms_after comms notes
comms_after before (Began told ∷ notes) = comms_after before notes
comms_after before (Cut most is_asked told ∷ notes) = comms_after before notes
comms_after before (Told done ∷ notes) = comms_after before notes

-- the open comms, of which there are none before the first note
abbrev pub comms_in : List Note → List (List ℕ)
comms_in notes = comms_after [] notes

-- This was noted last: behind the old notes, with those of others between.
pub record IsNotedLast (note : Note) (old new : List Note) : Type 0 where
  pub before : List Note
  pub onward : IsPrefix old before
  pub noted : new ≡ before ++ note ∷ []

-- a question was noted last
abbrev pub IsNotedQuestion : List Note → List Note → Type 0
IsNotedQuestion old new = IsNotedLast Asked old new

-- What is told of the end of a job was noted last, all of it: its shown text and its values too.
abbrev pub IsNotedEnd : List Note → Done → List Note → Type 0
IsNotedEnd old done new = IsNotedLast (Told done) old new

-- The comms were changed so, and this was noted last: behind the old notes, with those of others between, to the comms that were open then.
pub record IsNotedChange (old : List Note) (change : CommChange) (told : Result Bool HallFault) (new : List Note) : Type 0 where
  pub before : List Note
  pub onward : IsPrefix old before
  pub comms : List (List ℕ)
  pub noted : new ≡ before ++ Changed comms ∷ []
  pub changed : IsChange (comms_in before) change told comms
