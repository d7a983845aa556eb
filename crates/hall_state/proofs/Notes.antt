-- One more note.
use Rattle.std.proofs.Common.{◌≡◌, ℕ, true, List, [], ◌∷◌, ◌++◌, refl}
use Rattle.kernel_audit.specs.declared.note.Note.{Note}
use Rattle.kernel_audit.specs.declared.note.Note.TheVariants.{Posted, Shut, Asked, Changed, Began, Cut, Told}
use Rattle.kernel_audit.specs.Notes.{wished_in, has_shutdown, comms_after}
use Rattle.hall_state.specs.TurnNotes.{IsTurnNote}

pub shut_after : (xs : List Note) → has_shutdown (xs ++ Shut ∷ []) ≡ true
shut_after [] = refl
shut_after (Posted wishes ∷ xs) = shut_after xs
shut_after (Shut ∷ xs) = refl
shut_after (Asked ∷ xs) = shut_after xs
shut_after (Changed comms ∷ xs) = shut_after xs
shut_after (Began told ∷ xs) = shut_after xs
shut_after (Cut most is_asked told ∷ xs) = shut_after xs
shut_after (Told done ∷ xs) = shut_after xs

-- what is no shutdown shuts nothing
pub shut_as_before : (xs : List Note) (note : Note) → has_shutdown (note ∷ []) ≡ has_shutdown [] → has_shutdown (xs ++ note ∷ []) ≡ has_shutdown xs
shut_as_before [] note none = none
shut_as_before (Posted wishes ∷ xs) note none = shut_as_before xs note none
shut_as_before (Shut ∷ xs) note none = refl
shut_as_before (Asked ∷ xs) note none = shut_as_before xs note none
shut_as_before (Changed comms ∷ xs) note none = shut_as_before xs note none
shut_as_before (Began told ∷ xs) note none = shut_as_before xs note none
shut_as_before (Cut most is_asked told ∷ xs) note none = shut_as_before xs note none
shut_as_before (Told done ∷ xs) note none = shut_as_before xs note none

-- the comms behind one more note are those that it leaves open
pub comms_behind : (ids : List (List ℕ)) (xs : List Note) (note : Note) → comms_after ids (xs ++ note ∷ []) ≡ comms_after (comms_after ids xs) (note ∷ [])
comms_behind ids [] note = refl
comms_behind ids (Posted wishes ∷ xs) note = comms_behind ids xs note
comms_behind ids (Shut ∷ xs) note = comms_behind ids xs note
comms_behind ids (Asked ∷ xs) note = comms_behind ids xs note
comms_behind ids (Changed comms ∷ xs) note = comms_behind comms xs note
comms_behind ids (Began told ∷ xs) note = comms_behind ids xs note
comms_behind ids (Cut most is_asked told ∷ xs) note = comms_behind ids xs note
comms_behind ids (Told done ∷ xs) note = comms_behind ids xs note

-- ---- a turn by itself has no wishes, shuts nothing, and leaves the comms

pub turn_wishes : (note : Note) → IsTurnNote note → wished_in (note ∷ []) ≡ []
turn_wishes (Posted wishes) h = absurd h
turn_wishes Shut h = absurd h
turn_wishes Asked h = absurd h
turn_wishes (Changed comms) h = absurd h
turn_wishes (Began told) h = refl
turn_wishes (Cut most is_asked told) h = refl
turn_wishes (Told done) h = absurd h

pub turn_shuts_nothing : (note : Note) → IsTurnNote note → has_shutdown (note ∷ []) ≡ has_shutdown []
turn_shuts_nothing (Posted wishes) h = absurd h
turn_shuts_nothing Shut h = absurd h
turn_shuts_nothing Asked h = absurd h
turn_shuts_nothing (Changed comms) h = absurd h
turn_shuts_nothing (Began told) h = refl
turn_shuts_nothing (Cut most is_asked told) h = refl
turn_shuts_nothing (Told done) h = absurd h

pub turn_comms : (ids : List (List ℕ)) (note : Note) → IsTurnNote note → comms_after ids (note ∷ []) ≡ ids
turn_comms ids (Posted wishes) h = absurd h
turn_comms ids Shut h = absurd h
turn_comms ids Asked h = absurd h
turn_comms ids (Changed comms) h = absurd h
turn_comms ids (Began told) h = refl
turn_comms ids (Cut most is_asked told) h = refl
turn_comms ids (Told done) h = absurd h
