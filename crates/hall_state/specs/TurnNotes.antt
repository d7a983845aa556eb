-- What is noted of a turn.
use Rattle.kernel_audit.specs.declared.note.Note.{Note}
use Rattle.kernel_audit.specs.declared.note.Note.TheVariants.{Began, Cut}

-- it is a begin or a slice
abbrev pub IsTurnNote : Note → Type 0
IsTurnNote (Began told) = Unit {0}
IsTurnNote (Cut most is_asked told) = Unit {0}
IsTurnNote other = ⊥
