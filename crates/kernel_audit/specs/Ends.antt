-- The ends of jobs in the minutes, as they are told.
use Rattle.std.specs.Prelude.{◌≡◌, ℕ, List, slice_get, Some}
use Rattle.kernel_ask.specs.Minutes.{Entry, Ended}
use Rattle.kernel_ask.specs.declared.done.Done.{Done}

-- the end of a job stands in the minutes as it is told
abbrev pub HasEnd : List Entry → Done → Type 0
HasEnd entries d = (at : ℕ) × (slice_get entries at ≡ Some (Ended d.number d.outcome d.count d.node))
