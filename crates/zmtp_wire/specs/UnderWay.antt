-- What of a message has gone out before all of it has.
use Rattle.std.specs.Prelude.{◌≡◌, ℕ, List, ◌++◌, Option}
use Rattle.std.specs.Io.KnownBytes.{Appends}

-- of the octets a beginning went out, and these are the rest
abbrev pub IsUnderWay : Option (List ℕ) → Option (List ℕ) → List ℕ → List ℕ → Type 0
IsUnderWay old new octets rest = (part : List ℕ) × (octets ≡ part ++ rest) × Appends old new part
