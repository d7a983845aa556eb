-- What has gone out where a writer failed.
use Rattle.std.specs.Prelude.{◌≡◌, ℕ, List, ◌++◌, Option}
use Rattle.std.specs.Io.KnownBytes.{Appends}

-- some of the octets went out: a beginning of them
abbrev pub SentSome : Option (List ℕ) → Option (List ℕ) → List ℕ → Type 0
SentSome old new octets = (part : List ℕ) × (rest : List ℕ) × (octets ≡ part ++ rest) × Appends old new part
