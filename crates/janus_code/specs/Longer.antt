-- A list with more behind it.
use Rattle.std.specs.Prelude.{◌≡◌, ℕ, ◌<◌, ◌≤◌, List, length, slice_index_or}

pub record IsLonger (old new : List ℕ) : Type 0 where
  pub longer : length old ≤ length new
  pub same : (i : ℕ) → i < length old → slice_index_or new i 0 ≡ slice_index_or old i 0
