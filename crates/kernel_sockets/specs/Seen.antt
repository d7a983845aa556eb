-- What is seen of the places of a register.
use Rattle.std.specs.Prelude.{◌≡◌, ℕ, ◌<◌, Bool, false, List, length, slice_get, Option, Some, is_some, unwrap_or}
use Rattle.std.specs.Option.{option_flatten}
use Rattle.kernel_sockets.specs.declared.room.Sight.{Sight}

-- whether a connection is at a place
abbrev pub is_taken : {A : Type 0} → List (Option A) → ℕ → Bool
is_taken streams place = is_some (option_flatten (slice_get streams place))

-- whether a place was relieved of its connection
abbrev pub is_relieved : List Bool → ℕ → Bool
is_relieved relieved place = unwrap_or (slice_get relieved place) false

-- of each of the first places it was seen whether a connection is there, and whether the place was relieved of it
abbrev pub AreSeenBelow : {A : Type 0} → List (Option A) → List Bool → List Sight → ℕ → Type 0
AreSeenBelow streams relieved sights first =
    (k : ℕ) (s : Sight) → k < first → slice_get sights k ≡ Some s → (s.is_taken ≡ is_taken streams k) × (s.is_relieved ≡ is_relieved relieved k)

-- of each place it was seen so
abbrev pub AreSeen : {A : Type 0} → List (Option A) → List Bool → List Sight → Type 0
AreSeen streams relieved sights = (length sights ≡ length streams) × AreSeenBelow streams relieved sights (length sights)
