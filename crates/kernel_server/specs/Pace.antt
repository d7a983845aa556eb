-- The slices of a kernel that has no runner: those of a list, and behind its end unasked ones of one size.
use Rattle.std.specs.Prelude.{◌≡◌, ℕ, false, List, [], ◌∷◌}
use Rattle.kernel_core.specs.events.Event.{Event}
use Rattle.kernel_core.specs.events.Event.TheVariants as event
use Rattle.kernel_core.specs.limit.TheConstants.{STEPS_OF_A_SLICE}
use Rattle.kernel_server.specs.declared.slice.Slice.{Slice}

-- the slice behind the end of the list
abbrev pub unasked : Slice
unasked = record { steps = STEPS_OF_A_SLICE; is_asked = false }

-- the slice that is taken next
abbrev pub next_slice : List Slice → Slice
next_slice [] = unasked
next_slice (s ∷ slices) = s

-- the list behind it
abbrev pub behind : List Slice → List Slice
behind [] = []
behind (s ∷ slices) = slices

-- Each slice of the events is the next of the list, of which these are left. No other event takes one.
abbrev pub ArePaced : List Slice → List Event → List Slice → Type 0
ArePaced slices [] left = left ≡ slices
ArePaced slices (event.Slice m asked ∷ events) left =
    (m ≡ (next_slice slices).steps) × (asked ≡ (next_slice slices).is_asked) × ArePaced (behind slices) events left
ArePaced slices (event.Begin ∷ events) left = ArePaced slices events left
ArePaced slices (event.Post lane job ∷ events) left = ArePaced slices events left
ArePaced slices (event.Shut ∷ events) left = ArePaced slices events left
