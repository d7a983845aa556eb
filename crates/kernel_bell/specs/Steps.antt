-- The kinds of step. Each is one atomic step of one seat: it changes one word at most, and the view of this seat alone.
use Rattle.std.specs.Prelude.{◌≡◌, ℕ, ◌+◌, List, [], ◌∷◌, ◌++◌, max, slice_set}
use mathlib.Core.Option.{some}
use lib.ListN.{get_elem?}
use Rattle.kernel_bell.specs.declared.view.RunnerView.{RunnerView}
use Rattle.kernel_bell.specs.declared.view.RingerView.{RingerView}
use Rattle.kernel_bell.specs.declared.view.SeatView.{SeatView}
use Rattle.kernel_bell.specs.declared.view.SeatView.TheVariants.{Runner, Ringer}
use Rattle.kernel_bell.specs.Views.{new_ringer, after_begin, after_hearing, after_look, after_raise}
use Rattle.kernel_bell.specs.Rule.{BellState, current_of, bell_of}

-- in this state, the holder of the seat knows this
abbrev pub Knows : BellState → ℕ → SeatView → Type 0
Knows s seat v = get_elem? s.views seat ≡ some v

-- the state with other words, and with another view of one seat
abbrev pub changed : BellState → List ℕ → ℕ → SeatView → BellState
changed s words seat v = record { words = words; homes = s.homes; views = slice_set s.views seat v }

-- The four kinds of step, and the making of a seat. There is no other.
pub data IsStep (s : BellState) : BellState → Type 0 where
  -- the runner stores `current`, one more than before
  begins : (seat : ℕ) (r : RunnerView) → Knows s seat (Runner r)
      → IsStep s (changed s (slice_set s.words 0 (r.serial + 1)) seat (Runner (after_begin r)))
  -- the runner loads `bell`
  hears : (seat : ℕ) (r : RunnerView) → Knows s seat (Runner r)
      → IsStep s (changed s s.words seat (Runner (after_hearing r (bell_of s))))
  -- a ringer loads `current`
  looks : (seat : ℕ) (g : RingerView) → Knows s seat (Ringer g)
      → IsStep s (changed s s.words seat (Ringer (after_look g (current_of s))))
  -- a ringer raises `bell` to the serial that it has seen, if it isn't higher
  raises : (seat : ℕ) (g : RingerView) → Knows s seat (Ringer g)
      → IsStep s (changed s (slice_set s.words 1 (max (bell_of s) g.seen)) seat (Ringer (after_raise g)))
  -- one more ringer takes a seat
  sits : IsStep s record { words = s.words; homes = s.homes; views = s.views ++ Ringer new_ringer ∷ [] }
