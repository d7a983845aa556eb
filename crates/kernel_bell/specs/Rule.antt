-- The rule of the interrupt bell. Jobs have serials: 1, 2, .. in the order in which they begin, and 0 before the first.
-- There are two words. Word 0, `current`, is the serial of the job that runs. Word 1, `bell`, is the highest serial whose job was
-- asked to stop. So the request names its job: unlike a flag that stays up, it is over as soon as the next job begins.
use Rattle.std.specs.Prelude.{◌≡◌, ℕ, ◌≤◌, List, [], ◌∷◌, map, max, slice_index, All}
use Rattle.atomic_table.specs.Table.{State}
use Rattle.kernel_bell.specs.declared.view.RunnerView.{RunnerView}
use Rattle.kernel_bell.specs.declared.view.RingerView.{RingerView}
use Rattle.kernel_bell.specs.declared.view.SeatView.{SeatView}
use Rattle.kernel_bell.specs.declared.view.SeatView.TheVariants.{Runner, Ringer}

-- the two words, and what the holder of each seat knows: seat 0 is the runner's, all others are ringers'
abbrev pub BellState : Type 0
BellState = State (Unit {0}) SeatView

abbrev pub current_of : BellState → ℕ
current_of s = slice_index s.words 0

abbrev pub bell_of : BellState → ℕ
bell_of s = slice_index s.words 1

-- the highest serial that a ringer has rung, or 0
abbrev pub highest_rung : List RingerView → ℕ
highest_rung [] = 0
highest_rung (g ∷ gs) = max g.rung (highest_rung gs)

-- a ringer has rung at most what it has seen, and seen at most the current serial
abbrev pub IsBehind : ℕ → RingerView → Type 0
IsBehind current g = (g.rung ≤ g.seen) × (g.seen ≤ current)

-- THE RULE, which holds between any two steps.
pub record IsRuled (s : BellState) : Type 0 where
  pub runner : RunnerView
  pub ringers : List RingerView
  pub seats : s.views ≡ Runner runner ∷ map Ringer ringers
  pub words : s.words ≡ runner.serial ∷ highest_rung ringers ∷ []
  pub heard : runner.heard ≤ highest_rung ringers
  pub behind : All (IsBehind runner.serial) ringers
