-- What contracts see of a seat, and what its holder may conclude from what it knows.
use Rattle.std.specs.Prelude.{◌≡◌, ℕ, ◌≤◌, Bool, ◌&&◌, nat_le}
use Rattle.atomic_table.specs.Seated.{TableId}
use Rattle.kernel_bell.specs.declared.view.RunnerView.{RunnerView}
use Rattle.kernel_bell.specs.declared.view.RingerView.{RingerView}
use Rattle.kernel_bell.specs.declared.view.SeatView.TheVariants.{Runner, Ringer}
use Rattle.kernel_bell.specs.Rule.{BellState, IsRuled, current_of, bell_of}
use Rattle.kernel_bell.specs.Steps.{Knows}

-- the runner's seat: whose bell it is, and what its holder knows
pub record RunnerOf : Type 0 where
  pub bell : TableId
  pub knows : RunnerView

-- a ringer's seat
pub record RingerOf : Type 0 where
  pub bell : TableId
  pub knows : RingerView

abbrev pub runner_seat : TableId → RunnerView → RunnerOf
runner_seat b r = record { bell = b; knows = r }

abbrev pub ringer_seat : TableId → RingerView → RingerOf
ringer_seat b g = record { bell = b; knows = g }

-- whether the job that runs is asked to stop: its serial is at least 1, and what was heard has reached it
abbrev pub is_asked : RunnerView → Bool
is_asked r = nat_le 1 r.serial && nat_le r.serial r.heard

-- in this state, some ringer has rung this very serial
abbrev pub HasRung : BellState → ℕ → Type 0
HasRung s serial = (seat : ℕ) × (g : RingerView) × Knows s seat (Ringer g) × (g.rung ≡ serial)

-- in every state in which the runner knows this, some ringer has rung its serial
abbrev pub WasRung : RunnerView → Type 0
WasRung r = (s : BellState) (seat : ℕ) → IsRuled s → Knows s seat (Runner r) → HasRung s r.serial

-- in every state in which a ringer knows this, what it has seen and rung is at most `current`, and `bell` has reached what it rang
abbrev pub IsNeverLater : RingerView → Type 0
IsNeverLater g =
    (s : BellState) (seat : ℕ) → IsRuled s → Knows s seat (Ringer g)
    → (g.seen ≤ current_of s) × (g.rung ≤ current_of s) × (g.rung ≤ bell_of s)
