-- One turn of the runner: what it is of the lent kernel and of the runner's seat.
use Rattle.std.specs.Prelude.{◌≡◌, ℕ}
use Rattle.kernel_audit.specs.Runs.{Machine, phase_of, IsBegin, IsSliceOf}
use Rattle.kernel_audit.specs.outcome.Phase.{Phase}
use Rattle.kernel_audit.specs.outcome.Phase.TheVariants.{Idle, Queued, Border, Inside}
use Rattle.kernel_audit.specs.outcome.Begun.{Begun}
use Rattle.kernel_audit.specs.outcome.Sliced.{Sliced}
use Rattle.kernel_bell.specs.Views.{after_begin, after_hearing}
use Rattle.kernel_bell.specs.Seats.{RunnerOf, runner_seat, is_asked}
use Rattle.hall_state.specs.declared.turn.Turn.{Turn}
use Rattle.hall_state.specs.declared.turn.Turn.TheVariants.{Cut, Began}

-- one slice of at most n steps, with the answer of one load of the bell
abbrev pub IsCut : Machine → RunnerOf → ℕ → Turn → Machine → RunnerOf → Type 0
IsCut k r n t k' r' =
    (s : Sliced) × (t ≡ Cut s) × IsSliceOf k n (is_asked r'.knows) s k' × (r' ≡ runner_seat r.bell (after_hearing r.knows r'.knows.heard))

-- one begin, after which the runner's seat is this
abbrev pub IsBeginning : Machine → Turn → Machine → RunnerOf → RunnerOf → Type 0
IsBeginning k t k' then r' = (b : Begun) × (t ≡ Began b) × IsBegin k b k' × (r' ≡ then)

-- inside a cell a slice; where a posted job is taken a begin, with the bell's next serial; else a begin
abbrev pub IsTurnAt : Phase → Machine → RunnerOf → ℕ → Turn → Machine → RunnerOf → Type 0
IsTurnAt Inside k r n t k' r' = IsCut k r n t k' r'
IsTurnAt Queued k r n t k' r' = IsBeginning k t k' (runner_seat r.bell (after_begin r.knows)) r'
IsTurnAt Border k r n t k' r' = IsBeginning k t k' r r'
IsTurnAt Idle k r n t k' r' = IsBeginning k t k' r r'

abbrev pub IsTurn : Machine → RunnerOf → ℕ → Turn → Machine → RunnerOf → Type 0
IsTurn k r n t k' r' = IsTurnAt (phase_of k.state.job k.queue) k r n t k' r'
