-- What each kind of step tells the holder of the seat, in the terms of the base (`atomic_table`): of the step, the seat before, the number
-- found, and the seat after.
use Rattle.std.specs.Prelude.{◌≡◌, ℕ, ◌≤◌, []}
use Rattle.atomic_table.specs.Table.{Me, Step}
use Rattle.kernel_bell.specs.declared.view.RunnerView.{RunnerView}
use Rattle.kernel_bell.specs.declared.view.RingerView.{RingerView}
use Rattle.kernel_bell.specs.declared.view.SeatView.{SeatView}
use Rattle.kernel_bell.specs.declared.view.SeatView.TheVariants.{Runner, Ringer}
use Rattle.kernel_bell.specs.Views.{new_runner, new_ringer, after_begin, after_hearing, after_look, after_raise}

-- a seat's view, with no slots, since the bell has none
abbrev pub Seated : Type 0
Seated = Me (Unit {0}) SeatView

abbrev pub runner_of : SeatView → RunnerView
runner_of (Runner r) = r
runner_of (Ringer g) = new_runner

abbrev pub ringer_of : SeatView → RingerView
ringer_of (Runner r) = new_ringer
ringer_of (Ringer g) = g

abbrev pub seated_runner : RunnerView → Seated
seated_runner r = (Runner r, [])

abbrev pub seated_ringer : RingerView → Seated
seated_ringer g = (Ringer g, [])

abbrev pub Begins : Step (Unit {0}) → Seated → ℕ → Seated → Type 0
Begins st old n new = new ≡ seated_runner (after_begin (runner_of old.0))

-- what is found is at least what was heard before
abbrev pub Hears : Step (Unit {0}) → Seated → ℕ → Seated → Type 0
Hears st old n new = (new ≡ seated_runner (after_hearing (runner_of old.0) n)) × ((runner_of old.0).heard ≤ n)

-- what is found is at least what was seen before
abbrev pub Looks : Step (Unit {0}) → Seated → ℕ → Seated → Type 0
Looks st old n new = (new ≡ seated_ringer (after_look (ringer_of old.0) n)) × ((ringer_of old.0).seen ≤ n)

abbrev pub Raises : Step (Unit {0}) → Seated → ℕ → Seated → Type 0
Raises st old n new = new ≡ seated_ringer (after_raise (ringer_of old.0))

-- a ringer's seat is made beside the runner's
abbrev pub same_view : SeatView → SeatView
same_view v = v

abbrev pub as_ringer : SeatView → SeatView
as_ringer v = Ringer new_ringer
