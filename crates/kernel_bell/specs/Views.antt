-- What the holder of each seat knows, and how each kind of step changes it. The views stand in contracts alone.
use Rattle.std.specs.Prelude.{ℕ, ◌+◌}
use Rattle.kernel_bell.specs.declared.view.RunnerView.{RunnerView}
use Rattle.kernel_bell.specs.declared.view.RingerView.{RingerView}

abbrev pub runner_view : ℕ → ℕ → ℕ → ℕ → RunnerView
runner_view serial heard stores loads = record { serial = serial; heard = heard; stores = stores; loads = loads }

abbrev pub ringer_view : ℕ → ℕ → ℕ → ℕ → RingerView
ringer_view seen rung looks raises = record { seen = seen; rung = rung; looks = looks; raises = raises }

-- a seat that has taken no step
abbrev pub new_runner : RunnerView
new_runner = runner_view 0 0 0 0

abbrev pub new_ringer : RingerView
new_ringer = ringer_view 0 0 0 0

-- The four kinds of step, each by the one view that it changes.
-- The runner stores `current`: the next serial
abbrev pub after_begin : RunnerView → RunnerView
after_begin r = runner_view (r.serial + 1) r.heard (r.stores + 1) r.loads

-- the runner loads `bell`, and finds n
abbrev pub after_hearing : RunnerView → ℕ → RunnerView
after_hearing r n = runner_view r.serial n r.stores (r.loads + 1)

-- a ringer loads `current`, and finds n
abbrev pub after_look : RingerView → ℕ → RingerView
after_look g n = ringer_view n g.rung (g.looks + 1) g.raises

-- a ringer raises `bell` to the serial that it has seen
abbrev pub after_raise : RingerView → RingerView
after_raise g = ringer_view g.seen g.seen g.looks (g.raises + 1)
