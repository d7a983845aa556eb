-- A runner that walks: it takes steps back and then faces on again.
use Rattle.std.specs.Prelude.{ℕ, ◌-◌, true, false}
use Rattle.janus_meaning.specs.World.{stacks_in}
use Rattle.janus_slots.specs.Slots.{procedures_in}
use Rattle.janus_machine.specs.Law.{NeverBroken}
use Rattle.kernel_machine.specs.Language.{run_block}
use Rattle.kernel_runner.specs.declared.program.Program.{Program}
use Rattle.kernel_runner.specs.declared.runner.Runner.{Runner}
use Rattle.kernel_runner.specs.Runner.{Place, at_count, start_at, block_of, slots_of, Is, Inside}

-- no step of the code of this place is broken
abbrev pub IsUnbroken : {L : Type 0} → Runner L → Place → Type 0
IsUnbroken runner at =
    NeverBroken (procedures_in runner.entries (start_at at).procedures) (stacks_in (start_at at).store)
    (block_of runner.entries (run_block at.code) (start_at at)) (slots_of (start_at at))

-- it faces on again where it stood
abbrev pub TurnsOn : {L : Type 0} → Program → Runner L → Runner L → Type 0
TurnsOn program old new = (at : Place) → Is old (Inside program at true) → IsUnbroken old at → Is new (Inside program at false)

-- it has gone m steps back, or all, and faces on
abbrev pub StepsBack : {L : Type 0} → Program → ℕ → Runner L → Runner L → Type 0
StepsBack program m old new = (at : Place) → Is old (Inside program at false) → Is new (Inside program (at_count (at.count - m) at) false)
