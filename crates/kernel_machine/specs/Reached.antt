-- How far a run of steps came.
use Rattle.std.specs.Prelude.{ℕ, ◌<◌, ◌≤◌}
use Rattle.janus_meaning.specs.World.{World}
use Rattle.kernel_machine.specs.Language.{Code, CodePart, CodeExec, CodeStop}
use Rattle.janus_meaning.specs.Faults.{fault_of}
use Rattle.janus_meaning.specs.declared.fault.Fault.{Fault}
-- how far: it went on, or ended after a number of steps, or met a fault after a number of them
pub use Rattle.kernel_machine.specs.declared.progress.Progress.{Progress}
pub use Rattle.kernel_machine.specs.declared.progress.Progress.TheVariants.{Went, Ended, Stopped}

-- From w, with at most m steps to take in all, the code comes thus far, and to the world v: it went on, and has no end within m steps; or it
-- ended within them; or it met a fault before all of them were taken.
abbrev pub Reaches : Code → World → ℕ → Progress → World → Type 0
Reaches code w m Went v = CodePart code w m v × ((n : ℕ) (u : World) → CodeExec code w n u → m < n)
Reaches code w m (Ended n) v = CodeExec code w n v × (n ≤ m)
Reaches code w m (Stopped j fault) v = CodePart code w j v × CodeStop code w j (fault_of fault) × (j < m)

-- after j steps it goes on: a world is shown there, and it has not ended
abbrev pub IsUnderWay : Code → World → ℕ → Type 0
IsUnderWay code w j = (v : World) × CodePart code w j v × ((n : ℕ) (u : World) → CodeExec code w n u → j < n)

-- after j steps it meets the fault
abbrev pub MeetsFault : Code → World → Fault → ℕ → Type 0
MeetsFault code w fault j = (v : World) × CodePart code w j v × CodeStop code w j (fault_of fault)
