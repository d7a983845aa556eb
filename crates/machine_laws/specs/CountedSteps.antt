-- The number of steps of a slice is the only one, and the counts of the open job tell it.
use Rattle.std.specs.Prelude.{◌≡◌, ℕ, ◌+◌, ◌⊎◌, Bool, true, false}
use Rattle.janus_meaning.specs.World.{World}
use Rattle.kernel_machine.specs.State.{Past, State, Work, Posted, Move, Entered, Idle, Inside}
use Rattle.kernel_machine.specs.LegalState.{IsLegalState}
use Rattle.kernel_machine.specs.Slices.{IsSlice, Settles, HasEnded}
use Rattle.machine_laws.specs.Travels.{steps_of}
use Rattle.kernel_machine.specs.declared.heading.Heading.{Heading}
use Rattle.kernel_machine.specs.declared.heading.Heading.TheVariants.{GoesOn, GoesBack}
use Rattle.kernel_machine.specs.declared.outcome.Sliced.{Sliced}
use Rattle.kernel_machine.specs.StepsOfSlices.{TakesAt}

-- A slice takes one number of steps: the state, the steps that are asked for, and whether it is asked fix it.
abbrev pub TakesOneNumber : Type 0
TakesOneNumber = (s : State) (m k j : ℕ) (asked : Bool) → TakesAt s.past s.job m asked k → TakesAt s.past s.job m asked j → k ≡ j

-- the job stays inside the cell, at this count
abbrev pub StaysAt : Past → Work → ℕ → State → Type 0
StaysAt s work n new = (heading : Heading) × (new ≡ record { past = s; job = Inside (record { work = work; count = n; heading = heading }) })

-- the job settles back: it ends, and all is as before it
abbrev pub SettlesBack : Past → State → Type 0
SettlesBack s new = new ≡ record { past = s; job = Idle }

-- n are the steps that the node of an undone or a redone cell has; a posted one has no node before it is done
abbrev pub AreStepsOfNode : Past → Work → ℕ → Type 0
AreStepsOfNode s (Posted cell) n = Unit {0}
AreStepsOfNode s (Move travel) n = n ≡ steps_of s travel

-- the cell is done, after n steps in all: they are those of its node
abbrev pub IsDoneIn : Past → Work → ℕ → Sliced → State → Type 0
IsDoneIn s work n answer new = (w : World) × HasEnded s work n w × Settles s work n w answer new × AreStepsOfNode s work n

-- Onward from the count c, in k steps: the count after is k more, or the cell is done in c + k steps; or a fault at its first step settles it
-- back, after none.
abbrev pub CountsOn : Past → Work → ℕ → ℕ → Sliced → State → Type 0
CountsOn s work c k answer new =
    StaysAt s work (c + k) new ⊎ (IsDoneIn s work (c + k) answer new ⊎ (SettlesBack s new × (k ≡ c) × (k ≡ 0)))

-- Back from the count c, in k steps: the count after is k less, or the job settles back, and k is the whole count.
abbrev pub CountsBack : Past → Work → ℕ → ℕ → State → Type 0
CountsBack s work c k new = ((left : ℕ) × (c ≡ left + k) × StaysAt s work left new) ⊎ (SettlesBack s new × (k ≡ c))

-- an asked slice goes back, as one of a job that goes back already
abbrev pub CountsIn : Past → Work → ℕ → Heading → Bool → ℕ → Sliced → State → Type 0
CountsIn s work c GoesOn false k answer new = CountsOn s work c k answer new
CountsIn s work c GoesOn true k answer new = CountsBack s work c k new
CountsIn s work c (GoesBack why) asked k answer new = CountsBack s work c k new

-- In each legal state the number of steps that a slice takes is the difference of the open job's counts before and after it.
abbrev pub StepsAreCounted : Type 0
StepsAreCounted =
    (s new : State) (e : Entered) (m k : ℕ) (asked : Bool) (answer : Sliced) →
    IsLegalState s → s.job ≡ Inside e → IsSlice s m asked answer new → TakesAt s.past s.job m asked k →
    CountsIn s.past e.work e.count e.heading asked k answer new
