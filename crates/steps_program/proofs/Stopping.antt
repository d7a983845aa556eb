-- How far a command goes.
use Rattle.std.proofs.Common.{◌≡◌, ◌+◌, ◌-◌, Bool, true, false, List, ap, ◌∙◌, sym, subst}
use Rattle.steps_walk.specs.progress.Progress.TheVariants.{Went}
use Rattle.steps_walk.specs.runner.Runner.{Runner}
use Rattle.steps_walk.specs.Runner.{Runs, count_of, steps_of}
use Rattle.steps_walk.specs.declared.walk.Walk.{Walk}
use Rattle.steps_walk.specs.Walk.{runner_of, program_of, IsWalking, Moves, KeepsMet}
use Rattle.steps_program.specs.declared.going.Came.{Came}
use Rattle.steps_program.specs.declared.going.Came.TheVariants as came
use Rattle.steps_program.specs.declared.going.Goal.{Goal}
use Rattle.steps_program.specs.declared.source.Source.{Source}
use Rattle.steps_program.specs.Counted.{GoesBack}
use Rattle.steps_program.specs.Going.{Arrives, TakesOne, TakesOneBack, TakesLast, TakesLastBack}
use Rattle.steps_program.specs.Obeyed.{Goes, IsLed}
use Rattle.steps_program.proofs.Obeying.{led}

module _ {L : Type 0} (sources : List Source) (goal : Goal) (old new : Walk L) where
  pub last_on : (to : Came) → TakesOne old new → Arrives sources goal new to → TakesLast sources goal old new to
  last_on came.There t a = (t, a)
  last_on came.Memory t a = (t, a)
  last_on came.End t a = absurd a
  last_on came.Start t a = absurd a
  last_on (came.Fault fault) t a = absurd a

  pub last_back : (to : Came) → TakesOneBack old new → Arrives sources goal new to → TakesLastBack sources goal old new to
  last_back came.There t a = (t, a)
  last_back came.Memory t a = (t, a)
  last_back came.End t a = absurd a
  last_back came.Start t a = absurd a
  last_back (came.Fault fault) t a = absurd a

-- a step, after which the body is met where it has led
pub one_on : {L : Type 0} (a b c : Walk L) → KeepsMet b c → Moves a b → Runs (program_of a) 1 Went (runner_of a) (runner_of b) →
    steps_of (runner_of b) ≡ steps_of (runner_of a) + 1 → TakesOne a c
one_on {L} a b c met moves runs counted = record {
  moves = led a b c met moves;
  runs = subst (λ (r : Runner L). Runs (program_of a) 1 Went (runner_of a) r) (sym met.runner) runs;
  counted = ap (λ (r : Runner L). steps_of r) met.runner ∙ counted;
}

-- ---- how many steps are taken

module _ {L : Type 0} (old new : Walk L) (walking : IsWalking old) where
  pub count_back : GoesBack 1 old new → count_of (runner_of new) ≡ count_of (runner_of old) - 1
  count_back back = (back.goes walking.stands.at walking.stands.stands).counted ∙ ap (λ n. n - 1) (sym walking.stands.stands.counted)

-- ---- bodies that are met where it has led

pub led_there : {L : Type 0} (sources : List Source) (onward : Bool) (goal : Goal) (old at new : Walk L) (to : Came) →
    Goes sources onward goal old at to → KeepsMet at new → IsLed sources onward goal old new to
led_there sources true goal old at new to h met = record { at = at; goes = h; met = met; moves = led old at new met h.moves }
led_there sources false goal old at new to h met = record { at = at; goes = h; met = met; moves = led old at new met h.moves }
