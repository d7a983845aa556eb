-- What contracts see of a history.
use Rattle.std.specs.Prelude.{◌≡◌, ℕ, refl}
use Rattle.std.specs.Coded.{Coded, code_by, coded×, coded_ℕ}
use Rattle.kernel_machine.specs.State.{State}
use Rattle.kernel_machine.specs.StateCode.{state_code}

-- the state of the machine that it is, how often its store was written, and how many steps were taken over it
pub record CountedState : Type 0 where
  pub state : State
  pub writes : ℕ
  pub steps : ℕ

-- nothing was written, and no step taken
pub record KeepsCounts (old new : CountedState) : Type 0 where
  pub writes : new.writes ≡ old.writes
  pub steps : new.steps ≡ old.steps

abbrev pub counted_code : Coded CountedState
counted_code =
    code_by (State × (ℕ × ℕ)) (coded× state_code (coded× coded_ℕ coded_ℕ)) (λ s. (s.state, (s.writes, s.steps)))
    (λ p. record { state = p.0; writes = p.1.0; steps = p.1.1 }) (λ _. refl)
