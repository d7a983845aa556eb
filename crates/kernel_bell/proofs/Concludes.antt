-- What follows from the rule and one seat's view.
use Rattle.std.proofs.Common.{◌≡◌, ℕ, suc, ◌≤◌, ap, ◌∙◌, arith, get_or, nat_le, ◌&&◌, IsTrue}
use Rattle.std.proofs.lemmas.Bool.Decides.{nat_tests}
use lib.ListN.{get_elem?}
use Rattle.kernel_bell.specs.declared.view.RunnerView.{RunnerView}
use Rattle.kernel_bell.specs.declared.view.RingerView.{RingerView}
use Rattle.kernel_bell.specs.declared.view.SeatView.TheVariants.{Runner}
use Rattle.kernel_bell.specs.Rule.{BellState, IsRuled, bell_of}
use Rattle.kernel_bell.specs.Steps.{Knows, begins, hears, looks, raises, sits}
use Rattle.kernel_bell.specs.Seats.{HasRung, WasRung, IsNeverLater}
use Rattle.kernel_bell.specs.Laws.{StepsKeepTheRule, AskedIsExact, NoRingIsEarly}
use Rattle.kernel_bell.proofs.Ringers.{highest-below, highest_is_rung, to_map}
use Rattle.kernel_bell.proofs.Keeps.{runner_is, bell_is_highest, begin_keeps, hear_keeps, look_keeps, raise_keeps, seat_keeps, rung_within, seen_within}

module _ (s : BellState) (h : IsRuled s) (seat : ℕ) (q : RunnerView) (at : Knows s seat (Runner q)) where
  serial_is : h.runner.serial ≡ q.serial
  serial_is = ap (λ (r : RunnerView). r.serial) (runner_is s h seat q at).1

  -- where the bell has reached the serial, a ringer has rung it: nobody rings a later one
  pub reached_is_rung : 1 ≤ q.serial → q.serial ≤ bell_of s → HasRung s q.serial
  reached_is_rung one le =
      let e = serial_is in
      let high = highest-below h.runner.serial h.ringers h.behind in
      let bell = bell_is_highest s h seat q at in
      let r = highest_is_rung h.ringers q.serial one (omega arith) in
      (suc r.0, r.1, ap (λ l. get_elem? l (suc r.0)) h.seats ∙ to_map h.ringers r.0 r.1 r.2, r.3)

  pub rung_is_behind : (n : ℕ) → HasRung s n → n ≤ q.serial
  rung_is_behind n rung =
      let e = serial_is in
      let w = (rung_within s h rung.0 rung.1 rung.2).0 in
      let is = rung.3 in
      let current = ap (λ l. get_or l 0 0) h.words in
      omega arith

-- where the runner heard its own serial, a ringer has rung that serial
pub was_rung : (q : RunnerView) → 1 ≤ q.serial → q.serial ≤ q.heard → WasRung q
was_rung q one le s seat h at =
    let e : h.runner.heard ≡ q.heard = ap (λ (r : RunnerView). r.heard) (runner_is s h seat q at).1 in
    let bell = bell_is_highest s h seat q at in
    let within = h.heard in
    reached_is_rung s h seat q at one (omega arith)

pub never_later : (g : RingerView) → IsNeverLater g
never_later g s seat h at = let w = rung_within s h seat g at in (seen_within s h seat g at, w.0, w.1)

pub steps_keep : StepsKeepTheRule
steps_keep s t h (begins seat r at) = begin_keeps s h seat r at
steps_keep s t h (hears seat r at) = hear_keeps s h seat r at
steps_keep s t h (looks seat g at) = look_keeps s h seat g at
steps_keep s t h (raises seat g at) = raise_keeps s h seat g at
steps_keep s t h sits = seat_keeps s h

-- both tests, as facts
tests_hold : (a b : ℕ) → IsTrue (nat_le 1 a && nat_le a b) → (1 ≤ a) × (a ≤ b)
tests_hold a b t = (grind (arith, nat_tests), grind (arith, nat_tests))

tests_pass : (a b : ℕ) → 1 ≤ a → a ≤ b → IsTrue (nat_le 1 a && nat_le a b)
tests_pass a b one le = grind (arith, nat_tests)

pub asked_is_exact : AskedIsExact
asked_is_exact s seat r h at = (
  (λ told. let t = tests_hold r.serial (bell_of s) told in (t.0, reached_is_rung s h seat r at t.0 t.1)),
  (λ both.
      let rung = both.1 in
      let within = (rung_within s h rung.0 rung.1 rung.2).1 in
      let is = rung.3 in
      tests_pass r.serial (bell_of s) both.0 (omega arith)),
)

pub no_ring_is_early : NoRingIsEarly
no_ring_is_early s seat r h at n later rung = let le = rung_is_behind s h seat r at n rung in absurd (omega arith)
