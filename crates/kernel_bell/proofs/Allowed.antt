-- What the calls ask of the base: each kind of step may be taken, whatever the state is.
use Rattle.std.proofs.Common.{◌≡◌, ℕ, ◌+◌, max, List, [], ◌∷◌, ◌++◌, set, sym, ap, ◌∙◌, subst}
use mathlib.Core.Option.{none, some}
use lib.ListN.{get_elem?}
use Rattle.atomic_table.specs.Table.{step, keeps, Allows, Splits}
use Rattle.atomic_table.proofs.Lists.{set_again}
use Rattle.kernel_bell.specs.declared.view.SeatView.{SeatView}
use Rattle.kernel_bell.specs.declared.view.SeatView.TheVariants.{Runner, Ringer}
use Rattle.kernel_bell.specs.Views.{new_ringer, after_begin, after_hearing, after_look, after_raise}
use Rattle.kernel_bell.specs.Rule.{IsRuled, current_of, bell_of}
use Rattle.kernel_bell.specs.Steps.{changed}
use Rattle.kernel_bell.specs.Plays.{Seated, runner_of, ringer_of, seated_runner, seated_ringer, Begins, Hears, Looks, Raises}
use Rattle.kernel_bell.proofs.Keeps.{same_current, same_bell, begin_keeps, hear_later, hear_keeps, look_later, look_keeps, raise_keeps, seat_keeps}

pub begins : (slots id : ℕ) (me : Seated) (n : ℕ) → me ≡ seated_runner (runner_of me.0) → n ≡ (runner_of me.0).serial + 1
    → Allows IsRuled slots id me 0 (λ _. n) (λ _. Begins (step slots 0 n 0 none) me n)
begins slots id me n e is s h _ at _ =
    let q = runner_of me.0 in
    let at' : get_elem? s.views id ≡ some (Runner q) = at ∙ ap (λ (m : Seated). some m.0) e in
    let P : ℕ → Type 0 = λ x. IsRuled (changed s (set s.words 0 x) id (Runner (after_begin q))) in (
      Runner (after_begin q),
      keeps,
      tt,
      subst P (sym is) (begin_keeps s h id q at'),
      ap (λ (m : Seated). let p : Seated = (Runner (after_begin q), m.1) in p) e,
    )

pub hears : (slots id : ℕ) (me : Seated) → me ≡ seated_runner (runner_of me.0) → Allows IsRuled slots id me 1 (λ n. n) (Hears (step slots 1 0 0 none) me)
hears slots id me e s h _ at _ =
    let q = runner_of me.0 in let n = bell_of s in
    let at' : get_elem? s.views id ≡ some (Runner q) = at ∙ ap (λ (m : Seated). some m.0) e in
    let P : List ℕ → Type 0 = λ ws. IsRuled (changed s ws id (Runner (after_hearing q n))) in (
      Runner (after_hearing q n),
      keeps,
      tt,
      subst P (sym (same_bell s h)) (hear_keeps s h id q at'),
      (ap (λ (m : Seated). let p : Seated = (Runner (after_hearing q n), m.1) in p) e, hear_later s h id q at'),
    )

pub looks : (slots id : ℕ) (me : Seated) → me ≡ seated_ringer (ringer_of me.0) → Allows IsRuled slots id me 0 (λ n. n) (Looks (step slots 0 0 0 none) me)
looks slots id me e s h _ at _ =
    let g = ringer_of me.0 in let n = current_of s in
    let at' : get_elem? s.views id ≡ some (Ringer g) = at ∙ ap (λ (m : Seated). some m.0) e in
    let P : List ℕ → Type 0 = λ ws. IsRuled (changed s ws id (Ringer (after_look g n))) in (
      Ringer (after_look g n),
      keeps,
      tt,
      subst P (sym (same_current s h)) (look_keeps s h id g at'),
      (ap (λ (m : Seated). let p : Seated = (Ringer (after_look g n), m.1) in p) e, look_later s h id g at'),
    )

pub raises : (slots id : ℕ) (me : Seated) (k : ℕ) → me ≡ seated_ringer (ringer_of me.0) → k ≡ (ringer_of me.0).seen
    → Allows IsRuled slots id me 1 (λ n. max n k) (Raises (step slots 1 k 0 none) me)
raises slots id me k e is s h _ at _ =
    let g = ringer_of me.0 in
    let at' : get_elem? s.views id ≡ some (Ringer g) = at ∙ ap (λ (m : Seated). some m.0) e in
    let P : ℕ → Type 0 = λ x. IsRuled (changed s (set s.words 1 (max (bell_of s) x)) id (Ringer (after_raise g))) in (
      Ringer (after_raise g),
      keeps,
      tt,
      subst P (sym is) (raise_keeps s h id g at'),
      ap (λ (m : Seated). let p : Seated = (Ringer (after_raise g), m.1) in p) e,
    )

pub splits : (id : ℕ) (v : SeatView) → Splits IsRuled id v v (Ringer new_ringer)
splits id v s h at =
    let P : List SeatView → Type 0 = λ vs. IsRuled record { words = s.words; homes = s.homes; views = vs ++ Ringer new_ringer ∷ [] } in
    subst P (sym (set_again s.views id v at)) (seat_keeps s h)
