-- Each kind of step keeps the rule of the bell.
use Rattle.std.proofs.Common.{◌≡◌, ℕ, suc, ◌+◌, ◌≤◌, max, [], ◌∷◌, ◌++◌, map, get_or, set, All, sym, ap, ◌∙◌, arith}
use mathlib.Core.Option.{some}
use mathlib.Core.List.{map-append}
use lib.ListN.{get_elem?}
use lib.Seq.{map-set}
use Rattle.std.proofs.lemmas.List.Elements.{All-set, All-append, All-cons, All-nil}
use Rattle.kernel_bell.specs.declared.view.RunnerView.{RunnerView}
use Rattle.kernel_bell.specs.declared.view.RingerView.{RingerView}
use Rattle.kernel_bell.specs.declared.view.SeatView.TheVariants.{Runner, Ringer}
use Rattle.kernel_bell.specs.Views.{new_ringer, after_begin, after_hearing, after_look, after_raise}
use Rattle.kernel_bell.specs.Rule.{BellState, current_of, bell_of, highest_rung, IsBehind, IsRuled}
use Rattle.kernel_bell.specs.Steps.{Knows, changed}
use Rattle.kernel_bell.proofs.Ringers.{all_at, highest-set, highest-above, highest-snoc, at_runner, at_ringer}

-- both words are as they are found
pub same_current : (s : BellState) → IsRuled s → set s.words 0 (current_of s) ≡ s.words
same_current s h = (λ i. set (h.words i) 0 (get_or (h.words i) 0 0)) ∙ sym h.words

pub same_bell : (s : BellState) → IsRuled s → set s.words 1 (bell_of s) ≡ s.words
same_bell s h = (λ i. set (h.words i) 1 (get_or (h.words i) 1 0)) ∙ sym h.words

-- The runner's steps

module _ (s : BellState) (h : IsRuled s) (seat : ℕ) (q : RunnerView) (at : Knows s seat (Runner q)) where
  pub runner_is : (seat ≡ 0) × (h.runner ≡ q)
  runner_is = at_runner h.runner q h.ringers seat (ap (λ l. get_elem? l seat) (sym h.seats) ∙ at)

  views_by_runner : (w : RunnerView) → set s.views seat (Runner w) ≡ Runner w ∷ map Ringer h.ringers
  views_by_runner w = ap (λ l. set l seat (Runner w)) h.seats ∙ ap (λ i. set (Runner h.runner ∷ map Ringer h.ringers) i (Runner w)) runner_is.0

  pub bell_is_highest : bell_of s ≡ highest_rung h.ringers
  bell_is_highest = ap (λ l. get_or l 1 0) h.words

  pub begin_keeps : IsRuled (changed s (set s.words 0 (q.serial + 1)) seat (Runner (after_begin q)))
  begin_keeps =
      let e : h.runner.serial ≡ q.serial = ap (λ (r : RunnerView). r.serial) runner_is.1 in
      let e' : h.runner.heard ≡ q.heard = ap (λ (r : RunnerView). r.heard) runner_is.1 in
      let le = h.heard in
      record {
        runner = after_begin q;
        ringers = h.ringers;
        seats = views_by_runner (after_begin q);
        words = ap (λ l. set l 0 (q.serial + 1)) h.words;
        heard = omega arith;
        behind = λ k d in_range. let b = h.behind k d in_range in let b0 = b.0 in let b1 = b.1 in (omega arith, omega arith);
      }

  pub hear_later : q.heard ≤ bell_of s
  hear_later =
      let e : h.runner.heard ≡ q.heard = ap (λ (r : RunnerView). r.heard) runner_is.1 in
      let le = h.heard in let n = bell_is_highest in omega arith

  pub hear_keeps : IsRuled (changed s s.words seat (Runner (after_hearing q (bell_of s))))
  hear_keeps =
      let e : h.runner.serial ≡ q.serial = ap (λ (r : RunnerView). r.serial) runner_is.1 in
      let n = bell_is_highest in
      record {
        runner = after_hearing q (bell_of s);
        ringers = h.ringers;
        seats = views_by_runner (after_hearing q (bell_of s));
        words = h.words ∙ ap (λ x. x ∷ highest_rung h.ringers ∷ []) e;
        heard = omega arith;
        behind = λ k d in_range. let b = h.behind k d in_range in let b0 = b.0 in let b1 = b.1 in (omega arith, omega arith);
      }

-- The ringers' steps

module _ (s : BellState) (h : IsRuled s) (seat : ℕ) (g : RingerView) (at : Knows s seat (Ringer g)) where
  there : (k : ℕ) × (seat ≡ suc k) × (get_elem? h.ringers k ≡ some g)
  there = at_ringer h.runner g h.ringers seat (ap (λ l. get_elem? l seat) (sym h.seats) ∙ at)

  bounds : IsBehind h.runner.serial g
  bounds = all_at (IsBehind h.runner.serial) h.ringers there.0 g h.behind there.2

  views_by_ringer : (w : RingerView) → set s.views seat (Ringer w) ≡ Runner h.runner ∷ map Ringer (set h.ringers there.0 w)
  views_by_ringer w = ap (λ l. set l seat (Ringer w)) h.seats ∙ ap (λ i. set (Runner h.runner ∷ map Ringer h.ringers) i (Ringer w)) there.1
      ∙ ap (λ l. Runner h.runner ∷ l) (sym (map-set Ringer h.ringers there.0 w))

  current_is : current_of s ≡ h.runner.serial
  current_is = ap (λ l. get_or l 0 0) h.words

  bell_is : bell_of s ≡ highest_rung h.ringers
  bell_is = ap (λ l. get_or l 1 0) h.words

  pub look_later : g.seen ≤ current_of s
  look_later = let b1 = bounds.1 in let e = current_is in omega arith

  pub look_keeps : IsRuled (changed s s.words seat (Ringer (after_look g (current_of s))))
  look_keeps =
      let w = after_look g (current_of s) in let b0 = bounds.0 in let b1 = bounds.1 in let e = current_is in
      let above = highest-above h.ringers there.0 g there.2 in
      let same : highest_rung (set h.ringers there.0 w) ≡ highest_rung h.ringers = highest-set h.ringers there.0 g w there.2 (omega arith) ∙ (omega arith) in
      let le = h.heard in
      let p : IsBehind h.runner.serial w = (omega arith, omega arith) in
      record {
        runner = h.runner;
        ringers = set h.ringers there.0 w;
        seats = views_by_ringer w;
        words = h.words ∙ ap (λ x. h.runner.serial ∷ x ∷ []) (sym same);
        heard = (let same' = same in omega arith);
        behind = All-set (IsBehind h.runner.serial) h.ringers there.0 w p h.behind;
      }

  pub raise_keeps : IsRuled (changed s (set s.words 1 (max (bell_of s) g.seen)) seat (Ringer (after_raise g)))
  raise_keeps =
      let w = after_raise g in let b0 = bounds.0 in let b1 = bounds.1 in
      let is : highest_rung (set h.ringers there.0 w) ≡ max (highest_rung h.ringers) g.seen = highest-set h.ringers there.0 g w there.2 b0 in
      let le = h.heard in
      let p : IsBehind h.runner.serial w = (omega arith, b1) in
      record {
        runner = h.runner;
        ringers = set h.ringers there.0 w;
        seats = views_by_ringer w;
        words = (λ i. set (h.words i) 1 (max (bell_is i) g.seen)) ∙ ap (λ x. h.runner.serial ∷ x ∷ []) (sym is);
        heard = (let is' = is in omega arith);
        behind = All-set (IsBehind h.runner.serial) h.ringers there.0 w p h.behind;
      }

  pub rung_within : (g.rung ≤ current_of s) × (g.rung ≤ bell_of s)
  rung_within = let b0 = bounds.0 in let b1 = bounds.1 in let e = current_is in let e' = bell_is in
      let above = highest-above h.ringers there.0 g there.2 in (omega arith, omega arith)

  pub seen_within : g.seen ≤ current_of s
  seen_within = let b1 = bounds.1 in let e = current_is in omega arith

-- One more ringer, that has seen and rung nothing

pub seat_keeps : (s : BellState) → IsRuled s → IsRuled record { words = s.words; homes = s.homes; views = s.views ++ Ringer new_ringer ∷ [] }
seat_keeps s h =
    let p : IsBehind h.runner.serial new_ringer = (omega arith, omega arith) in
    let one : All (IsBehind h.runner.serial) (new_ringer ∷ []) = All-cons (IsBehind h.runner.serial) new_ringer [] p (All-nil (IsBehind h.runner.serial)) in
    record {
      runner = h.runner;
      ringers = h.ringers ++ new_ringer ∷ [];
      seats = ap (λ l. l ++ Ringer new_ringer ∷ []) h.seats ∙ ap (λ l. Runner h.runner ∷ l) (sym (map-append Ringer h.ringers (new_ringer ∷ [])));
      words = h.words ∙ ap (λ x. h.runner.serial ∷ x ∷ []) (sym (highest-snoc h.ringers));
      heard = (let e = highest-snoc h.ringers in let le = h.heard in omega arith);
      behind = All-append (IsBehind h.runner.serial) h.ringers (new_ringer ∷ []) h.behind one;
    }
