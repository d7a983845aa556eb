-- Lists of ringers' views, and which view stands where among all.
use Rattle.std.proofs.Common.{◌≡◌, ℕ, zero, suc, ◌≤◌, max, List, [], ◌∷◌, ◌++◌, map, set, All, sym, refl, ap, ◌∙◌, subst, arith}
use mathlib.Core.Option.{some, some-injective, some-ne-none}
use lib.ListN.{get_elem?}
use native.Mathlib.Decide.{dec_le}
use Rattle.kernel_bell.specs.declared.view.RunnerView.{RunnerView}
use Rattle.kernel_bell.specs.declared.view.RingerView.{RingerView}
use Rattle.kernel_bell.specs.declared.view.SeatView.{SeatView}
use Rattle.kernel_bell.specs.declared.view.SeatView.TheVariants.{Runner, Ringer}
use Rattle.kernel_bell.specs.Views.{new_ringer}
use Rattle.kernel_bell.specs.Plays.{runner_of, ringer_of}
use Rattle.kernel_bell.specs.Rule.{highest_rung, IsBehind}

-- what holds of each element holds of the one at a place
pub all_at : {A : Type 0} (P : A → Type 0) (xs : List A) (k : ℕ) (x : A) → All P xs → get_elem? xs k ≡ some x → P x
all_at P [] k x all at = absurd (some-ne-none x (sym at))
all_at P (y ∷ ys) zero x all at = subst P (some-injective y x at) (all 0 y (omega arith))
all_at P (y ∷ ys) (suc k) x all at = all_at P ys k x (λ j d h. all (suc j) d (omega arith)) at

pub highest-set : (gs : List RingerView) (k : ℕ) (g w : RingerView) → get_elem? gs k ≡ some g → g.rung ≤ w.rung
    → highest_rung (set gs k w) ≡ max (highest_rung gs) w.rung
highest-set [] k g w at le = absurd (some-ne-none g (sym at))
highest-set (x ∷ xs) zero g w at le = let e : x.rung ≡ g.rung = ap (λ (y : RingerView). y.rung) (some-injective x g at) in omega arith
highest-set (x ∷ xs) (suc k) g w at le = let h = highest-set xs k g w at le in omega arith

pub highest-above : (gs : List RingerView) (k : ℕ) (g : RingerView) → get_elem? gs k ≡ some g → g.rung ≤ highest_rung gs
highest-above [] k g at = absurd (some-ne-none g (sym at))
highest-above (x ∷ xs) zero g at = let e : x.rung ≡ g.rung = ap (λ (y : RingerView). y.rung) (some-injective x g at) in omega arith
highest-above (x ∷ xs) (suc k) g at = let h = highest-above xs k g at in omega arith

pub highest-snoc : (gs : List RingerView) → highest_rung (gs ++ new_ringer ∷ []) ≡ highest_rung gs
highest-snoc [] = omega arith
highest-snoc (x ∷ xs) = ap (λ (n : ℕ). max x.rung n) (highest-snoc xs)

pub highest-below : (current : ℕ) (gs : List RingerView) → All (IsBehind current) gs → highest_rung gs ≤ current
highest-below current [] all = omega arith
highest-below current (x ∷ xs) all =
    let b : IsBehind current x = all 0 x (omega arith) in
    let b0 = b.0 in let b1 = b.1 in
    let h = highest-below current xs (λ j d h. all (suc j) d (omega arith)) in
    omega arith

-- some ringer has rung the highest, where that is at least 1
pub highest_is_rung : (gs : List RingerView) (n : ℕ) → 1 ≤ n → highest_rung gs ≡ n → (k : ℕ) × (g : RingerView) × (get_elem? gs k ≡ some g) × (g.rung ≡ n)
highest_is_rung [] n one e = absurd (omega arith)
highest_is_rung (x ∷ xs) n one e = elim (dec_le (highest_rung xs) x.rung) [
  | yes d ↦ (0, x, refl, omega arith)
  | no d ↦ (let r = highest_is_rung xs n one (omega arith) in (suc r.0, r.1, r.2, r.3))
]

-- Which view stands where

differ : (q : RunnerView) (g : RingerView) → Runner q ≡ Ringer g → ⊥
differ q g e = cc

from_map : (gs : List RingerView) (k : ℕ) (v : SeatView) → get_elem? (map Ringer gs) k ≡ some v → (g : RingerView) × (get_elem? gs k ≡ some g) × (v ≡ Ringer g)
from_map [] k v at = absurd (some-ne-none v (sym at))
from_map (x ∷ xs) zero v at = (x, refl, sym (some-injective (Ringer x) v at))
from_map (x ∷ xs) (suc k) v at = from_map xs k v at

pub to_map : (gs : List RingerView) (k : ℕ) (g : RingerView) → get_elem? gs k ≡ some g → get_elem? (map Ringer gs) k ≡ some (Ringer g)
to_map [] k g at = absurd (some-ne-none g (sym at))
to_map (x ∷ xs) zero g at = ap (λ (y : RingerView). some (Ringer y)) (some-injective x g at)
to_map (x ∷ xs) (suc k) g at = to_map xs k g at

pub at_runner : (r q : RunnerView) (gs : List RingerView) (seat : ℕ) → get_elem? (Runner r ∷ map Ringer gs) seat ≡ some (Runner q) → (seat ≡ 0) × (r ≡ q)
at_runner r q gs zero at = (refl, ap runner_of (some-injective (Runner r) (Runner q) at))
at_runner r q gs (suc k) at = let m = from_map gs k (Runner q) at in absurd (differ q m.0 m.2)

pub at_ringer : (r : RunnerView) (g : RingerView) (gs : List RingerView) (seat : ℕ) → get_elem? (Runner r ∷ map Ringer gs) seat ≡ some (Ringer g)
    → (k : ℕ) × (seat ≡ suc k) × (get_elem? gs k ≡ some g)
at_ringer r g gs zero at = absurd (differ r g (some-injective (Runner r) (Ringer g) at))
at_ringer r g gs (suc k) at =
    let m = from_map gs k (Ringer g) at in
    let same : m.0 ≡ g = sym (ap ringer_of m.2) in
    (k, refl, m.1 ∙ ap some same)
