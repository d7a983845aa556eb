-- One value more that is moved between frames.
use Rattle.std.proofs.Common.{◌≡◌, ◌≢◌, ℕ, pos, suc, ◌+◌, ◌<◌, Bool, true, false, ◌||◌, nat_eq, List, length, take, get_or, set, refl, ap, ◌∙◌, sym}
use Rattle.std.proofs.Common.{subst, arith, cond, get_or-set_other, get_or-set_same, length-set}
use Rattle.janus_meaning.specs.Store.{Val, Lent}
use Rattle.janus_memory.specs.Memory.{MemoryState, Content, Plain, HasArray, HasStack, Gone, IsBare, val_of, val_at, content_at, number_at, carried}
use Rattle.janus_memory.specs.Memory.{value_count}
use Rattle.janus_memory.proofs.Amounts.{amount-carried}
use Rattle.janus_frames.specs.Cells.{has, AreApart}
use Rattle.janus_frames.specs.Inside.{HoldsAlike}
use Rattle.janus_frames.proofs.Among.{not-equal, equal, has-more, none-before}

-- ---- one place among others

or_true : (a : Bool) → a || true ≡ true
or_true true = refl
or_true false = refl

or_none : (a : Bool) → a || false ≡ a
or_none true = refl
or_none false = refl

lend_case : (old : Val) (now next : ℕ → Val) (a k p : ℕ) (t t' e : Bool) → nat_eq a k ≡ e → t' ≡ t || e → next (p + a) ≡ Lent
    → (p + k ≢ p + a → next (p + k) ≡ now (p + k)) → now (p + k) ≡ cond t Lent old → next (p + k) ≡ cond t' Lent old
lend_case old now next a k p t t' true e h l n ih =
    let z : a ≡ k = equal a k e in
    subst (λ k. next (p + k) ≡ Lent) z l ∙ sym (ap (λ t. cond t Lent old) (h ∙ or_true t))
lend_case old now next a k p t t' false e h l n ih =
    let z : a ≢ k = not-equal a k e in
    n (omega arith) ∙ ih ∙ sym (ap (λ t. cond t Lent old) (h ∙ or_none t))

-- the frame from which the i-th argument is moved
pub lend-frame : (old : Val) (now next : ℕ → Val) (p : ℕ) (xs : List ℕ) (i j k : ℕ) → j ≡ suc i → i < length xs → next (p + get_or xs i 0) ≡ Lent
    → (p + k ≢ p + get_or xs i 0 → next (p + k) ≡ now (p + k)) → now (p + k) ≡ cond (has (take i xs) k) Lent old
    → next (p + k) ≡ cond (has (take j xs) k) Lent old
lend-frame old now next p xs i j k e m l n ih =
    lend_case old now next (get_or xs i 0) k p (has (take i xs) k) (has (take j xs) k) (nat_eq (get_or xs i 0) k) refl
    (subst (λ j. has (take j xs) k ≡ has (take i xs) k || nat_eq (get_or xs i 0) k) (sym e) (has-more xs i k m)) l n ih

-- the i-th argument's value is as it was before any was moved
pub as-before : (v : Val) (xs : List ℕ) (i : ℕ) (old : Val) → AreApart xs → i < length xs → v ≡ cond (has (take i xs) (get_or xs i 0)) Lent old → v ≡ old
as-before v xs i old d m ih = ih ∙ ap (λ t. cond t Lent old) (none-before xs i d m)

-- ---- what a move does to the memory

bare_values : (c : Content) → IsBare c → value_count c ≡ 0
bare_values Plain b = refl
bare_values (HasArray l) b = absurd b
bare_values (HasStack l) b = absurd b
bare_values Gone b = refl

module _ (left : Content) (m : MemoryState) (from to : ℕ) (wide : length m.contents ≡ length m.numbers) (l : from < length m.numbers)
    (n : to < length m.numbers)
    (d : from ≢ to) where
  e : to ≢ from
  e f = d (sym f)

  low : from < length m.contents
  low = omega (arith, wide, l)

  high : to < length m.contents
  high = omega (arith, wide, n)

  pub moved-to : val_at (carried left m from to) to ≡ val_at m from
  moved-to =
      let ns = set m.numbers to (number_at m from) in
      let xs = set m.contents to (content_at m from) in
      ap (λ k. val_of k (get_or (set xs from left) to Plain)) (get_or-set_other ns from to (pos 0) (pos 0) e ∙ get_or-set_same m.numbers to (number_at m from)
      (pos 0) n)
      ∙ ap (val_of (number_at m from)) (get_or-set_other xs from to left Plain e ∙ get_or-set_same m.contents to (content_at m from) Plain high)

  pub content-left : content_at (carried left m from to) from ≡ left
  content-left =
      let xs = set m.contents to (content_at m from) in
      get_or-set_same xs from left Plain (omega (arith, low, length-set m.contents to (content_at m from)))

  pub moved-from : val_at (carried left m from to) from ≡ val_of (pos 0) left
  moved-from =
      let ns = set m.numbers to (number_at m from) in
      ap (λ k. val_of k (content_at (carried left m from to) from))
      (get_or-set_same ns from (pos 0) (pos 0) (omega (arith, l, length-set m.numbers to (number_at m from))))
      ∙ ap (val_of (pos 0)) content-left

  pub content-else : (p : ℕ) → p ≢ from → p ≢ to → content_at (carried left m from to) p ≡ content_at m p
  content-else p f g =
      get_or-set_other (set m.contents to (content_at m from)) from p left Plain f ∙ get_or-set_other m.contents to p (content_at m from) Plain g

  pub moved-else : (p : ℕ) → p ≢ from → p ≢ to → val_at (carried left m from to) p ≡ val_at m p
  moved-else p f g =
      ap (λ k. val_of k (content_at (carried left m from to) p))
      (get_or-set_other (set m.numbers to (number_at m from)) from p (pos 0) (pos 0) f ∙ get_or-set_other m.numbers to p (number_at m from) (pos 0) g)
      ∙ ap (val_of (number_at m p)) (content-else p f g)

  pub moved-alike : IsBare left → IsBare (content_at m to) → HoldsAlike m (carried left m from to)
  moved-alike a b = record {
    size = length-set (set m.numbers to (number_at m from)) from (pos 0) ∙ length-set m.numbers to (number_at m from);
    base = refl;
    spare = refl;
    values = amount-carried value_count Plain m.contents from to left low high d (bare_values left a) (bare_values (content_at m to) b);
    room = refl;
    writes = refl;
  }

pub alike-then : (a b c : MemoryState) → HoldsAlike a b → HoldsAlike b c → HoldsAlike a c
alike-then a b c x y = record {
  size = y.size ∙ x.size;
  base = y.base ∙ x.base;
  spare = y.spare ∙ x.spare;
  values = y.values ∙ x.values;
  room = y.room ∙ x.room;
  writes = y.writes ∙ x.writes;
}

pub alike-same : (a : MemoryState) → HoldsAlike a a
alike-same a = record { size = refl; base = refl; spare = refl; values = refl; room = refl; writes = refl }
