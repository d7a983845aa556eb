-- Values that were moved to the frame of a call, or back, read as stores of the meaning.
use Rattle.std.proofs.Common.{◌≡◌, ℕ, zero, suc, ◌+◌, ◌-◌, ◌<◌, Bool, true, false, ◌||◌, nat_eq, List, [], ◌∷◌, length, map, get_or, refl, ap, ◌∙◌}
use Rattle.std.proofs.Common.{sym, subst, arith, cond}
use Rattle.janus_meaning.specs.Fault.{Fine}
use Rattle.janus_meaning.specs.Store.{Val, Lent, Store, pull, fill, bind, unbind}
use Rattle.janus_meaning.proofs.Results.{fine_inj}
use Rattle.janus_slots.specs.Slots.{slot}
use Rattle.janus_frames.specs.Cells.{stored, has, AreApart, AreBelow, IsPresent, parameters, from}
use Rattle.janus_frames.specs.Inside.{AreLent}
use Rattle.janus_frames.proofs.Among.{equal, below-at}
use Rattle.janus_frames.proofs.Stored.{stored-same, pull-all, bind-all, unbind-all, moved-down, fill-all, ArePresent, lending, down}

-- what `lend` does to values
pub record AreMoved (old new : ℕ → Val) (base top : ℕ) (xs : List ℕ) : Type 0 where
  pub before : (p : ℕ) → p < base → new p ≡ old p
  pub frame : (k : ℕ) → k < top - base → new (base + k) ≡ cond (has xs k) Lent (old (base + k))
  pub moved : (i : ℕ) → i < length xs → new (top + (length xs - (i + 1))) ≡ old (base + get_or xs i 0)

-- what `give_back` does
pub record AreGiven (old new : ℕ → Val) (base top : ℕ) (xs : List ℕ) : Type 0 where
  pub before : (p : ℕ) → p < base → new p ≡ old p
  pub frame : (k : ℕ) → k < top - base → has xs k ≡ false → new (base + k) ≡ old (base + k)
  pub moved : (i : ℕ) → i < length xs → new (base + get_or xs i 0) ≡ old (top + (length xs - (i + 1)))

lent_here : (b : Bool) (v w : Val) → w ≡ cond b Lent v → b ≡ true → w ≡ Lent
lent_here true v w e h = e
lent_here false v w e h = absurd cc

own_here : (b : Bool) (v w : Val) → w ≡ cond b Lent v → b ≡ false → w ≡ v
own_here true v w e h = absurd cc
own_here false v w e h = e

-- the frame that was left behind
pub lent-frame : (old new : ℕ → Val) (base top : ℕ) (xs : List ℕ) → AreMoved old new base top xs → AreBelow (top - base) xs → AreApart xs
    → ((k : ℕ) → k < top - base → IsPresent (old (base + k))) → AreLent new base (top - base) xs
lent-frame old new base top xs m b d p = record {
  below = b;
  apart = d;
  lent = λ k l h. lent_here (has xs k) (old (base + k)) (new (base + k)) (m.frame k l) h;
  own = λ k l h. subst IsPresent (sym (own_here (has xs k) (old (base + k)) (new (base + k))
      (m.frame k l) h))
      (p k l);
}

-- where a parameter stands
where_from : (n k : ℕ) → k < n → k ≡ n - ((n - (k + 1)) + 1)
where_from n k h = omega arith

-- the new frame has values
pub new-present : (old new : ℕ → Val) (base top : ℕ) (xs : List ℕ) → AreMoved old new base top xs → AreBelow (top - base) xs
    → ((k : ℕ) → k < top - base → IsPresent (old (base + k))) → (k : ℕ) → k < length xs → IsPresent (new (top + k))
new-present old new base top xs m b p k h =
    let i = length xs - (k + 1) in
    let l : i < length xs = omega arith in
    let e = m.moved i l in
    let q = p (get_or xs i 0) (below-at (top - base) xs i b l) in
    subst (λ j. IsPresent (new (top + j))) (sym (where_from (length xs) k h)) (subst IsPresent (sym e) q)

pub as-many : (xs : List ℕ) → length (map slot xs) ≡ length xs
as-many [] = refl
as-many (x ∷ xs) = ap suc (as-many xs)

-- a call is entered
pub entered : (old new : ℕ → Val) (base top : ℕ) (xs : List ℕ) (t : List Val × Store) → AreMoved old new base top xs
    → AreBelow (top - base) xs → AreApart xs → ArePresent (from old base) xs
    → pull (map slot xs) (stored (from old base) (top - base)) ≡ Fine t
    → (bind (parameters (length (map slot xs))) t.0 ≡ Fine (stored (from new top) (length xs)))
    × (t.1 ≡ stored (from new base) (top - base))
entered old new base top xs t m b d p h =
    let f = from old base in
    let g = from new top in
    let e : t ≡ (map f xs, stored (lending xs f) (top - base)) = fine_inj t (map f xs, stored (lending xs f) (top - base)) (sym h
    ∙ pull-all f (top - base) xs d b p) in
    let v : t.0 ≡ map f xs = ap (λ (u : List Val × Store). u.0) e in
    let w = moved-down f g xs (λ i l. m.moved i l) in
    let s = stored-same (lending xs f) (from new base) (top - base) (λ k l. sym (m.frame k l)) in
    let n : length (map slot xs) ≡ length xs = as-many xs in (
      ap (λ n. bind (parameters n) t.0) n ∙ ap (bind (parameters (length xs))) (v ∙ w) ∙ bind-all g (length xs),
      ap (λ (u : List Val × Store). u.1) e ∙ s,
    )

pub down-at : (g : ℕ → Val) (n i : ℕ) → i < n → get_or (down g n) i Lent ≡ g (n - (i + 1))
down-at g zero i h = absurd (omega arith)
down-at g (suc n) zero h = ap g (omega arith)
down-at g (suc n) (suc i) h = down-at g n i (omega arith) ∙ ap g (omega arith)

pub down-length : (g : ℕ → Val) (n : ℕ) → length (down g n) ≡ n
down-length g zero = refl
down-length g (suc n) = ap suc (down-length g n)

pub has-some : (xs : List ℕ) (i : ℕ) → i < length xs → has xs (get_or xs i 0) ≡ true
has-some [] i h = absurd (omega arith)
has-some (x ∷ xs) zero h = found (nat_eq x x) (has xs x) (same x)
  where
    found : (a b : Bool) → a ≡ true → a || b ≡ true
    found true b h = refl
    found false b h = absurd cc

    same : (x : ℕ) → nat_eq x x ≡ true
    same x = grind (arith)
has-some (x ∷ xs) (suc i) h = later (nat_eq x (get_or xs i 0)) (has xs (get_or xs i 0)) (has-some xs i (omega arith))
  where
    later : (a b : Bool) → b ≡ true → a || b ≡ true
    later true b h = refl
    later false b h = h

-- a call is left
pub left : (old new : ℕ → Val) (base top : ℕ) (xs : List ℕ) (vs : List Val) → AreGiven old new base top xs →
    AreLent old base (top - base) xs
    → ((k : ℕ) → k < length xs → IsPresent (old (top + k)))
    → unbind (parameters (length xs)) (stored (from old top) (length xs)) ≡ Fine vs
    → fill (map slot xs) vs (stored (from old base) (top - base)) ≡ Fine (stored (from new base) (top - base))
left old new base top xs vs m a p h =
    let f = from old base in
    let g = from new base in
    let q = from old top in
    let e : vs ≡ down q (length xs) = fine_inj vs (down q (length xs)) (sym h ∙ unbind-all q (length xs)) in
    let moved : (i : ℕ) → i < length xs → g (get_or xs i 0) ≡ q (length xs - (i + 1)) =
    λ i l. m.moved i l in
    fill-all f g (top - base) xs vs a.apart a.below (ap length e ∙ down-length q (length xs))
    (λ i l. (
      a.lent (get_or xs i 0) (below-at (top - base) xs i a.below l) (has-some xs i l),
      subst IsPresent (sym (moved i l)) (p (length xs - (i + 1)) (omega arith)),
      ap (λ v. get_or v i Lent) e ∙ down-at q (length xs) i l ∙ sym (moved i l),
    ))
    (λ k l n. m.frame k l n)

found_at : (y : ℕ) (ys : List ℕ) (k : ℕ) (b : Bool) → nat_eq y k ≡ b → (has ys k ≡ true → (i : ℕ) × (i < length ys) × (get_or ys i 0 ≡ k)) →
    b || has ys k ≡ true
    → (i : ℕ) × (i < length (y ∷ ys)) × (get_or (y ∷ ys) i 0 ≡ k)
found_at y ys k true e ih h = (0, omega arith, equal y k e)
found_at y ys k false e ih h = let r = ih h in (suc r.0, omega (arith, r.1), r.2)

pub place-of : (ys : List ℕ) (k : ℕ) → has ys k ≡ true → (i : ℕ) × (i < length ys) × (get_or ys i 0 ≡ k)
place-of [] k h = absurd cc
place-of (y ∷ ys) k h = found_at y ys k (nat_eq y k) refl (place-of ys k) h

-- and the caller's frame has values again
pub back-present : (old new : ℕ → Val) (base top : ℕ) (xs : List ℕ) → AreGiven old new base top xs → AreLent old base (top - base) xs
    → ((k : ℕ) → k < length xs → IsPresent (old (top + k))) → (k : ℕ) → k < top - base → IsPresent (new (base + k))
back-present old new base top xs m a p k l = present_case (has xs k) refl
  where
    present_case : (b : Bool) → has xs k ≡ b → IsPresent (new (base + k))
    present_case true e =
        let r = place-of xs k e in
        let s = m.moved r.0 r.1 in
        subst (λ k. IsPresent (new (base + k))) r.2 (subst IsPresent (sym s) (p (length xs - (r.0 + 1)) (omega (arith, r.1))))
    present_case false e = subst IsPresent (sym (m.frame k l e)) (a.own k l e)
