-- Stores of slots: a value is taken, put and read where its function has it.
use Rattle.std.proofs.Common.{◌≡◌, ◌≢◌, ℕ, zero, suc, ◌+◌, ◌-◌, ◌<◌, Bool, true, false, ◌||◌, ◌&&◌, nat_eq, List, [], ◌∷◌, length, map, get_or}
use Rattle.std.proofs.Common.{refl, ap, ◌∙◌, sym, subst, arith, cond}
use Rattle.std.proofs.lemmas.Bool.{eq-eqb, ne_eqb}
use Rattle.janus_meaning.specs.Fault.{Fine, Broken, and_then, guard}
use Rattle.janus_meaning.specs.Syntax.{Name}
use Rattle.janus_meaning.specs.Store as store
use Rattle.janus_meaning.specs.Store.{Val, Num, Arr, Stk, Lent, Store, Bare, Slot, same_name, look, look_at, read_slot, take_slot, take_at}
use Rattle.janus_meaning.specs.Store.{put_slot, put_at, put, pull, fill, bind, unbind}
use Rattle.janus_slots.specs.Slots.{slot}
use Rattle.janus_frames.specs.Cells.{stored, has, AreApart, AreBelow, IsPresent, parameters}
use Rattle.janus_frames.proofs.Among.{not-equal, equal, or_false, has-at}

-- the values of n names, from the newest on
abbrev pub down : (ℕ → Val) → ℕ → List Val
down f zero = []
down f (suc n) = f n ∷ down f n

-- these values, of which some are lent
abbrev pub lending : List ℕ → (ℕ → Val) → ℕ → Val
lending xs f k = cond (has xs k) Lent (f k)

-- only the values of its names matter
pub stored-same : (f g : ℕ → Val) (n : ℕ) → ((k : ℕ) → k < n → f k ≡ g k) → stored f n ≡ stored g n
stored-same f g zero h = refl
stored-same f g (suc n) h = let e = h n (omega arith) in let r = stored-same f g n (λ k l. h k (omega arith)) in cc

pub and_true : (b : Bool) → b && true ≡ b
and_true true = refl
and_true false = refl

-- ---- one slot

take-present : (y : Name) (v : Val) (s : Store) → IsPresent v → take_slot y v s ≡ Fine (v, Slot y Lent s)
take-present y (Num n) s p = refl
take-present y (Arr l) s p = refl
take-present y (Stk l) s p = refl
take-present y Lent s p = absurd p

put-present : (y : Name) (v : Val) (s : Store) → IsPresent v → put_slot y Lent s v ≡ Fine (Slot y v s)
put-present y (Num n) s p = refl
put-present y (Arr l) s p = refl
put-present y (Stk l) s p = refl
put-present y Lent s p = absurd p

-- another value at one place
abbrev pub with : ℕ → Val → (ℕ → Val) → ℕ → Val
with a v f k = cond (nat_eq a k) v (f k)

with_other : (a : ℕ) (v : Val) (f : ℕ → Val) (k : ℕ) → nat_eq a k ≡ false → with a v f k ≡ f k
with_other a v f k e = ap (λ b. cond b v (f k)) e

with_same : (a : ℕ) (v : Val) (f : ℕ → Val) (k : ℕ) → nat_eq a k ≡ true → with a v f k ≡ v
with_same a v f k e = ap (λ b. cond b v (f k)) e

with-here : (a : ℕ) (v : Val) (f : ℕ → Val) → with a v f a ≡ v
with-here a v f = with_same a v f a (eq-eqb a a refl)

above : (a : ℕ) (v : Val) (f : ℕ → Val) (n : ℕ) → a ≡ n → stored (with a v f) n ≡ stored f n
above a v f n e = stored-same (with a v f) f n (λ k l. with_other a v f k (ne_eqb a k (omega arith)))

take_case : (f : ℕ → Val) (n a : ℕ) (b : Bool) → nat_eq a n ≡ b → a < suc n → IsPresent (f a)
    → (a < n → store.take (slot a) (stored f n) ≡ Fine (f a, stored (with a Lent f) n))
    → take_at b (slot n) (f n) (stored f n) (store.take (slot a) (stored f n)) ≡ Fine (f a, Slot (slot n) (cond b Lent (f n)) (stored (with a Lent f) n))
take_case f n a true e h p ih =
    let q : a ≡ n = equal a n e in
    let r : IsPresent (f n) = subst (λ k. IsPresent (f k)) q p in
    let t = take-present (slot n) (f n) (stored f n) r in
    let s = above a Lent f n q in
    let v : f a ≡ f n = ap f q in cc
take_case f n a false e h p ih =
    let q : a ≢ n = not-equal a n e in
    ap (λ r. and_then {A = Val × Store} r (λ t. Fine (t.0, Slot (slot n) (f n) t.1))) (ih (omega arith))

-- the value of a name is taken
pub take-at : (f : ℕ → Val) (n a : ℕ) → a < n → IsPresent (f a) → store.take (slot a) (stored f n) ≡ Fine (f a, stored (with a Lent f) n)
take-at f zero a h p = absurd (omega arith)
take-at f (suc n) a h p =
    ap (λ b. take_at b (slot n) (f n) (stored f n) (store.take (slot a) (stored f n))) (and_true (nat_eq a n))
    ∙ take_case f n a (nat_eq a n) refl h p (λ l. take-at f n a l p)

put_case : (f : ℕ → Val) (n a : ℕ) (v : Val) (b : Bool) → nat_eq a n ≡ b → a < suc n → f a ≡ Lent → IsPresent v
    → (a < n → put (slot a) v (stored f n) ≡ Fine (stored (with a v f) n))
    → put_at b (slot n) (f n) (stored f n) v (put (slot a) v (stored f n)) ≡ Fine (Slot (slot n) (cond b v (f n)) (stored (with a v f) n))
put_case f n a v true e h l p ih =
    let q : a ≡ n = equal a n e in
    let m : f n ≡ Lent = subst (λ k. f k ≡ Lent) q l in
    let t = put-present (slot n) v (stored f n) p in
    let s = above a v f n q in
    let u : put_slot (slot n) (f n) (stored f n) v ≡ put_slot (slot n) Lent (stored f n) v = ap (λ w. put_slot (slot n) w (stored f n) v) m in cc
put_case f n a v false e h l p ih =
    let q : a ≢ n = not-equal a n e in
    ap (λ r. and_then {A = Store} r (λ t. Fine (Slot (slot n) (f n) t))) (ih (omega arith))

-- a value is put back
pub put-at : (f : ℕ → Val) (n a : ℕ) (v : Val) → a < n → f a ≡ Lent → IsPresent v → put (slot a) v (stored f n) ≡ Fine (stored (with a v f) n)
put-at f zero a v h l p = absurd (omega arith)
put-at f (suc n) a v h l p =
    ap (λ b. put_at b (slot n) (f n) (stored f n) v (put (slot a) v (stored f n))) (and_true (nat_eq a n))
    ∙ put_case f n a v (nat_eq a n) refl h l p (λ m. put-at f n a v m l p)

-- ---- arguments

-- each of them has a value
abbrev pub ArePresent : (ℕ → Val) → List ℕ → Type 0
ArePresent f [] = Unit {0}
ArePresent f (a ∷ xs) = IsPresent (f a) × ArePresent f xs

without : (f : ℕ → Val) (a : ℕ) (v : Val) (xs : List ℕ) → has xs a ≡ false → map (with a v f) xs ≡ map f xs
without f a v [] h = refl
without f a v (x ∷ xs) h =
    let o = or_false (nat_eq x a) (has xs a) h in
    let e : with a v f x ≡ f x = with_other a v f x (ne_eqb a x (λ e. not-equal x a o.0 (sym e))) in
    let r = without f a v xs o.1 in cc

still : (f : ℕ → Val) (a : ℕ) (v : Val) (xs : List ℕ) → has xs a ≡ false → ArePresent f xs → ArePresent (with a v f) xs
still f a v [] h p = tt
still f a v (x ∷ xs) h p =
    let o = or_false (nat_eq x a) (has xs a) h in
    let e : with a v f x ≡ f x = with_other a v f x (ne_eqb a x (λ e. not-equal x a o.0 (sym e))) in
    (subst IsPresent (sym e) p.0, still f a v xs o.1 p.1)

one_more : (b c : Bool) (v : Val) → cond c Lent (cond b Lent v) ≡ cond (b || c) Lent v
one_more true true v = refl
one_more true false v = refl
one_more false true v = refl
one_more false false v = refl

-- the values of the arguments are taken
pub pull-all : (f : ℕ → Val) (n : ℕ) (xs : List ℕ) → AreApart xs → AreBelow n xs → ArePresent f xs
    → pull (map slot xs) (stored f n) ≡ Fine (map f xs, stored (lending xs f) n)
pull-all f n [] d b p = refl
pull-all f n (a ∷ xs) d b p =
    let e = take-at f n a b.0 p.0 in
    let g = with a Lent f in
    let r = pull-all (with a Lent f) n xs d.1 b.1 (still f a Lent xs d.0 p.1) in
    let m = without f a Lent xs d.0 in
    let s = stored-same (lending xs (with a Lent f)) (lending (a ∷ xs) f) n (λ k l. one_more (nat_eq a k) (has xs k) (f k)) in
    ap (λ r. and_then {A = Val × Store} r (λ t. and_then (pull (map slot xs) t.1) (λ u. Fine (t.0 ∷ u.0, u.1)))) e
    ∙ ap (λ r. and_then {A = List Val × Store} r (λ u. Fine (f a ∷ u.0, u.1))) r
    ∙ ap (λ m. Fine (f a ∷ m, stored (lending xs (with a Lent f)) n)) m
    ∙ ap (λ s. Fine (f a ∷ map f xs, s)) s

-- parameters have their values
pub bind-all : (f : ℕ → Val) (n : ℕ) → bind (parameters n) (down f n) ≡ Fine (stored f n)
bind-all f zero = refl
bind-all f (suc n) = ap (λ r. and_then {A = Store} r (λ t. Fine (Slot (slot n) (f n) t))) (bind-all f n)

-- and give them again
pub unbind-all : (f : ℕ → Val) (n : ℕ) → unbind (parameters n) (stored f n) ≡ Fine (down f n)
unbind-all f zero = refl
unbind-all f (suc n) =
    let e : nat_eq n n && true ≡ true = and_true (nat_eq n n) ∙ eq-eqb n n refl in
    ap (λ b. and_then (guard b Broken) (λ u. and_then (unbind (parameters n) (stored f n)) (λ vs. Fine (f n ∷ vs)))) e
    ∙ ap (λ r. and_then {A = List Val} r (λ vs. Fine (f n ∷ vs))) (unbind-all f n)

-- the values that stand, one below another, where arguments were moved
pub moved-down : (f g : ℕ → Val) (xs : List ℕ) → ((i : ℕ) → i < length xs → g (length xs - (i + 1)) ≡ f (get_or xs i 0)) → map f xs ≡ down g (length xs)
moved-down f g [] h = refl
moved-down f g (a ∷ xs) h =
    let z : g (length (a ∷ xs) - (0 + 1)) ≡ f a = h 0 (omega arith) in
    let e : length (a ∷ xs) - (0 + 1) ≡ length xs = omega arith in
    let y : g (length xs) ≡ f a = subst (λ k. g k ≡ f a) e z in
    let r = moved-down f g xs (λ i l. let m : length (a ∷ xs) - (suc i + 1)
    ≡ length xs - (i + 1) = omega arith in subst (λ k. g k ≡ f (get_or xs i 0)) m (h (suc i) (omega arith))) in
    cc

turned : (p q : ℕ) → nat_eq p q ≡ false → nat_eq q p ≡ false
turned p q h = ne_eqb q p (λ e. not-equal p q h (sym e))

kept : (f g : ℕ → Val) (a : ℕ) (xs : List ℕ) (k : ℕ) (b : Bool) → nat_eq a k ≡ b → has xs k ≡ false → (b || has xs k ≡ false → g k ≡ f k)
    → cond b (f a) (g k) ≡ f k
kept f g a xs k true e z r = ap f (equal a k e)
kept f g a xs k false e z r = r z

again : (a : ℕ) (v : Val) (g : ℕ → Val) (k : ℕ) (b : Bool) → nat_eq a k ≡ b → cond b (g a) (cond b v (g k)) ≡ g k
again a v g k true e = ap g (equal a k e)
again a v g k false e = refl

-- values that are put back into lent places
pub fill-all : (f g : ℕ → Val) (n : ℕ) (xs : List ℕ) (vs : List Val) → AreApart xs → AreBelow n xs → length vs ≡ length xs
    → ((i : ℕ) → i < length xs → (f (get_or xs i 0) ≡ Lent) × IsPresent (g (get_or xs i 0)) × (get_or vs i Lent ≡ g (get_or xs i 0)))
    → ((k : ℕ) → k < n → has xs k ≡ false → g k ≡ f k)
    → fill (map slot xs) vs (stored f n) ≡ Fine (stored g n)
fill-all f g n [] [] d b e h r = ap Fine (stored-same f g n (λ k l. sym (r k l refl)))
fill-all f g n [] (v ∷ vs) d b e h r = absurd (omega arith)
fill-all f g n (a ∷ xs) [] d b e h r = absurd (omega arith)
fill-all f g n (a ∷ xs) (v ∷ vs) d b e h r =
    let first = h 0 (omega arith) in
    let x : (i : ℕ) → i < length xs → with a (f a) g (get_or xs i 0) ≡ g (get_or xs i 0) =
    λ i l. with_other a (f a) g (get_or xs i 0) (turned (get_or xs i 0) a (has-at xs i a l d.0)) in
    let rest : (i : ℕ) → i < length xs →
    (f (get_or xs i 0) ≡ Lent) × IsPresent (with a (f a) g (get_or xs i 0)) × (get_or vs i Lent ≡ with a (f a) g (get_or xs i 0)) =
    λ i l. let q = h (suc i) (omega arith) in (q.0, subst IsPresent (sym (x i l)) q.1, q.2 ∙ sym (x i l)) in
    let filled = fill-all f (with a (f a) g) n xs vs d.1 b.1 (omega arith) rest (λ k l z. kept f g a xs k (nat_eq a k) refl z (r k l)) in
    let lent : with a (f a) g a ≡ Lent = with-here a (f a) g ∙ first.0 in
    let placed = put-at (with a (f a) g) n a (g a) b.0 lent first.1 in
    ap (λ r. and_then {A = Store} r (λ t. put (slot a) v t)) filled
    ∙ ap (λ u. put (slot a) u (stored (with a (f a) g) n)) first.2
    ∙ placed
    ∙ ap Fine (stored-same (with a (g a) (with a (f a) g)) g n (λ k l. again a (f a) g k (nat_eq a k) refl))
