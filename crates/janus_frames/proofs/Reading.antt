-- A name of a store of slots is read and written, and which names can be lent.
use Rattle.std.proofs.Common.{◌≡◌, ◌≢◌, ℕ, zero, suc, ◌<◌, Bool, true, false, ◌||◌, nat_eq, List, [], ◌∷◌, map, refl, ap}
use Rattle.std.proofs.Common.{◌∙◌, sym, subst, arith, cond}
use Rattle.std.proofs.lemmas.Bool.{eq-eqb, ne_eqb}
use Rattle.janus_meaning.specs.Fault.{Fine, and_then}
use Rattle.janus_meaning.specs.Syntax.{Name}
use Rattle.janus_meaning.specs.World.{size_of}
use Rattle.janus_meaning.specs.Store as store
use Rattle.janus_meaning.specs.Store.{Val, Num, Arr, Stk, Lent, Store, Bare, Slot, same_name, look, look_at, read_slot, take_slot, take_at, put, pull}
use Rattle.janus_meaning.proofs.Results.{after, fine_inj}
use Rattle.janus_slots.specs.Slots.{slot}
use Rattle.janus_frames.specs.Cells.{stored, has, AreApart, AreBelow, IsPresent}
use Rattle.janus_frames.specs.Stores.{write}
use Rattle.janus_frames.proofs.Among.{not-equal, equal}
use Rattle.janus_frames.proofs.Stored.{stored-same, and_true, with, take-at, put-at, ArePresent}

-- ---- one name

read-inv : (u v : Val) → read_slot u ≡ Fine v → u ≡ v
read-inv (Num n) v h = fine_inj (Num n) v h
read-inv (Arr l) v h = fine_inj (Arr l) v h
read-inv (Stk l) v h = fine_inj (Stk l) v h
read-inv Lent v h = absurd cc

look_case : (f : ℕ → Val) (n k : ℕ) (v : Val) (b : Bool) → nat_eq k n ≡ b → (look (slot k) (stored f n) ≡ Fine v → (k < n) × (f k ≡ v))
    → look_at b (f n) (look (slot k) (stored f n)) ≡ Fine v → (k < suc n) × (f k ≡ v)
look_case f n k v true e ih h = let q : k ≡ n = equal k n e in (omega arith, ap f q ∙ read-inv (f n) v h)
look_case f n k v false e ih h = let r = ih h in (omega (arith, r.0), r.1)

-- a name that has a value is one of them, and has that
pub look-inv : (f : ℕ → Val) (n k : ℕ) (v : Val) → look (slot k) (stored f n) ≡ Fine v → (k < n) × (f k ≡ v)
look-inv f zero k v h = absurd cc
look-inv f (suc n) k v h =
    look_case f n k v (nat_eq k n) refl (look-inv f n k v)
    (ap (λ b. look_at b (f n) (look (slot k) (stored f n))) (sym (and_true (nat_eq k n))) ∙ h)

-- another value for a name that has one
pub write-at : (f g : ℕ → Val) (n k : ℕ) (v : Val) → k < n → IsPresent (f k) → IsPresent v → g k ≡ v → ((j : ℕ) → j < n → j ≢ k → g j ≡ f j)
    → write (slot k) v (stored f n) ≡ Fine (stored g n)
write-at f g n k v h p q e r =
    ap (λ r. and_then {A = Val × Store} r (λ t. put (slot k) v t.1)) (take-at f n k h p)
    ∙ put-at (with k Lent f) n k v h (here k Lent f) q
    ∙ ap Fine (stored-same (with k v (with k Lent f)) g n (λ j l. both k v f g j (nat_eq k j) refl e (r j l)))
  where
    here : (k : ℕ) (v : Val) (f : ℕ → Val) → with k v f k ≡ v
    here k v f = ap (λ b. cond b v (f k)) (eq-eqb k k refl)

    both : (k : ℕ) (v : Val) (f g : ℕ → Val) (j : ℕ) (b : Bool) → nat_eq k j ≡ b → g k ≡ v → (j ≢ k → g j ≡ f j) → cond b v (cond b Lent (f j)) ≡ g j
    both k v f g j true e z r = sym (ap g (sym (equal k j e)) ∙ z)
    both k v f g j false e z r = sym (r (λ q. not-equal k j e (sym q)))

pub size-stored : (f : ℕ → Val) (n : ℕ) → size_of (stored f n) ≡ n
size-stored f zero = refl
size-stored f (suc n) = ap suc (size-stored f n)

-- ---- what can be lent

slot_inv : (y : Name) (v : Val) (s : Store) (u : Val × Store) → take_slot y v s ≡ Fine u → IsPresent v
slot_inv y (Num n) s u h = tt
slot_inv y (Arr l) s u h = tt
slot_inv y (Stk l) s u h = tt
slot_inv y Lent s u h = absurd cc

take_case : (f : ℕ → Val) (n a : ℕ) (u : Val × Store) (b : Bool) → nat_eq a n ≡ b
    → ((u : Val × Store) → store.take (slot a) (stored f n) ≡ Fine u → (a < n) × IsPresent (f a))
    → take_at b (slot n) (f n) (stored f n) (store.take (slot a) (stored f n)) ≡ Fine u → (a < suc n) × IsPresent (f a)
take_case f n a u true e ih h =
    let q : a ≡ n = equal a n e in (omega arith, subst (λ k. IsPresent (f k)) (sym q) (slot_inv (slot n) (f n) (stored f n) u h))
take_case f n a u false e ih h =
    let t = after (store.take (slot a) (stored f n)) (λ t. Fine (t.0, Slot (slot n) (f n) t.1)) u h in
    let r = ih t.0 t.1 in (omega (arith, r.0), r.1)

take-inv : (f : ℕ → Val) (n a : ℕ) (u : Val × Store) → store.take (slot a) (stored f n) ≡ Fine u → (a < n) × IsPresent (f a)
take-inv f zero a u h = absurd cc
take-inv f (suc n) a u h =
    take_case f n a u (nat_eq a n) refl (take-inv f n a)
    (ap (λ b. take_at b (slot n) (f n) (stored f n) (store.take (slot a) (stored f n))) (sym (and_true (nat_eq a n))) ∙ h)

not_here : (f : ℕ → Val) (a x : ℕ) (b : Bool) → nat_eq a x ≡ b → IsPresent (cond b Lent (f x)) → (nat_eq x a ≡ false) × IsPresent (f x)
not_here f a x true e p = absurd p
not_here f a x false e p = (ne_eqb x a (λ q. not-equal a x e (sym q)), p)

neither : (a b : Bool) → a ≡ false → b ≡ false → a || b ≡ false
neither a b p q = ap (λ a. a || b) p ∙ q

absent : (f : ℕ → Val) (a : ℕ) (xs : List ℕ) → ArePresent (with a Lent f) xs → (has xs a ≡ false) × ArePresent f xs
absent f a [] p = (refl, tt)
absent f a (x ∷ xs) p =
    let h = not_here f a x (nat_eq a x) refl p.0 in
    let r = absent f a xs p.1 in (neither (nat_eq x a) (has xs a) h.0 r.0, (h.1, r.1))

-- arguments whose values can be taken are there, apart and not lent
pub can-lend : (f : ℕ → Val) (n : ℕ) (xs : List ℕ) (t : List Val × Store) → pull (map slot xs) (stored f n) ≡ Fine t
    → AreBelow n xs × AreApart xs × ArePresent f xs
can-lend f n [] t h = (tt, tt, tt)
can-lend f n (a ∷ xs) t h =
    let u = after (store.take (slot a) (stored f n)) (λ t. and_then (pull (map slot xs) t.1) (λ u. Fine (t.0 ∷ u.0, u.1))) t h in
    let i = take-inv f n a u.0 u.1 in
    let e : Fine u.0 ≡ Fine (f a, stored (with a Lent f) n) = sym u.1 ∙ take-at f n a i.0 i.1 in
    let s : u.0 ≡ (f a, stored (with a Lent f) n) = fine_inj u.0 (f a, stored (with a Lent f) n) e in
    let w = after (pull (map slot xs) u.0.1) (λ w. Fine (u.0.0 ∷ w.0, w.1)) t u.2 in
    let g : pull (map slot xs) (stored (with a Lent f) n) ≡ Fine w.0 = ap (λ (z : Val × Store). pull (map slot xs) z.1) (sym s) ∙ w.1 in
    let r = can-lend (with a Lent f) n xs w.0 g in
    let b = absent f a xs r.2 in
    ((i.0, r.0), (b.0, r.1), (i.1, b.1))

-- ---- a name that is there

pub read-present : (v : Val) → IsPresent v → read_slot v ≡ Fine v
read-present (Num n) p = refl
read-present (Arr l) p = refl
read-present (Stk l) p = refl
read-present Lent p = absurd p

look-at : (f : ℕ → Val) (n k : ℕ) (b : Bool) → nat_eq k n ≡ b → k < suc n → IsPresent (f k) → (k < n → look (slot k) (stored f n) ≡ Fine (f k))
    → look_at b (f n) (look (slot k) (stored f n)) ≡ Fine (f k)
look-at f n k true e h p ih =
    let q : k ≡ n = equal k n e in
    read-present (f n) (subst (λ k. IsPresent (f k)) q p) ∙ ap (λ k. Fine (f k)) (sym q)
look-at f n k false e h p ih = let q : k ≢ n = not-equal k n e in ih (omega arith)

-- each name that is not lent has its value
pub look-there : (f : ℕ → Val) (n k : ℕ) → k < n → IsPresent (f k) → look (slot k) (stored f n) ≡ Fine (f k)
look-there f zero k h p = absurd (omega arith)
look-there f (suc n) k h p =
    ap (λ b. look_at b (f n) (look (slot k) (stored f n))) (and_true (nat_eq k n)) ∙ look-at f n k (nat_eq k n) refl h p (λ l. look-there f n k l p)

present_read : (u v : Val) → read_slot u ≡ Fine v → IsPresent v
present_read (Num n) v h = subst IsPresent (fine_inj (Num n) v h) tt
present_read (Arr l) v h = subst IsPresent (fine_inj (Arr l) v h) tt
present_read (Stk l) v h = subst IsPresent (fine_inj (Stk l) v h) tt
present_read Lent v h = absurd cc

present_case : (b : Bool) (u v : Val) (x : Name) (s : Store) → (look x s ≡ Fine v → IsPresent v) → look_at b u (look x s) ≡ Fine v → IsPresent v
present_case true u v x s ih h = present_read u v h
present_case false u v x s ih h = ih h

-- what is looked up is not lent
pub present-look : (v : Val) (s : Store) (x : Name) → look x s ≡ Fine v → IsPresent v
present-look v Bare x h = absurd cc
present-look v (Slot y u s) x h = present_case (same_name x y) u v x s (present-look v s x) h
