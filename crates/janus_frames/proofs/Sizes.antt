-- The invariant of a store as its frames change.
use Rattle.std.proofs.Common.{◌≡◌, ℕ, suc, ◌+◌, ◌-◌, ◌*◌, ◌<◌, ◌≤◌, List, [], ◌∷◌, ◌++◌, length, take as front, length-append, refl, ap, ◌∙◌, sym}
use Rattle.std.proofs.Common.{subst, arith, Bool, true, false}
use Rattle.std.proofs.lemmas.List.{length-take-le}
use Rattle.janus_meaning.specs.Fault.{Res, Fine, Bad, and_then, or_else}
use Rattle.janus_meaning.specs.Syntax.{Name}
use Rattle.janus_meaning.specs.Store.{Val, Num, Arr, Stk, Lent, Store, Bare, Slot, same_name, take, take_at, take_slot, pull, bind, fill, unbind}
use Rattle.janus_meaning.specs.Store.{values_in}
use Rattle.janus_meaning.specs.World.{size_of, oldest}
use Rattle.janus_meaning.proofs.Cleared.{same_size}
use Rattle.janus_meaning.proofs.Results.{with_parts, by_fine}
use Rattle.janus_meaning.proofs.Stores.{fill-pull}
use Rattle.janus_slots.specs.Numbers.{HaveOneNumber}
use Rattle.janus_frames.specs.Calls.{Caller, CanLend, Enters, Returns, AreAlone, returned, given_back, names_lent, params_bound, own_names, AreShort}
use Rattle.janus_frames.specs.Cells.{parameters, stored}
use Rattle.janus_frames.specs.FramesState.{FramesState, HasShape, names_there, with_names}
use Rattle.janus_frames.specs.Kept.{AreHeld, outer_size}
use Rattle.janus_frames.specs.Limits.{local_limit, call_limit, bound_limit, result_limit}
use Rattle.janus_frames.proofs.Reading.{size-stored}
use Rattle.janus_frames.proofs.Stored.{unbind-all, down}

-- ---- sizes

slot_size : (y : Name) (v : Val) (s : Store) (t : Val × Store) → take_slot y v s ≡ Fine t → size_of t.1 ≡ suc (size_of s)
slot_size y (Num n) s t h = by_fine (λ t. size_of t.1 ≡ suc (size_of s)) _ t h refl
slot_size y (Arr l) s t h = by_fine (λ t. size_of t.1 ≡ suc (size_of s)) _ t h refl
slot_size y (Stk l) s t h = by_fine (λ t. size_of t.1 ≡ suc (size_of s)) _ t h refl
slot_size y Lent s t h = cc

at_size : (b : Bool) (x y : Name) (v : Val) (s : Store) (t : Val × Store) → ((t : Val × Store) → take x s ≡ Fine t → size_of t.1 ≡ size_of s) →
    take_at b y v s (take x s) ≡ Fine t → size_of t.1 ≡ suc (size_of s)
at_size true x y v s t ih h = slot_size y v s t h
at_size false x y v s t ih h =
    with_parts (take x s) (λ t. Fine (t.0, Slot y v t.1)) t h (λ u e f. by_fine (λ t. size_of t.1 ≡ suc (size_of s)) _ t f (ap suc (ih u e)))

take_size : (x : Name) (s : Store) (t : Val × Store) → take x s ≡ Fine t → size_of t.1 ≡ size_of s
take_size x Bare t h = cc
take_size x (Slot y v s) t h = at_size (same_name x y) x y v s t (take_size x s) h

-- a store that lends has its names
pub pull_size : (xs : List Name) (s : Store) (t : List Val × Store) → pull xs s ≡ Fine t → (size_of t.1 ≡ size_of s) × (length t.0 ≡ length xs)
pull_size [] s t h = by_fine (λ t. (size_of t.1 ≡ size_of s) × (length t.0 ≡ 0)) _ t h (refl, refl)
pull_size (x ∷ xs) s t h =
    with_parts (take x s) (λ t. and_then (pull xs t.1) (λ u. Fine (t.0 ∷ u.0, u.1))) t h (λ u e f.
    with_parts (pull xs u.1) (λ w. Fine (u.0 ∷ w.0, w.1)) t f (λ w g k.
    let p = pull_size xs u.1 w g in
    by_fine (λ t. (size_of t.1 ≡ size_of s) × (length t.0 ≡ suc (length xs))) _ t k (p.0 ∙ take_size x s u e, ap suc p.1)))

fill_size : (xs : List Name) (vs : List Val) (r s : Store) → fill xs vs r ≡ Fine s → size_of r ≡ size_of s
fill_size xs vs r s h = (pull_size xs s (vs, r) (fill-pull xs vs r s h)).0

pub bind_size : (ps : List Name) (vs : List Val) (s : Store) → bind ps vs ≡ Fine s → (size_of s ≡ length ps) × (length ps ≡ length vs)
bind_size [] [] s h = by_fine (λ s. (size_of s ≡ 0) × ◌≡◌ {A = ℕ} 0 0) Bare s h (refl, refl)
bind_size [] (v ∷ vs) s h = cc
bind_size (p ∷ ps) [] s h = cc
bind_size (p ∷ ps) (v ∷ vs) s h =
    with_parts (bind ps vs) (λ t. Fine (Slot p v t)) s h (λ u e f.
    let q = bind_size ps vs u e in
    by_fine (λ s. (size_of s ≡ suc (length ps)) × (suc (length ps) ≡ suc (length vs))) _ s f (ap suc q.0, ap suc q.1))

-- ---- how many names are outside of calls

else_size : (r : Res Store) (c : Store) → ((s : Store) → r ≡ Fine s → size_of s ≡ size_of c) → size_of (or_else r c) ≡ size_of c
else_size (Fine s) c h = h s refl
else_size (Bad f) c h = refl

returned_size : (c : Caller) (s : Store) → size_of (returned c s) ≡ size_of c.store
returned_size c s =
    else_size (fill c.args (values_in (oldest (length c.args) s)) c.store) c.store
    (λ t h. sym (fill_size c.args (values_in (oldest (length c.args) s)) c.store t h))

pub outer-is : (s : Store) (cs : List Caller) → size_of (given_back s cs) ≡ outer_size (size_of s) cs
outer-is s [] = refl
outer-is s (c ∷ cs) = outer-is (returned c s) cs ∙ ap (λ n. outer_size n cs) (returned_size c s)

outer_more : (n m : ℕ) (cs : List Caller) → n ≤ m → outer_size n cs ≤ outer_size m cs
outer_more n m [] h = h
outer_more n m (c ∷ cs) h = omega arith

outer_fewer : (d n : ℕ) (cs : List Caller) → own_names d cs < n → d ≤ outer_size n cs → d ≤ outer_size (n - 1) cs
outer_fewer d n [] l h = omega arith
outer_fewer d n (c ∷ cs) l h = h

pub own-less : (d : ℕ) (cs : List Caller) (n : ℕ) → own_names d cs < n → own_names 0 cs < n
own-less d [] n h = omega arith
own-less d (c ∷ cs) n h = h

-- ---- parameters

pub params-few : (cs : List Caller) → AreShort cs → params_bound cs ≤ 16 * length cs
params-few [] h = omega arith
params-few (c ∷ cs) h = let r = params-few cs h.1 in let l = h.0 in omega (arith, r, l)

-- ---- the invariant

module _ (f : FramesState) (d : ℕ) (ts : List Name) (h : AreHeld f d ts) where
  -- there is room for a call
  pub call-room : (count : ℕ) → length f.callers < call_limit → count ≤ 16 → names_there f + count ≤ f.room
  call-room count l m = let p = params-few f.callers h.short in let n = h.few in let r = h.room in omega (arith, l, m, p, n, r)

  -- the values change
  pub held-like : (g : FramesState) → HasShape f g → AreHeld g d ts
  held-like g s =
      let z : size_of g.slots ≡ size_of f.slots = same_size g.slots f.slots s.slots in
      let c = s.callers in
      let n : names_lent g.callers ≡ names_lent f.callers = ap names_lent c in
      let p : params_bound g.callers ≡ params_bound f.callers = ap params_bound c in
      let o : outer_size (size_of g.slots) g.callers ≡ outer_size (size_of f.slots) f.callers =
      ap (λ n. outer_size n g.callers) z ∙ ap (outer_size (size_of f.slots)) c in
      let l : length g.callers ≡ length f.callers = ap length c in
      record {
        one_text = h.one_text;
        many = h.many;
        declared = let e = h.declared in omega (arith, e, o);
        few = let e = h.few in omega (arith, e, z, n, p);
        short = subst AreShort (sym c) h.short;
        calls = let e = h.calls in omega (arith, e, l);
        room = let e = h.room in let r = s.room in omega (arith, e, r);
      }

  -- there is memory for more
  pub held-roomy : (r : ℕ) → f.room ≤ r → AreHeld (record f { room = r }) d ts
  held-roomy r l = record {
    one_text = h.one_text;
    many = h.many;
    declared = h.declared;
    few = h.few;
    short = h.short;
    calls = h.calls;
    room = let e = h.room in omega (arith, e, l);
  }

  -- a name is declared
  pub held-declared : (x y : Name) (v : Val) (us : List Name) → f.callers ≡ [] → d ≡ size_of f.slots
      → d + 1 + local_limit + bound_limit + result_limit ≤ f.room →
      us ≡ ts ++ x ∷ []
      → HaveOneNumber us → AreHeld (with_names (Slot y v f.slots) f) (d + 1) us
  held-declared x y v us c n r u one =
      let o : outer_size (suc (size_of f.slots)) f.callers ≡ suc (size_of f.slots) = ap (outer_size (suc (size_of f.slots))) c in
      let p : params_bound f.callers ≡ 0 = ap params_bound c in
      let l : names_lent f.callers ≡ 0 = ap names_lent c in
      record {
        one_text = one;
        many = let m = h.many in omega (arith, m, ap length u, length-append ts (x ∷ []));
        declared = omega (arith, o, n);
        few = omega (arith, p, l, n);
        short = h.short;
        calls = h.calls;
        room = r;
      }

  -- and retired
  pub held-retired : (x : Name) (v : Val) (s : Store) (us : List Name) → f.callers ≡ [] → d ≡ size_of f.slots → f.slots ≡ Slot x v s → us ≡ front (d - 1) ts
      → HaveOneNumber us → AreHeld (with_names s f) (d - 1) us
  held-retired x v s us c n e u one =
      let z : size_of f.slots ≡ suc (size_of s) = ap size_of e in
      let o : outer_size (size_of s) f.callers ≡ size_of s = ap (outer_size (size_of s)) c in
      let p : params_bound f.callers ≡ 0 = ap params_bound c in
      let l : names_lent f.callers ≡ 0 = ap names_lent c in
      record {
        one_text = one;
        many = let m = h.many in ap length u ∙ length-take-le (d - 1) ts (omega (arith, m));
        declared = omega (arith, o, n, z);
        few = omega (arith, p, l, n, z);
        short = h.short;
        calls = h.calls;
        room = let e = h.room in omega (arith, e);
      }

  -- a call is entered
  pub held-entered : (g : FramesState) (xs : List Name) → CanLend xs f.slots → Enters xs f.slots f.callers g.slots g.callers → g.room ≡ f.room
      → length f.callers < call_limit → length xs ≤ 16 → AreHeld g d ts
  held-entered g xs can e r l m =
      let t = can.0 in
      let q = e t can.1 in
      let p = pull_size xs f.slots t can.1 in
      let b = bind_size (parameters (length xs)) t.0 g.slots q.0 in
      let c : names_lent g.callers ≡ size_of t.1 + names_lent f.callers = ap names_lent q.1 in
      let n : params_bound g.callers ≡ length xs + params_bound f.callers = ap params_bound q.1 in
      let o : outer_size (size_of g.slots) g.callers ≡ outer_size (size_of f.slots) f.callers =
      ap (outer_size (size_of g.slots)) q.1 ∙ ap (λ n. outer_size n f.callers) p.0 in
      let k : length g.callers ≡ suc (length f.callers) = ap length q.1 in
      record {
        one_text = h.one_text;
        many = h.many;
        declared = let e = h.declared in omega (arith, e, o);
        few = let e = h.few in omega (arith, e, c, n, p.0, p.1, b.0, b.1);
        short = subst AreShort (sym q.1) (m, h.short);
        calls = omega (arith, l, k);
        room = let e = h.room in omega (arith, e, r);
      }

  -- and left
  pub held-left : (g : FramesState) → AreAlone f.callers f.slots → (v : ℕ → Val) (n : ℕ) → f.slots ≡ stored v n
      → Returns f.callers f.slots g.slots g.callers → g.room ≡ f.room → AreHeld g d ts
  held-left g a v n u r z = by f.callers refl a r
    where
      told_alone : (m : ℕ) → size_of f.slots ≡ m → (vs : List Val) × (unbind (parameters m) f.slots ≡ Fine vs)
      told_alone m e =
          let k : n ≡ m = sym (size-stored v n) ∙ ap size_of (sym u) ∙ e in
          (down v n, ap (λ m. unbind (parameters m) f.slots) (sym k) ∙ ap (unbind (parameters n)) u ∙ unbind-all v n)

      by : (cs : List Caller) → cs ≡ f.callers → AreAlone cs f.slots → Returns cs f.slots g.slots g.callers → AreHeld g d ts
      by [] e a r = absurd a
      by (c ∷ cs) e a r =
          let w = told_alone (length c.args) a in
          let y = fill_size c.args w.0 c.store g.slots (r.1 w.0 w.1) in
          let n : names_lent f.callers ≡ size_of c.store + names_lent cs = ap names_lent (sym e) in
          let p : params_bound f.callers ≡ length c.args + params_bound cs = ap params_bound (sym e) in
          let k : length f.callers ≡ suc (length cs) = ap length (sym e) in
          let o : outer_size (size_of f.slots) f.callers ≡ outer_size (size_of c.store) cs = ap (outer_size (size_of f.slots)) (sym e) in
          let i : outer_size (size_of g.slots) g.callers ≡ outer_size (size_of c.store) cs =
          ap (outer_size (size_of g.slots)) r.0 ∙ ap (λ n. outer_size n cs) (sym y) in
          let q : names_lent g.callers ≡ names_lent cs = ap names_lent r.0 in
          let t : params_bound g.callers ≡ params_bound cs = ap params_bound r.0 in
          let l : length g.callers ≡ length cs = ap length r.0 in
          record {
            one_text = h.one_text;
            many = h.many;
            declared = let e = h.declared in omega (arith, e, o, i);
            few = let e = h.few in omega (arith, e, a, y, n, p, q, t);
            short = subst AreShort (sym r.0) (subst AreShort (sym e) h.short).1;
            calls = let e = h.calls in omega (arith, e, k, l);
            room = let e = h.room in omega (arith, e, z);
          }
