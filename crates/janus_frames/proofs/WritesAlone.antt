-- Behind a write a name has what was written, and each other name what it had.
use Rattle.std.proofs.Common.{◌≡◌, Bool, true, false, refl, ap, ◌∙◌, sym}
use Rattle.janus_meaning.specs.Fault.{Res, Fine}
use Rattle.janus_meaning.specs.Syntax.{Name}
use Rattle.janus_meaning.specs.Store.{Val, Num, Arr, Stk, Lent, Store, Bare, Slot, same_name, take, take_at, take_slot, put, put_at, put_slot, look, look_at}
use Rattle.janus_meaning.specs.Store.{read_slot}
use Rattle.janus_meaning.proofs.Results.{fine_inj, after, by_fine}
use Rattle.janus_meaning.proofs.Stores.{same_name_true}
use Rattle.janus_frames.specs.Laws.{WritesAlone}

-- what stands in a slot is not seen under another name
passed_over : (z x y : Name) (u v : Val) (q : Res Val) → same_name x y ≡ true → same_name z x ≡ false →
    look_at (same_name z y) u q ≡ look_at (same_name z y) v q
passed_over z x y u v q e other =
    let apart : same_name z y ≡ false = ap (same_name z) (sym (same_name_true x y e)) ∙ other in
    ap (λ b. look_at b u q) apart ∙ sym (ap (λ b. look_at b v q) apart)

-- ---- taken out

lent : (y : Name) (u : Val) (r : Store) (p : Val × Store) → take_slot y u r ≡ Fine p → p.1 ≡ Slot y Lent r
lent y (Num n) r p h = by_fine (λ t. t.1 ≡ Slot y Lent r) _ p h refl
lent y (Arr l) r p h = by_fine (λ t. t.1 ≡ Slot y Lent r) _ p h refl
lent y (Stk l) r p h = by_fine (λ t. t.1 ≡ Slot y Lent r) _ p h refl
lent y Lent r p h = cc

taken_at : (x y z : Name) (u : Val) (r : Store) (p : Val × Store) → ((q : Val × Store) → take x r ≡ Fine q → look z q.1 ≡ look z r) → (b : Bool) →
    same_name x y ≡ b → same_name z x ≡ false → take_at b y u r (take x r) ≡ Fine p → look z p.1 ≡ look z (Slot y u r)
taken_at x y z u r p below true e other h = ap (look z) (lent y u r p h) ∙ passed_over z x y Lent u (look z r) e other
taken_at x y z u r p below false e other h =
    let q = after (take x r) (λ t. Fine (t.0, Slot y u t.1)) p h in
    by_fine (λ t. look z t.1 ≡ look z (Slot y u r)) _ p q.2 (ap (look_at (same_name z y) u) (below q.0 q.1))

taken_alone : (x z : Name) (s : Store) (p : Val × Store) → same_name z x ≡ false → take x s ≡ Fine p → look z p.1 ≡ look z s
taken_alone x z Bare p other h = cc
taken_alone x z (Slot y u r) p other h = taken_at x y z u r p (λ q. taken_alone x z r q other) (same_name x y) refl other h

-- ---- put back

filled : (y : Name) (u v : Val) (r s : Store) → put_slot y u r v ≡ Fine s → (s ≡ Slot y v r) × (read_slot v ≡ Fine v)
filled y Lent (Num n) r s h = (sym (fine_inj _ s h), refl)
filled y Lent (Arr l) r s h = (sym (fine_inj _ s h), refl)
filled y Lent (Stk l) r s h = (sym (fine_inj _ s h), refl)
filled y Lent Lent r s h = cc
filled y (Num n) v r s h = cc
filled y (Arr l) v r s h = cc
filled y (Stk l) v r s h = cc

-- the name has the value now, and each other name what it had
abbrev IsAlone : Name → Val → Store → Store → Type 0
IsAlone x v r s = (look x s ≡ Fine v) × ((z : Name) → same_name z x ≡ false → look z s ≡ look z r)

put_alone_at : (x y : Name) (u v : Val) (r s : Store) → ((q : Store) → put x v r ≡ Fine q → IsAlone x v r q) → (b : Bool) → same_name x y ≡ b →
    put_at b y u r v (put x v r) ≡ Fine s → IsAlone x v (Slot y u r) s
put_alone_at x y u v r s below true e h =
    let p = filled y u v r s h in
    (ap (look x) p.0 ∙ ap (λ b. look_at b v (look x r)) e ∙ p.1, λ z other. ap (look z) p.0 ∙ passed_over z x y v u (look z r) e other)
put_alone_at x y u v r s below false e h =
    let p = after (put x v r) (λ t. Fine (Slot y u t)) s h in
    by_fine (IsAlone x v (Slot y u r)) _ s p.2
    (ap (λ b. look_at b u (look x p.0)) e ∙ (below p.0 p.1).0, λ z other. ap (look_at (same_name z y) u) ((below p.0 p.1).1 z other))

put_alone : (x : Name) (v : Val) (r s : Store) → put x v r ≡ Fine s → IsAlone x v r s
put_alone x v Bare s h = cc
put_alone x v (Slot y u r) s h = put_alone_at x y u v r s (put_alone x v r) (same_name x y) refl h

pub writes_alone : WritesAlone
writes_alone x v s t h =
    let p = after (take x s) (λ q. put x v q.1) t h in
    let q = put_alone x v p.0.1 t p.2 in
    (q.0, λ z other. q.1 z other ∙ taken_alone x z s p.0 other p.1)
