-- Frames of cells: what stays as values change, and as a name comes or goes.
use Rattle.std.proofs.Common.{◌≡◌, ◌≢◌, ℕ, zero, suc, ◌+◌, ◌-◌, ◌<◌, ◌≤◌, Bool, true, false, nat_eq, List, [], ◌∷◌, length, refl, ap, ◌∙◌, sym}
use Rattle.std.proofs.Common.{subst, arith}
use Rattle.janus_meaning.specs.Fault.{Fine}
use Rattle.janus_meaning.specs.World.{size_of}
use Rattle.janus_meaning.specs.Store.{Val, Store, Slot, cleared, cleared_val}
use Rattle.janus_slots.specs.Slots.{slot}
use Rattle.janus_frames.specs.Cells.{stored, IsPresent, from}
use Rattle.janus_frames.specs.Calls.{names_lent, names_of, slots_of}
use Rattle.janus_frames.specs.Inside.{callers_of, AreNested, AreFrames}
use Rattle.janus_frames.specs.Stores.{write}
use Rattle.janus_frames.specs.declared.frames.OpenCall.{OpenCall}
use Rattle.janus_frames.proofs.Among.{not-equal, equal}
use Rattle.janus_frames.proofs.Stored.{stored-same}
use Rattle.janus_frames.proofs.Reading.{size-stored, write-at}

-- ---- frames behind one another

pub callers-same : (v w : ℕ → Val) (b n : ℕ) (cs : List OpenCall) → AreNested v b n cs → ((p : ℕ) → p < b → v p ≡ w p) → callers_of v b cs ≡ callers_of w b cs
callers-same v w b n [] e h = refl
callers-same v w b n (c ∷ cs) e h =
    let low = e.0 in
    let s = stored-same (from v c.base) (from w c.base) (b - c.base) (λ k l. h (c.base + k) (omega arith)) in
    let r = callers-same v w c.base (b - c.base) cs e.3 (λ p l. h p (omega arith)) in
    ap (λ s. record { args = names_of c.args; store = s } ∷ callers_of v c.base cs) s
    ∙ ap (λ r. record { args = names_of c.args; store = stored (from w c.base) (b - c.base) } ∷ r) r

-- how many names are inside matters to the innermost call alone
abbrev pub IsEnough : ℕ → List OpenCall → Type 0
IsEnough n [] = Unit {0}
IsEnough n (c ∷ cs) = length (slots_of c.args) ≤ n

pub nested-same : (v w : ℕ → Val) (b n m : ℕ) (cs : List OpenCall) → AreNested v b n cs → IsEnough m cs → ((p : ℕ) → p < b → v p ≡ w p) → AreNested w b m cs
nested-same v w b n m [] e z h = e
nested-same v w b n m (c ∷ cs) e z h =
    let low = e.0 in (
      e.0,
      z,
      record {
        below = e.2.below;
        apart = e.2.apart;
        lent = λ k l t. sym (h (c.base + k) (omega arith)) ∙ e.2.lent k l t;
        own = λ k l t. subst IsPresent (h (c.base + k) (omega arith)) (e.2.own k l t);
      },
      nested-same v w c.base (b - c.base) (b - c.base) cs e.3 (as-many-inside v c.base (b - c.base) cs e.3) (λ p l. h p (omega arith)),
    )
  where
    as-many-inside : (v : ℕ → Val) (b n : ℕ) (cs : List OpenCall) → AreNested v b n cs → IsEnough n cs
    as-many-inside v b n [] e = tt
    as-many-inside v b n (c ∷ cs) e = e.1

pub enough : (v : ℕ → Val) (b n m : ℕ) (cs : List OpenCall) → n ≤ m → AreNested v b n cs → IsEnough m cs
enough v b n m [] l e = tt
enough v b n m (c ∷ cs) l e = let i = e.1 in omega (arith, i, l)

pub names-below : (v : ℕ → Val) (b n : ℕ) (cs : List OpenCall) → AreNested v b n cs → names_lent (callers_of v b cs) ≡ b
names-below v b n [] e = sym e
names-below v b n (c ∷ cs) e =
    let low = e.0 in let s = size-stored (from v c.base) (b - c.base) in let r = names-below v c.base (b - c.base) cs e.3 in omega (arith, s, r)

pub many-callers : (v : ℕ → Val) (b : ℕ) (cs : List OpenCall) → length (callers_of v b cs) ≡ length cs
many-callers v b [] = refl
many-callers v b (c ∷ cs) = ap suc (many-callers v c.base cs)

-- how many names there are in all
pub names-all : (v : ℕ → Val) (base top : ℕ) (cs : List OpenCall) → AreFrames v base top cs
    → size_of (stored (from v base) (top - base)) + names_lent (callers_of v base cs) ≡ top
names-all v base top cs f =
    let o = f.order in
    let s = size-stored (from v base) (top - base) in let r = names-below v base (top - base) cs f.nested in omega (arith, s, r, o)

-- ---- one value is another one

module _ (v w : ℕ → Val) (base top k : ℕ) (cs : List OpenCall) (f : AreFrames v base top cs) (l : k < top - base)
    (other : (q : ℕ) → q < top → q ≢ base + k → w q ≡ v q) (p : IsPresent (w (base + k))) where
  here_case : (j : ℕ) (b : Bool) → nat_eq j k ≡ b → j < top - base → IsPresent (w (base + j))
  here_case j true e h = subst (λ j. IsPresent (w (base + j))) (sym (equal j k e)) p
  here_case j false e h =
      let z : j ≢ k = not-equal j k e in
      subst IsPresent (sym (other (base + j) (omega arith) (omega arith))) (f.present j h)

  pub changed : AreFrames w base top cs
  changed = record {
    order = f.order;
    present = λ j h. here_case j (nat_eq j k) refl h;
    nested = nested-same v w base (top - base) (top - base) cs f.nested (enough v base (top - base) (top - base) cs (omega arith) f.nested)
        (λ q h. let o = f.order in sym (other q (omega arith) (omega arith)));
  }

  pub changed-written : write (slot k) (w (base + k)) (stored (from v base) (top - base)) ≡ Fine (stored (from w base) (top - base))
  changed-written = write-at (from v base) (from w base) (top - base) k (w (base + k)) l (f.present k l) p refl
      (λ j h z. other (base + j) (omega arith) (omega arith))

  pub changed-callers : callers_of w base cs ≡ callers_of v base cs
  changed-callers = sym (callers-same v w base (top - base) cs f.nested (λ q h. let o = f.order in sym (other q (omega arith) (omega arith))))

  pub changed-shape : cleared_val (w (base + k)) ≡ cleared_val (v (base + k)) →
      cleared (stored (from w base) (top - base)) ≡ cleared (stored (from v base) (top - base))
  changed-shape e = clear (top - base) (λ j h. same_case j (nat_eq j k) refl h)
    where
      same_case : (j : ℕ) (b : Bool) → nat_eq j k ≡ b → j < top - base → cleared_val (w (base + j)) ≡ cleared_val (v (base + j))
      same_case j true z h = subst (λ j. cleared_val (w (base + j)) ≡ cleared_val (v (base + j))) (sym (equal j k z)) e
      same_case j false z h = let n : j ≢ k = not-equal j k z in ap cleared_val (other (base + j) (omega arith) (omega arith))

      clear : (n : ℕ) → ((j : ℕ) → j < n → cleared_val (w (base + j)) ≡ cleared_val (v (base + j)))
          → cleared (stored (from w base) n) ≡ cleared (stored (from v base) n)
      clear zero h = refl
      clear (suc n) h = let e = h n (omega arith) in let r = clear n (λ j l. h j (omega arith)) in ap
          (λ (u : Val). Slot (slot n) u (cleared (stored (from w base) n))) e
          ∙ ap (λ (s : Store). Slot (slot n) (cleared_val (v (base + n))) s) r

-- ---- a name more, and one fewer

module _ (v w : ℕ → Val) (base top : ℕ) (cs : List OpenCall) (f : AreFrames v base top cs) (before : (q : ℕ) → q < top →
    w q ≡ v q) (p : IsPresent (w top)) where
  put_case : (j : ℕ) (b : Bool) → nat_eq (base + j) top ≡ b → j < top + 1 - base → IsPresent (w (base + j))
  put_case j true e h = subst (λ q. IsPresent (w q)) (sym (equal (base + j) top e)) p
  put_case j false e h =
      let z : base + j ≢ top = not-equal (base + j) top e in
      subst IsPresent (sym (before (base + j) (omega arith))) (f.present j (omega arith))

  pub opened : AreFrames w base (top + 1) cs
  opened = record {
    order = let o = f.order in omega arith;
    present = λ j h. put_case j (nat_eq (base + j) top) refl h;
    nested = nested-same v w base (top - base) (top + 1 - base) cs f.nested (enough v base (top - base) (top + 1 - base) cs (omega arith) f.nested)
        (λ q h. let o = f.order in sym (before q (omega arith)));
  }

  pub opened-callers : callers_of w base cs ≡ callers_of v base cs
  opened-callers = sym (callers-same v w base (top - base) cs f.nested (λ q h. let o = f.order in sym (before q (omega arith))))

  pub opened-slots : stored (from w base) (top + 1 - base)
      ≡ Slot (slot (size_of (stored (from v base) (top - base)))) (w top) (stored (from v base) (top - base))
  opened-slots =
      let o = f.order in
      let z : top + 1 - base ≡ suc (top - base) = omega arith in
      let y : base + (top - base) ≡ top = omega arith in
      let s = stored-same (from w base) (from v base) (top - base) (λ j l. before (base + j) (omega arith)) in
      let n = size-stored (from v base) (top - base) in
      ap (stored (from w base)) z
      ∙ ap (λ (u : Val). Slot (slot (top - base)) u (stored (from w base) (top - base))) (ap w y)
      ∙ ap (Slot (slot (top - base)) (w top)) s
      ∙ ap (λ n. Slot (slot n) (w top) (stored (from v base) (top - base))) (sym n)

module _ (v w : ℕ → Val) (base top : ℕ) (cs : List OpenCall) (f : AreFrames v base top cs) (own : base < top) (e : IsEnough (top - 1 - base) cs)
    (before : (q : ℕ) → q < top - 1 → w q ≡ v q) where
  pub closed : AreFrames w base (top - 1) cs
  closed = record {
    order = omega arith;
    present = λ j h. subst IsPresent (sym (before (base + j) (omega arith))) (f.present j (omega arith));
    nested = nested-same v w base (top - base) (top - 1 - base) cs f.nested e (λ q h. sym (before q (omega arith)));
  }

  pub closed-callers : callers_of w base cs ≡ callers_of v base cs
  closed-callers = sym (callers-same v w base (top - base) cs f.nested (λ q h. sym (before q (omega arith))))

  pub closed-slots : stored (from v base) (top - base) ≡ Slot (slot (top - 1 - base)) (v (top - 1)) (stored (from w base) (top - 1 - base))
  closed-slots =
      let z : top - base ≡ suc (top - 1 - base) = omega arith in
      let y : base + (top - 1 - base) ≡ top - 1 = omega arith in
      let s = stored-same (from v base) (from w base) (top - 1 - base) (λ j l. sym (before (base + j) (omega arith))) in
      ap (stored (from v base)) z
      ∙ ap (λ (u : Val). Slot (slot (top - 1 - base)) u (stored (from v base) (top - 1 - base))) (ap v y)
      ∙ ap (Slot (slot (top - 1 - base)) (v (top - 1))) s
