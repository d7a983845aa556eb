-- Stores of slots under the texts of declared names.
use Rattle.std.proofs.Common.{◌≡◌, ℕ, zero, suc, ◌<◌, Bool, true, false, List, [], ◌∷◌, ◌++◌, length, refl, ap, ◌∙◌, sym, subst, arith}
use Rattle.std.proofs.Common.{⊎_elim, ◌⊎◌, inl, inr, length-append}
use Rattle.std.specs.Prelude.{slice_get, reverse, Some, None}
use Rattle.std.proofs.lemmas.List.{reverse-append, reverse-reverse, length-reverse}
use Rattle.std.proofs.lemmas.Option.{slice_get_past}
use Rattle.janus_meaning.specs.Fault.{Res, Bad, Broken}
use Rattle.janus_meaning.specs.Syntax.{Name}
use Rattle.janus_meaning.specs.Store.{Val, Store, Bare, Slot, look, look_at, read_slot, same_name}
use Rattle.janus_meaning.specs.World.{size_of, listed}
use Rattle.janus_meaning.proofs.Stores.{same_name_self, same_name_true}
use Rattle.janus_slots.specs.Numbers.{IsNumbered, IsUnmet, HaveOneNumber, Adds}
use Rattle.janus_slots.specs.Slots.{slot, names_in, in_slots, under_names}
use Rattle.janus_frames.specs.Cells.{stored}

-- ---- the last of a list

pub last_or_before : {X : Type 0} (ws : List X) (y r : X) (n : ℕ) → slice_get (ws ++ y ∷ []) n ≡ Some r → (slice_get ws n ≡ Some r) ⊎
    ((n ≡ length ws) × (y ≡ r))
last_or_before [] y r zero e = inr (refl, cc)
last_or_before [] y r (suc n) e = cc
last_or_before (x ∷ ws) y r zero e = inl e
last_or_before (x ∷ ws) y r (suc n) e =
    ⊎_elim
    (λ (g : slice_get ws n ≡ Some r). inl g)
    (λ (g : (n ≡ length ws) × (y ≡ r)). inr (ap suc g.0, g.1))
    (last_or_before ws y r n e)

pub still : {X : Type 0} (ws : List X) (y r : X) (n : ℕ) → slice_get ws n ≡ Some r → slice_get (ws ++ y ∷ []) n ≡ Some r
still [] y r n e = let bad : None ≡ Some r = sym (slice_get_past [] n (omega arith)) ∙ e in cc
still (x ∷ ws) y r zero e = e
still (x ∷ ws) y r (suc n) e = still ws y r n e

pub last : {X : Type 0} (ws : List X) (y : X) (n : ℕ) → n ≡ length ws → slice_get (ws ++ y ∷ []) n ≡ Some y
last [] y n e = ap (slice_get (y ∷ [])) e
last (x ∷ ws) y zero e = absurd (omega arith)
last (x ∷ ws) y (suc n) e = last ws y n (omega arith)

-- ---- names that are told, the newest first: the texts are these in reverse

reverse-first : (y : Name) (ys : List Name) → reverse (y ∷ ys) ≡ reverse ys ++ y ∷ []
reverse-first y ys = reverse-append (y ∷ []) ys

told_case : (y : Name) (ys : List Name) (i : ℕ) (x : Name) → IsNumbered (reverse (y ∷ ys)) i x → (IsNumbered (reverse ys) i x) ⊎ ((i ≡ length ys) × (y ≡ x))
told_case y ys i x h =
    ⊎_elim
    (λ (g : slice_get (reverse ys) i ≡ Some x). inl g)
    (λ (g : (i ≡ length (reverse ys)) × (y ≡ x)). inr (g.0 ∙ length-reverse ys, g.1))
    (last_or_before (reverse ys) y x i (ap (λ l. slice_get l i) (sym (reverse-first y ys)) ∙ h))

told_before : (y : Name) (ys : List Name) (i : ℕ) (x : Name) → IsNumbered (reverse ys) i x → IsNumbered (reverse (y ∷ ys)) i x
told_before y ys i x h = ap (λ l. slice_get l i) (reverse-first y ys) ∙ still (reverse ys) y x i h

told_last : (y : Name) (ys : List Name) → IsNumbered (reverse (y ∷ ys)) (length ys) y
told_last y ys = ap (λ l. slice_get l (length ys)) (reverse-first y ys) ∙ last (reverse ys) y (length ys) (sym (length-reverse ys))

one_before : (y : Name) (ys : List Name) → HaveOneNumber (reverse (y ∷ ys)) → HaveOneNumber (reverse ys)
one_before y ys h = λ j k x e f. h j k x (told_before y ys j x e) (told_before y ys k x f)

-- ---- sizes, names and slots

pub under-size : (xs : List Name) (g : ℕ → Val) (n : ℕ) → length xs ≡ n → size_of (under_names xs (stored g n)) ≡ n
under-size [] g n e = e
under-size (x ∷ xs) g zero e = absurd (omega arith)
under-size (x ∷ xs) g (suc n) e = ap suc (under-size xs g n (omega arith))

pub under-names : (xs : List Name) (g : ℕ → Val) (n : ℕ) → length xs ≡ n → names_in (under_names xs (stored g n)) ≡ xs
under-names [] g n e = refl
under-names (x ∷ xs) g zero e = absurd (omega arith)
under-names (x ∷ xs) g (suc n) e = ap (λ l. x ∷ l) (under-names xs g n (omega arith))

pub under-slots : (xs : List Name) (g : ℕ → Val) (n : ℕ) → length xs ≡ n → in_slots (under_names xs (stored g n)) ≡ stored g n
under-slots [] g zero e = refl
under-slots [] g (suc n) e = absurd (omega arith)
under-slots (x ∷ xs) g zero e = absurd (omega arith)
under-slots (x ∷ xs) g (suc n) e =
    let z : length xs ≡ n = omega arith in
    let m : length (names_in (under_names xs (stored g n))) ≡ n = ap length (under-names xs g n z) ∙ z in
    ap (λ m. Slot (slot m) (g n) (in_slots (under_names xs (stored g n)))) m ∙ ap (λ s. Slot (slot n) (g n) s) (under-slots xs g n z)

stored_names : (g : ℕ → Val) (n : ℕ) → length (names_in (stored g n)) ≡ n
stored_names g zero = refl
stored_names g (suc n) = ap suc (stored_names g n)

pub stored-slots : (g : ℕ → Val) (n : ℕ) → in_slots (stored g n) ≡ stored g n
stored-slots g zero = refl
stored-slots g (suc n) = ap (λ m. Slot (slot m) (g n) (in_slots (stored g n))) (stored_names g n) ∙ ap (λ s. Slot (slot n) (g n) s) (stored-slots g n)

-- ---- values

look_case : (x y : Name) (ys : List Name) (g : ℕ → Val) (n i : ℕ) (b : Bool) → same_name x y ≡ b → length ys ≡ n → HaveOneNumber (reverse (y ∷ ys))
    → IsNumbered (reverse (y ∷ ys)) i x → (IsNumbered (reverse ys) i x → look x (under_names ys (stored g n)) ≡ read_slot (g i))
    → look_at b (g n) (look x (under_names ys (stored g n))) ≡ read_slot (g i)
look_case x y ys g n i true e l one h ih =
    let same : x ≡ y = same_name_true x y e in
    let at : IsNumbered (reverse (y ∷ ys)) (length ys) x = subst (IsNumbered (reverse (y ∷ ys)) (length ys)) (sym same) (told_last y ys) in
    let z = one i (length ys) x h at in
    ap (λ j. read_slot (g j)) (sym l ∙ sym z)
look_case x y ys g n i false e l one h ih =
    ⊎_elim
    (λ (k : IsNumbered (reverse ys) i x). ih k)
    (λ (k : (i ≡ length ys) × (y ≡ x)). absurd (let bad : true ≡ false = sym (subst (λ z. same_name x z ≡ true) (sym k.1) (same_name_self x)) ∙ e in cc))
    (told_case y ys i x h)

look_told : (xs : List Name) (g : ℕ → Val) (n i : ℕ) (x : Name) → length xs ≡ n → HaveOneNumber (reverse xs) → IsNumbered (reverse xs) i x
    → look x (under_names xs (stored g n)) ≡ read_slot (g i)
look_told [] g n i x l one h = let bad : None ≡ Some x = sym (slice_get_past [] i (omega arith)) ∙ h in cc
look_told (y ∷ ys) g zero i x l one h = absurd (omega arith)
look_told (y ∷ ys) g (suc n) i x l one h =
    look_case x y ys g n i (same_name x y) refl (omega arith) one h (look_told ys g n i x (omega arith) (one_before y ys one))

none_case : (x y : Name) (ys : List Name) (v : Val) (r : Res Val) (b : Bool) → same_name x y ≡ b → IsUnmet (reverse (y ∷ ys)) x → r ≡ Bad Broken →
    look_at b v r ≡ Bad Broken
none_case x y ys v r true e u h = absurd (u (length ys) (subst (IsNumbered (reverse (y ∷ ys)) (length ys)) (sym (same_name_true x y e)) (told_last y ys)))
none_case x y ys v r false e u h = h

look_untold : (xs : List Name) (g : ℕ → Val) (n : ℕ) (x : Name) → length xs ≡ n → IsUnmet (reverse xs) x → look x (under_names xs (stored g n)) ≡ Bad Broken
look_untold [] g n x l u = refl
look_untold (y ∷ ys) g zero x l u = absurd (omega arith)
look_untold (y ∷ ys) g (suc n) x l u =
    none_case x y ys (g n) (look x (under_names ys (stored g n))) (same_name x y) refl u
    (look_untold ys g n x (omega arith) (λ k h. u k (told_before y ys k x h)))

-- ---- what is listed

pub listed-long : (s : Store) → length (listed s) ≡ size_of s
listed-long Bare = refl
listed-long (Slot x v s) = let e = listed-long s in omega (arith, e, length-append (listed s) ((x, v) ∷ []))

list_told : (xs : List Name) (g : ℕ → Val) (n i : ℕ) (x : Name) → length xs ≡ n → IsNumbered (reverse xs) i x
    → slice_get (listed (under_names xs (stored g n))) i ≡ Some (x, g i)
list_told [] g n i x l h = let bad : None ≡ Some x = sym (slice_get_past [] i (omega arith)) ∙ h in cc
list_told (y ∷ ys) g zero i x l h = absurd (omega arith)
list_told (y ∷ ys) g (suc n) i x l h =
    let s = under_names ys (stored g n) in
    let m : i ≡ length ys → i ≡ length (listed s) = λ e. omega (arith, e, listed-long s, under-size ys g n (omega arith)) in
    ⊎_elim
    (λ (k : IsNumbered (reverse ys) i x). still (listed s) (y, g n) (x, g i) i (list_told ys g n i x (omega arith) k))
    (λ (k : (i ≡ length ys) × (y ≡ x)).
    let z : n ≡ i = omega (arith, k.0) in
    last (listed s) (y, g n) i (m k.0) ∙ ap (λ y. Some (y, g n)) k.1 ∙ ap (λ j. Some (x, g j)) z)
    (told_case y ys i x h)

pub listed-at : (g : ℕ → Val) (n i : ℕ) → i < n → slice_get (listed (stored g n)) i ≡ Some (slot i, g i)
listed-at g zero i h = absurd (omega arith)
listed-at g (suc n) i h = ⊎_elim
    (λ (e : i ≡ n). last (listed (stored g n)) (slot n, g n) i (e ∙ sym (listed-long (stored g n) ∙ sizes n)) ∙ ap (λ j. Some (slot j, g j)) (sym e))
    (λ (l : i < n). still (listed (stored g n)) (slot n, g n) (slot i, g i) i (listed-at g n i l))
    (last_one i n h)
  where
    sizes : (n : ℕ) → size_of (stored g n) ≡ n
    sizes zero = refl
    sizes (suc n) = ap suc (sizes n)

    last_one : (i n : ℕ) → i < suc n → (i ≡ n) ⊎ (i < n)
    last_one zero zero h = inl refl
    last_one zero (suc n) h = inr (omega arith)
    last_one (suc i) zero h = absurd (omega arith)
    last_one (suc i) (suc n) h = ⊎_elim (λ (e : i ≡ n). inl (ap suc e)) (λ (l : i < n). inr (omega arith)) (last_one i n (omega arith))

-- ---- by the texts, the oldest first

module _ (ts : List Name) (g : ℕ → Val) (n : ℕ) (many : length ts ≡ n) where
  long : length (reverse ts) ≡ n
  long = length-reverse ts ∙ many

  told : (i : ℕ) (x : Name) → IsNumbered ts i x → IsNumbered (reverse (reverse ts)) i x
  told i x h = ap (λ l. slice_get l i) (reverse-reverse ts) ∙ h

  pub shown-look : (i : ℕ) (x : Name) → HaveOneNumber ts → IsNumbered ts i x → look x (under_names (reverse ts) (stored g n)) ≡ read_slot (g i)
  shown-look i x one h = look_told (reverse ts) g n i x long (subst HaveOneNumber (sym (reverse-reverse ts)) one) (told i x h)

  pub shown-none : (x : Name) → IsUnmet ts x → look x (under_names (reverse ts) (stored g n)) ≡ Bad Broken
  shown-none x u = look_untold (reverse ts) g n x long (subst (λ l. IsUnmet l x) (sym (reverse-reverse ts)) u)

  pub shown-listed : (i : ℕ) (x : Name) → IsNumbered ts i x → slice_get (listed (under_names (reverse ts) (stored g n))) i ≡ Some (x, g i)
  shown-listed i x h = list_told (reverse ts) g n i x long (told i x h)

  pub shown-size : size_of (under_names (reverse ts) (stored g n)) ≡ n
  shown-size = under-size (reverse ts) g n long

  pub shown-names : names_in (under_names (reverse ts) (stored g n)) ≡ reverse ts
  shown-names = under-names (reverse ts) g n long

  pub shown-slots : in_slots (under_names (reverse ts) (stored g n)) ≡ stored g n
  shown-slots = under-slots (reverse ts) g n long

-- ---- a text more

-- a text that is new stands behind the others
pub added-last : (ls ms : List Name) (k : ℕ) (x : Name) → IsUnmet ls x → IsNumbered ms k x → Adds ls ms k x → ms ≡ ls ++ x ∷ []
added-last ls ms k x new named adds =
    ⊎_elim
    (λ (e : ms ≡ ls). absurd (new k (ap (λ l. slice_get l k) (sym e) ∙ named)))
    (λ (e : (k ≡ length ls) × (ms ≡ ls ++ x ∷ [])). e.1)
    adds
