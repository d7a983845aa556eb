-- A name of the outermost frame is followed inwards.
use Rattle.std.proofs.Common.{◌≡◌, ◌≢◌, ℕ, zero, suc, ◌+◌, ◌-◌, ◌<◌, ◌≤◌, Bool, true, false, ◌||◌, nat_eq, List, [], ◌∷◌, ◌++◌, length, map, drop}
use Rattle.std.proofs.Common.{get_or, refl, ap, ◌∙◌, sym, subst, arith, cond}
use Rattle.std.specs.Prelude.{reverse}
use Rattle.std.proofs.lemmas.List.{reverse-append, reverse-reverse}
use Rattle.std.proofs.lemmas.Bool.{ne_eqb}
use Rattle.janus_meaning.specs.Fault.{Fine, or_else}
use Rattle.janus_meaning.specs.Store.{Val, values_in, fill}
use Rattle.janus_meaning.specs.World.{dropped, oldest}
use Rattle.janus_slots.specs.Slots.{slot}
use Rattle.janus_frames.specs.Calls.{slots_of, names_of, returned, given_back}
use Rattle.janus_frames.specs.Cells.{has, AreApart, from, stored, IsPresent}
use Rattle.janus_frames.specs.Inside.{AreNested, AreLent, callers_of}
use Rattle.janus_frames.specs.Shown.{place_in, given, through, outer_count, AreLow}
use Rattle.janus_frames.specs.declared.frames.OpenCall.{OpenCall}
use Rattle.janus_frames.proofs.Among.{equal, has-at, below-at}
use Rattle.janus_frames.proofs.Stored.{fill-all, down}
use Rattle.janus_frames.proofs.Reading.{size-stored}
use Rattle.janus_frames.proofs.Calling.{as-many, down-at, down-length, has-some}

-- ---- the oldest names

dropped-stored : (f : ℕ → Val) (j m n : ℕ) → n ≡ j + m → dropped j (stored f n) ≡ stored f m
dropped-stored f zero m n e = ap (stored f) (omega arith)
dropped-stored f (suc j) m zero e = absurd (omega arith)
dropped-stored f (suc j) m (suc n) e = dropped-stored f j m n (omega arith)

pub oldest-stored : (f : ℕ → Val) (m n : ℕ) → m ≤ n → oldest m (stored f n) ≡ stored f m
oldest-stored f m n h = ap (λ k. dropped (k - m) (stored f n)) (size-stored f n) ∙ dropped-stored f (n - m) m n (omega arith)

values-down : (f : ℕ → Val) (n : ℕ) → values_in (stored f n) ≡ down f n
values-down f zero = refl
values-down f (suc n) = ap (λ l. f n ∷ l) (values-down f n)

-- ---- a number's place among others

place_first : (x : ℕ) (xs : List ℕ) (k : ℕ) (b : Bool) → nat_eq x k ≡ b → b ≡ true → place_in (x ∷ xs) k ≡ 0
place_first x xs k b e h = ap (λ b. cond b 0 (suc (place_in xs k))) (e ∙ h)

place_later : (x : ℕ) (xs : List ℕ) (k : ℕ) → nat_eq x k ≡ false → place_in (x ∷ xs) k ≡ suc (place_in xs k)
place_later x xs k e = ap (λ b. cond b 0 (suc (place_in xs k))) e

same_number : (x : ℕ) → nat_eq x x ≡ true
same_number x = grind (arith)

turned : (p q : ℕ) → nat_eq p q ≡ false → nat_eq q p ≡ false
turned p q h = other_case (nat_eq q p) refl
  where
    other_case : (b : Bool) → nat_eq q p ≡ b → b ≡ false
    other_case true e = let z : p ≡ q = sym (equal q p e) in sym (sym h ∙ ap (nat_eq p) (sym z) ∙ same_number p)
    other_case false e = refl

pub place-at : (xs : List ℕ) (i : ℕ) → AreApart xs → i < length xs → place_in xs (get_or xs i 0) ≡ i
place-at [] i d h = absurd (omega arith)
place-at (x ∷ xs) zero d h = place_first x xs x (nat_eq x x) refl (same_number x)
place-at (x ∷ xs) (suc i) d h =
    place_later x xs (get_or xs i 0) (turned (get_or xs i 0) x (has-at xs i x (omega arith) d.0)) ∙ ap suc (place-at xs i d.1 (omega arith))

place_case : (x : ℕ) (xs : List ℕ) (k : ℕ) (b : Bool) → nat_eq x k ≡ b → (has xs k ≡ true → place_in xs k < length xs) → b || has xs k ≡ true
    → cond b 0 (suc (place_in xs k)) < length (x ∷ xs)
place_case x xs k true e ih h = omega arith
place_case x xs k false e ih h = let r = ih h in omega arith

pub place-low : (xs : List ℕ) (k : ℕ) → has xs k ≡ true → place_in xs k < length xs
place-low [] k h = absurd cc
place-low (x ∷ xs) k h = place_case x xs k (nat_eq x k) refl (place-low xs k) h

-- none of the first i numbers is k
abbrev pub AreMissed : List ℕ → ℕ → ℕ → Type 0
AreMissed [] i k = Unit {0}
AreMissed (x ∷ xs) zero k = Unit {0}
AreMissed (x ∷ xs) (suc i) k = (nat_eq x k ≡ false) × AreMissed xs i k

pub missed-none : (xs : List ℕ) (k : ℕ) → AreMissed xs 0 k
missed-none [] k = tt
missed-none (x ∷ xs) k = tt

not_equal : (x k : ℕ) → x ≢ k → nat_eq x k ≡ false
not_equal x k h = ne_eqb x k h

pub missed-more : (xs : List ℕ) (i j k : ℕ) → j ≡ suc i → i < length xs → AreMissed xs i k → get_or xs i 0 ≢ k → AreMissed xs j k
missed-more [] i j k e h m d = absurd (omega arith)
missed-more (x ∷ xs) zero zero k e h m d = absurd (omega arith)
missed-more (x ∷ xs) zero (suc j) k e h m d = let z : j ≡ 0 = omega arith in (not_equal x k d, subst (λ j. AreMissed xs j k) (sym z) (missed-none xs k))
missed-more (x ∷ xs) (suc i) zero k e h m d = absurd (omega arith)
missed-more (x ∷ xs) (suc i) (suc j) k e h m d = (m.0, missed-more xs i j k (omega arith) (omega arith) m.1 d)

pub missed-all : (xs : List ℕ) (i k : ℕ) → length xs ≤ i → AreMissed xs i k → has xs k ≡ false
missed-all [] i k h m = refl
missed-all (x ∷ xs) zero k h m = absurd (omega arith)
missed-all (x ∷ xs) (suc i) k h m = let z : nat_eq x k ≡ false = m.0 in ap (λ b. b || has xs k) z ∙ missed-all xs i k (omega arith) m.1

-- the first one that is met
pub met-first : (xs : List ℕ) (i k : ℕ) → AreMissed xs i k → i < length xs → get_or xs i 0 ≡ k → (has xs k ≡ true) × (place_in xs k ≡ i)
met-first [] i k m h e = absurd (omega arith)
met-first (x ∷ xs) zero k m h e = let z : nat_eq x k
    ≡ true = subst (λ k. nat_eq x k ≡ true) e (same_number x) in (ap (λ b. b || has xs k) z, place_first x xs k true z refl)
met-first (x ∷ xs) (suc i) k m h e =
    let r = met-first xs i k m.1 (omega arith) e in
    let z : nat_eq x k ≡ false = m.0 in (ap (λ b. b || has xs k) z ∙ r.0, place_later x xs k z ∙ ap suc r.1)

-- ---- one call

given_lent : (f : ℕ → Val) (xs : List ℕ) (g : ℕ → Val) (k : ℕ) → has xs k ≡ true → given f xs g k ≡ f (length xs - (place_in xs k + 1))
given_lent f xs g k h = ap (λ b. cond b (f (length xs - (place_in xs k + 1))) (g k)) h

given_own : (f : ℕ → Val) (xs : List ℕ) (g : ℕ → Val) (k : ℕ) → has xs k ≡ false → given f xs g k ≡ g k
given_own f xs g k h = ap (λ b. cond b (f (length xs - (place_in xs k + 1))) (g k)) h

module _ (v f : ℕ → Val) (b n : ℕ) (c : OpenCall) (many : length (slots_of c.args) ≤ n) (a : AreLent v c.base (b - c.base) (slots_of c.args))
    (p : (k : ℕ) → k < n → IsPresent (f k)) where
  abbrev lent_slots : List ℕ
  lent_slots = slots_of c.args

  abbrev after : ℕ → Val
  after = given f (slots_of c.args) (from v c.base)

  pub given-present : (k : ℕ) → k < b - c.base → IsPresent (given f (slots_of c.args) (from v c.base) k)
  given-present k h = by (has lent_slots k) refl
    where
      by : (e : Bool) → has lent_slots k ≡ e → IsPresent (given f (slots_of c.args) (from v c.base) k)
      by true e = subst IsPresent (sym (given_lent f lent_slots (from v c.base) k e))
          (p (length lent_slots - (place_in lent_slots k + 1)) (let l = place-low lent_slots k e in omega (arith, l, many)))
      by false e = subst IsPresent (sym (given_own f lent_slots (from v c.base) k e)) (a.own k h e)

  given_at : (i : ℕ) → i < length lent_slots → after (get_or lent_slots i 0) ≡ f (length lent_slots - (i + 1))
  given_at i h =
      given_lent f lent_slots (from v c.base) (get_or lent_slots i 0) (has-some lent_slots i h)
      ∙ ap (λ j. f (length lent_slots - (j + 1))) (place-at lent_slots i a.apart h)

  pub returned-is : returned (record { args = names_of c.args; store = stored (from v c.base) (b - c.base) }) (stored f n)
      ≡ stored (given f (slots_of c.args) (from v c.base)) (b - c.base)
  returned-is =
      let s = stored (from v c.base) (b - c.base) in
      let m = as-many lent_slots in
      let filled : fill (map slot lent_slots) (down f (length lent_slots)) s ≡ Fine (stored after (b - c.base)) =
      fill-all (from v c.base) after (b - c.base) lent_slots (down f (length lent_slots)) a.apart a.below (down-length f (length lent_slots))
      (λ i h. (
        a.lent (get_or lent_slots i 0) (below-at (b - c.base) lent_slots i a.below h) (has-some lent_slots i h),
        given-present (get_or lent_slots i 0) (below-at (b - c.base) lent_slots i a.below h),
        down-at f (length lent_slots) i h ∙ sym (given_at i h),
      ))
      (λ k h e. given_own f lent_slots (from v c.base) k e) in
      ap (λ k. or_else (fill (map slot lent_slots) (values_in (oldest k (stored f n))) s) s) m
      ∙ ap (λ t. or_else (fill (map slot lent_slots) (values_in t) s) s) (oldest-stored f (length lent_slots) n many)
      ∙ ap (λ l. or_else (fill (map slot lent_slots) l s) s) (values-down f (length lent_slots))
      ∙ ap (λ r. or_else r s) filled

-- ---- all calls

pub given-back-is : (v f : ℕ → Val) (b n : ℕ) (cs : List OpenCall) → AreNested v b n cs → ((k : ℕ) → k < n → IsPresent (f k))
    → given_back (stored f n) (callers_of v b cs) ≡ stored (through v f cs) (outer_count n b cs)
given-back-is v f b n [] h p = refl
given-back-is v f b n (c ∷ cs) h p =
    ap (λ s. given_back s (callers_of v c.base cs)) (returned-is v f b n c h.1 h.2 p)
    ∙ given-back-is v (given f (slots_of c.args) (from v c.base)) c.base (b - c.base) cs h.3 (given-present v f b n c h.1 h.2 p)

pub through-present : (v f : ℕ → Val) (b n : ℕ) (cs : List OpenCall) → AreNested v b n cs → ((k : ℕ) → k < n → IsPresent (f k))
    → (k : ℕ) → k < outer_count n b cs → IsPresent (through v f cs k)
through-present v f b n [] h p = p
through-present v f b n (c ∷ cs) h p =
    through-present v (given f (slots_of c.args) (from v c.base)) c.base (b - c.base) cs h.3 (given-present v f b n c h.1 h.2 p)

pub outer-low : (v : ℕ → Val) (b n : ℕ) (cs : List OpenCall) → AreNested v b n cs → outer_count n b cs ≤ b + n
outer-low v b n [] h = omega arith
outer-low v b n (c ∷ cs) h = let r = outer-low v c.base (b - c.base) cs h.3 in let low = h.0 in omega (arith, r, low)

-- ---- from the outermost call inwards

pub through-last : (v f : ℕ → Val) (cs : List OpenCall) (c : OpenCall) (k : ℕ)
    → through v f (cs ++ c ∷ []) k ≡ given (through v f cs) (slots_of c.args) (from v c.base) k
through-last v f [] c k = refl
through-last v f (d ∷ cs) c k = through-last v (given f (slots_of d.args) (from v d.base)) cs c k

reverse-first : (c : OpenCall) (cs : List OpenCall) → reverse (c ∷ cs) ≡ reverse cs ++ c ∷ []
reverse-first c cs = reverse-append (c ∷ []) cs

-- the first of the calls that are left has lent the name
pub followed : (v f : ℕ → Val) (c : OpenCall) (cs : List OpenCall) (k : ℕ) → has (slots_of c.args) k ≡ true
    → through v f (reverse (c ∷ cs)) k ≡ through v f (reverse cs) (length (slots_of c.args) - (place_in (slots_of c.args) k + 1))
followed v f c cs k h =
    ap (λ l. through v f l k) (reverse-first c cs) ∙ through-last v f (reverse cs) c k
    ∙ given_lent (through v f (reverse cs)) (slots_of c.args) (from v c.base) k h

-- or it has not
pub stopped : (v f : ℕ → Val) (c : OpenCall) (cs : List OpenCall) (k : ℕ) → has (slots_of c.args) k ≡ false
    → through v f (reverse (c ∷ cs)) k ≡ v (c.base + k)
stopped v f c cs k h =
    ap (λ l. through v f l k) (reverse-first c cs) ∙ through-last v f (reverse cs) c k
    ∙ given_own (through v f (reverse cs)) (slots_of c.args) (from v c.base) k h

-- ---- where the frames begin

low-append : (m : ℕ) (xs ys : List OpenCall) → AreLow m xs → AreLow m ys → AreLow m (xs ++ ys)
low-append m [] ys a b = b
low-append m (x ∷ xs) ys a b = (a.0, low-append m xs ys a.1 b)

low-reverse : (m : ℕ) (xs : List OpenCall) → AreLow m xs → AreLow m (reverse xs)
low-reverse m [] a = tt
low-reverse m (x ∷ xs) a = subst (AreLow m) (sym (reverse-first x xs)) (low-append m (reverse xs) (x ∷ []) (low-reverse m xs a.1) (a.0, tt))

low-nested : (v : ℕ → Val) (b n m : ℕ) (cs : List OpenCall) → AreNested v b n cs → b < m → AreLow m cs
low-nested v b n m [] h l = tt
low-nested v b n m (c ∷ cs) h l = let low = h.0 in (omega (arith, low, l), low-nested v c.base (b - c.base) m cs h.3 (omega (arith, low, l)))

pub calls-low : (v : ℕ → Val) (b n m : ℕ) (os : List OpenCall) → AreNested v b n (reverse os) → b < m → AreLow m os
calls-low v b n m os h l = subst (AreLow m) (reverse-reverse os) (low-reverse m (reverse os) (low-nested v b n m (reverse os) h l))

pub low-at : (m : ℕ) (os : List OpenCall) (i : ℕ) (d : OpenCall) → AreLow m os → i < length os → (get_or os i d).base < m
low-at m [] i d a h = absurd (omega arith)
low-at m (c ∷ os) zero d a h = a.0
low-at m (c ∷ os) (suc i) d a h = low-at m os i d a.1 (omega arith)

-- ---- the calls that are left

pub drop-next : (os : List OpenCall) (i j : ℕ) (c : OpenCall) → j ≡ suc i → i < length os → c ≡ get_or os i c → drop i os ≡ c ∷ drop j os
drop-next [] i j c e h f = absurd (omega arith)
drop-next (o ∷ os) zero zero c e h f = absurd (omega arith)
drop-next (o ∷ os) zero (suc j) c e h f =
    let z : j ≡ 0 = omega arith in ap (λ o. o ∷ os) (sym f) ∙ ap (λ j. c ∷ drop j os) (sym z)
drop-next (o ∷ os) (suc i) zero c e h f = absurd (omega arith)
drop-next (o ∷ os) (suc i) (suc j) c e h f = drop-next os i j c (omega arith) (omega arith) f

pub drop-all : (os : List OpenCall) (i : ℕ) → length os ≤ i → drop i os ≡ []
drop-all [] zero h = refl
drop-all [] (suc i) h = refl
drop-all (o ∷ os) zero h = absurd (omega arith)
drop-all (o ∷ os) (suc i) h = drop-all os i (omega arith)
