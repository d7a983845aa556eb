-- Elements of a list by their index.
use Rattle.std.proofs.Common.{◌≡◌, ℕ, zero, suc, ℤ, pos, negsuc, nat_abs, int_lt, false, replicate, Bor, is_some, IfSome, get_or, ltb, option_copied, sym, ◌∙◌}
use Rattle.std.proofs.Common.{◌<◌, ◌≤◌, List, [], ◌∷◌, length, set, refl, ap, arith}
use Rattle.std.specs.Prelude.{slice_get, Option, Some, None}
use Rattle.std.proofs.lemmas.Bool.{ltb-true, ltb-false}
use Rattle.std.proofs.lemmas.Option.{slice_get_read}
use Rattle.janus_memory.specs.Values.{read_or}
use Rattle.janus_meaning.specs.Fault.{Fault, Fine, Bad, IndexRange}
use Rattle.janus_meaning.specs.Store.{nth, set_nth, element, set_element, zeros}

-- what stands at an index, or past the end
pub nth_is : (l : List ℤ) (n : ℕ) (x : ℤ) → slice_get l n ≡ Some x → nth l n ≡ Fine x
nth_is [] n x h = cc
nth_is (y ∷ l) zero x h = cc
nth_is (y ∷ l) (suc n) x h = nth_is l n x h

pub nth_past : (l : List ℤ) (n : ℕ) → length l ≤ n → nth l n ≡ Bad IndexRange
nth_past [] n h = refl
nth_past (y ∷ l) zero h = absurd (omega (arith, h))
nth_past (y ∷ l) (suc n) h = nth_past l n (omega (arith, h))

pub nth_within : (l : List ℤ) (n : ℕ) (v : ℤ) → nth l n ≡ Fine v → n < length l
nth_within [] n v h = cc
nth_within (x ∷ l) zero v h = omega arith
nth_within (x ∷ l) (suc n) v h = let ih = nth_within l n v h in omega arith

pub set_is : (l : List ℤ) (n : ℕ) (v : ℤ) → set l n v ≡ set_nth l n v
set_is [] n v = refl
set_is (x ∷ l) zero v = refl
set_is (x ∷ l) (suc n) v = ap (λ l. x ∷ l) (set_is l n v)

pub set_length : (l : List ℤ) (n : ℕ) (v : ℤ) → length (set l n v) ≡ length l
set_length [] n v = refl
set_length (x ∷ l) zero v = refl
set_length (x ∷ l) (suc n) v = ap suc (set_length l n v)

-- ---- by an index that may be below 0

pub element_is : (l : List ℤ) (i x : ℤ) → int_lt i (pos 0) ≡ false → slice_get l (nat_abs i) ≡ Some x → element l i ≡ Fine x
element_is l (pos n) x h e = nth_is l n x e
element_is l (negsuc n) x h e = cc

pub element_past : (l : List ℤ) (i : ℤ) → int_lt i (pos 0) ≡ false → length l ≤ nat_abs i → element l i ≡ Bad IndexRange
element_past l (pos n) h e = nth_past l n e
element_past l (negsuc n) h e = refl

pub element_within : (l : List ℤ) (i n : ℤ) → element l i ≡ Fine n → nat_abs i < length l
element_within l (pos k) n h = nth_within l k n h
element_within l (negsuc k) n h = cc

pub element_set : (l : List ℤ) (i n v : ℤ) → element l i ≡ Fine n → set l (nat_abs i) v ≡ set_element l i v
element_set l (pos k) n v h = set_is l k v
element_set l (negsuc k) n v h = cc

-- out of the range nothing is set
set_past : (l : List ℤ) (n : ℕ) (f : Fault) (v : ℤ) → nth l n ≡ Bad f → set_nth l n v ≡ l
set_past [] n f v h = refl
set_past (x ∷ l) zero f v h = absurd cc
set_past (x ∷ l) (suc n) f v h = ap (λ l. x ∷ l) (set_past l n f v h)

pub none_set : (l : List ℤ) (i : ℤ) (f : Fault) (v : ℤ) → element l i ≡ Bad f → set_element l i v ≡ l
none_set l (pos n) f v h = set_past l n f v h
none_set l (negsuc n) f v h = refl

pub none_read : (l : List ℤ) (i : ℤ) (f : Fault) (v : ℤ) (r : Option ℤ) → read_or f r ≡ element l i → is_some r ≡ false → set_element l i v ≡ l
none_read l i f v (Some x) h e = absurd cc
none_read l i f v None h e = none_set l i f v (sym h)

-- what a look-up at an index gives
pub found_is : (l : List ℤ) (i : ℤ) (k : ℕ) (r : Option (Bor ℤ)) → k ≡ nat_abs i → int_lt i (pos 0) ≡ false → is_some r ≡ ltb k (length l) →
    IfSome r (λ x. x.now ≡ get_or l k x.now) → read_or IndexRange (option_copied r) ≡ element l i
found_is l i k (Some x) e h s f =
    let lt : k < length l = ltb-true k (length l) (sym s) in
    let at : slice_get l k ≡ Some x.now = slice_get_read l (length l) k x.now refl lt f in
    sym (element_is l i x.now h (ap (slice_get l) (sym e) ∙ at))
found_is l i k None e h s f =
    let le : length l ≤ k = ltb-false k (length l) (sym s) in
    sym (element_past l i h (omega (arith, e, le)))

-- what is declared
pub zeros_are : (n : ℕ) → replicate n (pos 0) ≡ zeros n
zeros_are zero = refl
zeros_are (suc n) = ap (λ l. pos 0 ∷ l) (zeros_are n)
