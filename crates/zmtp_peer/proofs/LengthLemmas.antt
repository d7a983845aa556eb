-- How many prefixes of each length stand in the table.
use Rattle.std.proofs.Common.{◌≡◌, ℕ, ◌+◌, ◌-◌, ◌<◌, ◌≤◌, arith, Bool, true, false, List, [], ◌∷◌, Option, Some, None, refl, ap, sym, ◌∙◌, cond, unwrap_or}
use Rattle.std.proofs.Common.{IfSome, IfNone, length, take}
use Rattle.std.proofs.lemmas.Bool.{cases_lt}
use mathlib.Core.Logic.{⊎_elim}
use Rattle.std.specs.Map.{lookup, set_value, remove_entry}
use Rattle.std.specs.BTreeMap.{insert_entry}
use Rattle.std.specs.Ordering.{is_eq, match_ordering}
use Rattle.std.specs.declared.cmp.Ordering.{Ordering}
use Rattle.std.specs.declared.cmp.Ordering.TheVariants.{Less, Equal, Greater}
use Rattle.std.specs.Str.{bytes_eq}
use Rattle.std.specs.declared.alloc.Global.{Global}
use Rattle.std.specs.declared.vec.Vec.{Vec}
use Rattle.std.proofs.lemmas.Slice.Eq.{bytes_eq-Decides}
use Rattle.std.proofs.lemmas.List.{length-take-le}
use Rattle.zmtp_peer.specs.Subscriptions.{place_of, count_in}
use Rattle.zmtp_peer.specs.Table.{table_of, is_key, one_at, number_of_length}
use Rattle.zmtp_peer.proofs.TableLemmas.{keys_cmp, found-is}

one_at-same : (n : ℕ) → one_at n n ≡ 1
one_at-same n = grind arith

-- a prefix has no place where none of its length has one
unplaced : (t : List (List ℕ × ℕ)) (q : List ℕ) → number_of_length (length q) t ≡ 0 → place_of t q ≡ None
unplaced [] q none = refl
unplaced (e ∷ t) q none = by_test (bytes_eq q e.0) (λ same. (bytes_eq-Decides q e.0).0 same) (unplaced t q (omega (arith, none)))
  where
    by_test : (b : Bool) → (b ≡ true → q ≡ e.0) → place_of t q ≡ None → cond b (Some e.1) (place_of t q) ≡ None
    by_test true same rest = absurd (omega (arith, none, one_at-same (length q), ap (λ (p : List ℕ). one_at (length p) (length q)) (same refl)))
    by_test false same rest = rest

pub uncounted : (t : List (List ℕ × ℕ)) (q : List ℕ) (found : Option ℕ) → unwrap_or found 0 ≡ number_of_length (length q) t → found ≡ None → count_in t q ≡ 0
uncounted t q found told none = ap (λ o. unwrap_or o 0) (unplaced t q (sym told ∙ ap (λ o. unwrap_or o 0) none))

-- a count that is set leaves the lengths
pub number-set : (p : List ℕ) (w : ℕ) (n : ℕ) (es : List (Vec ℕ Global × ℕ))
    → number_of_length n (table_of (set_value (is_key p) es w)) ≡ number_of_length n (table_of es)
number-set p w n [] = refl
number-set p w n (e ∷ es) = by_test (is_key p e.0) (number-set p w n es)
  where
    by_test : (b : Bool) → number_of_length n (table_of (set_value (is_key p) es w)) ≡ number_of_length n (table_of es) →
        number_of_length n (table_of (cond b ((e.0, w) ∷ es) (e ∷ set_value (is_key p) es w))) ≡ number_of_length n (table_of (e ∷ es))
    by_test true rest = refl
    by_test false rest = ap (λ m. one_at (length e.0.items) n + m) rest

-- a new prefix is one more of its length
pub number-insert : (k : Vec ℕ Global) (w : ℕ) (n : ℕ) (es : List (Vec ℕ Global × ℕ)) → lookup (is_key k.items) es ≡ None
    → number_of_length n (table_of (insert_entry keys_cmp es k w)) ≡ one_at (length k.items) n + number_of_length n (table_of es)
number-insert k w n [] none = refl
number-insert k w n (e ∷ es) none = by_order (keys_cmp k e.0) none (number-insert k w n es)
  where
    by_order : (o : Ordering) → cond (is_eq o) (Some e.1) (lookup (is_key k.items) es) ≡ None
        → (lookup (is_key k.items) es ≡ None → number_of_length n (table_of (insert_entry keys_cmp es k w)) ≡ one_at (length k.items) n + number_of_length n
        (table_of es))
        → number_of_length n (table_of (match_ordering o ((k, w) ∷ e ∷ es) ((e.0, w) ∷ es) (e ∷ insert_entry keys_cmp es k w)))
        ≡ one_at (length k.items) n + number_of_length n (table_of (e ∷ es))
    by_order Less h rest = refl
    by_order Equal h rest = cc
    by_order Greater h rest = omega (arith, rest h)

-- a prefix that has a place is one of its length
number-has : (p : List ℕ) (v : ℕ) (n : ℕ) (es : List (Vec ℕ Global × ℕ)) → lookup (is_key p) es ≡ Some v →
    one_at (length p) n ≤ number_of_length n (table_of es)
number-has p v n [] some = cc
number-has p v n (e ∷ es) some = by_test (is_key p e.0) (λ same. found-is p e.0 same) some (number-has p v n es)
  where
    by_test : (b : Bool) → (b ≡ true → p ≡ e.0.items) → cond b (Some e.1) (lookup (is_key p) es) ≡ Some v
        → (lookup (is_key p) es ≡ Some v → one_at (length p) n ≤ number_of_length n (table_of es))
        → one_at (length p) n ≤ one_at (length e.0.items) n + number_of_length n (table_of es)
    by_test true same h rest = omega (arith, ap (λ (q : List ℕ). one_at (length q) n) (same refl))
    by_test false same h rest = omega (arith, rest h)

-- a prefix that goes is one less
pub number-remove : (p : List ℕ) (v : ℕ) (n : ℕ) (es : List (Vec ℕ Global × ℕ)) → lookup (is_key p) es ≡ Some v
    → number_of_length n (table_of (remove_entry (is_key p) es)) ≡ number_of_length n (table_of es) - one_at (length p) n
number-remove p v n [] some = cc
number-remove p v n (e ∷ es) some = by_test (is_key p e.0) (λ same. found-is p e.0 same) some (number-has p v n es) (number-remove p v n es)
  where
    by_test : (b : Bool) → (b ≡ true → p ≡ e.0.items) → cond b (Some e.1) (lookup (is_key p) es) ≡ Some v
        → (lookup (is_key p) es ≡ Some v → one_at (length p) n ≤ number_of_length n (table_of es))
        → (lookup (is_key p) es ≡ Some v → number_of_length n (table_of (remove_entry (is_key p) es)) ≡ number_of_length n (table_of es) - one_at (length p) n)
        → number_of_length n (table_of (cond b es (e ∷ remove_entry (is_key p) es))) ≡ one_at (length e.0.items) n + number_of_length n (table_of es) - one_at
        (length p) n
    by_test true same h has rest = omega (arith, ap (λ (q : List ℕ). one_at (length q) n) (same refl))
    by_test false same h has rest = omega (arith, rest h, has h)

-- no shorter front is counted, nor one up to a length that no prefix has
pub fronts-uncounted : (t : List (List ℕ × ℕ)) (topic : List ℕ) (least next : ℕ) → next ≤ length topic + 1
    → ((k : ℕ) → k < least → count_in t (take k topic) ≡ 0) → ((q : List ℕ) → least ≤ length q → length q < next → count_in t q ≡ 0)
    → (k : ℕ) → k < next → count_in t (take k topic) ≡ 0
fronts-uncounted t topic least next short before between k h =
    ⊎_elim (λ less. before k less)
    (λ more. let size = length-take-le k topic (omega arith) in between (take k topic) (omega (arith, size)) (omega (arith, size)))
    (cases_lt k least)

-- what holds of a value, and where there is none
pub if_some : (o : Option ℕ) (P Q : ℕ → Type 0) → ((n : ℕ) → P n → Q n) → IfSome o P → IfSome o Q
if_some None P Q more h = tt
if_some (Some n) P Q more h = more n h

pub if_none : (o : Option ℕ) (P Q : Type 0) → (P → Q) → IfNone o P → IfNone o Q
if_none None P Q more h = more h
if_none (Some n) P Q more h = tt
