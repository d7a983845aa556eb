-- Tickets in order: no two share a number, and the numbers rise along the posts of each pass.
use Rattle.std.proofs.Common.{◌≡◌, ℕ, ◌+◌, ◌-◌, ◌<◌, ◌≤◌, ◌==◌, ◌⊎◌, false, List, Contains, get_or, slice_index_or, length, Option, None, Some, IfNone, All}
use Rattle.std.proofs.Common.{refl, ap, sym, subst, ◌∙◌, arith, inl, inr}
use Rattle.std.specs.List.Sorted.{IsPermutation}
use Rattle.std.specs.Ordering.{is_lt, nat_cmp, ordering_then}
use Rattle.std.proofs.lemmas.Bool.{cases_order}
use Rattle.std.proofs.lemmas.Bool.Decides.{nat_tests}
use Rattle.std.proofs.lemmas.List.Sorted.{sum_by-IsPermutation, All-permutation, Contains-permutation, IsPermutation-sym}
use Rattle.std.proofs.lemmas.Option.{slice_get-get_or, get_or_from_slice_get}
use Rattle.kernel_audit.specs.declared.pass.Ticket.{Ticket}
use Rattle.kernel_ask.specs.Minutes.{Entry}
use Rattle.kernel_ask.specs.declared.done.Done.{Done}
use Rattle.kernel_audit.specs.Audit.{tickets_of, IsLater, IsPosted, IsNotPosted, IsNotEnded, IsSwapped, IsUntrue, AreTrue}
use Rattle.kernel_audit.specs.Orders.{IsBefore, AreByLane}
use Rattle.kernel_audit.proofs.Orders.{two_here, far, pairs}

-- how many have a number doesn't depend on their order
pub same_shared : (n : ℕ) (xs ys : List Ticket) → IsPermutation xs ys → tickets_of n ys ≡ tickets_of n xs
same_shared n xs ys p = sum_by-IsPermutation _ xs ys p

-- two neighbours with one number
pub shared_here : (xs : List Ticket) (k n : ℕ) (d : Ticket) → k + 1 < length xs → (get_or xs k d).number ≡ n → (get_or xs (k + 1) d).number ≡ n →
    1 < tickets_of n xs
shared_here xs k n d l a b = two_here (λ (t : Ticket). t.number == n) xs k d l (grind (arith, nat_tests, a)) (grind (arith, nat_tests, b))

-- what stands at a place is the same whatever the default
same_there : (xs : List Ticket) (k : ℕ) (d e : Ticket) → k < length xs → get_or xs k d ≡ get_or xs k e
same_there xs k d e l = get_or_from_slice_get xs k (get_or xs k e) d (slice_get-get_or xs k e l)

pub shared_at : (xs : List Ticket) (k i : ℕ) (d e f : Ticket) → k + 1 ≡ i → i < length xs → (get_or xs k d).number ≡ (get_or xs i e).number →
    1 < tickets_of (get_or xs i f).number xs
shared_at xs k i d e f next l same =
    let number : ℕ = (get_or xs i f).number in
    let here : (get_or xs i e).number ≡ number = ap (λ (t : Ticket). t.number) (same_there xs i e f l) in
    let other : (get_or xs (k + 1) d).number ≡ number =
    ap (λ (j : ℕ). (get_or xs j d).number) next ∙ ap (λ (t : Ticket). t.number) (same_there xs i d f l) in
    shared_here xs k number d (omega (arith, next, l)) (same ∙ here) other

-- sorted by lane and then by number, of which no two are the same
pub by_lane_then : (xs : List Ticket) → ((n : ℕ) → tickets_of n xs ≤ 1) →
    ((k : ℕ) (d : Ticket) → k + 1 < length xs →
    is_lt (ordering_then (nat_cmp (get_or xs (k + 1) d).lane (get_or xs k d).lane) (nat_cmp (get_or xs (k + 1) d).number (get_or xs k d).number)) ≡ false) →
    AreByLane xs
by_lane_then xs one sorted =
    λ k d l.
    let a = get_or xs k d in
    let b = get_or xs (k + 1) d in
    let p = pairs a.lane b.lane a.number b.number (sorted k d l) in
    let other : a.number ≡ b.number → ⊥ = λ same. let two = shared_here xs k b.number d l same refl in let most = one b.number in omega arith in
    (p.0, λ same. let most = p.1 same in below a.number b.number most other)
  where
    below : (m n : ℕ) → m ≤ n → (m ≡ n → ⊥) → m < n
    below m n l other = omega arith

-- an element stands at its place whatever the default
place_of : (xs : List Ticket) (k : ℕ) (t d : Ticket) → k < length xs → slice_index_or xs k t ≡ t → get_or xs k d ≡ t
place_of xs k t d l is = get_or_from_slice_get xs k t d (slice_get-get_or xs k t l ∙ ap (λ (x : Ticket). Some x) is)

-- lanes don't fall, and on a lane numbers rise and posts don't fall
abbrev Ordered : Ticket → Ticket → Type 0
Ordered a b = IsBefore a b × (a.lane ≡ b.lane → a.nth ≤ b.nth)

goes_on : (a b c : Ticket) → Ordered a b → Ordered b c → Ordered a c
goes_on a b c p q =
    let low = p.0.0 in
    let high = q.0.0 in
    let first : a.lane ≡ c.lane → a.lane ≡ b.lane = λ same. omega (arith, low, high, same) in
    let second : a.lane ≡ c.lane → b.lane ≡ c.lane = λ same. omega (arith, low, high, same) in (
      (omega arith, λ same. let x = p.0.1 (first same) in let y = q.0.1 (second same) in omega (arith, x, y)),
      λ same. let x = p.1 (first same) in
          let y = q.1 (second same) in omega (arith, x, y),
    )

pub rising : (xs : List Ticket) → AreByLane xs →
    ((k : ℕ) (d : Ticket) → k + 1 < length xs → (get_or xs k d).lane ≡ (get_or xs (k + 1) d).lane → (get_or xs k d).nth ≤ (get_or xs (k + 1) d).nth) →
    (a b : Ticket) → Contains xs a → Contains xs b → IsLater a b → a.number < b.number
rising xs by_lane nths a b in_a in_b later = by_order (cases_order in_a.0 in_b.0)
  where
    next : (k : ℕ) → k + 1 < length xs → Ordered (get_or xs k a) (get_or xs (k + 1) a)
    next k l = (by_lane k a l, nths k a l)

    at : (k : ℕ) (t : Ticket) → k < length xs → slice_index_or xs k t ≡ t → get_or xs k a ≡ t
    at k t l is = place_of xs k t a l is

    between : (i j : ℕ) → i < j → j < length xs → Ordered (get_or xs i a) (get_or xs j a)
    between i j l m = far Ordered xs a goes_on next i (j - (i + 1)) j (omega arith) m

    by_order : (in_a.0 ≡ in_b.0) ⊎ ((in_a.0 < in_b.0) ⊎ (in_b.0 < in_a.0)) → a.number < b.number
    by_order (inl same) =
        let one : a ≡ b = sym (at in_a.0 a in_a.1 in_a.2) ∙ ap (λ (k : ℕ). get_or xs k a) same ∙ at in_b.0 b in_b.1 in_b.2 in
        let nth = ap (λ (t : Ticket). t.nth) one in
        let more = later.1 in
        absurd (omega arith)
    by_order (inr (inl l)) =
        let o : Ordered a b =
        subst (λ (x : Ticket). Ordered x b) (at in_a.0 a in_a.1 in_a.2)
        (subst (λ (x : Ticket). Ordered (get_or xs in_a.0 a) x) (at in_b.0 b in_b.1 in_b.2) (between in_a.0 in_b.0 l in_b.1)) in
        o.0.1 later.0
    by_order (inr (inr l)) =
        let o : Ordered b a =
        subst (λ (x : Ticket). Ordered x a) (at in_b.0 b in_b.1 in_b.2)
        (subst (λ (x : Ticket). Ordered (get_or xs in_b.0 a) x) (at in_a.0 a in_a.1 in_a.2) (between in_b.0 in_a.0 l in_a.1)) in
        let back = o.1 (sym later.0) in
        let more = later.1 in
        absurd (omega arith)

-- ---- what was told, in another order

pub no_ends : (entries : List Entry) (xs ys : List Done) (n : ℕ) → IsPermutation xs ys → IsNotEnded entries ys n → IsNotEnded entries xs n
no_ends entries xs ys n p h = (h.0, Contains-permutation ys xs h.0 (IsPermutation-sym xs ys p) h.1, h.2, h.3)

pub no_posts : (entries : List Entry) (xs ys : List Ticket) (n : ℕ) → IsPermutation xs ys → IsNotPosted entries ys n → IsUntrue entries xs n
no_posts entries xs ys n p h = inl (h.0, Contains-permutation ys xs h.0 (IsPermutation-sym xs ys p) h.1, h.2, h.3)

pub no_order : (entries : List Entry) (xs ys : List Ticket) (n : ℕ) → IsPermutation xs ys → IsSwapped ys n → IsUntrue entries xs n
no_order entries xs ys n p h =
    let back = IsPermutation-sym xs ys p in
    inr (inr (h.0, h.1, Contains-permutation ys xs h.0 back h.2, Contains-permutation ys xs h.1 back h.3, h.4, h.5, h.6))

pub all_true : (entries : List Entry) (xs ys zs : List Ticket) → IsPermutation xs ys → IsPermutation ys zs → ((n : ℕ) → tickets_of n ys ≤ 1) →
    All (IsPosted entries) ys → ((a b : Ticket) → Contains zs a → Contains zs b → IsLater a b → a.number < b.number) → AreTrue entries xs
all_true entries xs ys zs p q one posted up = record {
  posted = All-permutation (IsPosted entries) ys xs (IsPermutation-sym xs ys p) posted;
  shared = λ n. let same = same_shared n xs ys p in let most = one n in omega (arith, same, most);
  rising =
      λ a b in_a in_b later.
      up a b (Contains-permutation ys zs a q (Contains-permutation xs ys a p in_a)) (Contains-permutation ys zs b q (Contains-permutation xs ys b p in_b))
      later;
}

pub if_none : {X : Type 0} {P Q : Type 0} (r : Option X) → IfNone r P → (P → Q) → IfNone r Q
if_none None h f = f h
if_none (Some x) h f = h
