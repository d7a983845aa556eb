-- The stacks of the pool: what a push and a pop leave.
use Rattle.std.proofs.Common.{◌≡◌, ◌≢◌, nat_eq, length-append, ⊎_elim, ℕ, zero, suc, ◌+◌, ◌<◌, ◌≤◌, ℤ, List, [], ◌∷◌, ◌++◌, length, set}
use Rattle.std.proofs.Common.{refl, ap, ◌∙◌, arith, get_or-set_other}
use Rattle.std.specs.Global.{Vec}
use Rattle.std.proofs.lemmas.List.{length-set}
use Rattle.std.proofs.lemmas.Bool.{cases_lt}
use Rattle.cell_pool.specs.Chains.{one_if, times}
use Rattle.cell_pool.specs.Stacks.{Stacks as Pool, pushed}
use Rattle.cell_pool.proofs.Chains.{differ, nowhere, once_here}
use Rattle.janus_meaning.specs.Limit.{live_stack_limit, value_limit}
use Rattle.janus_memory.specs.Lists.{list_of}
use Rattle.janus_memory.specs.Stacks.{total, AreEmpty, AreReady}

pub empty_parts : (ls : List (List ℤ)) (is : List ℕ) (i : ℕ) → AreEmpty ls (is ++ i ∷ []) → AreEmpty ls is × (list_of ls i ≡ [])
empty_parts ls [] i h = (tt, h.0)
empty_parts ls (j ∷ is) i h = let r = empty_parts ls is i h.1 in ((h.0, r.0), r.1)

pub empty_more : (ls : List (List ℤ)) (is : List ℕ) (i : ℕ) → AreEmpty ls is → list_of ls i ≡ [] → AreEmpty ls (is ++ i ∷ [])
empty_more ls [] i h e = (e, tt)
empty_more ls (j ∷ is) i h e = (h.0, empty_more ls is i h.1 e)

-- another list, of a number that is not among these
pub empty_set : (ls : List (List ℤ)) (is : List ℕ) (i : ℕ) (l : List ℤ) → times i is ≡ 0 → AreEmpty ls is → AreEmpty (set ls i l) is
empty_set ls [] i l z h = tt
empty_set ls (j ∷ is) i l z h =
    let ne : j ≢ i = differ i j (omega (arith, z)) in
    (get_or-set_other ls i j l [] ne ∙ h.0, empty_set ls is i l (omega (arith, z)) h.1)

pub total_set : (ls : List (List ℤ)) (i : ℕ) (l : List ℤ) → i < length ls → total (set ls i l) + length (list_of ls i) ≡ total ls + length l
total_set [] i l h = absurd (omega arith)
total_set (k ∷ ls) zero l h = omega arith
total_set (k ∷ ls) (suc i) l h = let ih = total_set ls i l (omega arith) in omega (arith, ih)

module _ (pool : Pool) (spare : Vec ℕ) (h : AreReady pool spare) (i : ℕ) (lt : i < live_stack_limit) where
  within : i < length pool.lists
  within = omega (arith, lt, h.all)

  pub pushed_more : (x : ℤ) → total (pushed pool i x).lists ≡ suc (total pool.lists)
  pushed_more x = let a = total_set pool.lists i (x ∷ list_of pool.lists i) within in omega (arith, a)

  pub popped_fewer : (x : ℤ) (r : List ℤ) → list_of pool.lists i ≡ x ∷ r → total pool.lists ≡ suc (total (set pool.lists i r))
  popped_fewer x r e = let a = total_set pool.lists i r within in let n = ap length e in omega (arith, a, n)

  pub pushed_ready : (x : ℤ) → total pool.lists < value_limit → times i spare.items ≡ 0 → AreReady (pushed pool i x) spare
  pushed_ready x r z = record {
    all = length-set pool.lists i (x ∷ list_of pool.lists i) ∙ h.all;
    cells = let a = pushed_more x in omega (arith, a, h.cells, r);
    empty = empty_set pool.lists spare.items i (x ∷ list_of pool.lists i) z h.empty;
    few = h.few;
    room = h.room;
  }

  pub popped_ready : (x : ℤ) (r : List ℤ) → list_of pool.lists i ≡ x ∷ r → times i spare.items ≡ 0 →
      AreReady (record { lists = set pool.lists i r; free = pool.free + 1; room = pool.room }) spare
  popped_ready x r e z = record {
    all = length-set pool.lists i r ∙ h.all;
    cells = let a = popped_fewer x r e in omega (arith, a, h.cells);
    empty = empty_set pool.lists spare.items i r z h.empty;
    few = h.few;
    room = h.room;
  }

-- ---- no stack has a value

abbrev pub AreBare : List (List ℤ) → Type 0
AreBare ls = (j : ℕ) → list_of ls j ≡ []

bare_rest : (l : List ℤ) (ls : List (List ℤ)) → AreBare (l ∷ ls) → AreBare ls
bare_rest l ls h = λ j. h (suc j)

pub bare_more : (ls : List (List ℤ)) → AreBare ls → AreBare (ls ++ [] ∷ [])
bare_more [] h = one
  where
    one : (j : ℕ) → list_of ([] ∷ []) j ≡ []
    one zero = refl
    one (suc j) = refl
bare_more (l ∷ ls) h = by (bare_more ls (bare_rest l ls h))
  where
    by : AreBare (ls ++ [] ∷ []) → (j : ℕ) → list_of (l ∷ (ls ++ [] ∷ [])) j ≡ []
    by r zero = h 0
    by r (suc j) = r j

pub bare_total : (ls : List (List ℤ)) → AreBare ls → total ls ≡ 0
bare_total [] h = refl
bare_total (l ∷ ls) h = let ih = bare_total ls (bare_rest l ls h) in let e : length l ≡ 0 = ap length (h 0) in omega (arith, ih, e)

pub bare_empty : (ls : List (List ℤ)) (is : List ℕ) → AreBare ls → AreEmpty ls is
bare_empty ls [] h = tt
bare_empty ls (i ∷ is) h = (h i, bare_empty ls is h)

-- the numbers below i, each once
pub record AreBelow (is : List ℕ) (i : ℕ) : Type 0 where
  pub long : length is ≡ i
  pub each : (k : ℕ) → k < i → times k is ≡ 1
  pub past : (k : ℕ) → i ≤ k → times k is ≡ 0

pub times_more : (k : ℕ) (is : List ℕ) (i : ℕ) → times k (is ++ i ∷ []) ≡ times k is + one_if (nat_eq k i)
times_more k [] i = omega arith
times_more k (j ∷ is) i = let ih = times_more k is i in omega (arith, ih)

pub below_more : (is : List ℕ) (i : ℕ) → AreBelow is i → AreBelow (is ++ i ∷ []) (i + 1)
below_more is i h = record {
  long = omega (arith, h.long, length-append is (i ∷ []));
  each = λ k l.
      let a = times_more k is i in
      ⊎_elim
      (λ (lt : k < i). let z = nowhere k i (λ e. omega (arith, e, lt)) in let o = h.each k lt in omega (arith, a, z, o))
      (λ (le : i ≤ k). let z = h.past k le in let e : i ≡ k = omega (arith, le, l) in
      let o : one_if (nat_eq k i) ≡ 1 = ap (λ i. one_if (nat_eq k i)) e ∙ once_here k in omega (arith, a, z, o))
      (cases_lt k i);
  past = λ k le.
      let a = times_more k is i in
      let z = nowhere k i (λ e. omega (arith, e, le)) in
      let o = h.past k (omega (arith, le)) in
      omega (arith, a, z, o);
}
