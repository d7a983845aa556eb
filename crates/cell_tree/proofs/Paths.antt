-- Paths from the root, and where two of them part.
use Rattle.std.proofs.Common.{◌≡◌, ℕ, ◌+◌, ◌-◌, ◌<◌, ◌≤◌, ◌==◌, Bool, false, if◌then◌else◌, List, [], ◌∷◌, ◌++◌, length, get_or, zero, suc, refl, sym, ap, ◌∙◌}
use Rattle.std.proofs.Common.{subst, arith, inl, inr, length-append, append_assoc, eq-eqb}
use Rattle.std.specs.List.{Contains}
use Rattle.std.proofs.lemmas.List.{get_or_append_left, get_or_at}
use Rattle.std.proofs.lemmas.List.Elements.{Contains-append_left, Contains-push, Contains-push_cases}
use Rattle.std.proofs.lemmas.Bool.{cases_eq, cases_lt, cases_order, ne_eqb}
use Rattle.cell_tree.specs.Tree.{parent_in, IsOrdered}
use Rattle.cell_tree.specs.Paths.{path_within, path_of, depth, last_common, meeting_of}
use Rattle.cell_tree.specs.Laws.{Descends, IsNearest, PathGoesOn, PathDescends, MeetingIsNearest}

-- a parent is no larger than its child
pub parent_falls : (parents : List ℕ) (n : ℕ) → IsOrdered parents → n < length parents → parent_in parents n ≤ n
parent_falls parents n g l = elim (cases_eq n 0) [
  | inl at ↦
      (let e : parent_in parents n ≡ 0 = ap (λ (k : ℕ). parent_in parents k) at ∙ g.root in
      omega arith)
  | inr above ↦
      (let low = g.before n (omega (arith, above)) l in
      omega arith)
]

-- ---- paths

-- more steps than needed change nothing
path_enough : (parents : List ℕ) (j k n : ℕ) → IsOrdered parents → n ≤ j → n ≤ k → n < length parents → path_within parents j n ≡ path_within parents k n
path_enough parents j k zero g a b l = refl
path_enough parents zero k (suc n) g a b l = absurd (omega arith)
path_enough parents (suc j) zero (suc n) g a b l = absurd (omega arith)
path_enough parents (suc j) (suc k) (suc n) g a b l =
    let low = g.before (suc n) (omega arith) l in
    ap (λ (path : List ℕ). path ++ suc n ∷ []) (path_enough parents j k (parent_in parents (suc n)) g (omega arith) (omega arith) (omega arith))

goes_on : (parents : List ℕ) (n : ℕ) → IsOrdered parents → 0 < n → n < length parents → path_of parents n ≡ path_of parents (parent_in parents n) ++ n ∷ []
goes_on parents zero g above l = absurd (omega arith)
goes_on parents (suc n) g above l =
    let low = g.before (suc n) above l in
    ap (λ (path : List ℕ). path ++ suc n ∷ [])
    (path_enough parents n (parent_in parents (suc n)) (parent_in parents (suc n)) g (omega arith) (omega arith) (omega arith))

pub path_goes_on : PathGoesOn
path_goes_on parents = (refl, λ n g above l. goes_on parents n g above l)

-- a path as one who goes up it gathers it
pub path_further : (parents : List ℕ) (n : ℕ) (below : List ℕ) → IsOrdered parents → 0 < n → n < length parents →
    path_of parents (parent_in parents n) ++ n ∷ below ≡ path_of parents n ++ below
path_further parents n below g above l =
    sym (append_assoc (path_of parents (parent_in parents n)) (n ∷ []) below)
    ∙ ap (λ (path : List ℕ). path ++ below) (sym (goes_on parents n g above l))

descends_more : (parents path : List ℕ) (n p : ℕ) → 0 < n → parent_in parents n ≡ p → Descends parents p path → Descends parents n (path ++ n ∷ [])
descends_more parents path n p above parent d =
    let size : length (path ++ n ∷ []) ≡ length path + 1 = length-append path (n ∷ []) in
    let some = d.some in
    let end : length (path ++ n ∷ []) - 1 ≡ length path = omega arith in
    record {
      some = omega arith;
      first = get_or_append_left path (n ∷ []) 0 0 some ∙ d.first;
      next = λ i l. elim (cases_lt (i + 1) (length path)) [
        | inl inside ↦
            (let here : get_or (path ++ n ∷ []) (i + 1) 0 ≡ get_or path (i + 1) 0 = get_or_append_left path (n ∷ []) 0 (i + 1) inside in
            let before : get_or (path ++ n ∷ []) i 0 ≡ get_or path i 0 = get_or_append_left path (n ∷ []) 0 i (omega arith) in
            let step = d.next i inside in
            (subst (λ (k : ℕ). 0 < k) (sym here) step.0, ap (λ (k : ℕ). parent_in parents k) here ∙ step.1 ∙ sym before))
        | inr last ↦
            (let at : length path ≡ i + 1 = omega arith in
            let place : length path - 1 ≡ i = omega arith in
            let here : get_or (path ++ n ∷ []) (i + 1) 0 ≡ n = get_or_at path n [] 0 (i + 1) at in
            let before : get_or (path ++ n ∷ []) i 0 ≡ get_or path i 0 = get_or_append_left path (n ∷ []) 0 i (omega arith) in
            let end_of_path : get_or path i 0 ≡ p = ap (λ (k : ℕ). get_or path k 0) (sym place) ∙ d.last in
            (subst (λ (k : ℕ). 0 < k) (sym here) above, ap (λ (k : ℕ). parent_in parents k) here ∙ parent ∙ sym end_of_path ∙ sym before))
      ];
      last = ap (λ (k : ℕ). get_or (path ++ n ∷ []) k 0) end ∙ get_or_at path n [] 0 (length path) refl;
    }

descends : (parents : List ℕ) (s n : ℕ) → n ≤ s → IsOrdered parents → n < length parents → Descends parents n (path_of parents n)
descends parents s zero few g l = record { some = omega arith; first = refl; next = λ i over. absurd (omega arith); last = refl }
descends parents zero (suc n) few g l = absurd (omega arith)
descends parents (suc s) (suc n) few g l =
    let low = g.before (suc n) (omega arith) l in
    subst (λ (path : List ℕ). Descends parents (suc n) path) (sym (goes_on parents (suc n) g (omega arith) l))
    (descends_more parents (path_of parents (parent_in parents (suc n))) (suc n) (parent_in parents (suc n)) (omega arith) refl
    (descends parents s (parent_in parents (suc n)) (omega arith) g (omega arith)))

pub path_descends : PathDescends
path_descends parents n g l = descends parents n n (omega arith) g l

-- ---- how deep a node stands

-- one deeper than its parent
pub depth_more : (parents : List ℕ) (n : ℕ) → IsOrdered parents → 0 < n → n < length parents → depth parents n ≡ depth parents (parent_in parents n) + 1
depth_more parents n g above l =
    let low = g.before n above l in
    let size : length (path_of parents n) ≡ length (path_of parents (parent_in parents n)) + 1 =
    ap length (goes_on parents n g above l) ∙ length-append (path_of parents (parent_in parents n)) (n ∷ []) in
    let some = (path_descends parents (parent_in parents n) g (omega arith)).some in
    omega arith

-- no deeper than its number says
depth_within : (parents : List ℕ) (s n : ℕ) → n ≤ s → IsOrdered parents → n < length parents → depth parents n ≤ n
depth_within parents s zero few g l = omega arith
depth_within parents zero (suc n) few g l = absurd (omega arith)
depth_within parents (suc s) (suc n) few g l =
    let low = g.before (suc n) (omega arith) l in
    let step = depth_more parents (suc n) g (omega arith) l in
    let rest = depth_within parents s (parent_in parents (suc n)) (omega arith) g (omega arith) in
    omega arith

pub depth_few : (parents : List ℕ) (n : ℕ) → IsOrdered parents → n < length parents → depth parents n ≤ n
depth_few parents n g l = depth_within parents n n (omega arith) g l

-- ---- the numbers on a path

-- all of a list are below a number
abbrev Below : ℕ → List ℕ → Type 0
Below a [] = Unit {0}
Below a (x ∷ xs) = (x < a) × Below a xs

below_more : (a : ℕ) (xs : List ℕ) (y : ℕ) → Below a xs → y < a → Below a (xs ++ y ∷ [])
below_more a [] y b l = (l, tt)
below_more a (x ∷ xs) y b l = (b.0, below_more a xs y b.1 l)

path_below : (parents : List ℕ) (steps a n : ℕ) → IsOrdered parents → n < length parents → n < a → Below a (path_within parents steps n)
path_below parents steps a zero g l less = (less, tt)
path_below parents zero a (suc n) g l less = tt
path_below parents (suc steps) a (suc n) g l less =
    let low = g.before (suc n) (omega arith) l in
    below_more a (path_within parents steps (parent_in parents (suc n))) (suc n)
    (path_below parents steps a (parent_in parents (suc n)) g (omega arith) (omega arith)) less

below_at : (a : ℕ) (xs : List ℕ) (k i : ℕ) → Below a xs → i < length xs → get_or xs i k ≡ k → k < a
below_at a [] k i b l e = absurd (omega arith)
below_at a (x ∷ xs) k zero b l e = subst (λ (y : ℕ). y < a) e b.0
below_at a (x ∷ xs) k (suc i) b l e = below_at a xs k i b.1 (omega arith) e

-- ---- where two lists part

larger_is_other : (x y : ℕ) → y < x → (x == y) ≡ false
larger_is_other x y l = ne_eqb x y (λ e. omega arith)

-- a larger node at the end of the first is not in the second
last_common_drop : (both : ℕ) (xs ys : List ℕ) (a : ℕ) → Below a ys → last_common both (xs ++ a ∷ []) ys ≡ last_common both xs ys
last_common_drop both [] [] a b = refl
last_common_drop both [] (y ∷ ys) a b = ap (λ (same : Bool). if same then last_common a [] ys else both) (larger_is_other a y b.0)
last_common_drop both (x ∷ xs) [] a b = refl
last_common_drop both (x ∷ xs) (y ∷ ys) a b = ap (λ (rest : ℕ). if x == y then rest else both) (last_common_drop x xs ys a b.1)

last_common_swap : (both : ℕ) (xs ys : List ℕ) → last_common both xs ys ≡ last_common both ys xs
last_common_swap both [] [] = refl
last_common_swap both [] (y ∷ ys) = refl
last_common_swap both (x ∷ xs) [] = refl
last_common_swap both (x ∷ xs) (y ∷ ys) = elim (cases_eq x y) [
  | inl same ↦
      (subst (λ (z : ℕ). last_common both (x ∷ xs) (z ∷ ys) ≡ last_common both (z ∷ ys) (x ∷ xs)) same
      (ap (λ (rest : ℕ). if x == x then rest else both) (last_common_swap x xs ys)))
  | inr apart ↦
      (ap (λ (test : Bool). if test then last_common x xs ys else both) (ne_eqb x y apart)
      ∙ sym (ap (λ (test : Bool). if test then last_common y ys xs else both) (ne_eqb y x (λ e. apart (sym e)))))
]

last_common_same : (both : ℕ) (xs : List ℕ) (a : ℕ) → last_common both (xs ++ a ∷ []) (xs ++ a ∷ []) ≡ a
last_common_same both [] a = ap (λ (test : Bool). if test then a else both) (eq-eqb a a refl)
last_common_same both (x ∷ xs) a =
    ap (λ (test : Bool). if test then last_common x (xs ++ a ∷ []) (xs ++ a ∷ []) else both) (eq-eqb x x refl) ∙ last_common_same x xs a

-- ---- where two paths part

pub meeting_swap : (parents : List ℕ) (a b : ℕ) → meeting_of parents a b ≡ meeting_of parents b a
meeting_swap parents a b = last_common_swap 0 (path_of parents a) (path_of parents b)

pub meeting_same : (parents : List ℕ) (a : ℕ) → IsOrdered parents → a < length parents → meeting_of parents a a ≡ a
meeting_same parents zero g l = refl
meeting_same parents (suc a) g l =
    subst (λ (path : List ℕ). last_common 0 path path ≡ suc a) (sym (goes_on parents (suc a) g (omega arith) l))
    (last_common_same 0 (path_of parents (parent_in parents (suc a))) (suc a))

-- the larger of two nodes is not on the path to the other: they meet where its parent and the other do
pub meeting_up : (parents : List ℕ) (a b : ℕ) → IsOrdered parents → a < length parents → b < a →
    meeting_of parents (parent_in parents a) b ≡ meeting_of parents a b
meeting_up parents a b g l less =
    sym (last_common_drop 0 (path_of parents (parent_in parents a)) (path_of parents b) a (path_below parents b a b g (omega arith) less))
    ∙ ap (λ (path : List ℕ). last_common 0 path (path_of parents b)) (sym (goes_on parents a g (omega arith) l))

pub meeting_up_second : (parents : List ℕ) (a b : ℕ) → IsOrdered parents → b < length parents → a < b →
    meeting_of parents a (parent_in parents b) ≡ meeting_of parents a b
meeting_up_second parents a b g l less =
    meeting_swap parents a (parent_in parents b) ∙ meeting_up parents b a g l less ∙ meeting_swap parents b a

ends_there : (parents : List ℕ) (n : ℕ) → IsOrdered parents → n < length parents → Contains (path_of parents n) n
ends_there parents zero g l = (0, omega arith, refl)
ends_there parents (suc n) g l =
    subst (λ (path : List ℕ). Contains path (suc n)) (sym (goes_on parents (suc n) g (omega arith) l))
    (Contains-push (path_of parents (parent_in parents (suc n))) (suc n))

nearest_turned : (parents : List ℕ) (a b : ℕ) → IsNearest parents b a (meeting_of parents b a) → IsNearest parents a b (meeting_of parents a b)
nearest_turned parents a b n =
    subst (λ (m : ℕ). IsNearest parents a b m) (meeting_swap parents b a)
    (record { on_first = n.on_second; on_second = n.on_first; nearest = λ k first second. n.nearest k second first })

on_child_path : (parents : List ℕ) (a k : ℕ) → IsOrdered parents → 0 < a → a < length parents → Contains (path_of parents (parent_in parents a)) k →
    Contains (path_of parents a) k
on_child_path parents a k g above l there =
    subst (λ (path : List ℕ). Contains path k) (sym (goes_on parents a g above l))
    (Contains-append_left (path_of parents (parent_in parents a)) (a ∷ []) k there)

nearest_up : (parents : List ℕ) (a b : ℕ) → IsOrdered parents → a < length parents → b < a →
    IsNearest parents (parent_in parents a) b (meeting_of parents (parent_in parents a) b) → IsNearest parents a b (meeting_of parents a b)
nearest_up parents a b g l less n =
    subst (λ (m : ℕ). IsNearest parents a b m) (meeting_up parents a b g l less) (record {
      on_first = on_child_path parents a (meeting_of parents (parent_in parents a) b) g (omega arith) l n.on_first;
      on_second = n.on_second;
      nearest = λ k first second. elim
          (Contains-push_cases (path_of parents (parent_in parents a)) a k
          (subst (λ (path : List ℕ). Contains path k) (goes_on parents a g (omega arith) l) first)) [
            | inl there ↦ n.nearest k there second
            | inr last ↦ absurd (
                let small : k < suc b =
                below_at (suc b) (path_of parents b) k second.0 (path_below parents b (suc b) b g (omega arith) (omega arith)) second.1 second.2 in
                omega arith)
          ];
    })

nearest_same : (parents : List ℕ) (a : ℕ) → IsOrdered parents → a < length parents → IsNearest parents a a (meeting_of parents a a)
nearest_same parents a g l =
    subst (λ (m : ℕ). IsNearest parents a a m) (sym (meeting_same parents a g l))
    (record { on_first = ends_there parents a g l; on_second = ends_there parents a g l; nearest = λ k first second. first })

nearest_within : (parents : List ℕ) (s a b : ℕ) → a + b ≤ s → IsOrdered parents → a < length parents → b < length parents →
    IsNearest parents a b (meeting_of parents a b)
nearest_within parents zero a b few g k l =
    let same : a ≡ b = omega arith in
    subst (λ (c : ℕ). IsNearest parents a c (meeting_of parents a c)) same (nearest_same parents a g k)
nearest_within parents (suc s) a b few g k l = elim (cases_order a b) [
  | inl same ↦ subst (λ (c : ℕ). IsNearest parents a c (meeting_of parents a c)) same (nearest_same parents a g k)
  | inr (inl less) ↦
      (let low = g.before b (omega arith) l in
      nearest_turned parents a b (nearest_up parents b a g l less (nearest_within parents s (parent_in parents b) a (omega arith) g (omega arith) k)))
  | inr (inr less) ↦
      (let low = g.before a (omega arith) k in
      nearest_up parents a b g k less (nearest_within parents s (parent_in parents a) b (omega arith) g (omega arith) l))
]

is_nearest : (parents : List ℕ) (a b : ℕ) → IsOrdered parents → a < length parents → b < length parents → IsNearest parents a b (meeting_of parents a b)
is_nearest parents a b g k l = nearest_within parents (a + b) a b (omega arith) g k l

on_path_below : (parents : List ℕ) (n k : ℕ) → IsOrdered parents → n < length parents → Contains (path_of parents n) k → k < suc n
on_path_below parents n k g l there =
    below_at (suc n) (path_of parents n) k there.0 (path_below parents n (suc n) n g l (omega arith)) there.1 there.2

one_nearest : (parents : List ℕ) (a b m n : ℕ) → IsOrdered parents → a < length parents → IsNearest parents a b m → IsNearest parents a b n → m ≡ n
one_nearest parents a b m n g l p q =
    let m_known = on_path_below parents a m g l p.on_first in
    let n_known = on_path_below parents a n g l q.on_first in
    let m_low = on_path_below parents n m g (omega arith) (q.nearest m p.on_first p.on_second) in
    let n_low = on_path_below parents m n g (omega arith) (p.nearest n q.on_first q.on_second) in
    omega arith

pub meeting_is_nearest : MeetingIsNearest
meeting_is_nearest parents a b m g k l = (
  λ e. subst (λ (n : ℕ). IsNearest parents a b n) (sym e) (is_nearest parents a b g k l),
  λ n. one_nearest parents a b m (meeting_of parents a b) g k n (is_nearest parents a b g k l),
)
