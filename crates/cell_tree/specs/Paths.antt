-- The path to a node, where two paths meet, and the way from one node to another. They speak of the list of the parents of all nodes,
-- `downward` of that of their favourites.
use Rattle.std.specs.Prelude.{◌≡◌, ℕ, ◌-◌, ◌≤◌, ◌==◌, List, [], ◌∷◌, ◌++◌, zero, suc, length, slice_index, if◌then◌else◌}
use Rattle.cell_tree.specs.Tree.{parent_in}

-- The path to a node that is at most `steps` steps below the root: the root's is the root alone, another node's is that of its parent and
-- then the node.
abbrev pub path_within : List ℕ → ℕ → ℕ → List ℕ
path_within parents steps zero = 0 ∷ []
path_within parents zero (suc n) = []
path_within parents (suc steps) (suc n) = path_within parents steps (parent_in parents (suc n)) ++ suc n ∷ []

-- the nodes from the root to n: since parents stand before their children, there are at most n steps
abbrev pub path_of : List ℕ → ℕ → List ℕ
path_of parents n = path_within parents n n

-- how many nodes stand above n
abbrev pub depth : List ℕ → ℕ → ℕ
depth parents n = length (path_of parents n) - 1

-- the last node up to which two paths are the same, behind a node that both have
abbrev pub last_common : ℕ → List ℕ → List ℕ → ℕ
last_common both [] ys = both
last_common both (x ∷ xs) [] = both
last_common both (x ∷ xs) (y ∷ ys) = if x == y then last_common x xs ys else both

-- where the paths to two nodes part: the last node that both have
abbrev pub meeting_of : List ℕ → ℕ → ℕ → ℕ
meeting_of parents a b = last_common 0 (path_of parents a) (path_of parents b)

-- the node `steps` steps above n; the root is its own parent
abbrev pub ancestor : List ℕ → ℕ → ℕ → ℕ
ancestor parents n zero = n
ancestor parents n (suc steps) = parent_in parents (ancestor parents n steps)

-- the first `count` nodes from n on upward
abbrev pub upward : List ℕ → ℕ → ℕ → List ℕ
upward parents n zero = []
upward parents n (suc count) = n ∷ upward parents (parent_in parents n) count

-- the nodes below n to which favourites lead, one after another, and of these at most the first `most`
abbrev pub downward : List ℕ → ℕ → ℕ → List ℕ
downward favourites n zero = []
downward favourites n (suc most) =
    if slice_index favourites n == 0 then [] else slice_index favourites n ∷ downward favourites (slice_index favourites n) most

-- `up` steps up, and then `down` steps down, lead from one node to another by the node where their paths meet, and there is no shorter way
pub record IsRoute (parents : List ℕ) (from to up down : ℕ) : Type 0 where
  pub up_there : ancestor parents from up ≡ meeting_of parents from to
  pub down_there : ancestor parents to down ≡ meeting_of parents from to
  pub shortest : (i j : ℕ) → ancestor parents from i ≡ ancestor parents to j → (up ≤ i) × (down ≤ j)
