-- What paths, meeting nodes and ways come to.
use Rattle.std.specs.Prelude.{◌≡◌, ℕ, ◌+◌, ◌-◌, ◌<◌, List, [], ◌∷◌, ◌++◌, length, slice_index, ◌↔◌}
use Rattle.std.specs.List.{Contains}
use Rattle.cell_tree.specs.Tree.{parent_in, IsOrdered}
use Rattle.cell_tree.specs.Paths.{path_of, meeting_of, ancestor, upward, IsRoute}

-- the path of the root is the root alone; that of another node is its parent's, and then the node
abbrev pub PathGoesOn : Type 0
PathGoesOn =
    (parents : List ℕ) →
    (path_of parents 0 ≡ 0 ∷ [])
    × ((n : ℕ) → IsOrdered parents → 0 < n → n < length parents → path_of parents n ≡ path_of parents (parent_in parents n) ++ n ∷ [])

-- a path begins at the root, each next node is a child of the one before, and it ends at its node
pub record Descends (parents : List ℕ) (n : ℕ) (path : List ℕ) : Type 0 where
  pub some : 0 < length path
  pub first : slice_index path 0 ≡ 0
  pub next : (i : ℕ) → i + 1 < length path → (0 < slice_index path (i + 1)) × (parent_in parents (slice_index path (i + 1)) ≡ slice_index path i)
  pub last : slice_index path (length path - 1) ≡ n

abbrev pub PathDescends : Type 0
PathDescends =
    (parents : List ℕ) (n : ℕ) → IsOrdered parents → n < length parents → Descends parents n (path_of parents n)

-- the node m is on both paths, and each node on both is on the path to m
pub record IsNearest (parents : List ℕ) (a b m : ℕ) : Type 0 where
  pub on_first : Contains (path_of parents a) m
  pub on_second : Contains (path_of parents b) m
  pub nearest : (k : ℕ) → Contains (path_of parents a) k → Contains (path_of parents b) k → Contains (path_of parents m) k

-- the node where two paths meet is such a node, and the only one
abbrev pub MeetingIsNearest : Type 0
MeetingIsNearest =
    (parents : List ℕ) (a b m : ℕ) → IsOrdered parents → a < length parents → b < length parents
    → (m ≡ meeting_of parents a b) ↔ IsNearest parents a b m

-- a way down, its last node first: each node is a child of the one before, the first a child of the node above, and the last is the end
pub record LeadsDown (parents : List ℕ) (above : ℕ) (way : List ℕ) (end : ℕ) : Type 0 where
  pub none : length way ≡ 0 → above ≡ end
  pub first : 0 < length way → parent_in parents (slice_index way (length way - 1)) ≡ above
  pub next : (i : ℕ) → i + 1 < length way → parent_in parents (slice_index way i) ≡ slice_index way (i + 1)
  pub last : 0 < length way → slice_index way 0 ≡ end
  pub below_root : (i : ℕ) → i < length way → 0 < slice_index way i

-- what is kept of a way leads down from the node where the paths meet
abbrev pub WayLeadsDown : Type 0
WayLeadsDown =
    (parents : List ℕ) (from to up down : ℕ) → IsOrdered parents → IsRoute parents from to up down
    → LeadsDown parents (meeting_of parents from to) (upward parents to down) to

-- the nodes from n on upward are its ancestors, one step up at each place
abbrev pub UpwardAreAncestors : Type 0
UpwardAreAncestors =
    (parents : List ℕ) (n count i : ℕ) → i < count → slice_index (upward parents n count) i ≡ ancestor parents n i
