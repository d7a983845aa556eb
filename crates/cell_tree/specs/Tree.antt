-- A tree as contracts see it. Its root is the node 0, and holds nothing; the nodes after it are numbered in the order in which they came.
use Rattle.std.specs.Prelude.{◌≡◌, ℕ, ◌+◌, ◌-◌, ◌<◌, ◌≤◌, List, [], ◌∷◌, ◌++◌, length, map, slice_index}
use Rattle.cell_tree.specs.declared.node.Node.{Node}
use Rattle.cell_tree.specs.declared.tree.TheConstants.{NODE_LIMIT}

pub record Tree (C : Type 0) : Type 0 where
  -- the nodes without the root: the node n is at the place n - 1
  pub nodes : List (Node C)
  -- for each node, the root included, its favourite child, or 0
  pub favourites : List ℕ
  -- the way down that was found last: its last node first
  pub way : List ℕ
  -- for how many more nodes the memory was taken
  pub room : ℕ

-- the most nodes that may stand beside the root
abbrev pub node_limit : ℕ
node_limit = NODE_LIMIT

-- in a list of parents, that of a node
abbrev pub parent_in : List ℕ → ℕ → ℕ
parent_in parents n = slice_index parents n

-- parents stand before their children; the root is its own
pub record IsOrdered (parents : List ℕ) : Type 0 where
  pub root : parent_in parents 0 ≡ 0
  pub before : (n : ℕ) → 0 < n → n < length parents → parent_in parents n < n

module _ {C : Type 0} where
  -- the parents of all nodes, the root included
  abbrev pub parents_of : List (Node C) → List ℕ
  parents_of nodes = 0 ∷ map (λ node. node.parent) nodes

  -- what the nodes beside the root hold
  abbrev pub contents_of : Tree C → List C
  contents_of t = map (λ node. node.content) t.nodes

  -- this is the number of a node
  abbrev pub IsNode : Tree C → ℕ → Type 0
  IsNode t n = n ≤ length t.nodes

  -- the favourite child of a node, or 0
  abbrev pub favourite_of : Tree C → ℕ → ℕ
  favourite_of t n = slice_index t.favourites n

  -- the one node is a child of the other
  pub record IsChild (t : Tree C) (n child : ℕ) : Type 0 where
    pub below_root : 0 < child
    pub known : IsNode t child
    pub parent : parent_in (parents_of t.nodes) child ≡ n

  -- what holds of each tree
  pub record IsTree (t : Tree C) : Type 0 where
    pub ordered : IsOrdered (parents_of t.nodes)
    pub few : length t.nodes ≤ node_limit
    pub favourites : length t.favourites ≡ length t.nodes + 1
    pub children : (n : ℕ) → IsNode t n → 0 < favourite_of t n → IsChild t n (favourite_of t n)
    pub way : length t.way ≤ length t.nodes

  -- ---- how trees change

  -- the root alone
  abbrev pub root_alone : ℕ → Tree C
  root_alone room = record { nodes = []; favourites = 0 ∷ []; way = []; room = room }

  -- with one node more, which has no favourite, in room that was made
  abbrev pub grown : Tree C → Node C → Tree C
  grown t node = record { nodes = t.nodes ++ node ∷ []; favourites = t.favourites ++ 0 ∷ []; way = t.way; room = t.room - 1 }
