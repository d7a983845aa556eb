-- How a tree is kept in the memory that it took, and how it is stored.
use Rattle.std.specs.Prelude.{ℕ, ◌-◌, ◌≤◌, List, min, refl, vec_len, vec_capacity}
use Rattle.std.specs.Coded.{Coded, code_by, coded×, coded_ℕ, coded_list}
use Rattle.std.specs.Global.{Vec}
use Rattle.cell_tree.specs.declared.node.Node.{Node}
use Rattle.cell_tree.specs.Tree.{Tree, IsTree, node_limit}

-- how many more elements fit
abbrev pub spare : {X : Type 0} → Vec X → ℕ
spare v = vec_capacity v - vec_len v

module _ {C : Type 0} where
  -- how many more nodes fit: below the limit, among the nodes and the favourites, and on a way through all of them
  abbrev pub room_of : Vec (Node C) → Vec ℕ → Vec ℕ → ℕ
  room_of nodes favourites way =
      min (node_limit - vec_len nodes) (min (spare nodes) (min (spare favourites) (vec_capacity way - vec_len nodes)))

  abbrev pub tree_of : Vec (Node C) → Vec ℕ → Vec ℕ → Tree C
  tree_of nodes favourites way =
      record { nodes = nodes.items; favourites = favourites.items; way = way.items; room = room_of nodes favourites way }

  -- there is memory for a way through all nodes
  pub record IsKept (nodes : Vec (Node C)) (favourites way : Vec ℕ) : Type 0 where
    pub tree : IsTree (tree_of nodes favourites way)
    pub longest : vec_len nodes ≤ vec_capacity way

-- a node is stored as the pair of its fields, a tree as those of its own
abbrev pub node_code : {C : Type 0} → Coded C → Coded (Node C)
node_code {C} code = code_by (ℕ × C) (coded× coded_ℕ code) (λ n. (n.parent, n.content)) (λ p. record { parent = p.0; content = p.1 }) (λ _. refl)

abbrev pub tree_code : {C : Type 0} → Coded C → Coded (Tree C)
tree_code {C} code =
    code_by (List (Node C) × (List ℕ × (List ℕ × ℕ))) (coded× (coded_list (node_code code)) (coded× (coded_list coded_ℕ) (coded× (coded_list coded_ℕ) coded_ℕ)))
    (λ t. (t.nodes, (t.favourites, (t.way, t.room)))) (λ p. record { nodes = p.0; favourites = p.1.0; way = p.1.1.0; room = p.1.1.1 }) (λ _. refl)
