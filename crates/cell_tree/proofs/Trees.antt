-- Trees after one more node and after a new favourite, and nodes as they are read.
use Rattle.std.proofs.Common.{◌≡◌, ℕ, ◌+◌, ◌-◌, ◌<◌, ◌≤◌, List, [], ◌∷◌, ◌++◌, length, get_or, set, zero, suc, sym, ap, ◌∙◌, subst, arith, inl, inr}
use Rattle.std.proofs.Common.{length-append, length-set, get_or-set_same, get_or-set_other}
use Rattle.std.proofs.lemmas.List.{get_or_append_left, get_or_at, get_or-map, map-append, length-map}
use Rattle.std.proofs.lemmas.Bool.{cases_eq, cases_lt}
use Rattle.cell_tree.specs.declared.node.Node.{Node}
use Rattle.cell_tree.specs.Tree.{Tree, node_limit, parent_in, IsOrdered, parents_of, favourite_of, IsChild, IsTree}

ordered_more : (parents : List ℕ) (p : ℕ) → IsOrdered parents → 0 < length parents → p < length parents → IsOrdered (parents ++ p ∷ [])
ordered_more parents p g some l = record {
  root = get_or_append_left parents (p ∷ []) 0 0 some ∙ g.root;
  before = λ n above below. elim (cases_lt n (length parents)) [
    | inl known ↦
        (let e : parent_in (parents ++ p ∷ []) n ≡ parent_in parents n = get_or_append_left parents (p ∷ []) 0 n known in
        let low = g.before n above known in
        omega arith)
    | inr new ↦
        (let size = length-append parents (p ∷ []) in
        let at : length parents ≡ n = omega arith in
        let e : parent_in (parents ++ p ∷ []) n ≡ p = get_or_at parents p [] 0 n at in
        omega arith)
  ];
}

module _ {C : Type 0} where
  pub count_of_parents : (nodes : List (Node C)) → length (parents_of nodes) ≡ length nodes + 1
  count_of_parents nodes = omega (arith, length-map nodes (λ (node : Node C). node.parent))

  pub parents_more : (nodes : List (Node C)) (node : Node C) → parents_of (nodes ++ node ∷ []) ≡ parents_of nodes ++ node.parent ∷ []
  parents_more nodes node = ap (λ (xs : List ℕ). 0 ∷ xs) (map-append (λ (node : Node C). node.parent) nodes (node ∷ []))

  -- the parent that is read at a place
  pub parent_read : (nodes : List (Node C)) (n : ℕ) (node : Node C) → 0 < n → n ≤ length nodes → node ≡ get_or nodes (n - 1) node →
      node.parent ≡ parent_in (parents_of nodes) n
  parent_read nodes zero node above l e = absurd (omega arith)
  parent_read nodes (suc n) node above l e =
      let place : suc n - 1 ≡ n = omega arith in
      ap (λ (x : Node C). x.parent) (rw place at e) ∙ sym (get_or-map (λ (x : Node C). x.parent) nodes n node 0 (omega arith))

  -- a child stays one where a node comes
  child_more : (t : Tree C) (node : Node C) (room n child : ℕ) → IsChild t n child →
      IsChild (record { nodes = t.nodes ++ node ∷ []; favourites = t.favourites ++ 0 ∷ []; way = t.way; room = room }) n child
  child_more t node room n child c =
      let known = c.known in
      let size = length-append t.nodes (node ∷ []) in
      let count = count_of_parents t.nodes in
      record {
        below_root = c.below_root;
        known = omega arith;
        parent =
            ap (λ (parents : List ℕ). parent_in parents child) (parents_more t.nodes node)
            ∙ get_or_append_left (parents_of t.nodes) (node.parent ∷ []) 0 child (omega arith)
            ∙ c.parent;
      }

  children_more : (t : Tree C) (node : Node C) (room n : ℕ) → IsTree t → n ≤ length (t.nodes ++ node ∷ []) → 0 < get_or (t.favourites ++ 0 ∷ []) n 0 →
      IsChild (record { nodes = t.nodes ++ node ∷ []; favourites = t.favourites ++ 0 ∷ []; way = t.way; room = room }) n (get_or (t.favourites ++ 0 ∷ []) n 0)
  children_more t node room n g l some =
      let size = length-append t.nodes (node ∷ []) in
      let places = g.favourites in
      elim (cases_lt n (length t.favourites)) [
        | inl old ↦
            (let e : get_or (t.favourites ++ 0 ∷ []) n 0 ≡ favourite_of t n = get_or_append_left t.favourites (0 ∷ []) 0 n old in
            subst (λ (child : ℕ). IsChild (record { nodes = t.nodes ++ node ∷ []; favourites = t.favourites ++ 0 ∷ []; way = t.way; room = room }) n child)
            (sym e)
            (child_more t node room n (favourite_of t n) (g.children n (omega arith) (omega arith))))
        | inr new ↦ absurd (
            let at : length t.favourites ≡ n = omega arith in
            let e : get_or (t.favourites ++ 0 ∷ []) n 0 ≡ 0 = get_or_at t.favourites 0 [] 0 n at in
            omega arith)
      ]

  grown_tree : (t : Tree C) (node : Node C) (room : ℕ) → IsTree t → length t.nodes < node_limit → node.parent ≤ length t.nodes →
      IsTree (record { nodes = t.nodes ++ node ∷ []; favourites = t.favourites ++ 0 ∷ []; way = t.way; room = room })
  grown_tree t node room g few known =
      let size = length-append t.nodes (node ∷ []) in
      let more = length-append t.favourites (0 ∷ []) in
      let places = g.favourites in
      let way = g.way in
      let count = count_of_parents t.nodes in
      record {
        ordered = subst (λ (parents : List ℕ). IsOrdered parents) (sym (parents_more t.nodes node))
            (ordered_more (parents_of t.nodes) node.parent g.ordered (omega arith) (omega arith));
        few = omega arith;
        favourites = omega arith;
        children = λ n l some. children_more t node room n g l some;
        way = omega arith;
      }

  -- the tree after one more node, as its lists are kept
  pub tree_more : (t : Tree C) (node : Node C) (nodes : List (Node C)) (favourites : List ℕ) (room : ℕ) → IsTree t → length t.nodes < node_limit →
      node.parent ≤ length t.nodes →
      nodes ≡ t.nodes ++ node ∷ [] → favourites ≡ t.favourites ++ 0 ∷ [] → IsTree (record { nodes = nodes; favourites = favourites; way = t.way; room = room })
  tree_more t node nodes favourites room g few known e f =
      subst (λ (ns : List (Node C)). IsTree (record { nodes = ns; favourites = favourites; way = t.way; room = room })) (sym e)
      (subst (λ (fs : List ℕ). IsTree (record { nodes = t.nodes ++ node ∷ []; favourites = fs; way = t.way; room = room })) (sym f)
      (grown_tree t node room g few known))

  -- a child is one whatever the favourites
  child_among : (t : Tree C) (favourites : List ℕ) (room n child : ℕ) → IsChild t n child →
      IsChild (record { nodes = t.nodes; favourites = favourites; way = t.way; room = room }) n child
  child_among t favourites room n child c = record { below_root = c.below_root; known = c.known; parent = c.parent }

  child_with_way : (t : Tree C) (way : List ℕ) (room n child : ℕ) → IsChild t n child →
      IsChild (record { nodes = t.nodes; favourites = t.favourites; way = way; room = room }) n child
  child_with_way t way room n child c = record { below_root = c.below_root; known = c.known; parent = c.parent }

  -- the tree after a new favourite
  pub tree_with_favourite : (t : Tree C) (room n child : ℕ) → IsTree t → IsChild t n child →
      IsTree (record { nodes = t.nodes; favourites = set t.favourites n child; way = t.way; room = room })
  tree_with_favourite t room n child g c = record {
    ordered = g.ordered;
    few = g.few;
    favourites = length-set t.favourites n child ∙ g.favourites;
    children = λ m l some. elim (cases_eq m n) [
      | inl same ↦
          (let places = g.favourites in
          let e : get_or (set t.favourites n child) m 0 ≡ child = ap (λ (k : ℕ). get_or (set t.favourites n child) k 0) same
          ∙ get_or-set_same t.favourites n child 0 (omega arith) in
          subst (λ (k : ℕ). IsChild (record { nodes = t.nodes; favourites = set t.favourites n child; way = t.way; room = room }) m k) (sym e)
          (subst (λ (k : ℕ). IsChild (record { nodes = t.nodes; favourites = set t.favourites n child; way = t.way; room = room }) k child) (sym same)
          (child_among t (set t.favourites n child) room n child c)))
      | inr other ↦
          (let e : get_or (set t.favourites n child) m 0 ≡ favourite_of t m = get_or-set_other t.favourites n m child 0 other in
          subst (λ (k : ℕ). IsChild (record { nodes = t.nodes; favourites = set t.favourites n child; way = t.way; room = room }) m k) (sym e)
          (child_among t (set t.favourites n child) room m (favourite_of t m) (g.children m l (omega arith))))
    ];
    way = g.way;
  }

  -- the tree with another way
  pub tree_with_way : (t : Tree C) (way : List ℕ) (room : ℕ) → IsTree t → length way ≤ length t.nodes →
      IsTree (record { nodes = t.nodes; favourites = t.favourites; way = way; room = room })
  tree_with_way t way room g few = record {
    ordered = g.ordered;
    few = g.few;
    favourites = g.favourites;
    children = λ n l some. child_with_way t way room n (favourite_of t n) (g.children n l some);
    way = few;
  }
