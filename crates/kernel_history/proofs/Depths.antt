-- How deep the position stands, and how far favourites lead down from it: so far an undo and a redo can go.
use Rattle.std.proofs.Common.{◌≡◌, ◌≢◌, Bool, ℕ, ◌+◌, ◌<◌, ◌≤◌, ◌==◌, zero, suc, true, false, refl, IsTrue, List, length, get_or, nat_lt, sym, ap, ◌∙◌, arith}
use Rattle.std.proofs.Common.{inl, inr, ◌↔◌}
use Rattle.std.proofs.lemmas.Bool.{cases_eq, false≢true}
use Rattle.std.proofs.lemmas.Bool.Decides.{nat_tests}
use Rattle.cell_tree.specs.Tree.{parent_in, parents_of, IsOrdered}
use Rattle.cell_tree.specs.Paths.{depth, downward}
use Rattle.cell_tree.proofs.Trees.{count_of_parents}
use Rattle.cell_tree.proofs.Paths.{depth_more}
use Rattle.cell_tree.proofs.Ways.{downward_more}
use Rattle.kernel_machine.specs.State.{Past, favourite_of}
use Rattle.kernel_machine.specs.Legal.{can_undo, can_redo, IsRun, HasFavouriteChild, IsLegal}
use Rattle.kernel_machine.proofs.Trees.{not_zero_is}
use Rattle.kernel_history.specs.Fields.{nodes_of, past_of}
use Rattle.kernel_history.specs.declared.tree.HistoryTree.{HistoryTree}
use Rattle.kernel_history.proofs.Nodes.{count_of_nodes, parent_there}

-- ---- up

pub ordered_there : (tree : HistoryTree) → IsLegal (past_of tree) → IsOrdered (parents_of tree.cells.nodes)
ordered_there tree legal = record {
  root = refl;
  before = λ n some known. (
      let size = count_of_nodes tree in
      let count = count_of_parents tree.cells.nodes in
      let run : IsRun (nodes_of tree) (past_of tree).worlds n = legal.ran n some (omega arith) in
      let low = run.parent in
      let same = parent_there tree n in
      omega arith);
}

-- k nodes can be gone up exactly where as many stand above
pub undoes : (tree : HistoryTree) (n k : ℕ) → IsOrdered (parents_of tree.cells.nodes) → n ≤ length tree.cells.nodes →
    IsTrue (can_undo (nodes_of tree) n k) ↔ (k ≤ depth (parents_of tree.cells.nodes) n)
undoes tree n zero g l = (λ h. omega arith, λ h. refl)
undoes tree n (suc k) g l = elim (cases_eq n 0) [
  | inl root ↦
      (let top : depth (parents_of tree.cells.nodes) n ≡ 0 = rw root refl in
      let stop : can_undo (nodes_of tree) n (suc k) ≡ false = rw root refl in
      (λ h. absurd (false≢true (sym stop ∙ h)), λ less. absurd (omega arith)))
  | inr some ↦
      (let parents = parents_of tree.cells.nodes in
      let parent = parent_in parents n in
      let count = count_of_parents tree.cells.nodes in
      let above : 0 < n = omega (arith, some) in
      let known : n < length parents = omega arith in
      let low = g.before n above known in
      let on : can_undo (nodes_of tree) n (suc k) ≡ can_undo (nodes_of tree) parent k =
      not_zero_is n _ some ∙ ap (λ (p : ℕ). can_undo (nodes_of tree) p k) (parent_there tree n) in
      let deeper = depth_more parents n g above known in
      let rest = undoes tree parent k g (omega arith) in
      (λ h. (let most = rest.0 (sym on ∙ h) in omega arith), λ less. on ∙ rest.1 (omega arith)))
]

-- ---- down

-- of k at most, k can be gone down exactly where favourites lead to as many
pub redoes : (favourites : List ℕ) (n most k : ℕ) → k ≤ most → IsTrue (can_redo favourites n k) ↔ (k ≤ length (downward favourites n most))
redoes favourites n most zero l = (λ h. omega arith, λ h. refl)
redoes favourites n zero (suc k) l = absurd (omega arith)
redoes favourites n (suc most) (suc k) l = elim (cases_eq (get_or favourites n 0) 0) [
  | inl none ↦
      (let end : length (downward favourites n (suc most)) ≡ 0 = rw none refl in
      let stop : can_redo favourites n (suc k) ≡ false = rw none refl in
      (λ h. absurd (false≢true (sym stop ∙ h)), λ less. absurd (omega arith)))
  | inr some ↦
      (let on : can_redo favourites n (suc k) ≡ can_redo favourites (get_or favourites n 0) k = not_zero_is (get_or favourites n 0) _ some in
      let longer = downward_more favourites n most some in
      let rest = redoes favourites (get_or favourites n 0) most k (omega arith) in
      (λ h. (let few = rest.0 (sym on ∙ h) in omega arith), λ less. on ∙ rest.1 (omega arith)))
]

-- a favourite stands behind its parent
pub favourite_behind : (s : Past) (n : ℕ) → IsLegal s → n < length s.nodes → 0 < favourite_of s n → n < favourite_of s n
favourite_behind s n g l some =
    let child : HasFavouriteChild s.nodes s.favourites n = g.children n l some in
    let known = child.known in
    let run : IsRun s.nodes s.worlds (favourite_of s n) = g.ran (favourite_of s n) some known in
    let low = run.parent in
    let up = child.parent in
    omega (arith, low, up)

-- so no more can be gone down than there are nodes behind
pub redo_few : (s : Past) (n k : ℕ) → IsLegal s → n < length s.nodes → IsTrue (can_redo s.favourites n k) → n + k < length s.nodes
redo_few s n zero g l h = omega arith
redo_few s n (suc k) g l h = elim (cases_eq (get_or s.favourites n 0) 0) [
  | inl none ↦ absurd (
      let stop : can_redo s.favourites n (suc k) ≡ false = rw none refl in
      false≢true (sym stop ∙ h))
  | inr some ↦
      (let child : HasFavouriteChild s.nodes s.favourites n = g.children n l (omega (arith, some)) in
      let known = child.known in
      let behind = favourite_behind s n g l (omega (arith, some)) in
      let rest = redo_few s (get_or s.favourites n 0) k g known (sym (not_zero_is (get_or s.favourites n 0) _ some) ∙ h) in
      omega arith)
]

-- all k can be gone exactly where k are counted
pub reaches_all : (can : Bool) (k r : ℕ) → r ≤ k → IsTrue can ↔ (k ≤ r) → (r == k) ≡ can
reaches_all true k r l h =
    let low : k ≤ r = h.0 refl in
    let same : r ≡ k = omega (arith, l, low) in
    grind (arith, nat_tests)
reaches_all false k r l h =
    let other : r ≢ k = λ same. false≢true (h.1 (omega (arith, same))) in
    grind (arith, nat_tests)

-- ---- whether the tree is full

-- the nodes with the root are more than the limit exactly where as many as that stand beside the root, since there are no more
pub fills : (full : Bool) (n limit count : ℕ) → n ≤ limit → count ≡ n + 1 → IsTrue full ↔ (n ≡ limit) → full ≡ nat_lt limit count
fills true n limit count few e h =
    let all : n ≡ limit = h.0 refl in
    let over : limit < count = omega (arith, all, e) in
    grind (arith, nat_tests)
fills false n limit count few e h =
    let other : n ≢ limit = λ same. false≢true (h.1 same) in
    let within : count ≤ limit = elim (cases_eq n limit) [
      | inl same ↦ absurd (other same)
      | inr different ↦ omega (arith, few, e, different)
    ] in
    grind (arith, nat_tests)
