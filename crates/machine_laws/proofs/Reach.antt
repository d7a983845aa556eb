-- How far an undo and a redo can go.
use Rattle.std.proofs.Common.{◌≡◌, ℕ, ◌+◌, ◌-◌, ◌<◌, ◌≤◌, IsTrue, List, [], ◌∷◌, length, get_or, zero, suc, refl, ◌∙◌, arith, inl, inr}
use Rattle.std.proofs.lemmas.Bool.{cases_eq}
use Rattle.janus_meaning.specs.World.{Cell}
use Rattle.kernel_machine.specs.State.{Past, Node, root, favourite_of, node_at}
use Rattle.kernel_machine.specs.Legal.{can_undo, can_redo, IsRun, HasFavouriteChild, IsLegal}
use Rattle.machine_laws.specs.Travels.{IsPath, AreFavourites, UndoGoesUpThePath, RedoGoesDownFavourites}
use Rattle.kernel_machine.proofs.Trees.{undo_above, redo_below, not_zero_is}

path_there : (nodes : List Node) (n k : ℕ) (cells : List Cell) → IsPath nodes n cells → IsTrue (can_undo nodes n k) → k ≤ length cells
path_there nodes n zero cells p h = omega arith
path_there nodes n (suc k) [] p h = let above = (undo_above nodes n (suc k) (omega arith) h).0 in absurd (omega arith)
path_there nodes n (suc k) (cell ∷ cells) p h =
    let e : suc k - 1 ≡ k = omega arith in
    let rest : IsTrue (can_undo nodes (get_or nodes n root).parent k) = rw e at (undo_above nodes n (suc k) (omega arith) h).1 in
    let low = path_there nodes (get_or nodes n root).parent k cells p.3 rest in
    omega arith

path_enough : (nodes : List Node) (n k : ℕ) (cells : List Cell) → IsPath nodes n cells → k ≤ length cells → IsTrue (can_undo nodes n k)
path_enough nodes n zero cells p l = refl
path_enough nodes n (suc k) [] p l = absurd (omega arith)
path_enough nodes n (suc k) (cell ∷ cells) p l =
    let above = p.0 in
    not_zero_is n _ (λ e. absurd (omega arith)) ∙ path_enough nodes (get_or nodes n root).parent k cells p.3 (omega arith)

pub undo_goes_up : UndoGoesUpThePath
undo_goes_up s k cells g p = (path_there s.nodes s.position k cells p, path_enough s.nodes s.position k cells p)

chain_there : (favourites : List ℕ) (n k : ℕ) (below : List ℕ) → AreFavourites favourites n below → IsTrue (can_redo favourites n k) → k ≤ length below
chain_there favourites n zero below p h = omega arith
chain_there favourites n (suc k) [] p h = let some = (redo_below favourites n (suc k) (omega arith) h).0 in absurd (omega arith)
chain_there favourites n (suc k) (m ∷ below) p h =
    let e : suc k - 1 ≡ k = omega arith in
    let rest : IsTrue (can_redo favourites (get_or favourites n 0) k) = rw e at (redo_below favourites n (suc k) (omega arith) h).1 in
    let there : IsTrue (can_redo favourites m k) = rw p.1 at rest in
    let low = chain_there favourites m k below p.2 there in
    omega arith

chain_enough : (favourites : List ℕ) (n k : ℕ) (below : List ℕ) → AreFavourites favourites n below → k ≤ length below → IsTrue (can_redo favourites n k)
chain_enough favourites n zero below p l = refl
chain_enough favourites n (suc k) [] p l = absurd (omega arith)
chain_enough favourites n (suc k) (m ∷ below) p l =
    let some = p.0 in
    let at = p.1 in
    let rest : IsTrue (can_redo favourites m k) = chain_enough favourites m k below p.2 (omega arith) in
    let there : IsTrue (can_redo favourites (get_or favourites n 0) k) = rw at rest in
    not_zero_is (get_or favourites n 0) _ (λ e. absurd (omega arith)) ∙ there

-- a child has a larger number, so there is an end
chain : (s : Past) (f n : ℕ) → IsLegal s → n < length s.nodes → length s.nodes ≤ n + f → (below : List ℕ) × AreFavourites s.favourites n below
chain s zero n g l few = absurd (omega arith)
chain s (suc f) n g l few = elim (cases_eq (favourite_of s n) 0) [
  | inl e ↦ ([], e)
  | inr other ↦
      (let some : 0 < favourite_of s n = omega (arith, other) in
      let child : HasFavouriteChild s.nodes s.favourites n = g.children n l some in
      let known = child.known in
      let run : IsRun s.nodes s.worlds (favourite_of s n) = g.ran (favourite_of s n) some known in
      let low : (node_at s (favourite_of s n)).parent < favourite_of s n = run.parent in
      let up : (node_at s (favourite_of s n)).parent ≡ n = child.parent in
      let rest = chain s f (favourite_of s n) g known (omega arith) in
      (favourite_of s n ∷ rest.0, (some, refl, rest.1)))
]

pub redo_goes_down : RedoGoesDownFavourites
redo_goes_down s g =
    let below = chain s (length s.nodes) s.position g g.position (omega arith) in
    (below.0, below.1, λ k. (chain_there s.favourites s.position k below.0 below.1, chain_enough s.favourites s.position k below.0 below.1))
