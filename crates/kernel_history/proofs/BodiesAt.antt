-- The bodies that are defined at a node, and those that stay kept.
use Rattle.std.proofs.Common.{◌≡◌, ℕ, zero, suc, ◌+◌, ◌-◌, ◌<◌, ◌≤◌, List, [], ◌∷◌, ◌++◌, length, map, take, Option, None, Some, refl, sym, ap, ◌∙◌, subst}
use Rattle.std.proofs.Common.{arith}
use Rattle.std.specs.Prelude.{slice_get}
use Rattle.std.proofs.lemmas.List.{get_or-map, length-map}
use Rattle.std.proofs.lemmas.Option.{slice_get_within, get_or_from_slice_get}
use Rattle.cell_tree.specs.Tree.{contents_of}
use Rattle.cell_tree.specs.declared.node.Node.{Node}
use Rattle.janus_meaning.specs.Syntax.{Name, Proc}
use Rattle.janus_slots.specs.Slots.{procedure_in, procedures_in}
use Rattle.kernel_loader.specs.Bodies.{AreBelow, IsBodyAt, AreBodiesFrom}
use Rattle.kernel_loader.specs.Procedures.{kept_in}
use Rattle.kernel_loader.specs.linked_procedure.LinkedProcedure.{LinkedProcedure}
use Rattle.kernel_loader.specs.procedures.Procedures.{Procedures}
use Rattle.kernel_loader.proofs.Bodies.{onto_below}
use Rattle.kernel_loader.proofs.BodiesInEffect.{bodies_from_below, bodies_from_same}
use Rattle.kernel_machine.specs.State.{root, node_at}
use Rattle.kernel_history.specs.Fields.{node_of, past_of}
use Rattle.kernel_history.specs.Bodies.{IsCellAt, AreInOrder, bodies_over, bodies_up, bodies_at}
use Rattle.kernel_machine.specs.Legal.{IsLegal}
use Rattle.kernel_loader.specs.Program.{procedures_of, IsReady, with_bodies}
use Rattle.kernel_loader.specs.program.Program.{Program}
use Rattle.kernel_history.specs.declared.tree.EndedCell.{EndedCell}
use Rattle.kernel_history.specs.declared.tree.HistoryTree.{HistoryTree}
use Rattle.kernel_history.proofs.Nodes.{count_of_nodes}

-- ---- nodes and their cells

from_mapped : {A B : Type 0} (f : A → B) (xs : List A) (i : ℕ) (b : B) → slice_get (map f xs) i ≡ Some b → (x : A) × (slice_get xs i ≡ Some x) × (f x ≡ b)
from_mapped f [] i b e = absurd (let l = slice_get_within (map f []) i b e in omega arith)
from_mapped f (x ∷ xs) zero b e = (x, refl, cc)
from_mapped f (x ∷ xs) (suc i) b e = from_mapped f xs i b e

to_mapped : {A B : Type 0} (f : A → B) (xs : List A) (i : ℕ) (x : A) → slice_get xs i ≡ Some x → slice_get (map f xs) i ≡ Some (f x)
to_mapped {A = A} f [] i x e = absurd (let l = slice_get_within {A = A} [] i x e in omega arith)
to_mapped f (y ∷ xs) zero x e = cc
to_mapped f (y ∷ xs) (suc i) x e = to_mapped f xs i x e

content_node : (nodes : List (Node EndedCell)) (i : ℕ) (cell : EndedCell) → slice_get (map (λ (node : Node EndedCell). node.content) nodes) i ≡ Some cell →
    (node : Node EndedCell) × (slice_get nodes i ≡ Some node) × (node.content ≡ cell)
content_node nodes i cell e = from_mapped (λ (node : Node EndedCell). node.content) nodes i cell e

node_content : (nodes : List (Node EndedCell)) (i : ℕ) (node : Node EndedCell) → slice_get nodes i ≡ Some node →
    slice_get (map (λ (node : Node EndedCell). node.content) nodes) i ≡ Some node.content
node_content nodes i node e = to_mapped (λ (node : Node EndedCell). node.content) nodes i node e

pub cell_of_node : (tree : HistoryTree) (i : ℕ) (node : Node EndedCell) → slice_get tree.cells.nodes i ≡ Some node → IsCellAt tree (suc i) node.content
cell_of_node tree i node e =
    let same : suc i - 1 ≡ i = omega arith in
    (omega arith, subst (λ (j : ℕ). slice_get (contents_of tree.cells) j ≡ Some node.content) (sym same) (node_content tree.cells.nodes i node e))

-- parents stand before their children
abbrev ParentsBefore : List (Node EndedCell) → Type 0
ParentsBefore nodes = (i : ℕ) (node : Node EndedCell) → slice_get nodes i ≡ Some node → node.parent ≤ i

node_read : (tree : HistoryTree) (i : ℕ) (node : Node EndedCell) → slice_get tree.cells.nodes i ≡ Some node → node_at (past_of tree) (suc i) ≡ node_of node
node_read tree i node e =
    get_or-map node_of tree.cells.nodes i node root (slice_get_within tree.cells.nodes i node e)
    ∙ ap node_of (get_or_from_slice_get tree.cells.nodes i node node e)

pub parents_before : (tree : HistoryTree) → IsLegal (past_of tree) → ParentsBefore tree.cells.nodes
parents_before tree legal i node e =
    let within = slice_get_within tree.cells.nodes i node e in
    let size = count_of_nodes tree in
    let run = legal.ran (suc i) (omega arith) (omega (arith, within, size)) in
    let parent : (node_at (past_of tree) (suc i)).parent < suc i = run.parent in
    let same : (node_at (past_of tree) (suc i)).parent ≡ node.parent = ap (λ n. n.parent) (node_read tree i node e) in
    omega arith

-- ---- how far up is told

over_same : (x : Option (Node EndedCell)) (f g : ℕ → List ℕ) → ((node : Node EndedCell) → x ≡ Some node → f node.parent ≡ g node.parent) →
    bodies_over x f ≡ bodies_over x g
over_same None f g h = refl
over_same (Some node) f g h = ap (with_bodies node.content.program) (h node refl)

none_at_root : (k : ℕ) (tree : HistoryTree) → bodies_up k tree zero ≡ []
none_at_root zero tree = refl
none_at_root (suc k) tree = refl

bodies_more : (tree : HistoryTree) → ParentsBefore tree.cells.nodes → (k j n : ℕ) → n ≤ k → n ≤ j → bodies_up k tree n ≡ bodies_up j tree n
bodies_more tree before k j zero l m = none_at_root k tree ∙ sym (none_at_root j tree)
bodies_more tree before zero j (suc i) l m = absurd (omega arith)
bodies_more tree before (suc k) zero (suc i) l m = absurd (omega arith)
bodies_more tree before (suc k) (suc j) (suc i) l m =
    over_same (slice_get tree.cells.nodes i) (bodies_up k tree) (bodies_up j tree)
    (λ node e. let p = before i node e in bodies_more tree before k j node.parent (omega arith) (omega arith))

pub bodies_of_node : (tree : HistoryTree) (i : ℕ) (node : Node EndedCell) → IsLegal (past_of tree) → slice_get tree.cells.nodes i ≡ Some node →
    bodies_at tree (suc i) ≡ with_bodies node.content.program (bodies_at tree node.parent)
bodies_of_node tree i node legal e =
    let before = parents_before tree legal in
    ap (λ x. bodies_over x (bodies_up i tree)) e
    ∙ ap (with_bodies node.content.program) (bodies_more tree before i node.parent node.parent (before i node e) (omega arith))

-- the bodies of a node over those of its parent
pub bodies_of_cell : (tree : HistoryTree) (n : ℕ) (cell : EndedCell) → IsLegal (past_of tree) → IsCellAt tree n cell →
    bodies_at tree n ≡ with_bodies cell.program (bodies_at tree (node_at (past_of tree) n).parent)
bodies_of_cell tree zero cell legal at = absurd (let some = at.0 in omega arith)
bodies_of_cell tree (suc i) cell legal at =
    let same : suc i - 1 ≡ i = omega arith in
    let found = content_node tree.cells.nodes i cell (subst (λ (j : ℕ). slice_get (contents_of tree.cells) j ≡ Some cell) same at.1) in
    bodies_of_node tree i found.0 legal found.1
    ∙ ap (λ (c : EndedCell). with_bodies c.program (bodies_at tree found.0.parent)) found.2
    ∙ ap (λ (p : ℕ). with_bodies cell.program (bodies_at tree p)) (sym (ap (λ n. n.parent) (node_read tree i found.0 found.1)))

-- ---- trees with the same nodes, and with one more

up_same : (tree other : HistoryTree) → other.cells.nodes ≡ tree.cells.nodes → (k n : ℕ) → bodies_up k other n ≡ bodies_up k tree n
up_same tree other e zero n = refl
up_same tree other e (suc k) zero = refl
up_same tree other e (suc k) (suc i) =
    ap (λ (nodes : List (Node EndedCell)). bodies_over (slice_get nodes i) (bodies_up k other)) e
    ∙ over_same (slice_get tree.cells.nodes i) (bodies_up k other) (bodies_up k tree) (λ node h. up_same tree other e k node.parent)

pub bodies_same : (tree other : HistoryTree) (n : ℕ) → other.cells.nodes ≡ tree.cells.nodes → bodies_at other n ≡ bodies_at tree n
bodies_same tree other n e = up_same tree other e n n

get_same : (xs : List (Node EndedCell)) (y : Node EndedCell) (i : ℕ) → i < length xs → slice_get (xs ++ y ∷ []) i ≡ slice_get xs i
get_same [] y i l = absurd (omega arith)
get_same (x ∷ xs) y zero l = refl
get_same (x ∷ xs) y (suc i) l = get_same xs y i (omega arith)

get_last : (xs : List (Node EndedCell)) (y : Node EndedCell) → slice_get (xs ++ y ∷ []) (length xs) ≡ Some y
get_last [] y = refl
get_last (x ∷ xs) y = get_last xs y

module _ (tree larger : HistoryTree) (new : Node EndedCell) (legal : IsLegal (past_of tree)) (grown : larger.cells.nodes ≡ tree.cells.nodes ++ new ∷ []) where
  up_grown : (k n : ℕ) → n ≤ length tree.cells.nodes → bodies_up k larger n ≡ bodies_up k tree n
  up_grown zero n l = refl
  up_grown (suc k) zero l = refl
  up_grown (suc k) (suc i) l =
      ap (λ (nodes : List (Node EndedCell)). bodies_over (slice_get nodes i) (bodies_up k larger)) grown
      ∙ ap (λ x. bodies_over x (bodies_up k larger)) (get_same tree.cells.nodes new i (omega arith))
      ∙ over_same (slice_get tree.cells.nodes i) (bodies_up k larger) (bodies_up k tree)
      (λ node h. let p = parents_before tree legal i node h in up_grown k node.parent (omega arith))

  pub bodies_kept : (n : ℕ) → n ≤ length tree.cells.nodes → bodies_at larger n ≡ bodies_at tree n
  bodies_kept n l = up_grown n n l

  pub bodies_new : new.parent ≤ length tree.cells.nodes → bodies_at larger (suc (length tree.cells.nodes)) ≡ with_bodies new.content.program
      (bodies_at tree new.parent)
  bodies_new l =
      let m : ℕ = length tree.cells.nodes in
      ap (λ (nodes : List (Node EndedCell)). bodies_over (slice_get nodes m) (bodies_up m larger)) grown
      ∙ ap (λ x. bodies_over x (bodies_up m larger)) (get_last tree.cells.nodes new)
      ∙ ap (with_bodies new.content.program) (up_grown m new.parent l ∙ bodies_more tree (parents_before tree legal) m new.parent new.parent l (omega arith))

-- ---- bodies stand below those of later nodes

below_more : (m n : ℕ) (stack : List ℕ) → m ≤ n → AreBelow m stack → AreBelow n stack
below_more m n [] l h = tt
below_more m n (i ∷ stack) l h = (let a = h.0 in omega arith, below_more m n stack l h.1)

module _ (tree : HistoryTree) (legal : IsLegal (past_of tree)) (order : AreInOrder tree) where
  -- all bodies of the nodes up to n are below this one
  abbrev AllBefore : ℕ → ℕ → Type 0
  AllBefore from n = (m : ℕ) (cell : EndedCell) → m ≤ n → IsCellAt tree m cell → cell.program.first + length (procedures_of cell.program) ≤ from

  over_below : (from : ℕ) (x : Option (Node EndedCell)) (f : ℕ → List ℕ) →
      ((node : Node EndedCell) → x ≡ Some node → AreBelow node.content.program.first (f node.parent) ×
      (node.content.program.first + length (procedures_of node.content.program) ≤ from)) → AreBelow from (bodies_over x f)
  over_below from None f h = tt
  over_below from (Some node) f h =
      let p : Program = node.content.program in
      let n : ℕ = length (procedures_of p) in
      below_more (p.first + n) from (with_bodies p (f node.parent)) (h node refl).1 (onto_below p.first n (f node.parent) (h node refl).0)

  up_below : (from k n : ℕ) → n ≤ k → AllBefore from n → AreBelow from (bodies_up k tree n)
  up_below from k zero l all = subst (λ (s : List ℕ). AreBelow from s) (sym (none_at_root k tree)) tt
  up_below from zero (suc i) l all = absurd (omega arith)
  up_below from (suc k) (suc i) l all =
      over_below from (slice_get tree.cells.nodes i) (bodies_up k tree)
      (λ node e.
      let p = parents_before tree legal i node e in
      let at : IsCellAt tree (suc i) node.content = cell_of_node tree i node e in (
        up_below node.content.program.first k node.parent (omega arith) (λ m cell low there. order m (suc i) cell node.content (omega arith) there at),
        all (suc i) node.content (omega arith) at,
      ))

  pub bodies_below : (from n : ℕ) → AllBefore from n → AreBelow from (bodies_at tree n)
  bodies_below from n all = up_below from n n (omega arith) all

  -- the bodies of a node are behind those of the nodes above it
  pub cell_behind : (n m : ℕ) (cell : EndedCell) → n < m → IsCellAt tree m cell → AreBelow cell.program.first (bodies_at tree n)
  cell_behind n m cell l at = bodies_below cell.program.first n (λ i c low there. order i m c cell (omega arith) there at)

-- ---- programs whose bodies stay

get_taken : (n : ℕ) (xs : List LinkedProcedure) (i : ℕ) (b : LinkedProcedure) → slice_get (take n xs) i ≡ Some b → slice_get xs i ≡ Some b
get_taken zero xs i b e = absurd (let l = slice_get_within {A = LinkedProcedure} [] i b e in omega arith)
get_taken (suc n) [] i b e = e
get_taken (suc n) (x ∷ xs) zero b e = e
get_taken (suc n) (x ∷ xs) (suc i) b e = get_taken n xs i b e

body_of_more : (n : ℕ) (bodies : List LinkedProcedure) (i : ℕ) (p : Proc) → IsBodyAt (take n bodies) i p → IsBodyAt bodies i p
body_of_more n bodies i p h = record { body = h.body; there = get_taken n bodies i h.body h.there; name = h.name; is = h.is }

bodies_of_more : (n : ℕ) (bodies : List LinkedProcedure) (first : ℕ) (ps : List Proc) → AreBodiesFrom (take n bodies) first ps →
    AreBodiesFrom bodies first ps
bodies_of_more n bodies first [] h = tt
bodies_of_more n bodies first (p ∷ ps) h = (body_of_more n bodies first p h.0, bodies_of_more n bodies (suc first) ps h.1)

taken_long : (n : ℕ) (xs : List LinkedProcedure) → length (take n xs) ≤ length xs
taken_long zero xs = omega arith
taken_long (suc n) [] = omega arith
taken_long (suc n) (x ∷ xs) = let l = taken_long n xs in omega arith

taken_short : (n m : ℕ) (xs : List LinkedProcedure) → m ≤ n → m ≤ length xs → m ≤ length (take n xs)
taken_short zero m xs l h = omega arith
taken_short (suc n) zero xs l h = omega arith
taken_short (suc n) (suc m) [] l h = h
taken_short (suc n) (suc m) (x ∷ xs) l h = let r = taken_short n m xs (omega arith) (omega arith) in omega arith

-- others were added behind them
pub ready_more : (es g : List Name) (old new : Procedures) (program : Program) → take (length (kept_in old)) (kept_in new) ≡ kept_in old →
    IsReady es g old program → IsReady es g new program
ready_more es g old new program e h =
    let long = taken_long (length (kept_in old)) (kept_in new) in
    let same = ap (λ (bs : List LinkedProcedure). length bs) e in
    let within = h.within in
    record {
      meant = h.meant;
      names = h.names;
      within = omega (arith, long, same, within);
      bodies = λ more on.
          (let ps : List Proc = procedures_in more (procedures_of program) in
          bodies_of_more (length (kept_in old)) (kept_in new) program.first ps
          (subst (λ (bs : List LinkedProcedure). AreBodiesFrom bs program.first ps) (sym e) (h.bodies more on)));
    }

-- those behind them were dropped
pub ready_less : (es g : List Name) (old new : Procedures) (from : ℕ) (program : Program) → program.first + length (procedures_of program) ≤ from →
    kept_in new ≡ take from (kept_in old) → IsReady es g old program → IsReady es g new program
ready_less es g old new from program low e h = record {
  meant = h.meant;
  names = h.names;
  within = subst (λ (bs : List LinkedProcedure). program.first + length (procedures_of program) ≤ length bs) (sym e)
      (taken_short from (program.first + length (procedures_of program)) (kept_in old) low h.within);
  bodies = λ more on.
      (let ps : List Proc = procedures_in more (procedures_of program) in
      let same : length ps ≡ length (procedures_of program) = length-map (procedures_of program) (procedure_in more) in
      bodies_from_same (take from (kept_in old)) (kept_in new) program.first ps e
      (bodies_from_below (kept_in old) from program.first ps (subst (λ (n : ℕ). program.first + n ≤ from) (sym same) low) (h.bodies more on)));
}

-- the same are kept
pub ready_same : (es g : List Name) (old new : Procedures) (program : Program) → kept_in new ≡ kept_in old → IsReady es g old program →
    IsReady es g new program
ready_same es g old new program e h = record {
  meant = h.meant;
  names = h.names;
  within = subst (λ (bs : List LinkedProcedure). program.first + length (procedures_of program) ≤ length bs) (sym e) h.within;
  bodies = λ more on. bodies_from_same (kept_in old) (kept_in new) program.first (procedures_in more (procedures_of program)) e (h.bodies more on);
}
