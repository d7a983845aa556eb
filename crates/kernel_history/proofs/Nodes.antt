-- The tree of cells read as that of the machine: its nodes and parents, the program of a work, the ways in it, and one more node.
use Rattle.std.proofs.Common.{◌≡◌, ℕ, ◌+◌, ◌-◌, ◌<◌, ◌≤◌, List, [], ◌∷◌, ◌++◌, Some, Result, Ok, Err, length, length-append, map, get_or, set, zero, suc, refl}
use Rattle.std.proofs.Common.{sym, ap, ◌∙◌, subst, arith}
use Rattle.std.specs.Prelude.{slice_get, IfOk}
use Rattle.std.proofs.lemmas.List.{length-map, map-append, get_or_at, get_or-map}
use Rattle.std.proofs.lemmas.Option.{slice_get_within, get_or_from_slice_get}
use Rattle.cell_tree.specs.declared.node.Node.{Node}
use Rattle.cell_tree.specs.declared.route.Route.{Route}
use Rattle.cell_tree.specs.declared.fault.TreeFault.{TreeFault}
use Rattle.cell_tree.specs.Tree as cells
use Rattle.cell_tree.specs.Tree.{parent_in, parents_of, contents_of}
use Rattle.cell_tree.specs.Paths as ways
use Rattle.cell_tree.specs.Paths.{upward, IsRoute}
use Rattle.cell_tree.proofs.Trees.{count_of_parents, parents_more}
use Rattle.cell_tree.proofs.Ways.{length-upward, upward_are_ancestors}
use Rattle.kernel_machine.specs.State as state
use Rattle.kernel_machine.specs.State.{root, ancestor, node_at}
use Rattle.kernel_machine.specs.Travel.{next_way}
use Rattle.kernel_machine.specs.declared.travel.Travel.{Travel}
use Rattle.kernel_machine.specs.declared.travel.Aim.TheVariants.{Goto}
use Rattle.kernel_machine.specs.declared.travel.Way.{Way}
use Rattle.kernel_machine.specs.declared.travel.Way.TheVariants.{Up, Down}
use Rattle.kernel_loader.specs.Program.{cell_of_program}
use Rattle.kernel_loader.specs.program.Program.{Program}
use Rattle.kernel_history.specs.Fields.{node_of, nodes_of, past_of}
use Rattle.kernel_machine.specs.Legal.{IsLegal, IsMeeting}
use Rattle.kernel_history.specs.Bodies.{IsCellAt, IsProgramOf}
use Rattle.kernel_history.specs.Kept.{HasPath}
use Rattle.kernel_history.specs.declared.tree.EndedCell.{EndedCell}
use Rattle.kernel_history.specs.declared.tree.HistoryTree.{HistoryTree}
use Rattle.kernel_history.specs.declared.job.Work.{Work}
use Rattle.kernel_history.specs.declared.job.Work.TheVariants.{Cell as RunCell, Move}
use Rattle.kernel_machine.proofs.Trees.{IsNext}

pub count_of_nodes : (tree : HistoryTree) → length (nodes_of tree) ≡ length tree.cells.nodes + 1
count_of_nodes tree = omega (arith, length-map tree.cells.nodes node_of)

same_parents : (nodes : List (Node EndedCell)) (i : ℕ) →
    (get_or (map node_of nodes) i root).parent ≡ get_or (map (λ (node : Node EndedCell). node.parent) nodes) i 0
same_parents [] zero = refl
same_parents [] (suc i) = refl
same_parents (node ∷ nodes) zero = refl
same_parents (node ∷ nodes) (suc i) = same_parents nodes i

-- a node has the same parent in both readings, and the same ancestors
pub parent_there : (tree : HistoryTree) (n : ℕ) → (node_at (past_of tree) n).parent ≡ parent_in (parents_of tree.cells.nodes) n
parent_there tree zero = refl
parent_there tree (suc n) = same_parents tree.cells.nodes n

pub ancestors_there : (tree : HistoryTree) (n j : ℕ) → ancestor (nodes_of tree) n j ≡ ways.ancestor (parents_of tree.cells.nodes) n j
ancestors_there tree n zero = refl
ancestors_there tree n (suc j) =
    parent_there tree (ancestor (nodes_of tree) n j) ∙ ap (λ (k : ℕ). parent_in (parents_of tree.cells.nodes) k) (ancestors_there tree n j)

-- the cell of a node is the machine's cell of that node
pub cell_there : (tree : HistoryTree) (n : ℕ) (cell : EndedCell) → IsCellAt tree n cell → cell_of_program cell.program ≡ (node_at (past_of tree) n).cell
cell_there tree zero cell at = absurd (let some = at.0 in omega arith)
cell_there tree (suc n) cell at =
    let content = λ (node : Node EndedCell). node.content in
    let none : Node EndedCell = record { parent = 0; content = cell } in
    let e : suc n - 1 ≡ n = omega arith in
    let read : slice_get (map content tree.cells.nodes) n ≡ Some cell = rw e at at.1 in
    let place = slice_get_within (map content tree.cells.nodes) n cell read in
    let size = length-map tree.cells.nodes content in
    let within : n < length tree.cells.nodes = omega arith in
    let held : (get_or tree.cells.nodes n none).content ≡ cell =
    sym (get_or-map content tree.cells.nodes n none cell within) ∙ get_or_from_slice_get (map content tree.cells.nodes) n cell cell read in
    ap (λ (c : EndedCell). cell_of_program c.program) (sym held)
    ∙ ap (λ (x : state.Node). x.cell) (sym (get_or-map node_of tree.cells.nodes n none root within))

-- a node has one cell
pub one_cell : (tree : HistoryTree) (n : ℕ) (a b : EndedCell) → IsCellAt tree n a → IsCellAt tree n b → a ≡ b
one_cell tree n a b p q =
    let e = sym p.1 ∙ q.1 in
    cc

-- the work has one program
same_up : (tree : HistoryTree) (travel : Travel) (way : Way) (p q : Program) → next_way travel ≡ way → IsProgramOf tree (Move travel) p →
    IsProgramOf tree (Move travel) q → p ≡ q
same_up tree travel Up p q way a b =
    let c = rw (way, IsProgramOf) at a in
    let d = rw (way, IsProgramOf) at b in
    c.2 ∙ ap (λ (x : EndedCell). x.program) (one_cell tree tree.position c.0 d.0 c.1 d.1) ∙ sym d.2
same_up tree travel Down p q way a b =
    let c = rw (way, IsProgramOf) at a in
    let d = rw (way, IsProgramOf) at b in
    c.2 ∙ ap (λ (x : EndedCell). x.program) (one_cell tree _ c.0 d.0 c.1 d.1) ∙ sym d.2

pub same_program : (tree : HistoryTree) (work : Work) (p q : Program) → IsProgramOf tree work p → IsProgramOf tree work q → p ≡ q
same_program tree (RunCell program) p q a b = a ∙ sym b
same_program tree (Move travel) p q a b = same_up tree travel (next_way travel) p q refl a b

-- ---- the way to a node

pub meeting_there : (tree : HistoryTree) (from to up down : ℕ) → IsRoute (parents_of tree.cells.nodes) from to up down →
    IsMeeting (nodes_of tree) from to up down
meeting_there tree from to up down w = record {
  same = ancestors_there tree from up ∙ w.up_there ∙ sym w.down_there ∙ sym (ancestors_there tree to down);
  least = λ i j e. w.shortest i j (sym (ancestors_there tree from i) ∙ e ∙ ancestors_there tree to j);
}

pub path_there : (tree : HistoryTree) (n down : ℕ) → tree.cells.way ≡ upward (parents_of tree.cells.nodes) n down → HasPath (Goto n) tree down
path_there tree n down e =
    let size : length tree.cells.way ≡ down = ap length e ∙ length-upward (parents_of tree.cells.nodes) n down in (
      omega arith,
      λ i l. ap (λ (way : List ℕ). get_or way i 0) e ∙ upward_are_ancestors (parents_of tree.cells.nodes) n down i l ∙ sym (ancestors_there tree n i),
    )

-- what a search for the way comes to
pub way_found : (tree : HistoryTree) (new : cells.Tree EndedCell) (target : ℕ) (r : Result Route TreeFault) →
    IfOk r (λ way. IsRoute (parents_of tree.cells.nodes) tree.position target way.up way.down) →
    IfOk r (λ way. new ≡ record tree.cells { way = upward (parents_of tree.cells.nodes) target way.down }) →
    IfOk r (λ way. IsMeeting (nodes_of (record tree { cells = new })) tree.position target way.up way.down)
way_found tree new target (Ok way) w kept =
    subst (λ (t : cells.Tree EndedCell). IsMeeting (nodes_of (record tree { cells = t })) tree.position target way.up way.down) (sym kept)
    (meeting_there tree tree.position target way.up way.down w)
way_found tree new target (Err fault) w kept = tt

pub path_found : (tree : HistoryTree) (new : cells.Tree EndedCell) (target : ℕ) (r : Result Route TreeFault) →
    IfOk r (λ way. new ≡ record tree.cells { way = upward (parents_of tree.cells.nodes) target way.down }) →
    IfOk r (λ way. HasPath (Goto target) (record tree { cells = new }) way.down)
path_found tree new target (Ok way) kept =
    subst (λ (t : cells.Tree EndedCell). HasPath (Goto target) (record tree { cells = t }) way.down) (sym kept)
    (path_there (record tree { cells = record tree.cells { way = upward (parents_of tree.cells.nodes) target way.down } }) target way.down refl)
path_found tree new target (Err fault) kept = tt

-- the node to which the position goes down is a child of it
pub child_below : (tree : HistoryTree) (c : ℕ) → IsNext (past_of tree) c → cells.IsChild tree.cells tree.position c
child_below tree c next =
    let size = count_of_nodes tree in
    let known : c < length (nodes_of tree) = next.known in
    record { below_root = next.some; known = omega arith; parent = sym (parent_there tree c) ∙ next.parent }

-- ---- one more node

pub one_more : (tree larger : HistoryTree) (node : Node EndedCell) → larger.cells.nodes ≡ tree.cells.nodes ++ node ∷ [] →
    nodes_of larger ≡ nodes_of tree ++ node_of node ∷ []
one_more tree larger node e =
    ap (λ (nodes : List state.Node). root ∷ nodes)
    (ap (λ (nodes : List (Node EndedCell)). map node_of nodes) e ∙ map-append node_of tree.cells.nodes (node ∷ []))

-- the nodes hold what they held, and the new one what it was added with
get_before : {A : Type 0} (xs : List A) (y a : A) (i : ℕ) → i < length xs → slice_get (xs ++ y ∷ []) i ≡ Some a → slice_get xs i ≡ Some a
get_before [] y a i l h = absurd (omega arith)
get_before (x ∷ xs) y a zero l h = h
get_before (x ∷ xs) y a (suc i) l h = get_before xs y a i (omega arith) h

get_new : {A : Type 0} (xs : List A) (y a : A) → slice_get (xs ++ y ∷ []) (length xs) ≡ Some a → y ≡ a
get_new [] y a h = cc
get_new (x ∷ xs) y a h = get_new xs y a h

pub contents_more : (tree larger : HistoryTree) (node : Node EndedCell) → larger.cells.nodes ≡ tree.cells.nodes ++ node ∷ [] →
    contents_of larger.cells ≡ contents_of tree.cells ++ node.content ∷ []
contents_more tree larger node e =
    let content = λ (node : Node EndedCell). node.content in
    ap (λ (nodes : List (Node EndedCell)). map content nodes) e ∙ map-append content tree.cells.nodes (node ∷ [])

pub cell_kept : (tree larger : HistoryTree) (node : Node EndedCell) (n : ℕ) (cell : EndedCell) → larger.cells.nodes ≡ tree.cells.nodes ++ node ∷ [] →
    IsCellAt larger n cell → n ≤ length tree.cells.nodes → IsCellAt tree n cell
cell_kept tree larger node n cell e at low =
    let some = at.0 in
    let count : length (contents_of tree.cells) ≡ length tree.cells.nodes = length-map tree.cells.nodes (λ (node : Node EndedCell). node.content) in (
      at.0,
      get_before (contents_of tree.cells) node.content cell (n - 1) (omega arith)
          (sym (ap (λ (xs : List EndedCell). slice_get xs (n - 1)) (contents_more tree larger node e)) ∙ at.1),
    )

pub cell_added : (tree larger : HistoryTree) (node : Node EndedCell) (n : ℕ) (cell : EndedCell) → larger.cells.nodes ≡ tree.cells.nodes ++ node ∷ [] →
    IsCellAt larger n cell → length tree.cells.nodes < n → (n ≡ length (nodes_of tree)) × (node.content ≡ cell)
cell_added tree larger node n cell e at high =
    let some = at.0 in
    let size = count_of_nodes tree in
    let count : length (contents_of tree.cells) ≡ length tree.cells.nodes = length-map tree.cells.nodes (λ (node : Node EndedCell). node.content) in
    let read : slice_get (contents_of tree.cells ++ node.content ∷ []) (n - 1) ≡ Some cell =
    sym (ap (λ (xs : List EndedCell). slice_get xs (n - 1)) (contents_more tree larger node e)) ∙ at.1 in
    let place = slice_get_within (contents_of tree.cells ++ node.content ∷ []) (n - 1) cell read in
    let more = length-append (contents_of tree.cells) (node.content ∷ []) in
    let last : n - 1 ≡ length (contents_of tree.cells) = omega arith in (
      omega arith,
      get_new (contents_of tree.cells) node.content cell (sym (ap (λ (i : ℕ). slice_get (contents_of tree.cells ++ node.content ∷ []) i) last) ∙ read),
    )

get_front : {A : Type 0} (xs : List A) (y a : A) (i : ℕ) → slice_get xs i ≡ Some a → slice_get (xs ++ y ∷ []) i ≡ Some a
get_front [] y a i h = absurd (cc)
get_front (x ∷ xs) y a zero h = h
get_front (x ∷ xs) y a (suc i) h = get_front xs y a i h

get_last : {A : Type 0} (xs : List A) (y : A) → slice_get (xs ++ y ∷ []) (length xs) ≡ Some y
get_last [] y = refl
get_last (x ∷ xs) y = get_last xs y

-- what they held they hold, and the new one too
pub cell_grown : (tree larger : HistoryTree) (node : Node EndedCell) (n : ℕ) (cell : EndedCell) → larger.cells.nodes ≡ tree.cells.nodes ++ node ∷ [] →
    IsCellAt tree n cell → IsCellAt larger n cell
cell_grown tree larger node n cell e at = (
  at.0,
  ap (λ (xs : List EndedCell). slice_get xs (n - 1)) (contents_more tree larger node e)
      ∙ get_front (contents_of tree.cells) node.content cell (n - 1) at.1,
)

pub cell_new : (tree larger : HistoryTree) (node : Node EndedCell) → larger.cells.nodes ≡ tree.cells.nodes ++ node ∷ [] →
    IsCellAt larger (length tree.cells.nodes + 1) node.content
cell_new tree larger node e =
    let count : length (contents_of tree.cells) ≡ length tree.cells.nodes = length-map tree.cells.nodes (λ (node : Node EndedCell). node.content) in
    let last : length tree.cells.nodes + 1 - 1 ≡ length (contents_of tree.cells) = omega arith in (
      omega arith,
      ap (λ (xs : List EndedCell). slice_get xs (length tree.cells.nodes + 1 - 1)) (contents_more tree larger node e)
          ∙ ap (λ (i : ℕ). slice_get (contents_of tree.cells ++ node.content ∷ []) i) last ∙ get_last (contents_of tree.cells) node.content,
    )

-- its parent is the one that it was added with
parent_added : (nodes : List (Node EndedCell)) (node : Node EndedCell) → parent_in (parents_of (nodes ++ node ∷ [])) (length nodes + 1) ≡ node.parent
parent_added nodes node =
    ap (λ (parents : List ℕ). parent_in parents (length nodes + 1)) (parents_more nodes node)
    ∙ get_or_at (parents_of nodes) node.parent [] 0 (length nodes + 1) (count_of_parents nodes)

pub child_added : (old new : cells.Tree EndedCell) (node : Node EndedCell) (n : ℕ) → new ≡ cells.grown old node → n ≡ length old.nodes + 1 →
    cells.IsChild new node.parent n
child_added old new node n e f =
    let size = length-append old.nodes (node ∷ []) in
    let child : cells.IsChild (cells.grown old node) node.parent (length old.nodes + 1) =
    record { below_root = omega arith; known = omega arith; parent = parent_added old.nodes node } in
    rw (e, f) child

-- a favourite that is set among more nodes is the one that is set among those before
set_before : (xs : List ℕ) (i x : ℕ) → i < length xs → set (xs ++ 0 ∷ []) i x ≡ set xs i x ++ 0 ∷ []
set_before [] i x l = absurd (omega arith)
set_before (y ∷ ys) zero x l = refl
set_before (y ∷ ys) (suc i) x l = ap (λ (zs : List ℕ). y ∷ zs) (set_before ys i x (omega arith))

-- the number of the new node, and the favourites with it below the position
pub number_added : (tree : HistoryTree) (n : ℕ) → n ≡ length tree.cells.nodes + 1 → n ≡ length (nodes_of tree)
number_added tree n e = let size = count_of_nodes tree in omega arith

pub favourites_added : (tree : HistoryTree) (grown set_there : cells.Tree EndedCell) (node : Node EndedCell) (n : ℕ) → IsLegal (past_of tree) →
    grown ≡ cells.grown tree.cells node → n ≡ length tree.cells.nodes + 1 →
    set_there ≡ record grown { favourites = set grown.favourites tree.position n } → set_there.favourites ≡ set tree.cells.favourites tree.position
    (length (nodes_of tree)) ++ 0 ∷ []
favourites_added tree grown set_there node n g e f h =
    let places = g.favourites in
    let low = g.position in
    ap (λ (t : cells.Tree EndedCell). t.favourites) h
    ∙ ap (λ (t : cells.Tree EndedCell). set t.favourites tree.position n) e
    ∙ set_before tree.cells.favourites tree.position n (omega arith)
    ∙ ap (λ (k : ℕ). set tree.cells.favourites tree.position k ++ 0 ∷ []) (number_added tree n f)

pub nodes_added : (tree : HistoryTree) (grown set_there : cells.Tree EndedCell) (node : Node EndedCell) (n : ℕ) → grown ≡ cells.grown tree.cells node →
    set_there ≡ record grown { favourites = set grown.favourites tree.position n } → set_there.nodes ≡ tree.cells.nodes ++ node ∷ []
nodes_added tree grown set_there node n e h = ap (λ (t : cells.Tree EndedCell). t.nodes) h ∙ ap (λ (t : cells.Tree EndedCell). t.nodes) e
