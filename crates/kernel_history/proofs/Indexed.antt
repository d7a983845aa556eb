-- The index tells what the tree says: the bodies that are defined are gone through from the entered cell, and from the position up to the root.
use Rattle.std.proofs.Common.{inl, inr, ◌≡◌, ◌⊎◌, ℕ, zero, suc, ◌+◌, ◌<◌, ◌≤◌, Bool, true, false, cond, List, ◌∷◌, length, Option, None, Some, refl, sym, ap}
use Rattle.std.proofs.Common.{◌∙◌, subst, arith}
use Rattle.std.specs.Prelude.{slice_get}
use Rattle.std.proofs.lemmas.Bool.{cases_lt, eq-eqb, eqb-true}
use Rattle.std.proofs.lemmas.Option.{slice_get_cases}
use Rattle.kernel_loader.specs.Bodies.{has_name, place_of_first, onto}
use Rattle.kernel_loader.specs.LinkedProcedure.{name_number_of}
use Rattle.kernel_loader.specs.Procedures.{kept_in}
use Rattle.kernel_loader.specs.linked_procedure.LinkedProcedure.{LinkedProcedure}
use Rattle.kernel_loader.specs.procedures.Procedures.{Procedures}
use Rattle.kernel_machine.specs.Legal.{IsLegal, IsInTimeAt}
use Rattle.kernel_machine.specs.State.{node_at, ancestor}
use Rattle.kernel_machine.specs.Travel.{next_way}
use Rattle.kernel_machine.specs.declared.travel.Way.{Way}
use Rattle.kernel_machine.specs.declared.travel.Way.TheVariants.{Up, Down}
use Rattle.kernel_machine.proofs.Trees.{ancestor_of_parent}
use Rattle.kernel_loader.specs.Program.{procedures_of, with_bodies}
use Rattle.kernel_loader.specs.program.Program.{Program}
use Rattle.kernel_loader.specs.runner.Runner.{Runner}
use Rattle.kernel_history.specs.Fields.{nodes_of, past_of, job_of}
use Rattle.kernel_history.specs.Bodies.{IsCellAt, bodies_at, bodies_in}
use Rattle.kernel_history.specs.Index.{HasName, Defines, DefinesNone, IsForward, IsEntered, EnteredDefinesNone, IsCellAbove, NearestDefines, NoneDefines, Tells}
use Rattle.kernel_history.specs.Index.{HasIndex}
use Rattle.kernel_history.specs.Kept.{Kept, IsKept}
use Rattle.kernel_history.specs.declared.tree.EndedCell.{EndedCell}
use Rattle.kernel_history.specs.declared.tree.HistoryTree.{HistoryTree}
use Rattle.kernel_history.specs.declared.job.Work.{Work}
use Rattle.kernel_history.specs.declared.job.Work.TheVariants.{Cell as RunCell, Move}
use Rattle.kernel_history.specs.declared.job.Open.{Open}
use Rattle.kernel_history.specs.declared.job.Open.TheVariants.{Idle, Border, Inside}
use Rattle.kernel_history.proofs.BodiesAt.{cell_of_node, bodies_of_cell}
use Rattle.kernel_history.proofs.Nodes.{count_of_nodes, one_cell, same_program}

-- ---- bodies in a row over older ones

module _ (t : Procedures) (n : ℕ) where
  abbrev IsInRow : ℕ → ℕ → ℕ → Type 0
  IsInRow first count i = (first ≤ i) × (i < first + count)

  -- of the row it is the last one that has the name
  abbrev IsLast : ℕ → ℕ → ℕ → Type 0
  IsLast first count i = IsInRow first count i × HasName t n i × ((j : ℕ) → IsInRow first count j → HasName t n j → j ≤ i)

  abbrev HaveNone : ℕ → ℕ → Type 0
  HaveNone first count = (i : ℕ) → IsInRow first count i → HasName t n i → ⊥

  -- the place is behind the last one of the row that has the name, else it is the rest
  abbrev TellsRow : ℕ → ℕ → ℕ → ℕ → Type 0
  TellsRow first count rest place = ((i : ℕ) × (place ≡ suc i) × IsLast first count i) ⊎ (HaveNone first count × (place ≡ rest))

  named : (i : ℕ) → has_name (slice_get (kept_in t) i) n ≡ true → HasName t n i
  named i e = by (slice_get (kept_in t) i) refl e
    where
      by : (o : Option LinkedProcedure) → slice_get (kept_in t) i ≡ o → has_name o n ≡ true → HasName t n i
      by None at e = absurd (cc)
      by (Some b) at e = (b, at, eqb-true (name_number_of b) n e)

  nameless : (i : ℕ) → has_name (slice_get (kept_in t) i) n ≡ false → HasName t n i → ⊥
  nameless i e h =
      let yes : has_name (slice_get (kept_in t) i) n ≡ true = ap (λ (o : Option LinkedProcedure). has_name o n) h.1 ∙ eq-eqb (name_number_of h.0) n h.2 in
      absurd (cc)

  -- one more in front of a row of which none has the name
  first_tells : (first count rest place : ℕ) (v : Bool) → has_name (slice_get (kept_in t) first) n ≡ v → HaveNone (suc first) count →
      place ≡ cond v (suc first) rest → TellsRow first (suc count) rest place
  first_tells first count rest place true e none p = inl (
    first,
    p,
    (
      (omega arith, omega arith),
      named first e,
      λ j row has. elim (cases_lt first j) [
        | inl more ↦ absurd (none j (omega arith, let l = row.1 in omega arith) has)
        | inr less ↦ less
      ],
    ),
  )
  first_tells first count rest place false e none p = inr (
    λ j row has. elim (cases_lt first j) [
      | inl more ↦ none j (omega arith, let l = row.1 in omega arith) has
      | inr less ↦ (let l = row.0 in let same : j ≡ first = omega arith in nameless first e (subst (λ (i : ℕ). HasName t n i) same has))
    ],
    p,
  )

  row_tells : (first count : ℕ) (stack : List ℕ) →
      TellsRow first count (place_of_first (kept_in t) stack n) (place_of_first (kept_in t) (onto first count stack) n)
  row_tells first zero stack = inr (λ i row has. absurd (let l = row.0 in let m = row.1 in omega arith), refl)
  row_tells first (suc count) stack = elim (row_tells (suc first) count (first ∷ stack)) [
    | inl own ↦
        (let low = own.2.0.0 in
        let high = own.2.0.1 in
        inl (
          own.0,
          own.1,
          (
            (omega arith, omega arith),
            own.2.1,
            λ j row has. elim (cases_lt first j) [
              | inl more ↦ own.2.2 j (omega arith, let m = row.1 in omega arith) has
              | inr less ↦ omega arith
            ],
          ),
        ))
    | inr older ↦ first_tells first count (place_of_first (kept_in t) stack n) _ (has_name (slice_get (kept_in t) first) n) refl older.0 older.1
  ]

  -- those of a program
  abbrev TellsOwn : Program → ℕ → ℕ → Type 0
  TellsOwn program rest place = TellsRow program.first (length (procedures_of program)) rest place

  own_tell : (program : Program) (stack : List ℕ) →
      TellsOwn program (place_of_first (kept_in t) stack n) (place_of_first (kept_in t) (with_bodies program stack) n)
  own_tell program stack = row_tells program.first (length (procedures_of program)) stack

  last_defines : (program : Program) (i : ℕ) → IsLast program.first (length (procedures_of program)) i → Defines t n program i
  last_defines program i l = record { own = l.0; named = l.1; last = l.2 }

-- ---- from a node up to the root

root_above : (tree : HistoryTree) (k : ℕ) → ancestor (nodes_of tree) 0 k ≡ 0
root_above tree zero = refl
root_above tree (suc k) = ap (λ (m : ℕ). (node_at (past_of tree) m).parent) (root_above tree k)

cell_within : (tree : HistoryTree) (i : ℕ) → i < length tree.cells.nodes → (cell : EndedCell) × IsCellAt tree (suc i) cell
cell_within tree i l = elim (slice_get_cases tree.cells.nodes i).1 [
  | inl some ↦ (some.0.content, cell_of_node tree i some.0 some.2)
  | inr past ↦ absurd (let m = past.0 in omega arith)
]

module _ (tree : HistoryTree) (t : Procedures) (n : ℕ) where
  abbrev TellsUp : ℕ → ℕ → Type 0
  TellsUp from zero = NoneDefines tree from t n
  TellsUp from (suc i) = NearestDefines tree from t n i

  root_tells : TellsUp 0 0
  root_tells = λ k cell at. absurd (let some = at.0 in let same = root_above tree k in omega arith)

  module _ (m : ℕ) (cell : EndedCell) (at : IsCellAt tree m cell) where
    abbrev parent : ℕ
    parent = (node_at (past_of tree) m).parent

    -- the node itself defines nothing of the name, nor does the one that is next to its parent
    none_above : (k : ℕ) (other : EndedCell) → DefinesNone t n cell.program →
        ((j : ℕ) → suc j ≡ k → IsCellAbove tree parent j other → DefinesNone t n other.program) → IsCellAbove tree m k other → DefinesNone t n other.program
    none_above zero other none above there = subst (λ (c : EndedCell). DefinesNone t n c.program) (one_cell tree m cell other at there) none
    none_above (suc k) other none above there = above k refl (subst (λ (a : ℕ). IsCellAt tree a other) (sym (ancestor_of_parent (nodes_of tree) m k)) there)

    -- it defines nothing of the name: what is told at its parent
    parent_tells : (rest : ℕ) → DefinesNone t n cell.program → TellsUp parent rest → TellsUp m rest
    parent_tells zero none above = λ k other there. none_above k other none (λ j e there. above j other there) there
    parent_tells (suc i) none above = record {
      up = suc above.up;
      cell = above.cell;
      there = subst (λ (a : ℕ). IsCellAt tree a above.cell) (ancestor_of_parent (nodes_of tree) m above.up) above.there;
      defines = above.defines;
      nearest = λ k nearer l there. none_above k nearer none (λ j e there. above.nearest j nearer (omega arith) there) there;
    }

    node_tells : (rest place : ℕ) → TellsOwn t n cell.program rest place → TellsUp parent rest → TellsUp m place
    node_tells rest place over above = elim over [
      | inl own ↦ subst (TellsUp m) (sym own.1) (record {
        up = 0;
        cell = cell;
        there = at;
        defines = last_defines t n cell.program own.0 own.2;
        nearest = λ k nearer l. absurd (omega arith);
      })
      | inr older ↦ subst (TellsUp m) (sym older.1) (parent_tells rest older.0 above)
    ]

  module _ (legal : IsLegal (past_of tree)) where
    tells_up : (most m : ℕ) → m ≤ most → m ≤ length tree.cells.nodes → TellsUp m (place_of_first (kept_in t) (bodies_at tree m) n)
    tells_up most zero l known = root_tells
    tells_up zero (suc i) l known = absurd (omega arith)
    tells_up (suc most) (suc i) l known =
        let size = count_of_nodes tree in
        let cell = cell_within tree i (omega arith) in
        let up : ℕ = (node_at (past_of tree) (suc i)).parent in
        let less : up < suc i = (legal.ran (suc i) (omega arith) (omega arith)).parent in
        subst (λ (stack : List ℕ). TellsUp (suc i) (place_of_first (kept_in t) stack n)) (sym (bodies_of_cell tree (suc i) cell.0 legal cell.1))
        (node_tells (suc i) cell.0 cell.1 _ _ (own_tell t n cell.0.program (bodies_at tree up)) (tells_up most up (omega arith) (omega arith)))

    tells_here : TellsUp tree.position (place_of_first (kept_in t) (bodies_at tree tree.position) n)
    tells_here =
        let size = count_of_nodes tree in
        let low : tree.position < length (nodes_of tree) = legal.position in
        tells_up tree.position tree.position (omega arith) (omega arith)

-- ---- over them the entered cell

module _ (tree : HistoryTree) (job : Open) (t : Procedures) (n : ℕ) where
  -- it defines nothing of the name: what is told at the position
  none_entered : (place : ℕ) → EnteredDefinesNone tree job t n → TellsUp tree t n tree.position place → Tells tree job t n place
  none_entered zero none up = (none, up)
  none_entered (suc i) none up = inr (none, up)

  entered_tells : (program : Program) (rest place : ℕ) → IsEntered tree job program → ((other : Program) → IsEntered tree job other → program ≡ other) →
      TellsOwn t n program rest place → TellsUp tree t n tree.position rest → Tells tree job t n place
  entered_tells program rest place is one over up = elim over [
    | inl own ↦ subst (Tells tree job t n) (sym own.1) (inl (program, is, last_defines t n program own.0 own.2))
    | inr older ↦ subst (Tells tree job t n) (sym older.1)
        (none_entered rest (λ other of. subst (λ (p : Program). DefinesNone t n p) (one other of) older.0) up)
  ]

-- the bodies in a cell that is run forward, and in one that is undone
bodies_inside : (tree : HistoryTree) (work : Work) (program : Program) →
    (IsForward work × (bodies_in tree work program ≡ with_bodies program (bodies_at tree tree.position))) ⊎
    ((IsForward work → ⊥) × (bodies_in tree work program ≡ bodies_at tree tree.position))
bodies_inside tree (RunCell own) program = inl (tt, refl)
bodies_inside tree (Move travel) program = by (next_way travel) refl
  where
    by : (way : Way) → next_way travel ≡ way →
        ((next_way travel ≡ Down) × (bodies_in tree (Move travel) program ≡ with_bodies program (bodies_at tree tree.position))) ⊎
        ((next_way travel ≡ Down → ⊥) × (bodies_in tree (Move travel) program ≡ bodies_at tree tree.position))
    by Up way = inr (λ down. cc, rw (way, bodies_in) refl)
    by Down way = inl (way, rw (way, bodies_in) refl)

-- ---- what is kept of the index

pub index_of : {L : Type 0} (tree : HistoryTree) (runner : Runner L) (job : Open) → Kept tree runner job → HasIndex tree job runner
index_of tree runner Idle k = λ n.
    let t : Procedures = runner.procedures in
    subst (Tells tree Idle t n) (sym (k.stands.0.defined.defined.newest n)) (none_entered tree Idle t n _ (λ other is. absurd is) (tells_here tree t n k.legal))
index_of tree runner (Border travel) k = λ n.
    let t : Procedures = runner.procedures in
    subst (Tells tree (Border travel) t n) (sym (k.stands.0.defined.defined.newest n))
    (none_entered tree (Border travel) t n _ (λ other is. absurd is) (tells_here tree t n k.legal))
index_of tree runner (Inside e) k = λ n.
    let t : Procedures = runner.procedures in
    let p : Program = k.stands.program in
    let up = tells_here tree t n k.legal in
    subst (Tells tree (Inside e) t n) (sym (k.stands.stands.defined.defined.newest n))
    (elim (bodies_inside tree e.work p) [
      | inl forward ↦ subst (λ (stack : List ℕ). Tells tree (Inside e) t n (place_of_first (kept_in t) stack n)) (sym forward.1)
          (entered_tells tree (Inside e) t n p _ _ (forward.0, k.stands.of_work) (λ other is. same_program tree e.work p other k.stands.of_work is.1)
          (own_tell t n p (bodies_at tree tree.position)) up)
      | inr undone ↦ subst (λ (stack : List ℕ). Tells tree (Inside e) t n (place_of_first (kept_in t) stack n)) (sym undone.1)
          (none_entered tree (Inside e) t n _ (λ other is. absurd (undone.0 is.0)) up)
    ])

-- it follows from the rest of what is kept
pub kept_in_time : {L : Type 0} (tree : HistoryTree) (runner : Runner L) (job : Open) → Kept tree runner job → IsInTimeAt (past_of tree) (job_of job) →
    IsKept tree runner job
kept_in_time tree runner job k in_time = record { kept = k; in_time = in_time; index = index_of tree runner job k }
