-- What the answers on slices and begins share: how runner, tree and open job go on together.
use Rattle.std.specs.Result.{is_err, IsOk, OnOk, OnErr}
use Rattle.std.specs.Prelude.{slice_get, sum_by, IfOk}
use Rattle.std.proofs.Common.{inl, inr, ◌≤◌, Some, Result, Ok, Err, true, false, ◌≡◌, ℕ, ◌+◌, ◌-◌, ◌<◌, Bool, List, [], ◌∷◌, ◌++◌, length, set, get_or, take}
use Rattle.std.proofs.Common.{zero, suc, refl, sym, ap, ◌∙◌, subst, arith}
use Rattle.std.proofs.lemmas.Bool.{cases_lt}
use Rattle.std.proofs.lemmas.List.{get_or_at, length-map, length-reverse, length-take-le}
use Rattle.std.proofs.lemmas.List.Sums.{sum_by_push}
use Rattle.std.proofs.lemmas.Option.{slice_get_within}
use Rattle.cell_tree.specs.declared.node.Node.{Node}
use Rattle.janus_meaning.specs.World.{World, empty_world, entered, Cell as ACell}
use Rattle.kernel_machine.specs.Travel.{next_way}
use Rattle.kernel_machine.specs.declared.travel.Travel.{Travel}
use Rattle.kernel_machine.specs.declared.travel.Aim.{Aim}
use Rattle.kernel_machine.specs.declared.travel.Aim.TheVariants.{Undo, Redo, Goto}
use Rattle.kernel_machine.specs.declared.travel.Way.TheVariants.{Up, Down}
use Rattle.kernel_machine.specs.Language.{IsFormed, IsSound, Code, Forward, Backward, CodePart, CodeExec, start_of, end_of}
use Rattle.kernel_machine.specs.State as state
use Rattle.kernel_machine.specs.State.{State, Past, new_state, root, node_at, world_at, here, below, code_of, ShownAt, procedures_at, worlds_from}
use Rattle.cell_tree.specs.Tree.{contents_of, root_alone}
use Rattle.kernel_history.specs.Fields.{nodes_of, work_of, job_of, past_of, state_of}
use Rattle.kernel_machine.specs.Legal.{CanGo, IsLegal, IsPossible, IsPossibleWork, IsCounted}
use Rattle.kernel_machine.specs.Slices.{cells, stepped, moved, grown, Arrives, Settles, HasEnded}
use Rattle.kernel_machine.specs.Begins.{Declares}
use Rattle.janus_meaning.specs.Syntax.{Name}
use Rattle.janus_slots.specs.Numbers.{GoOn}
use Rattle.janus_slots.specs.Slots as slots
use Rattle.janus_slots.specs.Slots.{names_in}
use Rattle.janus_slots.specs.Law.{AreListed}
use Rattle.kernel_loader.specs.StoreState.{StoreState, IsWhole, shown_store}
use Rattle.kernel_loader.specs.Tables.{IsReadable}
use Rattle.kernel_loader.specs.Bodies.{AreBelow, AreDefined, Define}
use Rattle.kernel_loader.specs.Procedures.{kept_in}
use Rattle.kernel_loader.proofs.BodiesInEffect.{forgotten_still_defined}
use Rattle.kernel_loader.specs.linked_procedure.LinkedProcedure.{LinkedProcedure}
use Rattle.kernel_loader.specs.procedures.Procedures.{Procedures}
use Rattle.kernel_loader.specs.Program.{cell_of_program, procedures_of, IsReady, with_bodies}
use Rattle.kernel_loader.specs.Runner.{ShownWorld, over, world_of, Becomes, Shows, Place, entry, inverse_entry, world_inside, start_at, Stands, Is, Between}
use Rattle.kernel_loader.specs.Runner.{IsInside, CanEnter, CanReturn, CanLeave}
use Rattle.kernel_history.specs.Bodies.{IsCellAt, IsBefore, IsBehindNodes, CanRun, NodesAreReady, AreInOrder, bodies_at, bodies_in, IsProgramOf}
use Rattle.kernel_history.specs.Bodies.{bodies_of_nodes, KeepsNoOther, KeepsNoOtherFor}
use Rattle.kernel_history.specs.Standing.{is_back, shown_here, place_in, StandsIn, StandsAt}
use Rattle.kernel_history.specs.Kept.{Kept, IsKept, HasRoom, HasPath, HasPathFor, KeepsOlderNames, KeepsOlderNamesFor, unlisted}
use Rattle.kernel_loader.specs.runner.Runner.{Runner}
use Rattle.kernel_loader.specs.program.Program.{Program}
use Rattle.kernel_history.specs.declared.tree.EndedCell.{EndedCell}
use Rattle.kernel_history.specs.declared.tree.HistoryTree.{HistoryTree}
use Rattle.kernel_machine.specs.declared.outcome.Sliced.{Sliced}
use Rattle.kernel_history.specs.declared.job.Work.{Work}
use Rattle.kernel_history.specs.declared.job.Work.TheVariants.{Cell as RunCell, Move}
use Rattle.kernel_machine.specs.declared.heading.Why.{Why}
use Rattle.kernel_machine.specs.declared.heading.Heading.{Heading}
use Rattle.kernel_machine.specs.declared.heading.Heading.TheVariants.{GoesOn, GoesBack}
use Rattle.kernel_history.specs.declared.job.Open.{Open}
use Rattle.kernel_history.specs.declared.job.Open.TheVariants.{Idle, Border, Inside}
use Rattle.kernel_machine.proofs.LanguageLaws.{part_none_forward, part_none_backward, exec_end, exec_some}
use Rattle.kernel_loader.proofs.Growing.{same_more, ready_grows}
use Rattle.kernel_loader.proofs.Listed.{listed_still}
use Rattle.kernel_loader.proofs.Readable.{readable}
use Rattle.kernel_loader.proofs.Unlisted.{taken_back, shown_same, shows_unlisted}
use Rattle.janus_slots.proofs.Whole.{names_size}
use Rattle.kernel_loader.proofs.Running.{stands_part}
use Rattle.kernel_history.specs.TableNames.{AreOfNodes, ListsNoOtherFor}
use Rattle.kernel_history.proofs.TableNames.{names_nodes, names_same, names_still, names_grown}
use Rattle.kernel_history.proofs.BodiesAt.{bodies_same, bodies_of_cell, bodies_new, bodies_below, cell_behind, ready_same, ready_less, ready_more}
use Rattle.kernel_history.proofs.Nodes.{count_of_nodes, cell_there, same_program, contents_more, cell_kept, cell_added}
use Rattle.kernel_history.proofs.WorldNames.{exec_names, names_below, world_kept, world_added, listed_own}
use Rattle.kernel_history.proofs.Indexed.{kept_in_time}
use Rattle.kernel_machine.proofs.Trees.{worlds-more, legal_up, legal_down, legal_grown, undone_world, redone_world, run_here, parent_sound, IsNext}
use Rattle.kernel_machine.proofs.Trees.{formed_below, next_below, up_possible, down_possible, way_up, way_down, new_legal, new_worlds}

-- the shown world is the runner's
pub shown_by : {L : Type 0} (tree : HistoryTree) (job : Open) (runner : Runner L) → StandsAt tree job runner →
    ShownAt (past_of tree) (job_of job) (world_of (procedures_at (past_of tree) (job_of job)) runner)
shown_by tree Idle runner h = ap (λ s. record { store = s; procedures = (here (past_of tree)).procedures }) h.0.store
shown_by tree (Border travel) runner h = ap (λ s. record { store = s; procedures = (here (past_of tree)).procedures }) h.0.store
shown_by tree (Inside e) runner h = stands_part _ _ _ _ h.stands

-- a runner shows the world at which it stands
pub stands_shows : {L : Type 0} (runner : Runner L) (program : Program) (at : Place) (is_turned : Bool) → Stands runner program at is_turned →
    Shows runner (over at.bodies (world_inside at runner))
stands_shows runner program at is_turned h =
    let start : World = start_at at in
    record {
      store = refl;
      texts = ap (λ (xs : List Name). length xs) h.texts ∙ length-reverse (names_in start.store) ∙ names_size start.store ∙ sym h.declared;
      listed = h.listed;
      defined = h.defined;
    }

-- ---- the nodes stay ready

-- a program can run where there are more names of procedures
can_run_still : {L : Type 0} (runner at : Runner L) (g : List Name) (program : Program) → GoOn runner.entries at.entries →
    (IsReady at.entries g runner.procedures program → IsReady at.entries g at.procedures program) → CanRun runner g program → CanRun at g program
can_run_still runner at g program listed kept can = record {
  ready = kept (ready_grows runner.entries at.entries listed g runner.procedures program can.ready);
  named = listed_still runner.entries at.entries listed (procedures_of program) can.named;
}

-- the names of procedures only grow, and the bodies of nodes stay kept
pub nodes_ready : {L : Type 0} (tree : HistoryTree) (runner at : Runner L) → GoOn runner.entries at.entries →
    kept_in at.procedures ≡ kept_in runner.procedures → NodesAreReady tree runner → NodesAreReady tree at
nodes_ready tree runner at listed same h = λ n cell is.
    (let g : List Name = names_in (world_at (past_of tree) n).store in
    can_run_still runner at g cell.program listed (ready_same at.entries g runner.procedures at.procedures cell.program same) (h n cell is))

-- as many stay kept
pub no_other_same : (tree : HistoryTree) (old new : Procedures) → kept_in new ≡ kept_in old → KeepsNoOther tree old → KeepsNoOther tree new
no_other_same tree old new same h = ap (λ (bs : List LinkedProcedure). length bs) same ∙ h

work_no_other : (tree : HistoryTree) (work : Work) (old new : Procedures) → kept_in new ≡ kept_in old → KeepsNoOtherFor tree work old →
    KeepsNoOtherFor tree work new
work_no_other tree (RunCell program) old new same h = (h.0, ap (λ (bs : List LinkedProcedure). length bs) same ∙ h.1)
work_no_other tree (Move travel) old new same h = no_other_same tree old new same h

work_older_names : {L : Type 0} (tree : HistoryTree) (work : Work) (runner at : Runner L) → at.entries ≡ runner.entries →
    kept_in at.procedures ≡ kept_in runner.procedures → KeepsOlderNamesFor tree runner work → KeepsOlderNamesFor tree at work
work_older_names tree (RunCell program) runner at entries same h =
    let ps = (here (past_of tree)).procedures in
    let less : take program.first_name at.entries ≡ take program.first_name runner.entries = ap (λ (l : List Name). take program.first_name l) entries in
    record {
      ready = nodes_ready tree (unlisted program runner) (unlisted program at)
          (same_more (take program.first_name runner.entries) (take program.first_name at.entries) less) same h.ready;
      listed = subst (λ (l : List Name). AreListed l ps) (sym less) h.listed;
      same = ap (λ (l : List Name). slots.procedures_in l ps) entries ∙ h.same ∙ ap (λ (l : List Name). slots.procedures_in l ps) (sym less);
    }
work_older_names tree (Move travel) runner at entries same h = tt

pub kept_inside : {L : Type 0} (tree : HistoryTree) (work : Work) (count c : ℕ) (heading to : Heading) (runner at : Runner L) →
    Kept tree runner (Inside (record { work = work; count = count; heading = heading })) → at.entries ≡ runner.entries →
    kept_in at.procedures ≡ kept_in runner.procedures → StandsIn tree work c (is_back to) at →
    Kept tree at (Inside (record { work = work; count = c; heading = to }))
kept_inside tree work count c heading to runner at k entries same p = record {
  legal = k.legal;
  possible = k.possible;
  counted = k.counted;
  stands = p;
  room = k.room;
  path = k.path;
  ready = nodes_ready tree runner at (same_more runner.entries at.entries entries) same k.ready;
  order = k.order;
  behind = k.behind;
  no_other = work_no_other tree work runner.procedures at.procedures same k.no_other;
  older_names = work_older_names tree work runner at entries same k.older_names;
  no_name = names_still tree work runner.entries at.entries entries k.no_name;
}

pub kept_idle : {L : Type 0} (tree : HistoryTree) (job : Open) (runner at : Runner L) → Kept tree runner job → NodesAreReady tree at →
    KeepsNoOther tree at.procedures → AreOfNodes tree at.entries → IsWhole at.counted.store → Shows at (shown_here tree) → Kept tree at Idle
kept_idle tree job runner at k ready no_other no_name whole shows = record {
  legal = k.legal;
  possible = tt;
  counted = tt;
  stands = (shows, whole);
  room = tt;
  path = tt;
  ready = ready;
  order = k.order;
  behind = tt;
  no_other = no_other;
  older_names = tt;
  no_name = no_name;
}

-- a store that shows the same shows the same world
pub shows_still : {L : Type 0} (runner at : Runner L) (shown : ShownWorld) → Becomes runner.counted.store at.counted.store (shown_store runner.counted.store) →
    at.procedures ≡ runner.procedures → at.entries ≡ runner.entries → Shows runner shown → Shows at shown
shows_still runner at shown h same entries shows =
    let ps = shown.world.procedures in
    record {
      store = h.shown ∙ shows.store;
      texts = h.texts;
      listed = subst (λ (es : List Name). AreListed es ps) (sym entries) shows.listed;
      defined = subst (λ (t : Procedures). Define t shown.bodies (slots.procedures_in at.entries ps)) (sym same)
          (subst (λ (es : List Name). Define runner.procedures shown.bodies (slots.procedures_in es ps)) (sym entries) shows.defined);
    }

-- no cell could be entered
pub kept_refused : {L : Type 0} (tree : HistoryTree) (job : Open) (runner at : Runner L) → Kept tree runner job → KeepsNoOther tree runner.procedures →
    AreOfNodes tree runner.entries → Shows runner (shown_here tree) → Becomes runner.counted.store at.counted.store (shown_store runner.counted.store) →
    at.procedures ≡ runner.procedures → at.entries ≡ runner.entries → Kept tree at Idle
kept_refused tree job runner at k no_other no_name shows h same entries =
    kept_idle tree job runner at k (nodes_ready tree runner at (same_more runner.entries at.entries entries) (ap kept_in same) k.ready)
    (no_other_same tree runner.procedures at.procedures (ap kept_in same) no_other) (names_same tree runner.entries at.entries entries no_name) h.whole
    (shows_still runner at (shown_here tree) h same entries shows)

-- ---- what is kept of the nodes alone

pub placed_nodes : {L : Type 0} (tree other : HistoryTree) (runner : Runner L) → other.cells.nodes ≡ tree.cells.nodes → NodesAreReady tree runner →
    NodesAreReady other runner
placed_nodes tree other runner e h =
    subst (λ (nodes : List (Node EndedCell)). NodesAreReady (record other { cells = record other.cells { nodes = nodes } }) runner) (sym e) h

pub ordered_nodes : (tree other : HistoryTree) → other.cells.nodes ≡ tree.cells.nodes → AreInOrder tree → AreInOrder other
ordered_nodes tree other e h = subst (λ (nodes : List (Node EndedCell)). AreInOrder (record other { cells = record other.cells { nodes = nodes } })) (sym e) h

pub no_other_nodes : (tree other : HistoryTree) (t : Procedures) → other.cells.nodes ≡ tree.cells.nodes → KeepsNoOther tree t → KeepsNoOther other t
no_other_nodes tree other t e h = subst (λ (nodes : List (Node EndedCell)). KeepsNoOther (record other { cells = record other.cells { nodes = nodes } }) t)
    (sym e) h

no_cell : (tree : HistoryTree) (n : ℕ) (cell : EndedCell) → past_of tree ≡ new_state.past → IsCellAt tree n cell → ⊥
no_cell tree n cell e at =
    let size = count_of_nodes tree in
    let one : length (nodes_of tree) ≡ 1 = ap (λ (s : Past). length s.nodes) e in
    let count : length (contents_of tree.cells) ≡ length tree.cells.nodes = length-map tree.cells.nodes (λ (node : Node EndedCell). node.content) in
    let place = slice_get_within (contents_of tree.cells) (n - 1) cell at.1 in
    omega arith

placed_none : {L : Type 0} (tree : HistoryTree) (runner : Runner L) → past_of tree ≡ new_state.past → NodesAreReady tree runner
placed_none tree runner e = λ n cell at. absurd (no_cell tree n cell e at)

ordered_none : (tree : HistoryTree) → past_of tree ≡ new_state.past → AreInOrder tree
ordered_none tree e = λ m n c d l at other. absurd (no_cell tree m c e at)

placed_grown : {L : Type 0} (tree larger : HistoryTree) (node : Node EndedCell) (runner : Runner L) → larger.cells.nodes ≡ tree.cells.nodes ++ node ∷ [] →
    IsLegal (past_of tree) →
    NodesAreReady tree runner → CanRun runner (names_in (world_at (past_of larger) (length (nodes_of tree))).store) node.content.program →
    NodesAreReady larger runner
placed_grown tree larger node runner nodes legal ready new = λ n cell at.
    elim (cases_lt (length tree.cells.nodes) n) [
      | inl high ↦
          (let last = cell_added tree larger node n cell nodes at high in
          subst (λ (m : ℕ). CanRun runner (names_in (world_at (past_of larger) m).store) cell.program) (sym last.0)
          (subst (λ (c : EndedCell). CanRun runner (names_in (world_at (past_of larger) (length (nodes_of tree))).store) c.program) last.1 new))
      | inr low ↦ subst (λ (w : World). CanRun runner (names_in w.store) cell.program) (sym (world_kept tree larger node nodes legal n low))
          (ready n cell (cell_kept tree larger node n cell nodes at low))
    ]

ordered_grown : (tree larger : HistoryTree) (node : Node EndedCell) → larger.cells.nodes ≡ tree.cells.nodes ++ node ∷ [] → AreInOrder tree →
    ((n : ℕ) (cell : EndedCell) → IsCellAt tree n cell → IsBefore cell.program node.content.program) → AreInOrder larger
ordered_grown tree larger node nodes order behind = λ m n c d l at other.
    let size = count_of_nodes tree in
    elim (cases_lt (length tree.cells.nodes) n) [
      | inl high ↦
          (let last = cell_added tree larger node n d nodes other high in
          let low : m ≤ length tree.cells.nodes = let a = last.0 in omega arith in
          subst (λ (x : EndedCell). IsBefore c.program x.program) last.1 (behind m c (cell_kept tree larger node m c nodes at low)))
      | inr low ↦ order m n c d l (cell_kept tree larger node m c nodes at (omega arith)) (cell_kept tree larger node n d nodes other low)
    ]

-- the bodies of the new node are one program's more
bodies_grown : (tree larger : HistoryTree) (node : Node EndedCell) → larger.cells.nodes ≡ tree.cells.nodes ++ node ∷ [] →
    bodies_of_nodes larger ≡ bodies_of_nodes tree + length (procedures_of node.content.program)
bodies_grown tree larger node nodes =
    let count = λ (cell : EndedCell). length (procedures_of cell.program) in
    ap (λ (cells : List EndedCell). sum_by count cells) (contents_more tree larger node nodes) ∙ sum_by_push count (contents_of tree.cells) node.content

-- ---- a new node

pub state_grown : (tree larger : HistoryTree) (program : ACell) (n : ℕ) (w : World) →
    nodes_of larger ≡ nodes_of tree ++ record { parent = tree.position; cell = program; steps = n } ∷ [] →
    larger.cells.favourites ≡ set tree.cells.favourites tree.position (length (nodes_of tree)) ++ 0 ∷ [] →
    larger.position ≡ length (nodes_of tree) →
    CodeExec (Forward program) (here (past_of tree)) n w →
    past_of larger ≡ grown (past_of tree) program n w
state_grown tree larger program n w nodes favourites position ran =
    let last : w ≡ end_of program (here (past_of tree)) n = exec_end _ _ _ _ ran in
    let more = worlds-more [] (nodes_of tree) (record { parent = tree.position; cell = program; steps = n }) in
    rw (nodes, favourites, position, more, last) refl

pub kept_grown : {L : Type 0} (tree larger : HistoryTree) (program : ACell) (n : ℕ) (runner : Runner L) (v : World) →
    nodes_of larger ≡ nodes_of tree ++ record { parent = tree.position; cell = program; steps = n } ∷ [] →
    larger.cells.favourites ≡ set tree.cells.favourites tree.position (length (nodes_of tree)) ++ 0 ∷ [] →
    larger.position ≡ length (nodes_of tree) →
    IsLegal (past_of tree) → IsFormed program (here (past_of tree)) →
    CodeExec (Forward program) (here (past_of tree)) n v → Shows runner (over (bodies_at larger larger.position) v) → IsWhole runner.counted.store →
    NodesAreReady larger runner → AreInOrder larger → KeepsNoOther larger runner.procedures → AreOfNodes larger runner.entries →
    Kept larger runner Idle
kept_grown tree larger program n runner v nodes favourites position legal formed ran shows whole ready order no_other no_name =
    let e = state_grown tree larger program n v nodes favourites position ran in
    let last : get_or (worlds_from [] (nodes_of tree) ++ v ∷ []) (length (nodes_of tree)) empty_world ≡ v =
    get_or_at (worlds_from [] (nodes_of tree)) v [] empty_world (length (nodes_of tree)) legal.worlds in
    record {
      legal = subst (λ (s : Past). IsLegal s) (sym e) (legal_grown (past_of tree) program n v legal formed ran);
      stands = (subst (λ (w : World). Shows runner (over (bodies_at larger larger.position) w)) (sym last ∙ ap (λ (s : Past). here s) (sym e)) shows, whole);
      possible = tt;
      counted = tt;
      room = tt;
      path = tt;
      ready = ready;
      order = order;
      behind = tt;
      no_other = no_other;
      older_names = tt;
      no_name = no_name;
    }

-- ---- a cell of a travel

-- the open job of the code, where its model is known
pub idle_job : (job : Open) → job_of job ≡ state.Idle → job ≡ Idle
idle_job Idle e = refl
idle_job (Border travel) e = cc
idle_job (Inside x) e = cc

-- a border of the code, where its model is known
pub border_job : (job : Open) (travel : Travel) → job_of job ≡ state.Border travel → (t : Travel) × (job ≡ Border t) × (t ≡ travel)
border_job Idle travel e = cc
border_job (Border t) travel e = (t, refl, cc)
border_job (Inside x) travel e = cc

pub kept_arrived : {L : Type 0} (left : ℕ) (moved-to : HistoryTree) (travel : Travel) (told : Sliced) (job : Open) (runner : Runner L) → left ≡ cells travel →
    IsLegal (past_of moved-to) → Shows runner (shown_here moved-to) → IsWhole runner.counted.store →
    CanGo travel.aim (nodes_of moved-to) moved-to.cells.favourites moved-to.position travel.up travel.down → IsCounted travel →
    HasPath travel.aim moved-to travel.down → NodesAreReady moved-to runner → AreInOrder moved-to → KeepsNoOther moved-to runner.procedures →
    AreOfNodes moved-to runner.entries → Arrives left (past_of moved-to) travel told (state_of moved-to job) → Kept moved-to runner job
kept_arrived zero tree travel told job runner size legal shown whole can small path ready order no_other no_name a =
    let e : job ≡ Idle = idle_job job (ap (λ (s : State). s.job) a.1) in
    rw e (record {
      legal = legal;
      possible = tt;
      counted = tt;
      stands = (shown, whole);
      room = tt;
      path = tt;
      ready = ready;
      order = order;
      behind = tt;
      no_other = no_other;
      older_names = tt;
      no_name = no_name;
    })
kept_arrived (suc left) tree travel told job runner size legal shown whole can small path ready order no_other no_name a =
    let at = border_job job _ (ap (λ (s : State). s.job) a.1) in
    let possible : IsPossible (nodes_of tree) tree.cells.favourites tree.position travel = record { some = omega arith; way_there = can } in
    rw at.1 (record {
      legal = legal;
      possible = subst (λ (x : Travel). IsPossible (nodes_of tree) tree.cells.favourites tree.position x) (sym at.2) possible;
      counted = subst (λ (x : Travel). IsCounted x) (sym at.2) small;
      stands = (shown, whole);
      room = tt;
      path = subst (λ (x : Travel). HasPath x.aim tree x.down) (sym at.2) path;
      ready = ready;
      order = order;
      behind = tt;
      no_other = no_other;
      older_names = tt;
      no_name = no_name;
    })

-- a path is kept for a way that is one node shorter
pub path_shorter : (a : Aim) (tree : HistoryTree) (down : ℕ) → HasPath a tree down → HasPath a tree (down - 1)
path_shorter Undo tree down h = tt
path_shorter Redo tree down h = tt
path_shorter (Goto n) tree down h = (let l = h.0 in omega arith, λ i l. h.1 i (omega arith))

path_of : (a : Aim) (tree other : HistoryTree) (down : ℕ) → other.cells.nodes ≡ tree.cells.nodes → other.cells.way ≡ tree.cells.way → HasPath a tree down →
    HasPath a other down
path_of Undo tree other down e f h = tt
path_of Redo tree other down e f h = tt
path_of (Goto n) tree other down e f h = rw (e, f) h

pub kept_up : {L : Type 0} (tree : HistoryTree) (p : ℕ) (travel : Travel) (runner : Runner L) (told : Sliced) (job : Open) → next_way travel ≡ Up →
    IsLegal (past_of tree) →
    IsPossible (nodes_of tree) tree.cells.favourites tree.position travel → IsCounted travel → HasPath travel.aim tree travel.down → NodesAreReady tree runner →
    AreInOrder tree → KeepsNoOther tree runner.procedures → AreOfNodes tree runner.entries → IsWhole runner.counted.store →
    p ≡ (node_at (past_of tree) tree.position).parent →
    Shows runner (over (bodies_at tree (node_at (past_of tree) tree.position).parent)
    (world_at (past_of tree) (node_at (past_of tree) tree.position).parent)) →
    Arrives (cells (stepped travel)) (past_of (record tree { position = p })) (stepped travel) told (state_of (record tree { position = p }) job) →
    Kept (record tree { position = p }) runner job
kept_up tree p travel runner told job way legal possible small path ready order no_other no_name whole to shows a =
    let can = up_possible (past_of tree) travel way possible in
    let some = possible.some in
    let first = small.0 in
    let up = way_up travel.up way in
    let above : HistoryTree = record tree { position = p } in
    let on : Travel = record travel { up = travel.up - 1; went_up = travel.went_up + 1 } in
    let e : stepped travel ≡ on = rw (way, stepped) refl in
    kept_arrived (cells on) above on told job runner refl (rw to (legal_up (past_of tree) legal))
    (subst (λ (stack : List ℕ). Shows runner (over stack (world_at (past_of tree) p))) (sym (bodies_same tree above p refl))
    (subst (λ (m : ℕ). Shows runner (over (bodies_at tree m) (world_at (past_of tree) m))) (sym to) shows))
    whole (rw to can.1) (omega arith, small.1)
    (path_of travel.aim tree above travel.down refl refl path) (placed_nodes tree above runner refl ready) (ordered_nodes tree above refl order)
    (no_other_nodes tree above runner.procedures refl no_other) (names_nodes tree above runner.entries refl no_name)
    (subst (λ (t : Travel). Arrives (cells t) (past_of above) t told (state_of above job)) e a)

pub kept_down : {L : Type 0} (tree moved-to : HistoryTree) (c : ℕ) (travel : Travel) (runner : Runner L) (told : Sliced) (job : Open) → next_way travel ≡ Down →
    IsLegal (past_of tree) →
    IsPossible (nodes_of tree) tree.cells.favourites tree.position travel → IsCounted travel → HasPath travel.aim tree travel.down → NodesAreReady tree runner →
    AreInOrder tree → KeepsNoOther tree runner.procedures → AreOfNodes tree runner.entries → IsWhole runner.counted.store →
    c ≡ below (past_of tree) travel → moved-to.cells.nodes ≡ tree.cells.nodes → moved-to.cells.favourites ≡ set tree.cells.favourites tree.position c →
    moved-to.position ≡ c → moved-to.cells.way ≡ tree.cells.way →
    Shows runner (over (bodies_at tree (below (past_of tree) travel)) (world_at (past_of tree) (below (past_of tree) travel))) →
    Arrives (cells (stepped travel)) (past_of moved-to) (stepped travel) told (state_of moved-to job) → Kept moved-to runner job
kept_down tree moved-to c travel runner told job way legal possible small path ready order no_other no_name whole to nodes favourites position kept-path shows a =
    let next = next_below (past_of tree) travel legal way possible in
    let can = down_possible (past_of tree) travel legal way possible in
    let some = possible.some in
    let second = small.1 in
    let none : travel.up ≡ 0 = way_down travel.up way in
    let on : Travel = record travel { down = travel.down - 1; went_down = travel.went_down + 1 } in
    let e : stepped travel ≡ on = rw (way, stepped) refl in
    let down : 0 < travel.down = omega arith in
    let past : past_of moved-to ≡ record (past_of tree)
    { favourites = set tree.cells.favourites tree.position (below (past_of tree) travel); position = below (past_of tree) travel } =
    rw (nodes, favourites, position, to) refl in
    let kept : HasPath travel.aim moved-to (travel.down - 1) =
    path_of travel.aim tree moved-to (travel.down - 1) nodes kept-path (path_shorter travel.aim tree travel.down path) in
    let stack : bodies_at moved-to moved-to.position ≡ bodies_at tree (below (past_of tree) travel) = bodies_same tree moved-to moved-to.position nodes
    ∙ ap (bodies_at tree) (position ∙ to) in
    kept_arrived (cells on) moved-to on told job runner refl
    (subst (λ (s : Past). IsLegal s) (sym past) (legal_down (past_of tree) (below (past_of tree) travel) legal next))
    (subst (λ (s : Past). Shows runner (over (bodies_at moved-to moved-to.position) (here s))) (sym past)
    (subst (λ (l : List ℕ). Shows runner (over l (world_at (past_of tree) (below (past_of tree) travel)))) (sym stack) shows)) whole
    (subst (λ (s : Past). CanGo travel.aim s.nodes s.favourites s.position travel.up (travel.down - 1)) (sym past)
    (subst (λ (u : ℕ). CanGo travel.aim (nodes_of tree) (set tree.cells.favourites tree.position (below (past_of tree) travel)) (below (past_of tree) travel) u
    (travel.down - 1)) (sym none) can))
    (small.0, omega arith) kept (placed_nodes tree moved-to runner nodes ready) (ordered_nodes tree moved-to nodes order)
    (no_other_nodes tree moved-to runner.procedures nodes no_other) (names_nodes tree moved-to runner.entries nodes no_name)
    (subst (λ (t : Travel). Arrives (cells t) (past_of moved-to) t told (state_of moved-to job)) e a)

-- the world at the end of an undone cell, and of a redone one
pub ended_up : (s : Past) (travel : Travel) (n : ℕ) (v : World) → next_way travel ≡ Up → IsLegal s → IsPossible s.nodes s.favourites s.position travel →
    HasEnded s (state.Move travel) n v →
    v ≡ entered (node_at s s.position).cell (world_at s (node_at s s.position).parent)
ended_up s travel n v way legal possible e =
    undone_world s n v legal (up_possible s travel way possible).0 (rw (way, code_of) at e)

pub ended_down : (s : Past) (travel : Travel) (n : ℕ) (v : World) → next_way travel ≡ Down → IsLegal s → IsPossible s.nodes s.favourites s.position travel →
    HasEnded s (state.Move travel) n v →
    v ≡ world_at s (below s travel)
ended_down s travel n v way legal possible e = redone_world s (below s travel) n v legal (next_below s travel legal way possible) (rw (way, code_of) at e)

-- ---- the program of the open job

-- where a runner stands, for the program that was found
pub stands_with : {L : Type 0} (tree : HistoryTree) (work : Work) (count : ℕ) (back : Bool) (runner : Runner L) (p : Program) → IsProgramOf tree work p →
    StandsIn tree work count back runner →
    Stands runner p (place_in tree work p count) back
stands_with tree work count back runner p of h =
    subst (λ (x : Program). Stands runner x (place_in tree work x count) back) (same_program tree work h.program p h.of_work of) h.stands

-- the position is a node
pub position_known : (tree : HistoryTree) → IsLegal (past_of tree) → tree.position ≤ length tree.cells.nodes
position_known tree g =
    let size = count_of_nodes tree in
    let low : tree.position < length (nodes_of tree) = g.position in
    omega arith

-- a posted cell that ended becomes a node, whose code runs as it stands, behind those of the others
module _ {L : Type 0} (tree larger : HistoryTree) (program : Program) (n : ℕ) (runner : Runner L)
    (k : Kept tree runner (Inside (record { work = RunCell program; count = n; heading = GoesOn })))
    (nodes : larger.cells.nodes ≡ tree.cells.nodes ++ record { parent = tree.position; content = record { program = program; steps = n } } ∷ []) where
  -- the world to which it led has the names with which it began
  pub placed_more : (v : World) → CodeExec (Forward (cell_of_program program)) (here (past_of tree)) n v → NodesAreReady larger runner
  placed_more v ran =
      let node : Node EndedCell = record { parent = tree.position; content = record { program = program; steps = n } } in
      let s = stands_with tree (RunCell program) n false runner program refl k.stands in
      let led : v ≡ world_at (past_of larger) (length (nodes_of tree)) = exec_end _ _ _ _ ran ∙ sym (world_added tree larger node nodes k.legal) in
      let same : names_in v.store ≡ names_in (entered (cell_of_program program) (here (past_of tree))).store =
      exec_names (Forward (cell_of_program program)) (here (past_of tree)) n v ran in
      let can : CanRun runner (names_in (entered (cell_of_program program) (here (past_of tree))).store) program =
      record { ready = s.ready; named = listed_own runner.entries (procedures_of program) (here (past_of tree)).procedures s.listed } in
      placed_grown tree larger node runner nodes k.legal k.ready
      (subst (λ (w : World). CanRun runner (names_in w.store) program) led (subst (λ (g : List Name). CanRun runner g program) (sym same) can))

  pub ordered_more : AreInOrder larger
  ordered_more = ordered_grown tree larger (record { parent = tree.position; content = record { program = program; steps = n } }) nodes k.order k.behind

  pub no_other_more : KeepsNoOther larger runner.procedures
  no_other_more =
      let first = k.no_other.0 in
      let kept = k.no_other.1 in
      let more = bodies_grown tree larger (record { parent = tree.position; content = record { program = program; steps = n } }) nodes in
      omega (arith, first, kept, more)

  pub no_name_more : AreOfNodes larger runner.entries
  no_name_more = names_grown tree larger (record { parent = tree.position; content = record { program = program; steps = n } }) runner.entries nodes k.no_name

  -- its own bodies are defined over those of the position
  pub shown_more : larger.position ≡ length (nodes_of tree) →
      Shows runner (over (bodies_at larger larger.position) (world_of (start_of (Forward (cell_of_program program)) (here (past_of tree))).procedures runner))
  shown_more position =
      let size = count_of_nodes tree in
      let low = position_known tree k.legal in
      let last : larger.position ≡ suc (length tree.cells.nodes) = omega arith in
      let stack : bodies_at larger larger.position ≡ with_bodies program (bodies_at tree tree.position) =
      ap (bodies_at larger) last ∙ bodies_new tree larger (record { parent = tree.position; content = record { program = program; steps = n } })
      k.legal nodes low in
      subst (λ (l : List ℕ). Shows runner (over l (world_of (start_of (Forward (cell_of_program program)) (here (past_of tree))).procedures runner)))
      (sym stack)
      (stands_shows runner program (place_in tree (RunCell program) program n) false (stands_with tree (RunCell program) n false runner program refl k.stands))

-- ---- begins

pub kept_entered : {L : Type 0} (tree : HistoryTree) (runner at : Runner L) (travel : Travel) → Kept tree runner (Border travel) →
    at.entries ≡ runner.entries → kept_in at.procedures ≡ kept_in runner.procedures → StandsIn tree (Move travel) 0 false at →
    IsKept tree at (Inside (record { work = Move travel; count = 0; heading = GoesOn }))
kept_entered tree runner at travel k entries same stands =
    kept_in_time tree at (Inside (record { work = Move travel; count = 0; heading = GoesOn }))
    (record {
      legal = k.legal;
      possible = k.possible;
      counted = k.counted;
      stands = stands;
      room = tt;
      path = k.path;
      ready = nodes_ready tree runner at (same_more runner.entries at.entries entries) same k.ready;
      order = k.order;
      behind = tt;
      no_other = no_other_same tree runner.procedures at.procedures same k.no_other;
      older_names = tt;
      no_name = names_same tree runner.entries at.entries entries k.no_name;
    })
    (exec_some (code_of (past_of tree) (state.Move travel)) (here (past_of tree)))

-- with no open job nothing is due
pub idle_in_time : {L : Type 0} (tree : HistoryTree) (runner : Runner L) → Kept tree runner Idle → IsKept tree runner Idle
idle_in_time tree runner k = kept_in_time tree runner Idle k tt

behind_nodes : (tree other : HistoryTree) (program : Program) → other.cells.nodes ≡ tree.cells.nodes → IsBehindNodes tree (RunCell program) →
    IsBehindNodes other (RunCell program)
behind_nodes tree other program e h =
    subst (λ (nodes : List (Node EndedCell)). IsBehindNodes (record other { cells = record other.cells { nodes = nodes } }) (RunCell program)) (sym e) h

pub nodes_more : {L : Type 0} (tree : HistoryTree) (runner at : Runner L) → GoOn runner.entries at.entries →
    take (length (kept_in runner.procedures)) (kept_in at.procedures) ≡ kept_in runner.procedures → NodesAreReady tree runner → NodesAreReady tree at
nodes_more tree runner at listed older h = λ n cell is.
    (let g : List Name = names_in (world_at (past_of tree) n).store in
    can_run_still runner at g cell.program listed (ready_more at.entries g runner.procedures at.procedures cell.program older) (h n cell is))

-- the world of the position is sound
pub here_sound : (tree : HistoryTree) → IsLegal (past_of tree) → IsSound (here (past_of tree))
here_sound tree legal = legal.sound tree.position legal.position

-- a posted cell is loaded: without its names the table is what it was
pub older_names_begun : {L : Type 0} (tree : HistoryTree) (old at : Runner L) (program : Program) → IsLegal (past_of tree) →
    NodesAreReady tree old → Is old (Between (shown_here tree)) → GoOn old.entries at.entries →
    take (length (kept_in old.procedures)) (kept_in at.procedures) ≡ kept_in old.procedures → program.first_name ≡ length old.entries →
    KeepsOlderNames tree at program
older_names_begun tree old at program legal ready is onward older first =
    let ps = (here (past_of tree)).procedures in
    let less : take program.first_name at.entries ≡ old.entries = taken_back old.entries at.entries program.first_name first onward in
    record {
      ready = nodes_more tree old (unlisted program at) (same_more old.entries (take program.first_name at.entries) less) older ready;
      listed = subst (λ (l : List Name). AreListed l ps) (sym less) is.0.listed;
      same = shown_same old at.entries (shown_here tree) onward (here_sound tree legal) is ∙ ap (λ (l : List Name). slots.procedures_in l ps) (sym less);
    }

older_names_nodes : {L : Type 0} (tree made : HistoryTree) (at : Runner L) (program : Program) → past_of made ≡ past_of tree →
    made.cells.nodes ≡ tree.cells.nodes → KeepsOlderNames tree at program → KeepsOlderNames made at program
older_names_nodes tree made at program same nodes h =
    let less : List Name = take program.first_name at.entries in
    record {
      ready = placed_nodes tree made (unlisted program at) nodes h.ready;
      listed = subst (λ (s : Past). AreListed less (here s).procedures) (sym same) h.listed;
      same = subst (λ (s : Past). slots.procedures_in at.entries (here s).procedures ≡ slots.procedures_in less (here s).procedures) (sym same) h.same;
    }

pub kept_begun : {L : Type 0} (tree made : HistoryTree) (runner at : Runner L) (program : Program) → Kept tree runner Idle → NodesAreReady tree at →
    KeepsOlderNames tree at program → ListsNoOtherFor tree (RunCell program) at.entries → IsBehindNodes tree (RunCell program) →
    past_of made ≡ past_of tree → made.cells.nodes ≡ tree.cells.nodes → made.position ≡ tree.position → HasRoom made →
    IsFormed (cell_of_program program) (here (past_of tree)) → program.first ≡ length (kept_in runner.procedures) →
    length (kept_in at.procedures) ≡ program.first + length (procedures_of program) →
    Stands at program (entry program (shown_here tree)) false → IsKept made at (Inside (record { work = RunCell program; count = 0; heading = GoesOn }))
kept_begun tree made runner at program k ready older names behind same nodes position room formed first last stands =
    let stack : bodies_at made made.position ≡ bodies_at tree tree.position = bodies_same tree made made.position nodes ∙ ap (bodies_at tree) position in
    kept_in_time made at (Inside (record { work = RunCell program; count = 0; heading = GoesOn }))
    (record {
      legal = subst (λ (s : Past). IsLegal s) (sym same) k.legal;
      possible = subst (λ (s : Past). IsFormed (cell_of_program program) (here s)) (sym same) formed;
      counted = tt;
      stands = record {
        program = program;
        of_work = refl;
        stands = subst (λ (s : Past). Stands at program (entry program (over (bodies_at made made.position) (here s))) false) (sym same)
            (subst (λ (l : List ℕ). Stands at program (entry program (over l (here (past_of tree)))) false) (sym stack) stands);
      };
      room = room;
      path = tt;
      ready = placed_nodes tree made at nodes ready;
      order = ordered_nodes tree made nodes k.order;
      behind = behind_nodes tree made program nodes behind;
      no_other = (first ∙ no_other_nodes tree made runner.procedures nodes k.no_other, last);
      older_names = older_names_nodes tree made at program same nodes older;
      no_name = (names_nodes tree made (take program.first_name at.entries) nodes names.0, names.1);
    })
    (exec_some (code_of (past_of made) (state.Posted (cell_of_program program))) (here (past_of made)))

-- a tree with room for a node more is the same tree
pub kept_with_room : {L : Type 0} (tree made : HistoryTree) (runner : Runner L) → Kept tree runner Idle → past_of made ≡ past_of tree →
    made.cells.nodes ≡ tree.cells.nodes → made.position ≡ tree.position → Kept made runner Idle
kept_with_room tree made runner k same nodes position =
    let stack : bodies_at made made.position ≡ bodies_at tree tree.position = bodies_same tree made made.position nodes ∙ ap (bodies_at tree) position in
    record {
      legal = subst (λ (s : Past). IsLegal s) (sym same) k.legal;
      possible = tt;
      counted = tt;
      stands = (
        subst (λ (s : Past). Shows runner (over (bodies_at made made.position) (here s))) (sym same)
            (subst (λ (l : List ℕ). Shows runner (over l (here (past_of tree)))) (sym stack) k.stands.0),
        k.stands.1,
      );
      room = tt;
      path = tt;
      ready = placed_nodes tree made runner nodes k.ready;
      order = ordered_nodes tree made nodes k.order;
      behind = tt;
      no_other = no_other_nodes tree made runner.procedures nodes k.no_other;
      older_names = tt;
      no_name = names_nodes tree made runner.entries nodes k.no_name;
    }

pub ok_fact : {A E : Type 0} (P : Type 0) (r : Result A E) → is_err r ≡ false → OnOk r P → P
ok_fact P (Ok x) e h = h
ok_fact P (Err x) e h = absurd (cc)

pub err_fact : {A E : Type 0} (P : Type 0) (r : Result A E) → is_err r ≡ true → OnErr r P → P
err_fact P (Ok x) e h = absurd (cc)
err_fact P (Err x) e h = h

-- ---- back at the count 0

pub began_cell : (tree : HistoryTree) (work : Work) (program : Program) (v : World) → work ≡ RunCell program →
    CodePart (code_of (past_of tree) (work_of work)) (here (past_of tree)) 0 v → v ≡ entered (cell_of_program program) (here (past_of tree))
began_cell tree work program v e p = part_none_forward (cell_of_program program) (here (past_of tree)) v (rw e at p)

pub began_up : (tree : HistoryTree) (work : Work) (travel : Travel) (v : World) → work ≡ Move travel → next_way travel ≡ Up →
    CodePart (code_of (past_of tree) (work_of work)) (here (past_of tree)) 0 v → v ≡ here (past_of tree)
began_up tree work travel v e way p =
    let s : Past = past_of tree in
    let q : CodePart (code_of (past_of tree) (state.Move travel)) (here (past_of tree)) 0 v = rw e at p in
    part_none_backward (node_at (past_of tree) tree.position).cell (here (past_of tree)) v (rw (way, code_of) at q)

pub began_down : (tree : HistoryTree) (work : Work) (travel : Travel) (v : World) (cell : EndedCell) → work ≡ Move travel → next_way travel ≡ Down →
    IsCellAt tree (below (past_of tree) travel) cell →
    CodePart (code_of (past_of tree) (work_of work)) (here (past_of tree)) 0 v → v ≡ entered (cell_of_program cell.program) (here (past_of tree))
began_down tree work travel v cell e way at p =
    let q : CodePart (code_of (past_of tree) (state.Move travel)) (here (past_of tree)) 0 v = rw e at p in
    part_none_forward (node_at (past_of tree) (below (past_of tree) travel)).cell (here (past_of tree)) v (rw (way, code_of) at q)
    ∙ ap (λ (c : ACell). entered c (here (past_of tree))) (sym (cell_there tree _ cell at))

-- what a call of `below` asks for, and where its node stands
pub work_possible : (s : Past) (work : state.Work) (travel : Travel) → work ≡ state.Move travel → IsPossibleWork s work →
    IsPossible s.nodes s.favourites s.position travel
work_possible s work travel e p = rw e at p

pub work_path : (tree : HistoryTree) (work : Work) (travel : Travel) → work ≡ Move travel → HasPathFor tree work → HasPath travel.aim tree travel.down
work_path tree work travel e p = rw e at p

pub below_there : (tree : HistoryTree) (travel : Travel) (i : ℕ) → IsLegal (past_of tree) → next_way travel ≡ Down →
    IsPossible (nodes_of tree) tree.cells.favourites tree.position travel → i ≡ below (past_of tree) travel →
    (0 < i) × (i ≤ length tree.cells.nodes)
below_there tree travel i legal way possible e =
    let next = next_below (past_of tree) travel legal way possible in
    let size = count_of_nodes tree in
    let some : 0 < below (past_of tree) travel = next.some in
    let known : below (past_of tree) travel < length (nodes_of tree) = next.known in
    (omega arith, omega arith)

-- the cells of a travel, as they are read
pub down_work : (s : Past) (work : state.Work) (travel : Travel) → work ≡ state.Move travel → next_way travel ≡ Down → IsLegal s → IsPossibleWork s work →
    IsNext s (below s travel)
down_work s work travel e way g p =
    let q : IsPossible s.nodes s.favourites s.position travel = rw e at p in
    next_below s travel g way q

pub up_work : (s : Past) (work : state.Work) (travel : Travel) → work ≡ state.Move travel → next_way travel ≡ Up → IsPossibleWork s work → 0 < s.position
up_work s work travel e way p =
    let q : IsPossible s.nodes s.favourites s.position travel = rw e at p in
    (up_possible s travel way q).0

pub cell_below : (tree : HistoryTree) (travel : Travel) (cell : EndedCell) (i : ℕ) → IsNext (past_of tree) (below (past_of tree) travel) →
    i ≡ below (past_of tree) travel →
    slice_get (contents_of tree.cells) (i - 1) ≡ Some cell → IsCellAt tree (below (past_of tree) travel) cell
cell_below tree travel cell i next e read = (next.some, rw e at read)

-- at the end of an undo, its names are the newest
pub up_names : (tree : HistoryTree) (travel : Travel) (n : ℕ) (v : World) (cell : EndedCell) → next_way travel ≡ Up → IsLegal (past_of tree) →
    IsPossible (nodes_of tree) tree.cells.favourites tree.position travel → HasEnded (past_of tree) (state.Move travel) n v →
    IsCellAt tree tree.position cell → v ≡ entered (cell_of_program cell.program) (world_at (past_of tree) (node_at (past_of tree) tree.position).parent)
up_names tree travel n v cell way legal possible ended at =
    ended_up (past_of tree) travel n v way legal possible ended
    ∙ ap (λ (c : ACell). entered c (world_at (past_of tree) (node_at (past_of tree) tree.position).parent)) (sym (cell_there tree tree.position cell at))

-- a tree of the root alone
pub new_past : (tree : HistoryTree) → tree.cells ≡ root_alone tree.cells.room → tree.position ≡ 0 → past_of tree ≡ new_state.past
new_past tree alone position = rw (alone, position, new_worlds) refl

-- no bodies are kept, and there is no node
pub no_other_new : (tree : HistoryTree) (t : Procedures) → tree.cells ≡ root_alone tree.cells.room → kept_in t ≡ [] → KeepsNoOther tree t
no_other_new tree t alone none = rw (alone, none) refl

pub kept_new : {L : Type 0} (tree : HistoryTree) (runner : Runner L) → past_of tree ≡ new_state.past → tree.position ≡ 0 →
    Is runner (Between (over [] empty_world)) → KeepsNoOther tree runner.procedures → AreOfNodes tree runner.entries → Kept tree runner Idle
kept_new tree runner e position is no_other no_name = record {
  legal = subst (λ (s : Past). IsLegal s) (sym e) new_legal;
  possible = tt;
  counted = tt;
  stands = (
    subst (λ (s : Past). Shows runner (over (bodies_at tree tree.position) (here s))) (sym e)
        (subst (λ (n : ℕ). Shows runner (over (bodies_at tree n) empty_world)) (sym position) is.0),
    is.1,
  );
  room = tt;
  path = tt;
  ready = placed_none tree runner e;
  order = ordered_none tree e;
  behind = tt;
  no_other = no_other;
  older_names = tt;
  no_name = no_name;
}

-- the program of an undo and of a redo, as it is read
up_is : (tree : HistoryTree) (travel : Travel) (p : Program) → next_way travel ≡ Up → (cell : EndedCell) × IsCellAt tree tree.position cell ×
    (p ≡ cell.program) → IsProgramOf tree (Move travel) p
up_is tree travel p way h = rw (way, IsProgramOf) h

down_is : (tree : HistoryTree) (travel : Travel) (p : Program) → next_way travel ≡ Down → (cell : EndedCell) ×
    IsCellAt tree (below (past_of tree) travel) cell × (p ≡ cell.program) → IsProgramOf tree (Move travel) p
down_is tree travel p way h = rw (way, IsProgramOf) h

pub cell_of_up : (tree : HistoryTree) (work : Work) (travel : Travel) (cell : EndedCell) → IsLegal (past_of tree) →
    IsPossibleWork (past_of tree) (work_of work) → work ≡ Move travel → next_way travel ≡ Up →
    slice_get (contents_of tree.cells) (tree.position - 1) ≡ Some cell → IsCellAt tree tree.position cell
cell_of_up tree work travel cell legal possible e way read =
    (up_work (past_of tree) (work_of work) travel (ap work_of e) way possible, read)

pub cell_of_down : (tree : HistoryTree) (work : Work) (travel : Travel) (cell : EndedCell) (i : ℕ) → IsLegal (past_of tree) →
    IsPossibleWork (past_of tree) (work_of work) → work ≡ Move travel → next_way travel ≡ Down →
    i ≡ below (past_of tree) travel → slice_get (contents_of tree.cells) (i - 1) ≡ Some cell → IsCellAt tree (below (past_of tree) travel) cell
cell_of_down tree work travel cell i legal possible e way at read =
    cell_below tree travel cell i (down_work (past_of tree) (work_of work) travel (ap work_of e) way legal possible) at read

pub program_up : (tree : HistoryTree) (work : Work) (travel : Travel) (cell : EndedCell) → work ≡ Move travel → next_way travel ≡ Up →
    IsCellAt tree tree.position cell → IsProgramOf tree work cell.program
program_up tree work travel cell e way at = rw e (up_is tree travel cell.program way (cell, at, refl))

pub program_down : (tree : HistoryTree) (work : Work) (travel : Travel) (cell : EndedCell) → work ≡ Move travel → next_way travel ≡ Down →
    IsCellAt tree (below (past_of tree) travel) cell → IsProgramOf tree work cell.program
program_down tree work travel cell e way at = rw e (down_is tree travel cell.program way (cell, at, refl))

-- the runner has gone on, or back, in the work's program
pub kept_at : {L : Type 0} (tree : HistoryTree) (work : Work) (count c : ℕ) (heading to : Heading) (runner at : Runner L) (p : Program) →
    Kept tree runner (Inside (record { work = work; count = count; heading = heading })) → at.entries ≡ runner.entries →
    kept_in at.procedures ≡ kept_in runner.procedures → IsProgramOf tree work p → Stands at p (place_in tree work p c) (is_back to) →
    Kept tree at (Inside (record { work = work; count = c; heading = to }))
kept_at tree work count c heading to runner at p k entries same of stands =
    kept_inside tree work count c heading to runner at k entries same (record { program = p; of_work = of; stands = stands })

-- in the form in which the calls of the runner ask for it
pub inside_with : {L : Type 0} (tree : HistoryTree) (work : Work) (count : ℕ) (heading : Heading) (runner : Runner L) (p : Program) →
    Kept tree runner (Inside (record { work = work; count = count; heading = heading })) → IsProgramOf tree work p → IsInside runner p (is_back heading)
inside_with tree work count heading runner p k of = (place_in tree work p count, stands_with tree work count (is_back heading) runner p of k.stands)

-- a cell of a travel settles
pub settled_up : (tree : HistoryTree) (p : ℕ) (travel : Travel) (n : ℕ) (w : World) (told : Sliced) (new : State) → next_way travel ≡ Up →
    p ≡ (node_at (past_of tree) tree.position).parent →
    Arrives (cells (stepped travel)) (past_of (record tree { position = p })) (stepped travel) told new →
    Settles (past_of tree) (state.Move travel) n w told new
settled_up tree p travel n w told new way to a =
    let e : past_of (record tree { position = p }) ≡ moved (past_of tree) travel = rw (way, moved, to) refl in
    subst (λ (s : Past). Arrives (cells (stepped travel)) s (stepped travel) told new) e a

pub settled_down : (tree moved-to : HistoryTree) (c : ℕ) (travel : Travel) (n : ℕ) (w : World) (told : Sliced) (new : State) → next_way travel ≡ Down →
    c ≡ below (past_of tree) travel →
    moved-to.cells.nodes ≡ tree.cells.nodes → moved-to.cells.favourites ≡ set tree.cells.favourites tree.position c → moved-to.position ≡ c →
    Arrives (cells (stepped travel)) (past_of moved-to) (stepped travel) told new → Settles (past_of tree) (state.Move travel) n w told new
settled_down tree moved-to c travel n w told new way to nodes favourites position a =
    let e : past_of moved-to ≡ moved (past_of tree) travel = rw (way, moved, nodes, favourites, position, to) refl in
    subst (λ (s : Past). Arrives (cells (stepped travel)) s (stepped travel) told new) e a

-- ---- the next cell of a travel, where the runner stands at a border

pub next_down : (tree : HistoryTree) (travel : Travel) (cell : EndedCell) (i : ℕ) → next_way travel ≡ Down → IsLegal (past_of tree) →
    IsPossible (nodes_of tree) tree.cells.favourites tree.position travel →
    i ≡ below (past_of tree) travel → slice_get (contents_of tree.cells) (i - 1) ≡ Some cell → IsCellAt tree (below (past_of tree) travel) cell
next_down tree travel cell i way legal possible at read =
    cell_below tree travel cell i (next_below (past_of tree) travel legal way possible) at read

pub formed_next : (tree : HistoryTree) (travel : Travel) (cell : EndedCell) → next_way travel ≡ Down → IsLegal (past_of tree) →
    IsPossible (nodes_of tree) tree.cells.favourites tree.position travel →
    IsCellAt tree (below (past_of tree) travel) cell → IsFormed (cell_of_program cell.program) (here (past_of tree))
formed_next tree travel cell way legal possible at =
    let next = next_below (past_of tree) travel legal way possible in
    subst (λ (c : ACell). IsFormed c (here (past_of tree))) (sym (cell_there tree _ cell at))
    (formed_below (past_of tree) (below (past_of tree) travel) legal next)

-- the names of the node below are those with which its cell begins
names_next : (tree : HistoryTree) (travel : Travel) (cell : EndedCell) → next_way travel ≡ Down → IsLegal (past_of tree) →
    IsPossible (nodes_of tree) tree.cells.favourites tree.position travel →
    IsCellAt tree (below (past_of tree) travel) cell → names_in (world_at (past_of tree) (below (past_of tree) travel)).store ≡ names_in
    (entered (cell_of_program cell.program) (here (past_of tree))).store
names_next tree travel cell way legal possible at =
    let next = next_below (past_of tree) travel legal way possible in
    names_below (past_of tree) (below (past_of tree) travel) legal next
    ∙ ap (λ (c : ACell). names_in (entered c (here (past_of tree))).store) (sym (cell_there tree _ cell at))

-- the position stands before the node below
before_below : (tree : HistoryTree) (travel : Travel) → next_way travel ≡ Down → IsLegal (past_of tree) →
    IsPossible (nodes_of tree) tree.cells.favourites tree.position travel → tree.position < below (past_of tree) travel
before_below tree travel way legal possible =
    let next = next_below (past_of tree) travel legal way possible in
    let parent = (legal.ran (below (past_of tree) travel) next.some next.known).parent in
    let same = next.parent in
    omega arith

pub can_go_down_to : {L : Type 0} (tree : HistoryTree) (travel : Travel) (cell : EndedCell) (runner : Runner L) → next_way travel ≡ Down →
    IsLegal (past_of tree) → IsPossible (nodes_of tree) tree.cells.favourites tree.position travel →
    IsCellAt tree (below (past_of tree) travel) cell → Is runner (Between (shown_here tree)) → NodesAreReady tree runner → AreInOrder tree →
    CanEnter runner cell.program (shown_here tree)
can_go_down_to tree travel cell runner way legal possible at is ready order = record {
  is = is;
  sound = here_sound tree legal;
  formed = formed_next tree travel cell way legal possible at;
  ready = subst (λ (g : List Name). IsReady runner.entries g runner.procedures cell.program)
      (names_next tree travel cell way legal possible at) (ready _ cell at).ready;
  named = (ready _ cell at).named;
  behind = cell_behind tree legal order tree.position (below (past_of tree) travel) cell (before_below tree travel way legal possible) at;
}

pub stands_next_down : {L : Type 0} (tree : HistoryTree) (travel : Travel) (cell : EndedCell) (at : Runner L) → next_way travel ≡ Down →
    IsCellAt tree (below (past_of tree) travel) cell →
    Stands at cell.program (entry cell.program (shown_here tree)) false → StandsIn tree (Move travel) 0 false at
stands_next_down tree travel cell at way is stands =
    let same = cell_there tree _ cell is in
    let code : Forward (cell_of_program cell.program) ≡ code_of (past_of tree) (state.Move travel) = rw (way, code_of) (ap (λ (c : ACell). Forward c) same) in
    let stack : with_bodies cell.program (bodies_at tree tree.position) ≡ bodies_in tree (Move travel) cell.program = rw (way, bodies_in) refl in
    record {
      program = cell.program;
      of_work = down_is tree travel cell.program way (cell, is, refl);
      stands = subst
          (λ (c : Code). Stands at cell.program
          (record { bodies = bodies_in tree (Move travel) cell.program; code = c; world = here (past_of tree); count = 0 }) false) code
          (subst (λ (l : List ℕ). Stands at cell.program
          (record { bodies = l; code = Forward (cell_of_program cell.program); world = here (past_of tree); count = 0 }) false) stack stands);
    }

pub next_up : (tree : HistoryTree) (travel : Travel) (cell : EndedCell) → next_way travel ≡ Up → IsLegal (past_of tree) →
    IsPossible (nodes_of tree) tree.cells.favourites tree.position travel →
    slice_get (contents_of tree.cells) (tree.position - 1) ≡ Some cell → IsCellAt tree tree.position cell
next_up tree travel cell way legal possible read =
    ((up_possible (past_of tree) travel way possible).0, read)

pub can_go_up_from : {L : Type 0} (tree : HistoryTree) (travel : Travel) (cell : EndedCell) (runner : Runner L) → next_way travel ≡ Up →
    IsLegal (past_of tree) → IsPossible (nodes_of tree) tree.cells.favourites tree.position travel →
    IsCellAt tree tree.position cell → Is runner (Between (shown_here tree)) → NodesAreReady tree runner → CanReturn runner cell.program (shown_here tree)
can_go_up_from tree travel cell runner way legal possible at is ready =
    let some = (up_possible (past_of tree) travel way possible).0 in
    let run = run_here (past_of tree) legal some in
    record {
      is = is;
      before = world_at (past_of tree) (node_at (past_of tree) tree.position).parent;
      steps = (node_at (past_of tree) tree.position).steps;
      ran = subst (λ (c : ACell). CodeExec (Forward c) (world_at (past_of tree) (node_at (past_of tree) tree.position).parent)
          (node_at (past_of tree) tree.position).steps (here (past_of tree))) (sym (cell_there tree tree.position cell at)) run.ran;
      sound = parent_sound (past_of tree) legal some;
      formed = subst (λ (c : ACell). IsFormed c (world_at (past_of tree) (node_at (past_of tree) tree.position).parent))
          (sym (cell_there tree tree.position cell at)) run.formed;
      ready = (ready _ cell at).ready;
    }

pub stands_next_up : {L : Type 0} (tree : HistoryTree) (travel : Travel) (cell : EndedCell) (at : Runner L) → next_way travel ≡ Up →
    IsCellAt tree tree.position cell →
    Stands at cell.program (inverse_entry cell.program (shown_here tree)) false → StandsIn tree (Move travel) 0 false at
stands_next_up tree travel cell at way is stands =
    let same = cell_there tree _ cell is in
    let code : Backward (cell_of_program cell.program) ≡ code_of (past_of tree) (state.Move travel) = rw (way, code_of) (ap (λ (c : ACell). Backward c) same) in
    let stack : bodies_at tree tree.position ≡ bodies_in tree (Move travel) cell.program = rw (way, bodies_in) refl in
    record {
      program = cell.program;
      of_work = up_is tree travel cell.program way (cell, is, refl);
      stands = subst
          (λ (c : Code). Stands at cell.program
          (record { bodies = bodies_in tree (Move travel) cell.program; code = c; world = here (past_of tree); count = 0 }) false) code
          (subst (λ (l : List ℕ). Stands at cell.program (inverse_entry cell.program (over l (here (past_of tree)))) false) stack stands);
    }

not_ok : (A E : Type 0) (x : E) → IsOk {T = A} {E = E} (Err x) → ⊥
not_ok A E x h = cc

-- only a cell with declarations may find no memory
pub declares_next : (A E : Type 0) (tree : HistoryTree) (travel : Travel) (cell : EndedCell) (r : Result A E) → next_way travel ≡ Down →
    IsCellAt tree (below (past_of tree) travel) cell →
    ((cell_of_program cell.program).declarations ≡ [] → IsOk r) → OnErr r (Declares (past_of tree) travel)
declares_next A E tree travel cell (Ok x) way is none = tt
declares_next A E tree travel cell (Err x) way is none =
    let same = cell_there tree _ cell is in
    rw (way, Declares)
    (λ (e : (node_at (past_of tree) (below (past_of tree) travel)).cell.declarations ≡ []). not_ok A E x
    (none (ap (λ (c : ACell). c.declarations) same ∙ e)))

pub ok_map : {A E : Type 0} {P Q : Type 0} (r : Result A E) → (P → Q) → OnOk r P → OnOk r Q
ok_map (Ok x) f h = f h
ok_map (Err x) f h = tt

pub if_ok_map : {A E : Type 0} {P Q : A → Type 0} (r : Result A E) → ((x : A) → P x → Q x) → IfOk r P → IfOk r Q
if_ok_map (Ok x) f h = f x h
if_ok_map (Err e) f h = tt

-- ---- between two jobs

pub idle_store : {L : Type 0} (tree : HistoryTree) (runner : Runner L) (job : Open) → StandsAt tree job runner → job_of job ≡ state.Idle →
    shown_store runner.counted.store ≡ (here (past_of tree)).store
idle_store tree runner Idle stands e = stands.0.store
idle_store tree runner (Border travel) stands e = absurd (cc e)
idle_store tree runner (Inside i) stands e = absurd (cc e)

-- the declared names can be read, since no local is open
pub idle_readable : {L : Type 0} (tree : HistoryTree) (runner : Runner L) (job : Open) → StandsAt tree job runner → job_of job ≡ state.Idle →
    IsLegal (past_of tree) → IsReadable runner.counted.store
idle_readable tree runner Idle stands e legal = readable runner (shown_here tree) stands (legal.sound tree.position legal.position)
idle_readable tree runner (Border travel) stands e legal = absurd (cc e)
idle_readable tree runner (Inside i) stands e legal = absurd (cc e)

-- ---- what a runner leaves, from where it stands

module _ {L : Type 0} (tree : HistoryTree) (runner : Runner L) (cell : EndedCell) (n : ℕ) (at : IsCellAt tree tree.position cell)
    (legal : IsLegal (past_of tree)) where
  -- the cell of the position is undone: what it declared and defined is left to be taken back
  pub can_leave_up : (travel : Travel) (back : Bool) → next_way travel ≡ Up → StandsIn tree (Move travel) n back runner → IsWhole runner.counted.store →
      NodesAreReady tree runner →
      world_of (start_of (code_of (past_of tree) (state.Move travel)) (here (past_of tree))).procedures runner ≡ entered (cell_of_program cell.program)
      (world_at (past_of tree) (node_at (past_of tree) tree.position).parent) →
      CanLeave runner cell.program
      (over (bodies_at tree (node_at (past_of tree) tree.position).parent) (world_at (past_of tree) (node_at (past_of tree) tree.position).parent))
  can_leave_up travel back way stands whole ready world =
      let p : Program = cell.program in
      let s = stands_with tree (Move travel) n back runner p (up_is tree travel p way (cell, at, refl)) stands in
      let shows = stands_shows runner p (place_in tree (Move travel) p n) back s in
      let stack : bodies_in tree (Move travel) p ≡ with_bodies p (bodies_at tree (node_at (past_of tree) tree.position).parent) =
      rw (way, bodies_in) (bodies_of_cell tree tree.position cell legal at) in
      record {
        is = (
          subst (λ (l : List ℕ). Shows runner (over l (entered (cell_of_program p) (world_at (past_of tree) (node_at (past_of tree) tree.position).parent))))
              stack
              (subst (λ (w : World). Shows runner (over (bodies_in tree (Move travel) p) w)) world shows),
          whole,
        );
        within = (ready tree.position cell at).ready.within;
      }

-- a redone cell has ended: its bodies are defined over those of the position, and are those of its node
pub shows_down : {L : Type 0} (tree : HistoryTree) (runner : Runner L) (travel : Travel) (n : ℕ) →
    Kept tree runner (Inside (record { work = Move travel; count = n; heading = GoesOn })) → next_way travel ≡ Down →
    HasEnded (past_of tree) (state.Move travel) n (world_of (start_of (code_of (past_of tree) (state.Move travel)) (here (past_of tree))).procedures runner) →
    Shows runner (over (bodies_at tree (below (past_of tree) travel)) (world_at (past_of tree) (below (past_of tree) travel)))
shows_down tree runner travel n k way ended =
    let s : Past = past_of tree in
    let p : Program = k.stands.program in
    let of = rw (way, IsProgramOf) at k.stands.of_work in
    let next = next_below s travel k.legal way k.possible in
    let stack : bodies_in tree (Move travel) p ≡ bodies_at tree (below s travel) =
    rw (way, bodies_in)
    (ap (λ (q : Program). with_bodies q (bodies_at tree tree.position)) of.2 ∙ ap (λ (m : ℕ). with_bodies of.0.program (bodies_at tree m)) (sym next.parent)
    ∙ sym (bodies_of_cell tree (below s travel) of.0 k.legal of.1)) in
    let world = ended_down s travel n (world_of (start_of (code_of s (state.Move travel)) (here s)).procedures runner) way k.legal k.possible ended in
    subst (λ (l : List ℕ). Shows runner (over l (world_at s (below s travel)))) stack
    (subst (λ (w : World). Shows runner (over (bodies_in tree (Move travel) p) w)) world
    (stands_shows runner p (place_in tree (Move travel) p n) false k.stands.stands))

-- a cell is posted: its bodies are kept behind those of all nodes
pub posted_behind : {L : Type 0} (tree : HistoryTree) (runner : Runner L) (program : Program) → NodesAreReady tree runner →
    program.first ≡ length (kept_in runner.procedures) → IsBehindNodes tree (RunCell program)
posted_behind tree runner program ready first = λ n cell is. let within = (ready n cell is).ready.within in omega (arith, within, first)

pub behind_stack : (tree : HistoryTree) (program : Program) → IsLegal (past_of tree) → AreInOrder tree → IsBehindNodes tree (RunCell program) →
    AreBelow program.first (bodies_at tree tree.position)
behind_stack tree program legal order behind = bodies_below tree legal order program.first tree.position (λ m cell low there. behind m cell there)

-- back at the count 0 what a cell declared and defined is left to be taken back
module _ {L : Type 0} (tree : HistoryTree) (runner : Runner L) (work : Work) (why : Why)
    (k : Kept tree runner (Inside (record { work = work; count = 0; heading = GoesBack why }))) where
  abbrev start : World
  start = start_of (code_of (past_of tree) (work_of work)) (here (past_of tree))

  stands_back : (p : Program) → IsProgramOf tree work p → Stands runner p (place_in tree work p 0) true
  stands_back p of = stands_with tree work 0 true runner p of k.stands

  shows_back : (p : Program) (stack : List ℕ) (w : World) → IsProgramOf tree work p → bodies_in tree work p ≡ stack → world_of start.procedures runner ≡ w →
      Shows runner (over stack w)
  shows_back p stack w of is world =
      let s = stands_back p of in
      subst (λ (l : List ℕ). Shows runner (over l w)) is
      (subst (λ (v : World). Shows runner (over (bodies_in tree work p) v)) world (stands_shows runner p (place_in tree work p 0) true s))

  part_back : CodePart (code_of (past_of tree) (work_of work)) (here (past_of tree)) 0 (world_of start.procedures runner)
  part_back = stands_part runner k.stands.program (place_in tree work k.stands.program 0) true k.stands.stands

  pub can_leave_cell : (program : Program) → work ≡ RunCell program → IsWhole runner.counted.store → CanLeave runner program (shown_here tree)
  can_leave_cell program e whole =
      let of : IsProgramOf tree work program = rw e refl in
      let is : bodies_in tree work program ≡ with_bodies program (bodies_at tree tree.position) = rw e refl in
      record {
        is = (shows_back program _ _ of is (began_cell tree work program (world_of start.procedures runner) e part_back), whole);
        within =
            (stands_back program of).ready.within;
      }

  pub can_leave_down : (travel : Travel) (cell : EndedCell) → work ≡ Move travel → next_way travel ≡ Down → IsCellAt tree (below (past_of tree) travel) cell →
      IsWhole runner.counted.store → CanLeave runner cell.program (shown_here tree)
  can_leave_down travel cell e way at whole =
      let of : IsProgramOf tree work cell.program = program_down tree work travel cell e way at in
      let is : bodies_in tree work cell.program ≡ with_bodies cell.program (bodies_at tree tree.position) = rw (e, bodies_in) (rw way refl) in
      record {
        is = (shows_back cell.program _ _ of is (began_down tree work travel (world_of start.procedures runner) cell e way at part_back), whole);
        within = (stands_back cell.program of).ready.within;
      }

  pub shows_up : (travel : Travel) → work ≡ Move travel → next_way travel ≡ Up → Shows runner (shown_here tree)
  shows_up travel e way =
      let p : Program = k.stands.program in
      let is : bodies_in tree work p ≡ bodies_at tree tree.position = rw (e, bodies_in) (rw way refl) in
      shows_back p _ _ k.stands.of_work is (began_up tree work travel (world_of start.procedures runner) e way part_back)

  -- the bodies of a posted cell are behind all others, and can be dropped
  pub below_posted : (program : Program) → work ≡ RunCell program → AreBelow program.first (bodies_at tree tree.position)
  below_posted program e =
      let behind : IsBehindNodes tree (RunCell program) = subst (λ (w : Work). IsBehindNodes tree w) e k.behind in
      behind_stack tree program k.legal k.order behind

  -- those that are not dropped are the nodes'
  pub no_other_forgotten : (old new : Procedures) (program : Program) → work ≡ RunCell program → kept_in old ≡ kept_in runner.procedures →
      kept_in new ≡ take program.first (kept_in old) → KeepsNoOther tree new
  no_other_forgotten old new program e same kept =
      let own : KeepsNoOtherFor tree (RunCell program) runner.procedures = subst (λ (w : Work). KeepsNoOtherFor tree w runner.procedures) e k.no_other in
      let many : length (kept_in old) ≡ program.first + length (procedures_of program) = ap (λ (bs : List LinkedProcedure). length bs) same ∙ own.1 in
      let low : program.first ≤ length (kept_in old) = omega (arith, many) in
      ap (λ (bs : List LinkedProcedure). length bs) kept ∙ length-take-le program.first (kept_in old) low ∙ own.0

  -- a move keeps none of its own
  pub no_other_back : (travel : Travel) (t : Procedures) → work ≡ Move travel → kept_in t ≡ kept_in runner.procedures → KeepsNoOther tree t
  no_other_back travel t e same =
      let own : KeepsNoOther tree runner.procedures = subst (λ (w : Work). KeepsNoOtherFor tree w runner.procedures) e k.no_other in
      no_other_same tree runner.procedures t same own

  pub nodes_forgotten : {M : Type 0} (old new : Runner M) (program : Program) → work ≡ RunCell program → new.entries ≡ old.entries →
      kept_in new.procedures ≡ take program.first (kept_in old.procedures) → NodesAreReady tree old → NodesAreReady tree new
  nodes_forgotten old new program e entries kept ready = λ n cell is.
      let behind : IsBehindNodes tree (RunCell program) = subst (λ (w : Work). IsBehindNodes tree w) e k.behind in
      let g : List Name = names_in (world_at (past_of tree) n).store in
      can_run_still old new g cell.program (same_more old.entries new.entries entries)
      (ready_less new.entries g old.procedures new.procedures program.first cell.program (behind n cell is) kept) (ready n cell is)

  -- the names of the posted cell leave the table
  pub no_name_forgotten : (at : List Name) (program : Program) → work ≡ RunCell program → at ≡ take program.first_name runner.entries → AreOfNodes tree at
  no_name_forgotten at program e less =
      let own : ListsNoOtherFor tree (RunCell program) runner.entries = subst (λ (w : Work). ListsNoOtherFor tree w runner.entries) e k.no_name in
      names_same tree (take program.first_name runner.entries) at less own.0

  -- a move has none of its own
  pub no_name_back : (travel : Travel) (at : List Name) → work ≡ Move travel → at ≡ runner.entries → AreOfNodes tree at
  no_name_back travel at e same =
      let own : AreOfNodes tree runner.entries = subst (λ (w : Work). ListsNoOtherFor tree w runner.entries) e k.no_name in
      names_same tree runner.entries at same own

  -- when it is left, the table without its names is still enough
  pub older_names_left : (at : Runner L) (program : Program) → work ≡ RunCell program → at.entries ≡ runner.entries →
      kept_in at.procedures ≡ kept_in runner.procedures → KeepsOlderNames tree at program
  older_names_left at program e entries same =
      work_older_names tree (RunCell program) runner at entries same (subst (λ (w : Work). KeepsOlderNamesFor tree runner w) e k.older_names)

-- what is shown stays where bodies that are not defined are dropped
pub shows_forgotten : {L : Type 0} (old new : Runner L) (from : ℕ) (shown : ShownWorld) → new.counted.store ≡ old.counted.store → new.entries ≡ old.entries →
    Shows old shown →
    AreBelow from shown.bodies → kept_in new.procedures ≡ take from (kept_in old.procedures) → AreDefined new.procedures shown.bodies → Shows new shown
shows_forgotten old new from shown same entries shows low kept defined =
    let ps = shown.world.procedures in
    record {
      store = ap (λ (h : StoreState). shown_store h) same ∙ shows.store;
      texts = subst (λ (h : StoreState). length h.texts ≡ h.declared) (sym same) shows.texts;
      listed = subst (λ (es : List Name). AreListed es ps) (sym entries) shows.listed;
      defined = subst (λ (es : List Name). Define new.procedures shown.bodies (slots.procedures_in es ps)) (sym entries)
          (forgotten_still_defined old.procedures new.procedures shown.bodies (slots.procedures_in old.entries ps) from shows.defined low kept defined);
    }

-- ---- a posted cell that could not be entered

-- its text was read, and what it declares and defines is not in effect
pub record IsUnentered {L : Type 0} (tree : HistoryTree) (old : Runner L) (made : HistoryTree) (at : Runner L) (job : Open) : Type 0 where
  pub past : past_of made ≡ past_of tree
  pub nodes : made.cells.nodes ≡ tree.cells.nodes
  pub position : made.position ≡ tree.position
  pub entries : GoOn old.entries at.entries
  pub whole : IsWhole at.counted.store
  pub shows : Shows at (shown_here tree)
  pub older : take (length (kept_in old.procedures)) (kept_in at.procedures) ≡ kept_in old.procedures
  pub idle : job ≡ Idle

-- its bodies and its names are dropped
pub kept_dropped : {L : Type 0} (tree made : HistoryTree) (old at new : Runner L) (job : Open) (first first_name : ℕ) → Kept tree old Idle →
    IsUnentered tree old made at job → first ≡ length (kept_in old.procedures) → first_name ≡ length old.entries →
    AreBelow first (bodies_at tree tree.position) →
    new.counted.store ≡ at.counted.store → new.entries ≡ take first_name at.entries → kept_in new.procedures ≡ take first (kept_in at.procedures) →
    ((stack : List ℕ) → AreDefined at.procedures stack → AreBelow first stack → AreDefined new.procedures stack) → IsKept made new job
kept_dropped tree made old at new job first first_name k un is named low store entries kept defined =
    let same : kept_in new.procedures ≡ kept_in old.procedures = kept ∙ ap (λ (n : ℕ). take n (kept_in at.procedures)) is ∙ un.older in
    let less : take first_name at.entries ≡ old.entries = taken_back old.entries at.entries first_name named un.entries in
    let listed : GoOn old.entries new.entries = same_more old.entries new.entries (entries ∙ less) in
    let whole : IsWhole new.counted.store = subst (λ (h : StoreState). IsWhole h) (sym store) un.whole in
    let shows = shows_forgotten (record at { entries = take first_name at.entries }) new first (shown_here tree) store entries
    (shows_unlisted old at (take first_name at.entries) (shown_here tree) un.entries less (here_sound tree k.legal) k.stands un.shows) low kept
    (defined (bodies_at tree tree.position) un.shows.defined.defined low) in
    let idle = kept_idle tree Idle old new k (nodes_ready tree old new listed same k.ready)
    (no_other_same tree old.procedures new.procedures same k.no_other) (names_same tree old.entries new.entries (entries ∙ less) k.no_name) whole shows in
    subst (λ (j : Open). IsKept made new j) (sym un.idle) (idle_in_time made new (kept_with_room tree made new idle un.past un.nodes un.position))
