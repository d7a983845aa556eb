use Rattle.std.proofs.Common.{◌≡◌, List, length, take, Bool, false, inl, refl, sym, ap, ◌∙◌, subst}
use Rattle.janus_meaning.specs.World.{Cell}
use Rattle.kernel_machine.specs.State as state
use Rattle.cell_tree.specs.Tree as cells
use Rattle.kernel_history.specs.CountedState.{CountedState}
use Rattle.kernel_history.specs.Fields.{past_of}
use Rattle.kernel_history.specs.declared.tree.EndedCell.{EndedCell}
use Rattle.kernel_history.specs.declared.tree.HistoryTree.{HistoryTree}
use Rattle.kernel_machine.specs.Begins.{TakesCell}
use Rattle.kernel_machine.specs.declared.heading.Heading.TheVariants.{GoesOn}
use Rattle.kernel_machine.specs.declared.outcome.Begun.TheVariants as begun
use Rattle.kernel_loader.specs.Program.{cell_of_program}
use Rattle.kernel_loader.specs.Runner.{CanEnter, KeepsCounts as RunnerKeepsCounts}
use Rattle.kernel_history.specs.Standing.{shown_here}
use Rattle.kernel_history.specs.Kept.{Kept, IsKept, KeepsOlderNames}
use Rattle.kernel_history.specs.declared.job.Open.{Open}
use Rattle.kernel_history.specs.declared.job.Open.TheVariants.{Idle}
use Rattle.kernel_machine.proofs.Texts.{accepted_formed}
use Rattle.kernel_loader.proofs.Growing.{more_yet, same_more}
use Rattle.kernel_history.proofs.Standing.{ok_fact, err_fact, kept_begun, kept_idle, idle_in_time, here_sound, idle_job, nodes_more, nodes_ready, no_other_same}
use Rattle.kernel_history.proofs.Standing.{posted_behind, behind_stack, shows_still, IsUnentered, kept_dropped, older_names_begun}
use Rattle.kernel_history.proofs.TableNames.{names_same, names_begun}
use Rattle.kernel_history.proofs.history.History.begin_cell.Goals as goal
use Rattle.kernel_history.proofs.history.History.begin_cell.Goals.{then-is_err-via-then-is_err, then-is_err-via-else-is_err+then-is_err-2}
use Rattle.kernel_loader.specs.Procedures.{kept_in}
use Rattle.kernel_loader.specs.linked_procedure.LinkedProcedure.{LinkedProcedure}
use Rattle.kernel_loader.specs.procedures.Procedures.{Procedures}

pub prepare-requires-clause-legal : goal.prepare-requires-clause-legal
prepare-requires-clause-legal g c =
    let idle : c.self.inside.job ≡ Idle = idle_job c.self.inside.job (subst (λ (s : CountedState). s.state.job ≡ state.Idle) (sym c.self.view_is) c.requires) in
    let kept : Kept c.self.inside.tree c.self.inside.runner Idle =
    subst (λ (j : Open). Kept c.self.inside.tree c.self.inside.runner j) idle c.self.invariant.kept in
    let tree = c.self.inside.tree in
    let old = c.self.inside.runner in
    let shown = shown_here tree in
    kept.legal

pub prepare-requires-clause-is : goal.prepare-requires-clause-is
prepare-requires-clause-is g c =
    let idle : c.self.inside.job ≡ Idle = idle_job c.self.inside.job (subst (λ (s : CountedState). s.state.job ≡ state.Idle) (sym c.self.view_is) c.requires) in
    let kept : Kept c.self.inside.tree c.self.inside.runner Idle =
    subst (λ (j : Open). Kept c.self.inside.tree c.self.inside.runner j) idle c.self.invariant.kept in
    let tree = c.self.inside.tree in
    let old = c.self.inside.runner in
    let shown = shown_here tree in
    (shown.bodies, kept.stands)

pub enter-requires : goal.enter-requires
enter-requires g c =
    let idle : c.self.inside.job ≡ Idle = idle_job c.self.inside.job (subst (λ (s : CountedState). s.state.job ≡ state.Idle) (sym c.self.view_is) c.requires) in
    let kept : Kept c.self.inside.tree c.self.inside.runner Idle =
    subst (λ (j : Open). Kept c.self.inside.tree c.self.inside.runner j) idle c.self.invariant.kept in
    let tree = c.self.inside.tree in
    let old = c.self.inside.runner in
    let shown = shown_here tree in
    let met = c.prepare.new.runner in
    let is = c.prepare.ensures.shown shown (here_sound tree kept.legal) kept.stands in
    let behind = posted_behind tree old c.in-Ok.program kept.ready c.in-Ok.ensures.behind in
    let low = behind_stack tree c.in-Ok.program kept.legal kept.order behind in (
      shown,
      record {
        is = is;
        sound = here_sound tree kept.legal;
        formed = accepted_formed _ _ _ c.in-Ok.ensures.accepts;
        ready = c.in-Ok.ensures.ready;
        named = c.in-Ok.ensures.named;
        behind = low;
      },
    )

pub invariant_of-self-2 : goal.invariant_of-self-2
invariant_of-self-2 g c =
    let idle : c.self.inside.job ≡ Idle = idle_job c.self.inside.job (subst (λ (s : CountedState). s.state.job ≡ state.Idle) (sym c.self.view_is) c.requires) in
    let kept : Kept c.self.inside.tree c.self.inside.runner Idle =
    subst (λ (j : Open). Kept c.self.inside.tree c.self.inside.runner j) idle c.self.invariant.kept in
    let tree = c.self.inside.tree in
    let old = c.self.inside.runner in
    let shown = shown_here tree in
    let met = c.prepare.new.runner in
    let is = c.prepare.ensures.shown shown (here_sound tree kept.legal) kept.stands in
    let behind = posted_behind tree old c.in-Ok.program kept.ready c.in-Ok.ensures.behind in
    let low = behind_stack tree c.in-Ok.program kept.legal kept.order behind in
    let room = ok_fact _ c.room.result (sym c.is_err.ensures.value ∙ c.if-is_err.false) c.room.ensures.ok in
    let same = ap (λ (t : cells.Tree EndedCell). past_of (record { cells = t; position = tree.position })) c.room.ensures.same in
    let nodes = ap (λ (t : cells.Tree EndedCell). t.nodes) c.room.ensures.same in
    let stands = ok_fact _ c.enter.result (sym c.is_err-else-is_err.ensures.value ∙ c.if-is_err-2.false) c.enter.ensures.ok in
    let formed = accepted_formed _ _ _ c.in-Ok.ensures.accepts in
    let can : CanEnter met c.in-Ok.program shown =
    record { is = is; sound = here_sound tree kept.legal; formed = formed; ready = c.in-Ok.ensures.ready; named = c.in-Ok.ensures.named; behind = low } in
    let at_text = nodes_more tree old met c.prepare.ensures.entries c.prepare.ensures.older kept.ready in
    let onward = same_more met.entries c.enter.new.self.entries c.enter.ensures.entries in
    let older : KeepsOlderNames tree c.enter.new.self c.in-Ok.program =
    older_names_begun tree old c.enter.new.self c.in-Ok.program kept.legal kept.ready kept.stands
    (more_yet old.entries met.entries c.enter.new.self.entries c.prepare.ensures.entries onward)
    (ap (λ (bs : List LinkedProcedure). take (length (kept_in old.procedures)) bs) c.enter.ensures.kept ∙ c.prepare.ensures.older)
    c.in-Ok.ensures.first_name in
    kept_begun tree (record { cells = c.room.new.self; position = tree.position }) old c.enter.new.self c.in-Ok.program kept
    (nodes_ready tree met c.enter.new.self onward c.enter.ensures.kept at_text) older
    (names_begun tree old.entries met.entries c.enter.new.self.entries c.in-Ok.program c.in-Ok.ensures.first_name c.prepare.ensures.entries
    c.enter.ensures.entries c.in-Ok.ensures.own_names kept.no_name) behind same nodes refl room formed c.in-Ok.ensures.behind
    (ap (λ (bs : List LinkedProcedure). length bs) c.enter.ensures.kept ∙ c.in-Ok.ensures.last) (stands shown can)

-- a refused text
pub invariant_of-self : goal.invariant_of-self
invariant_of-self g c =
    let idle : c.self.inside.job ≡ Idle = idle_job c.self.inside.job (subst (λ (s : CountedState). s.state.job ≡ state.Idle) (sym c.self.view_is) c.requires) in
    let kept : Kept c.self.inside.tree c.self.inside.runner Idle =
    subst (λ (j : Open). Kept c.self.inside.tree c.self.inside.runner j) idle c.self.invariant.kept in
    let tree = c.self.inside.tree in
    let old = c.self.inside.runner in
    let shown = shown_here tree in
    let met = c.prepare.new.runner in
    let is = c.prepare.ensures.shown shown (here_sound tree kept.legal) kept.stands in
    subst (λ (j : Open). IsKept tree met j) (sym idle)
    (idle_in_time tree met
    (kept_idle tree Idle old met kept (nodes_more tree old met c.prepare.ensures.entries c.prepare.ensures.older kept.ready)
    (no_other_same tree old.procedures met.procedures c.in-Err.ensures.none kept.no_other)
    (names_same tree old.entries met.entries c.in-Err.ensures.no_names kept.no_name) is.1 is.0))

-- no memory for its node or its names: its bodies are dropped again
pub invariant_of-self-then-is_err : goal.invariant_of-self-then-is_err
invariant_of-self-then-is_err g c =
    let idle : c.self.inside.job ≡ Idle = idle_job c.self.inside.job (subst (λ (s : CountedState). s.state.job ≡ state.Idle) (sym c.self.view_is) c.requires) in
    let kept : Kept c.self.inside.tree c.self.inside.runner Idle =
    subst (λ (j : Open). Kept c.self.inside.tree c.self.inside.runner j) idle c.self.invariant.kept in
    let tree = c.self.inside.tree in
    let old = c.self.inside.runner in
    let shown = shown_here tree in
    let met = c.prepare.new.runner in
    let is = c.prepare.ensures.shown shown (here_sound tree kept.legal) kept.stands in
    let behind = posted_behind tree old c.in-Ok.program kept.ready c.in-Ok.ensures.behind in
    let low = behind_stack tree c.in-Ok.program kept.legal kept.order behind in
    let past = ap (λ (t : cells.Tree EndedCell). past_of (record { cells = t; position = tree.position })) c.room.ensures.same in
    let nodes = ap (λ (t : cells.Tree EndedCell). t.nodes) c.room.ensures.same in
    let left = c.then-is_err.self-inside in
    let unentered : IsUnentered tree old left.tree left.runner left.job = elim c.then-is_err.branch [
      | then-is_err-via-then-is_err w ↦ rw w.self-inside-is (record {
        past = past;
        nodes = nodes;
        position = refl;
        entries = c.prepare.ensures.entries;
        whole = is.1;
        shows = is.0;
        older = c.prepare.ensures.older;
        idle = idle;
      })
      | then-is_err-via-else-is_err+then-is_err-2 w ↦
          (let failed = sym w.is_err-else-is_err.ensures.value ∙ w.if-is_err-2.true in
          let entered = err_fact _ w.enter.result failed w.enter.ensures.err in
          let same = err_fact _ w.enter.result failed w.enter.ensures.same in
          rw w.self-inside-is (record {
            past = past;
            nodes = nodes;
            position = refl;
            entries = more_yet old.entries met.entries w.enter.new.self.entries c.prepare.ensures.entries
                (same_more met.entries w.enter.new.self.entries w.enter.ensures.entries);
            whole = entered.whole;
            shows = shows_still met w.enter.new.self shown entered same w.enter.ensures.entries is.0;
            older = subst (λ (t : Procedures). take (length (kept_in old.procedures)) (kept_in t) ≡ kept_in old.procedures) (sym same) c.prepare.ensures.older;
            idle = idle;
          }))
    ] in
    kept_dropped tree left.tree old left.runner c.forget.new.self left.job c.in-Ok.program.first c.in-Ok.program.first_name kept unentered
    c.in-Ok.ensures.behind c.in-Ok.ensures.first_name low c.forget.ensures.store c.forget.ensures.entries
    c.forget.ensures.kept c.forget.ensures.defined

pub returns-clause-takes : goal.returns-clause-takes
returns-clause-takes g c =
    let idle : c.self.inside.job ≡ Idle = idle_job c.self.inside.job (subst (λ (s : CountedState). s.state.job ≡ state.Idle) (sym c.self.view_is) c.requires) in
    let kept : Kept c.self.inside.tree c.self.inside.runner Idle =
    subst (λ (j : Open). Kept c.self.inside.tree c.self.inside.runner j) idle c.self.invariant.kept in
    let cell : Cell = cell_of_program c.in-Ok.program in
    let job : state.Job = state.Inside (record { work = state.Posted (cell_of_program c.in-Ok.program); count = 0; heading = GoesOn }) in
    let made : HistoryTree = record { cells = c.room.new.self; position = c.self.inside.tree.position } in
    let same = ap (λ (t : cells.Tree EndedCell). past_of (record { cells = t; position = c.self.inside.tree.position })) c.room.ensures.same in
    let room : state.is_full (past_of c.self.inside.tree) ≡ false = sym c.is_full.ensures ∙ c.if-is_full.false in
    subst (λ (s : CountedState). TakesCell s.state.past c.args.text.now (state.is_full s.state.past) begun.Going (record { past = past_of made; job = job }))
    c.self.view_is
    (subst (λ (full : Bool). TakesCell (past_of c.self.inside.tree) c.args.text.now full begun.Going (record { past = past_of made; job = job })) (sym room)
    (inl (
      cell_of_program c.in-Ok.program,
      c.in-Ok.ensures.accepts,
      refl,
      ap (λ (p : state.Past). record { past = p; job = job }) same,
    )))

pub returns-in-Err-clause-counts : goal.returns-in-Err-clause-counts
returns-in-Err-clause-counts g c =
    record {
      writes = c.prepare.ensures.counts.writes ∙ ap (λ (s : CountedState). s.writes) c.self.view_is;
      steps = c.prepare.ensures.counts.steps ∙ ap (λ (s : CountedState). s.steps) c.self.view_is;
    }

pub returns-then-is_err-clause-counts : goal.returns-then-is_err-clause-counts
returns-then-is_err-clause-counts g c =
    let left = c.then-is_err.self-inside in
    let same : RunnerKeepsCounts c.self.inside.runner left.runner = elim c.then-is_err.branch [
      | then-is_err-via-then-is_err w ↦ rw w.self-inside-is c.prepare.ensures.counts
      | then-is_err-via-else-is_err+then-is_err-2 w ↦ rw w.self-inside-is (record {
        writes = w.enter.ensures.counts.writes ∙ c.prepare.ensures.counts.writes;
        steps = w.enter.ensures.counts.steps ∙ c.prepare.ensures.counts.steps;
      })
    ] in
    let dropped = c.forget.ensures.counts in
    record {
      writes = dropped.writes ∙ same.writes ∙ ap (λ (s : CountedState). s.writes) c.self.view_is;
      steps = dropped.steps ∙ same.steps ∙ ap (λ (s : CountedState). s.steps) c.self.view_is;
    }

pub returns-clause-counts : goal.returns-clause-counts
returns-clause-counts g c =
    record {
      writes = c.enter.ensures.counts.writes ∙ c.prepare.ensures.counts.writes ∙ ap (λ (s : CountedState). s.writes) c.self.view_is;
      steps = c.enter.ensures.counts.steps ∙ c.prepare.ensures.counts.steps ∙ ap (λ (s : CountedState). s.steps) c.self.view_is;
    }
