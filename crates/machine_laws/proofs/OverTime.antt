-- Nodes stay through any run, and where a travel comes back to one, the world is that of then.
use Rattle.std.specs.Prelude.{nat_lt}
use Rattle.std.proofs.Common.{◌≡◌, ℕ, ◌+◌, ◌-◌, Bool, true, false, List, [], ◌∷◌, ◌++◌, get_or, length, zero, suc, refl, sym, ap, ◌∙◌, subst}
use Rattle.std.proofs.Common.{arith, inl, inr, append_assoc, append-nil, length-append}
use Rattle.std.proofs.lemmas.List.{get_or_append_left}
use Rattle.janus_meaning.specs.World.{World, empty_world}
use Rattle.kernel_machine.specs.declared.travel.Travel.{Travel}
use Rattle.kernel_machine.specs.declared.travel.Aim.TheVariants as aim
use Rattle.kernel_machine.specs.declared.heading.Why.{Why}
use Rattle.kernel_machine.specs.declared.heading.Why.TheVariants.{WasAsked, Faulted}
use Rattle.kernel_machine.specs.declared.heading.Heading.{Heading}
use Rattle.kernel_machine.specs.declared.heading.Heading.TheVariants.{GoesOn, GoesBack}
use Rattle.kernel_machine.specs.declared.progress.Progress.{Progress}
use Rattle.kernel_machine.specs.declared.progress.Progress.TheVariants.{Went, Ended, Stopped}
use Rattle.kernel_machine.specs.State.{Node, Past, Work, Posted, Move, Job as Open, Idle, Border, Inside, State, root, world_at, here, is_full}
use Rattle.kernel_machine.specs.State.{ancestor, Shown, ShownAt}
use Rattle.kernel_machine.specs.Legal.{IsLegal}
use Rattle.kernel_machine.specs.LegalState.{IsLegalState}
use Rattle.kernel_machine.specs.Slices.{cells, stepped, moved, grown, Backs, Arrives, Settles, Comes, SlicesIn, SlicesAt}
use Rattle.kernel_machine.specs.Begins.{Enters, TakesCell, Departs, TakesMove, TakesGoto, travel_to}
use Rattle.kernel_machine.specs.Request.{Request, RunCell, Undo, Redo, Goto, request_of}
use Rattle.kernel_machine.specs.Runs.{Machine, Step, Run, Takes, TakesUnless, BeginsAt}
use Rattle.kernel_machine.specs.Midway.{after, gone}
use Rattle.kernel_machine.specs.Ends.{GotoEnds, EndsUnless}
use Rattle.kernel_machine.specs.declared.outcome.Sliced.{Sliced}
use Rattle.kernel_machine.specs.declared.outcome.Begun.{Begun}
use Rattle.kernel_machine.specs.declared.outcome.TravelEnd.TheVariants.{All}
use Rattle.kernel_machine.specs.declared.outcome.Outcome.{Outcome}
use Rattle.kernel_machine.specs.declared.outcome.Outcome.TheVariants as outcome
use Rattle.kernel_machine.specs.declared.events.Event.{Event}
use Rattle.kernel_machine.specs.declared.events.Event.TheVariants as event
use Rattle.kernel_machine.specs.declared.events.Told.{Told}
use Rattle.kernel_machine.specs.declared.events.Told.TheVariants as told
use Rattle.kernel_machine.proofs.Jobs.{post_keeps}
use Rattle.machine_laws.specs.OverTime.{KeepsNodes, NodesStay, ShowsAgain, SameNodeSameWorld, TakenSince, UndoGivesBack, RedoGivesBackWorld}
use Rattle.machine_laws.specs.OverTime.{GotoGivesBack, GivesBack}
use Rattle.machine_laws.proofs.Again.{moved_nodes, moved_worlds, undo_goes_up_far, redo_goes_down_far, goto_goes_there, undid_all, redid_all}
use Rattle.machine_laws.proofs.Again.{undone_open, redone_open, end_of_outcome, end_told}
use Rattle.machine_laws.proofs.Jobs.{jobs_end}

-- ---- nodes are only added, behind those that there were

record Grows (old new : Past) : Type 0 where
  more_nodes : List Node
  more_worlds : List World
  nodes : new.nodes ≡ old.nodes ++ more_nodes
  worlds : new.worlds ≡ old.worlds ++ more_worlds

same_grows : (old new : Past) → new.nodes ≡ old.nodes → new.worlds ≡ old.worlds → Grows old new
same_grows old new e f = record {
  more_nodes = [];
  more_worlds = [];
  nodes = e ∙ sym (append-nil old.nodes);
  worlds = f ∙ sym (append-nil old.worlds);
}

still : (s : Past) → Grows s s
still s = same_grows s s refl refl

further : (a b c : Past) → Grows a b → Grows b c → Grows a c
further a b c g h = record {
  more_nodes = g.more_nodes ++ h.more_nodes;
  more_worlds = g.more_worlds ++ h.more_worlds;
  nodes = h.nodes ∙ ap (λ (ns : List Node). ns ++ h.more_nodes) g.nodes ∙ append_assoc a.nodes g.more_nodes h.more_nodes;
  worlds = h.worlds ∙ ap (λ (ws : List World). ws ++ h.more_worlds) g.worlds ∙ append_assoc a.worlds g.more_worlds h.more_worlds;
}

onto : (s at : Past) (job : Open) (new : State) → Grows s at → new ≡ record { past = at; job = job } → Grows s new.past
onto s at job new g e = subst (λ (x : State). Grows s x.past) (sym e) g

-- ---- slices

backs_grows : (s : Past) (work : Work) (why : Why) (c : ℕ) (answer : Sliced) (new : State) → Backs s work why c answer new → Grows s new.past
backs_grows s work why zero answer new a = onto s s Idle new (still s) a.1
backs_grows s work why (suc c) answer new a =
    onto s s (Inside (record { work = work; count = suc c; heading = GoesBack why })) new (still s) a.1

arrives_grows : (left : ℕ) (s at : Past) (t : Travel) (answer : Sliced) (new : State) → Grows s at → Arrives left at t answer new → Grows s new.past
arrives_grows zero s at t answer new g a = onto s at Idle new g a.1
arrives_grows (suc left) s at t answer new g a = onto s at (Border t) new g a.1

settles_grows : (s : Past) (work : Work) (n : ℕ) (w : World) (answer : Sliced) (new : State) → Settles s work n w answer new → Grows s new.past
settles_grows s (Posted cell) n w answer new a =
    onto s (grown s cell n w) Idle new
    (record { more_nodes = record { parent = s.position; cell = cell; steps = n } ∷ []; more_worlds = w ∷ []; nodes = refl; worlds = refl }) a.1
settles_grows s (Move t) n w answer new a =
    arrives_grows (cells (stepped t)) s (moved s t) (stepped t) answer new
    (same_grows s (moved s t) (moved_nodes s t t.up refl) (moved_worlds s t t.up refl)) a

comes_grows : (s : Past) (work : Work) (c : ℕ) (ran : Progress) (w : World) (answer : Sliced) (new : State) → Comes s work c ran w answer new →
    Grows s new.past
comes_grows s work c Went w answer new a = onto s s (Inside (record { work = work; count = c; heading = GoesOn })) new (still s) a.1
comes_grows s work c (Ended n) w answer new a = settles_grows s work n w answer new a
comes_grows s work c (Stopped j f) w answer new a = backs_grows s work (Faulted f j) j answer new a

inside_grows : (s : Past) (work : Work) (c : ℕ) (heading : Heading) (m : ℕ) (asked : Bool) (answer : Sliced) (new : State) →
    SlicesIn s work c heading m asked answer new → Grows s new.past
inside_grows s work c GoesOn m false answer new a = comes_grows s work (c + m) a.0 a.1 answer new a.3
inside_grows s work c GoesOn m true answer new a = backs_grows s work (WasAsked c) (c - m) answer new a
inside_grows s work c (GoesBack why) m asked answer new a = backs_grows s work why (c - m) answer new a

slice_grows : (s : Past) (job : Open) (m : ℕ) (asked : Bool) (answer : Sliced) (new : State) → SlicesAt s job m asked answer new → Grows s new.past
slice_grows s Idle m asked answer new a = onto s s Idle new (still s) a.1
slice_grows s (Border t) m asked answer new a = onto s s (Border t) new (still s) a.1
slice_grows s (Inside e) m asked answer new a = inside_grows s e.work e.count e.heading m asked answer new a

-- ---- begins

enters_grows : (s : Past) (t : Travel) (answer : Begun) (new : State) → Enters s t answer new → Grows s new.past
enters_grows s t answer new a = elim a [
  | inl b ↦ onto s s (Inside (record { work = Move t; count = 0; heading = GoesOn })) new (still s) b.1
  | inr b ↦ onto s s Idle new (still s) b.2
]

departs_grows : (left : ℕ) (s : Past) (t : Travel) (answer : Begun) (new : State) → Departs left s t answer new → Grows s new.past
departs_grows zero s t answer new a = onto s s Idle new (still s) a.1
departs_grows (suc left) s t answer new a = enters_grows s t answer new a

move_grows : (s : Past) (t : Travel) (can : Bool) (answer : Begun) (new : State) → TakesMove s t can answer new → Grows s new.past
move_grows s t false answer new a = onto s s Idle new (still s) a.1
move_grows s t true answer new a = departs_grows (cells t) s t answer new a

goto_grows : (s : Past) (n : ℕ) (known : Bool) (answer : Begun) (new : State) → TakesGoto s n known answer new → Grows s new.past
goto_grows s n false answer new a = onto s s Idle new (still s) a.1
goto_grows s n true answer new a = departs_grows (a.0 + a.1) s (travel_to (aim.Goto n) a.0 a.1) answer new a.3

cell_grows : (s : Past) (text : List ℕ) (full : Bool) (answer : Begun) (new : State) → TakesCell s text full answer new → Grows s new.past
cell_grows s text true answer new a = onto s s Idle new (still s) a.1
cell_grows s text false answer new a = elim a [
  | inl b ↦ onto s s (Inside (record { work = Posted b.0; count = 0; heading = GoesOn })) new (still s) b.3
  | inr b ↦ onto s s Idle new (still s) b.3
]

takes_grows : (s : Past) (job : Request) (answer : Begun) (new : State) → Takes s job answer new → Grows s new.past
takes_grows s (RunCell text silent store) answer new a = cell_grows s text (is_full s) answer new a
takes_grows s (Undo k) answer new a = move_grows s (travel_to aim.Undo k 0) _ answer new a
takes_grows s (Redo k) answer new a = move_grows s (travel_to aim.Redo 0 k) _ answer new a
takes_grows s (Goto n) answer new a = goto_grows s n _ answer new a

taken_grows : (closing : Bool) (s : Past) (job : Request) (answer : Begun) (new : State) → TakesUnless closing s job answer new → Grows s new.past
taken_grows false s job answer new a = takes_grows s job answer new a
taken_grows true s job answer new a = onto s s Idle new (still s) a.1

-- ---- steps and runs

to_state : (s : Past) (x : State) (new : Machine) → new.state ≡ x → Grows s x.past → Grows s new.state.past
to_state s x new e g = subst (λ (y : State). Grows s y.past) (sym e) g

begins_grows : (old : Machine) (job : Open) (queue : List Request) (answer : Begun) (new : Machine) → BeginsAt old job queue answer new →
    Grows old.state.past new.state.past
begins_grows old Idle [] answer new a = to_state old.state.past old.state new (ap (λ (m : Machine). m.state) a.1) (still old.state.past)
begins_grows old Idle (first ∷ rest) answer new a =
    to_state old.state.past a.0 new (ap (λ (m : Machine). m.state) a.2) (taken_grows old.closing old.state.past first answer a.0 a.1)
begins_grows old (Border t) queue answer new a =
    to_state old.state.past a.0 new (ap (λ (m : Machine). m.state) a.2) (enters_grows old.state.past t answer a.0 a.1)
begins_grows old (Inside e) queue answer new a = to_state old.state.past old.state new (ap (λ (m : Machine). m.state) a.1) (still old.state.past)

step_grows : (old : Machine) (e : Event) (t : Told) (new : Machine) → Step old e t new → Grows old.state.past new.state.past
step_grows old (event.Post lane posted) (told.Post answer) new s =
    to_state old.state.past old.state new (post_keeps old lane (request_of posted) answer new s) (still old.state.past)
step_grows old event.Begin (told.Begin answer) new s =
    to_state old.state.past s.0.state new (ap (λ (x : Machine). x.state) s.2) (begins_grows old old.state.job old.queue answer s.0 s.1)
step_grows old (event.Slice m asked) (told.Slice answer) new s =
    to_state old.state.past s.0 new (ap (λ (x : Machine). x.state) s.2) (slice_grows old.state.past old.state.job m asked answer s.0 s.1)
step_grows old event.Shut told.Shut new s = to_state old.state.past old.state new (ap (λ (x : Machine). x.state) s) (still old.state.past)
step_grows old e t new s = absurd s

run_grows : (old new : Machine) (events : List Event) (answers : List Told) → Run old events answers new → Grows old.state.past new.state.past
run_grows old new [] [] r = to_state old.state.past old.state new (ap (λ (m : Machine). m.state) r) (still old.state.past)
run_grows old new [] (t ∷ answers) r = absurd r
run_grows old new (e ∷ events) [] r = absurd r
run_grows old new (e ∷ events) (t ∷ answers) r =
    further old.state.past r.0.state.past new.state.past (step_grows old e t r.0 r.1) (run_grows r.0 new events answers r.2)

-- ---- nodes stay

kept : (old new : Past) → IsLegal old → Grows old new → KeepsNodes old new
kept old new l g =
    let size = ap length g.nodes ∙ length-append old.nodes g.more_nodes in
    record {
      known = omega arith;
      nodes = λ n low. ap (λ (ns : List Node). get_or ns n root) g.nodes ∙ get_or_append_left old.nodes g.more_nodes root n low;
      worlds = λ n low.
          ap (λ (ws : List World). get_or ws n empty_world) g.worlds ∙ get_or_append_left old.worlds g.more_worlds empty_world n (rw l.worlds low);
    }

pub nodes_stay : NodesStay
nodes_stay old new events answers l r = kept old.state.past new.state.past l.legal (run_grows old new events answers r)

-- ---- the world of then

shown_idle : (s : State) (w : World) → s.job ≡ Idle → Shown s w → w ≡ here s.past
shown_idle s w e h = subst (λ (job : Open). ShownAt s.past job w) e h

here_again : (old new : Past) → IsLegal old → KeepsNodes old new → new.position ≡ old.position → here new ≡ here old
here_again old new l k e = ap (λ (n : ℕ). world_at new n) e ∙ k.worlds old.position l.position

shows_again : (first last : Machine) → IsLegalState first.state → first.state.job ≡ Idle → last.state.job ≡ Idle →
    KeepsNodes first.state.past last.state.past → last.state.past.position ≡ first.state.past.position → ShowsAgain first last
shows_again first last l i j k e w v shown again =
    shown_idle last.state v j again ∙ here_again first.state.past last.state.past l.legal k e ∙ sym (shown_idle first.state w i shown)

pub same_node_same_world : SameNodeSameWorld
same_node_same_world first last events answers n l i r j =
    shows_again first last l i.idle j.idle (nodes_stay first last events answers l r) (j.position ∙ sym i.position)

-- what a job that was taken since leaves, where it ends without a job and at the node of then
since : (first last : Machine) (job : Request) (o : Outcome) (t : TakenSince first last job o) (at : Past) →
    last.state ≡ record { past = at; job = Idle } → at.position ≡ first.state.past.position → GivesBack first last
since first last job o t at e there =
    let first_run = run_grows first t.between t.events t.answers t.came in
    let then_run = run_grows t.between last (event.Begin ∷ t.since) t.told t.ran in
    let k = kept first.state.past last.state.past t.legal.legal
    (further first.state.past t.between.state.past last.state.past first_run then_run) in
    let idle : last.state.job ≡ Idle = ap (λ (s : State). s.job) e in
    let position : last.state.past.position ≡ first.state.past.position = ap (λ (s : State). s.past.position) e ∙ there in
    (record { idle = idle; position = position }, shows_again first last t.legal t.idle idle k position)

pub undo_gives_back : UndoGivesBack
unfolding end_of_outcome
undo_gives_back first last k t there =
    let s = t.between.state.past in
    let size : k + 0 ≡ k = omega arith in
    let ends = undid_all s (travel_to aim.Undo k 0) k _ last.state size
    (undone_open t.between.closing s k last.state (jobs_end t.between last (Undo k) t.since t.told (outcome.Undid k All) t.taken t.next t.ran t.ended))
    (λ j end e. sym (end_told (after (travel_to aim.Undo k 0) j) end) ∙ ap end_of_outcome e) in
    since first last (Undo k) (outcome.Undid k All) t (gone s (travel_to aim.Undo k 0) k) ends.0
    (ap (λ (x : Past). x.position) (undo_goes_up_far s k k (omega arith)) ∙ there)

pub redo_gives_back_world : RedoGivesBackWorld
unfolding end_of_outcome
redo_gives_back_world first last k t there =
    let s = t.between.state.past in
    let size : 0 + k ≡ k = omega arith in
    let ends = redid_all s (travel_to aim.Redo 0 k) k _ last.state size
    (redone_open t.between.closing s k last.state (jobs_end t.between last (Redo k) t.since t.told (outcome.Redid k All) t.taken t.next t.ran t.ended))
    (λ j end e. sym (end_told (after (travel_to aim.Redo 0 k) j) end) ∙ ap end_of_outcome e) in
    since first last (Redo k) (outcome.Redid k All) t (gone s (travel_to aim.Redo 0 k) k) ends
    (ap (λ (x : Past). x.position) (redo_goes_down_far s k k) ∙ there)

-- ---- goto

went_open : (closing : Bool) (s : Past) (n up down : ℕ) (new : State) → EndsUnless closing s (Goto n) (outcome.Went up down All) new →
    GotoEnds s n (nat_lt n (length s.nodes)) (outcome.Went up down All) new
went_open false s n up down new h = h
went_open true s n up down new h = absurd (let e = h.0 in cc)

-- where a whole goto ends
record EndsAt (s : Past) (n : ℕ) (new : State) : Type 0 where
  past : Past
  ends : new ≡ record { past = past; job = Idle }
  position : past.position ≡ n

-- a goto that has gone up and down is at its node
gone_there : (s : Past) (n up down : ℕ) → ancestor s.nodes s.position up ≡ ancestor s.nodes n down →
    (gone s (travel_to (aim.Goto n) up down) (up + down)).position ≡ n
gone_there s n up zero meet =
    let e : up + 0 ≡ up = omega arith in
    rw e (ap (λ (x : Past). x.position) ((goto_goes_there s n up 0 up).0 (omega arith)) ∙ meet)
gone_there s n up (suc down) meet =
    let e : suc down - suc down ≡ 0 = omega arith in
    (goto_goes_there s n up (suc down) (suc down)).1 (omega arith) (omega arith) ∙ ap (λ (i : ℕ). ancestor s.nodes n i) e

went_all : (s : Past) (n : ℕ) (known : Bool) (a b : ℕ) (new : State) → GotoEnds s n known (outcome.Went a b All) new → EndsAt s n new
unfolding end_of_outcome
went_all s n false a b new h = absurd (let e = h.0 in cc)
went_all s n true a b new h =
    let t = travel_to (aim.Goto n) h.0 h.1 in
    let ends = h.3.2 in
    let all : h.3.1 ≡ All = sym (end_told (after t h.3.0) h.3.1) ∙ ap end_of_outcome (sym ends.tells) in
    let whole : h.3.0 ≡ h.0 + h.1 = ends.all.0 all in
    record {
      past = gone s t h.3.0;
      ends = ends.stands;
      position = ap (λ (j : ℕ). (gone s t j).position) whole ∙ gone_there s n h.0 h.1 h.2.same;
    }

pub goto_gives_back : GotoGivesBack
goto_gives_back first last up down t =
    let s = t.between.state.past in
    let n = first.state.past.position in
    let at = went_all s n _ up down last.state
    (went_open t.between.closing s n up down last.state
    (jobs_end t.between last (Goto n) t.since t.told (outcome.Went up down All) t.taken t.next t.ran t.ended)) in
    since first last (Goto n) (outcome.Went up down All) t at.past at.ends at.position
