-- What a job made, and what is shown of it.
use Rattle.std.proofs.Common.{◌≡◌, ◌⊎◌, ◌∙◌, ℕ, ◌<◌, Bool, true, false, List, [], ◌∷◌, Option, None, inl, inr, length, refl, sym, ap, subst, ⊎_elim, Ok, arith}
use Rattle.std.proofs.Common.{length-append}
use Rattle.std.proofs.lemmas.List.{get_or_at}
use Rattle.janus_meaning.specs.World.{World, Cell}
use Rattle.kernel_core.specs.State.{Past, State, Node, Idle, root, here}
use Rattle.kernel_core.specs.Slices.{finished_by, grown}
use Rattle.kernel_core.specs.Text.{Accepts}
use Rattle.kernel_core.specs.Midway.{after}
use Rattle.kernel_core.specs.Begins.{travel_to}
use Rattle.kernel_core.specs.Request.{Request, RunCell, Undo, Redo, Goto}
use Rattle.kernel_core.specs.Runs.{Machine, IsPost}
use Rattle.kernel_core.specs.travel.Aim.TheVariants as aim
use Rattle.kernel_core.specs.travel.Aim.{Aim}
use Rattle.kernel_core.specs.travel.Travel.{Travel}
use Rattle.kernel_core.specs.Theorems.{JobsEnd}
use Rattle.kernel_core.specs.Ends.{EndsUnless, JobEnds, CellEnds, TextEnds, MoveEnds, GotoEnds, TravelEnds, BecomesNode, IsNoNode}
use Rattle.kernel_core.specs.outcome.TravelEnd.{TravelEnd}
use Rattle.kernel_core.specs.outcome.Refusal.{Refusal}
use Rattle.kernel_core.specs.outcome.Outcome.{Outcome}
use Rattle.kernel_core.specs.outcome.Outcome.TheVariants as outcome
use Rattle.kernel_ask.specs.Shown.{IsShownOfNode, IsShownAfter, IsTextOf, ShownIsOfText}
use Rattle.kernel_server.specs.declared.slice.Slice.{Slice}
use Rattle.kernel_server.specs.Jobs.{lane, RunsOut, IsMadeOf, MakesNone, IsMadeBy, IsShownOf}
use Rattle.kernel_server.proofs.Turns.{posted_alone}

-- ---- what a job made

no_node : (s t : Past) (text : List ℕ) (o : Outcome) → IsNoNode s text o → IsMadeOf text o t
no_node s t text (outcome.Ran node steps) h = absurd h
no_node s t text (outcome.Failed fault steps) h = tt
no_node s t text (outcome.Interrupted steps) h = tt
no_node s t text (outcome.Undid cells end) h = tt
no_node s t text (outcome.Redid cells end) h = tt
no_node s t text (outcome.Went up down end) h = tt
no_node s t text (outcome.Refused refusal) h = tt

-- the new node has the cell that the text is
new_node : (s : Past) (text : List ℕ) (cell : Cell) (n : ℕ) (w : World) → 0 < length s.nodes → Accepts (here s) text cell
    → IsTextOf (grown s cell n w) (length s.nodes) text
new_node s text cell n w rooted a =
    let new : Node = record { parent = s.position; cell = cell; steps = n } in record {
      below_root = rooted;
      known = omega (arith, length-append s.nodes (new ∷ []));
      tree = a.tree;
      is_tree = a.is_tree;
      meant = ap (λ (x : Node). x.cell) (get_or_at s.nodes new [] root (length s.nodes) refl) ∙ a.meant;
    }

node_made : (s : Past) (text : List ℕ) (o : Outcome) (new : State) → 0 < length s.nodes → BecomesNode s text o new → IsMadeOf text o new.past
node_made s text o new rooted h =
    subst (λ (x : Outcome). IsMadeOf text x new.past) (sym h.4)
    (subst (λ (x : State). IsTextOf x.past (length s.nodes) text) (sym h.6) (new_node s text h.0 h.1 h.2 rooted h.3))

text_made : (s : Past) (text : List ℕ) (o : Outcome) (new : State) → 0 < length s.nodes → TextEnds s text o new → IsMadeOf text o new.past
text_made s text o new rooted h = ⊎_elim (λ h. node_made s text o new rooted h) (λ h. no_node s new.past text o h.1) h

cell_made : (s : Past) (text : List ℕ) (full : Bool) (o : Outcome) (new : State) → 0 < length s.nodes → CellEnds s text full o new → IsMadeOf text o new.past
cell_made s text true o new rooted h = subst (λ (x : Outcome). IsMadeOf text x new.past) (sym h.0) tt
cell_made s text false o new rooted h = text_made s text o new rooted h

finished_none : (a : Aim) (up down : ℕ) (end : TravelEnd) → MakesNone (finished_by a up down end)
finished_none aim.Undo up down end = tt
finished_none aim.Redo up down end = tt
finished_none (aim.Goto n) up down end = tt

travel_none : (s : Past) (travel : Travel) (o : Outcome) (new : State) → TravelEnds s travel o new → MakesNone o
travel_none s travel o new h =
    let on = after travel h.0 in
    subst MakesNone (sym h.2.tells) (finished_none on.aim on.went_up on.went_down h.1)

move_none : (s : Past) (travel : Travel) (possible : Bool) (o : Outcome) (new : State) → MoveEnds s travel possible o new → MakesNone o
move_none s travel false o new h = subst MakesNone (sym h.0) tt
move_none s travel true o new h = travel_none s travel o new h

goto_none : (s : Past) (n : ℕ) (known : Bool) (o : Outcome) (new : State) → GotoEnds s n known o new → MakesNone o
goto_none s n false o new h = subst MakesNone (sym h.0) tt
goto_none s n true o new h = travel_none s (travel_to (aim.Goto n) h.0 h.1) o new h.3

job_made : (s : Past) (r : Request) (o : Outcome) (new : State) → 0 < length s.nodes → JobEnds s r o new → IsMadeBy r o new.past
job_made s (RunCell text silent store) o new rooted h = cell_made s text _ o new rooted h
job_made s (Undo k) o new rooted h = move_none s (travel_to aim.Undo k 0) _ o new h
job_made s (Redo k) o new rooted h = move_none s (travel_to aim.Redo 0 k) _ o new h
job_made s (Goto n) o new rooted h = goto_none s n _ o new h

refused_made : (r : Request) (refusal : Refusal) (t : Past) → IsMadeBy r (outcome.Refused refusal) t
refused_made (RunCell text silent store) refusal t = tt
refused_made (Undo k) refusal t = tt
refused_made (Redo k) refusal t = tt
refused_made (Goto n) refusal t = tt

unless_made : (closing : Bool) (s : Past) (r : Request) (o : Outcome) (new : State) → 0 < length s.nodes → EndsUnless closing s r o new → IsMadeBy r o new.past
unless_made false s r o new rooted h = job_made s r o new rooted h
unless_made true s r o new rooted h = subst (λ (x : Outcome). IsMadeBy r x new.past) (sym h.0) (refused_made r _ new.past)

-- the node that a job made, if it made one, has the cell of its text
pub run_made : JobsEnd → (old posted new : Machine) (slices left : List Slice) (r : Request) (n : ℕ) (o : Outcome) → 0 < length old.state.past.nodes
    → old.state.job ≡ Idle → old.queue ≡ [] → IsPost old lane r (Ok n) posted → RunsOut posted slices o new left → IsMadeBy r o new.state.past
run_made ends old posted new slices left r n o rooted idle alone p h =
    let next = posted_alone old posted r n idle alone p in
    let still : length posted.state.past.nodes ≡ length old.state.past.nodes = ap (λ (m : Machine). length m.state.past.nodes) p.2 in
    unless_made posted.closing posted.state.past r o new.state (subst (λ (k : ℕ). 0 < k) (sym still) rooted)
    (ends posted new r h.0 h.1.answers o next.0 ([], next.1) h.1.run h.1.ends)

-- ---- what is shown of it

cell_shown : ShownIsOfText → (text : List ℕ) (o : Outcome) (s : Past) (shown : Option (List ℕ)) → IsMadeOf text o s → IsShownOfNode o s shown
    → IsShownAfter o s text shown
cell_shown law text (outcome.Ran node steps) s shown made h = law s node steps text shown made h
cell_shown law text (outcome.Failed fault steps) s shown made h = h
cell_shown law text (outcome.Interrupted steps) s shown made h = h
cell_shown law text (outcome.Undid cells end) s shown made h = h
cell_shown law text (outcome.Redid cells end) s shown made h = h
cell_shown law text (outcome.Went up down end) s shown made h = h
cell_shown law text (outcome.Refused refusal) s shown made h = h

move_shown : (o : Outcome) (s : Past) (shown : Option (List ℕ)) → MakesNone o → IsShownOfNode o s shown → shown ≡ None
move_shown (outcome.Ran node steps) s shown made h = absurd made
move_shown (outcome.Failed fault steps) s shown made h = h
move_shown (outcome.Interrupted steps) s shown made h = h
move_shown (outcome.Undid cells end) s shown made h = h
move_shown (outcome.Redid cells end) s shown made h = h
move_shown (outcome.Went up down end) s shown made h = h
move_shown (outcome.Refused refusal) s shown made h = h

-- what is shown of a node is shown of the job that made it
pub shown_of_job : ShownIsOfText → (r : Request) (o : Outcome) (s : Past) (shown : Option (List ℕ)) → IsMadeBy r o s
    → IsShownOfNode o s shown ⊎ (shown ≡ None) → IsShownOf s r o shown
shown_of_job law (RunCell text silent store) o s shown made h = ⊎_elim (λ seen. inl (cell_shown law text o s shown made seen)) (λ none. inr none) h
shown_of_job law (Undo k) o s shown made h = ⊎_elim (λ seen. move_shown o s shown made seen) (λ none. none) h
shown_of_job law (Redo k) o s shown made h = ⊎_elim (λ seen. move_shown o s shown made seen) (λ none. none) h
shown_of_job law (Goto n) o s shown made h = ⊎_elim (λ seen. move_shown o s shown made seen) (λ none. none) h
