-- Minutes give one account only: an outcome tells how far its job came.
use Rattle.std.proofs.Common.{◌≡◌, ℕ, ◌+◌, ◌≤◌, Bool, true, false, List, [], ◌∷◌, length, zero, suc, refl, sym, ap, ◌∙◌, subst, arith, inl, inr}
use Rattle.std.specs.Prelude.{nat_lt}
use Rattle.janus_meaning.specs.World.{World, Cell}
use Rattle.kernel_machine.specs.Language.{Forward, CodeExec}
use Rattle.kernel_machine.specs.State.{Past, State, Idle, here, is_full}
use Rattle.kernel_machine.specs.Legal.{can_undo, can_redo}
use Rattle.kernel_machine.specs.Slices.{finished_by, finished, cells, stepped, grown}
use Rattle.kernel_machine.specs.Begins.{travel_to}
use Rattle.kernel_machine.specs.Request.{Request, RunCell, Undo, Redo, Goto}
use Rattle.kernel_machine.specs.Midway.{after, gone}
use Rattle.kernel_machine.specs.Ends.{TravelEnds, MoveEnds, GotoEnds, BecomesNode, IsNoNode, TextEnds, CellEnds, JobEnds}
use Rattle.kernel_machine.specs.Minutes.{Entry, Posted, Ended}
use Rattle.kernel_machine.specs.LegalMinutes.{Account, MayEnd, EndsFirst, Tells, Give}
use Rattle.machine_laws.specs.Theorems.{OneAccount}
use Rattle.kernel_machine.specs.declared.travel.Travel.{Travel}
use Rattle.kernel_machine.specs.declared.travel.Aim.{Aim}
use Rattle.kernel_machine.specs.declared.travel.Aim.TheVariants as aim
use Rattle.kernel_machine.specs.declared.outcome.TravelEnd.{TravelEnd}
use Rattle.kernel_machine.specs.declared.outcome.Refusal.{Refusal}
use Rattle.kernel_machine.specs.declared.outcome.Refusal.TheVariants.{Closing}
use Rattle.kernel_machine.specs.declared.outcome.Outcome.{Outcome}
use Rattle.kernel_machine.specs.declared.outcome.Outcome.TheVariants as outcome
use Rattle.machine_laws.proofs.Again.{left_of, after_up, after_down}
use Rattle.kernel_machine.proofs.LanguageLaws.{exec_same}
use Rattle.machine_laws.proofs.Refusals.{one_cell}
use Rattle.kernel_machine.proofs.Trees.{meeting_same}

-- ---- how many cells an outcome tells

abbrev told_cells : Outcome → ℕ
told_cells (outcome.Undid j end) = j
told_cells (outcome.Redid j end) = j
told_cells (outcome.Went i j end) = i + j
told_cells (outcome.Ran node n) = 0
told_cells (outcome.Failed fault j) = 0
told_cells (outcome.Interrupted j) = 0
told_cells (outcome.Refused refusal) = 0

step_counts : (a : Aim) (up down i j : ℕ) → (stepped (left_of a up down i j)).went_up + (stepped (left_of a up down i j)).went_down ≡ suc (i + j)
step_counts a zero down i j = omega arith
step_counts a (suc up) down i j = omega arith

gone_counts : (t : Travel) (j : ℕ) → (after t j).went_up + (after t j).went_down ≡ t.went_up + t.went_down + j
gone_counts t zero = omega arith
gone_counts t (suc j) =
    let t' = after t j in
    let one = step_counts t'.aim t'.up t'.down t'.went_up t'.went_down in
    let below = gone_counts t j in
    one ∙ omega arith

step_aim : (a : Aim) (up down i j : ℕ) → (stepped (left_of a up down i j)).aim ≡ a
step_aim a zero down i j = refl
step_aim a (suc up) down i j = refl

aim_stays : (t : Travel) (j : ℕ) → (after t j).aim ≡ t.aim
aim_stays t zero = refl
aim_stays t (suc j) = (let t' = after t j in step_aim t'.aim t'.up t'.down t'.went_up t'.went_down ∙ aim_stays t j)

undo_tells : (k j : ℕ) (end : TravelEnd) → j ≤ k → told_cells (finished (after (travel_to aim.Undo k 0) j) end) ≡ j
undo_tells k j end l = ap (λ (t : Travel). told_cells (finished t end)) (after_up aim.Undo k 0 j l)

redo_tells : (k j : ℕ) (end : TravelEnd) → j ≤ k → told_cells (finished (after (travel_to aim.Redo 0 k) j) end) ≡ j
redo_tells k j end l =
    let e : 0 + j ≡ j = omega arith in
    subst (λ (i : ℕ). told_cells (finished (after (travel_to aim.Redo 0 k) i) end) ≡ j) e
    (ap (λ (t : Travel). told_cells (finished t end)) (after_down aim.Redo 0 k j l))

goto_tells : (n up down j : ℕ) (end : TravelEnd) → told_cells (finished (after (travel_to (aim.Goto n) up down) j) end) ≡ j
goto_tells n up down j end =
    let t = after (travel_to (aim.Goto n) up down) j in
    let all = gone_counts (travel_to (aim.Goto n) up down) j in
    ap (λ (a : Aim). told_cells (finished_by a t.went_up t.went_down end)) (aim_stays (travel_to (aim.Goto n) up down) j) ∙ all ∙ omega arith

-- ---- how a job ends

travel_same : (s : Past) (t : Travel) (o : Outcome) (x y : State) → ((j : ℕ) (end : TravelEnd) → j ≤ cells t → told_cells (finished (after t j) end) ≡ j) →
    TravelEnds s t o x → TravelEnds s t o y → x ≡ y
travel_same s t o x y tells a b =
    let e = a.2 in
    let f = b.2 in
    let same : a.0 ≡ b.0 = sym (tells a.0 a.1 e.within) ∙ ap told_cells (sym e.tells ∙ f.tells) ∙ tells b.0 b.1 f.within in
    e.stands ∙ ap (λ (j : ℕ). record { past = gone s t j; job = Idle }) same ∙ sym f.stands

move_same : (s : Past) (t : Travel) (can : Bool) (o : Outcome) (x y : State) →
    ((j : ℕ) (end : TravelEnd) → j ≤ cells t → told_cells (finished (after t j) end) ≡ j) → MoveEnds s t can o x → MoveEnds s t can o y → x ≡ y
move_same s t false o x y tells a b = a.1 ∙ sym b.1
move_same s t true o x y tells a b = travel_same s t o x y tells a b

goto_same : (s : Past) (n : ℕ) (known : Bool) (o : Outcome) (x y : State) → GotoEnds s n known o x → GotoEnds s n known o y → x ≡ y
goto_same s n false o x y a b = a.1 ∙ sym b.1
goto_same s n true o x y a b =
    let same = meeting_same s.nodes s.position n a.0 a.1 b.0 b.1 a.2 b.2 in
    travel_same s (travel_to (aim.Goto n) a.0 a.1) o x y (λ j end l. goto_tells n a.0 a.1 j end) a.3
    (subst (λ (j : ℕ). TravelEnds s (travel_to (aim.Goto n) a.0 j) o y) (sym same.1)
    (subst (λ (i : ℕ). TravelEnds s (travel_to (aim.Goto n) i b.1) o y) (sym same.0) b.3))

node_same : (s : Past) (text : List ℕ) (o : Outcome) (x y : State) → BecomesNode s text o x → BecomesNode s text o y → x ≡ y
node_same s text o x y (c, n, w, accepts, ran, runs, new) (d, m, v, also, ended, goes, other) =
    let cell : c ≡ d = one_cell (here s) text c d accepts also in
    let one = exec_same (Forward c) (here s) n m w v runs (subst (λ (z : Cell). CodeExec (Forward z) (here s) m v) (sym cell) goes) in
    new
    ∙ ap (λ (z : Cell). record { past = grown s z n w; job = Idle }) cell
    ∙ ap (λ (k : ℕ). record { past = grown s d k w; job = Idle }) one.0
    ∙ ap (λ (u : World). record { past = grown s d m u; job = Idle }) one.1
    ∙ sym other

text_same : (s : Past) (text : List ℕ) (o : Outcome) (x y : State) → TextEnds s text o x → TextEnds s text o y → x ≡ y
text_same s text o x y (inl a) (inl b) = node_same s text o x y a b
text_same s text o x y (inl a) (inr b) = absurd (subst (IsNoNode s text) a.4 b.1)
text_same s text o x y (inr a) (inl b) = absurd (subst (IsNoNode s text) b.4 a.1)
text_same s text o x y (inr a) (inr b) = a.0 ∙ sym b.0

cell_same : (s : Past) (text : List ℕ) (full : Bool) (o : Outcome) (x y : State) → CellEnds s text full o x → CellEnds s text full o y → x ≡ y
cell_same s text true o x y a b = a.1 ∙ sym b.1
cell_same s text false o x y a b = text_same s text o x y a b

alone : (k j : ℕ) → j ≤ k + 0 → j ≤ k
alone k j l = omega arith

job_same : (s : Past) (job : Request) (o : Outcome) (x y : State) → JobEnds s job o x → JobEnds s job o y → x ≡ y
job_same s (RunCell text silent store) o x y a b = cell_same s text (is_full s) o x y a b
job_same s (Undo k) o x y a b = move_same s (travel_to aim.Undo k 0) (can_undo s.nodes s.position k) o x y (λ j end l. undo_tells k j end (alone k j l)) a b
job_same s (Redo k) o x y a b =
    move_same s (travel_to aim.Redo 0 k) (can_redo s.favourites s.position k) o x y (λ j end l. redo_tells k j end (omega (arith, l))) a b
job_same s (Goto n) o x y a b = goto_same s n (nat_lt n (length s.nodes)) o x y a b

-- ---- a refused job leaves the past

not_finished : (a : Aim) (i j : ℕ) (end : TravelEnd) (r : Refusal) → outcome.Refused r ≡ finished_by a i j end → ⊥
not_finished aim.Undo i j end r e = cc
not_finished aim.Redo i j end r e = cc
not_finished (aim.Goto n) i j end r e = cc

travel_refuses_not : (s : Past) (t : Travel) (o : Outcome) (y : State) (r : Refusal) → o ≡ outcome.Refused r → TravelEnds s t o y → ⊥
travel_refuses_not s t o y r e b = (let u = after t b.0 in not_finished u.aim u.went_up u.went_down b.1 r (sym e ∙ (b.2).tells))

move_refused : (s : Past) (t : Travel) (can : Bool) (o : Outcome) (y : State) (r : Refusal) → o ≡ outcome.Refused r → MoveEnds s t can o y →
    y ≡ record { past = s; job = Idle }
move_refused s t false o y r e b = b.1
move_refused s t true o y r e b = absurd (travel_refuses_not s t o y r e b)

goto_refused : (s : Past) (n : ℕ) (known : Bool) (o : Outcome) (y : State) (r : Refusal) → o ≡ outcome.Refused r → GotoEnds s n known o y →
    y ≡ record { past = s; job = Idle }
goto_refused s n false o y r e b = b.1
goto_refused s n true o y r e b = absurd (travel_refuses_not s (travel_to (aim.Goto n) b.0 b.1) o y r e b.3)

text_refused : (s : Past) (text : List ℕ) (o : Outcome) (y : State) (r : Refusal) → o ≡ outcome.Refused r → TextEnds s text o y →
    y ≡ record { past = s; job = Idle }
text_refused s text o y r e (inl b) = absurd (let f : outcome.Refused r ≡ outcome.Ran (length s.nodes) b.1 = sym e ∙ b.4 in cc)
text_refused s text o y r e (inr b) = b.0

cell_refused : (s : Past) (text : List ℕ) (full : Bool) (o : Outcome) (y : State) (r : Refusal) → o ≡ outcome.Refused r → CellEnds s text full o y →
    y ≡ record { past = s; job = Idle }
cell_refused s text true o y r e b = b.1
cell_refused s text false o y r e b = text_refused s text o y r e b

job_refused : (s : Past) (job : Request) (o : Outcome) (y : State) (r : Refusal) → o ≡ outcome.Refused r → JobEnds s job o y →
    y ≡ record { past = s; job = Idle }
job_refused s (RunCell text silent store) o y r e b = cell_refused s text (is_full s) o y r e b
job_refused s (Undo k) o y r e b = move_refused s (travel_to aim.Undo k 0) (can_undo s.nodes s.position k) o y r e b
job_refused s (Redo k) o y r e b = move_refused s (travel_to aim.Redo 0 k) (can_redo s.favourites s.position k) o y r e b
job_refused s (Goto n) o y r e b = goto_refused s n (nat_lt n (length s.nodes)) o y r e b

abbrev idle_at : Past → State
idle_at s = record { past = s; job = Idle }

one_past : (t u : Past) → idle_at t ≡ idle_at u → t ≡ u
one_past t u e = ap (λ (x : State). x.past) e

may_end_same : (s : Past) (job : Request) (o : Outcome) (t u : Past) → MayEnd s job o t → MayEnd s job o u → t ≡ u
may_end_same s job o t u (inl a) (inl b) = one_past t u (a.1 ∙ sym b.1)
may_end_same s job o t u (inl a) (inr b) = one_past t u (a.1 ∙ sym (job_refused s job o _ Closing a.0 b))
may_end_same s job o t u (inr a) (inl b) = one_past t u (job_refused s job o _ Closing b.0 a ∙ sym b.1)
may_end_same s job o t u (inr a) (inr b) = one_past t u (job_same s job o _ _ a b)

-- ---- the fold

first_same : (old : Account) (waiting : List Request) (number : ℕ) (o : Outcome) (count node : ℕ) (x y : Account) →
    EndsFirst old waiting number o count node x → EndsFirst old waiting number o count node y → x ≡ y
first_same old [] number o count node x y a b = absurd a
first_same old (job ∷ rest) number o count node x y a b =
    let same : a.0 ≡ b.0 = may_end_same old.past job o a.0 b.0 a.1 b.1 in
    a.5 ∙ ap (λ (past : Past). record { past = past; counter = count; waiting = rest; ended = number }) same ∙ sym b.5

tells_same : (old : Account) (e : Entry) (x y : Account) → Tells old e x → Tells old e y → x ≡ y
tells_same old (Posted lane job) x y a b = a ∙ sym b
tells_same old (Ended number o count node) x y a b = first_same old old.waiting number o count node x y a b

give_same : (old : Account) (entries : List Entry) (x y : Account) → Give old entries x → Give old entries y → x ≡ y
give_same old [] x y a b = a ∙ sym b
give_same old (e ∷ entries) x y a b =
    give_same a.0 entries x y a.2 (subst (λ (mid : Account). Give mid entries y) (sym (tells_same old e a.0 b.0 a.1 b.1)) b.2)

pub one_account : OneAccount
one_account old entries x y a b = give_same old entries x y a b
