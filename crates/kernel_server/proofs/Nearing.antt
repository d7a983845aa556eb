-- Each slice brings an open job nearer to its end, or where it has no steps leaves it as near.
use Rattle.std.proofs.Common.{◌≡◌, ℕ, zero, suc, ◌+◌, ◌-◌, ◌*◌, ◌<◌, ◌≤◌, Bool, true, false, refl, ap, sym, ◌∙◌, subst, arith, ⊎_elim}
use Rattle.janus_meaning.specs.World.{World}
use Rattle.janus_meaning.specs.Limit.{step_limit}
use Rattle.kernel_core.specs.Language.{Code, CodePart}
use Rattle.kernel_core.specs.progress.Progress.{Progress}
use Rattle.kernel_core.specs.progress.Progress.TheVariants.{Went, Ended, Stopped}
use Rattle.kernel_core.specs.Reached.{Reaches}
use Rattle.kernel_core.specs.State.{Past, State, Work, Posted, Move, Entered, Job, Idle, Border, Inside, here, code_of}
use Rattle.kernel_core.specs.Slices.{cells, stepped, moved, Backs, Arrives, Settles, Comes, SlicesIn, SlicesAt}
use Rattle.kernel_core.specs.Begins.{Enters}
use Rattle.kernel_core.specs.Runs.{Machine, IsBegin, BeginsAt, IsSliceOf}
use Rattle.kernel_core.specs.travel.Travel.{Travel}
use Rattle.kernel_core.specs.travel.Way.{Way}
use Rattle.kernel_core.specs.travel.Way.TheVariants.{Up, Down}
use Rattle.kernel_core.specs.Travel.{next_way}
use Rattle.kernel_core.specs.heading.Why.{Why}
use Rattle.kernel_core.specs.heading.Why.TheVariants.{WasAsked}
use Rattle.kernel_core.specs.heading.Heading.{Heading}
use Rattle.kernel_core.specs.heading.Heading.TheVariants.{GoesOn, GoesBack}
use Rattle.kernel_core.proofs.Trees.{way_up, way_down}
use Rattle.kernel_core.specs.outcome.Sliced.{Sliced}
use Rattle.kernel_core.specs.outcome.Sliced.TheVariants as sliced
use Rattle.kernel_core.specs.outcome.Begun.{Begun}
use Rattle.kernel_core.specs.outcome.Begun.TheVariants as begun
use Rattle.kernel_core.proofs.Taken.{IsInside, IsBorder}

-- ---- how much is left of a job, where each cell has at most the limit of steps

-- of a cell: onward what is left of its steps, and all of them back
abbrev on_left : ℕ → ℕ → ℕ
on_left limit c = (limit - c) + (c - limit) + limit + 2

abbrev turn_left : Heading → ℕ → ℕ
turn_left GoesOn c = on_left step_limit c
turn_left (GoesBack why) c = c

abbrev cells_left : Work → ℕ
cells_left (Posted cell) = 0
cells_left (Move travel) = cells travel

-- of n cells, and of one with t steps
abbrev in_all : ℕ → ℕ → ℕ
in_all n t = n * (step_limit + step_limit + 4) + t

abbrev pub left : Job → ℕ
left Idle = 0
left (Border travel) = in_all (cells travel) (step_limit + step_limit + 3)
left (Inside e) = in_all (cells_left e.work) (turn_left e.heading e.count)

-- no more is left, and less where there were steps
abbrev pub IsNearer : ℕ → ℕ → ℕ → Type 0
IsNearer m old new = (new ≤ old) × (0 < m → new < old)

-- what the answer of a slice of m steps inside a cell tells
abbrev pub Nearer : ℕ → Job → Sliced → Job → Type 0
Nearer m old sliced.Nothing new = ⊥
Nearer m old sliced.Going new = IsInside new × IsNearer m (left old) (left new)
Nearer m old sliced.Backing new = IsInside new × IsNearer m (left old) (left new)
Nearer m old sliced.Border new = IsBorder new × IsNearer m (left old) (left new)
Nearer m old (sliced.Ended o) new = new ≡ Idle

less_is_nearer : (m old new : ℕ) → new < old → IsNearer m old new
less_is_nearer m old new lt = (omega arith, λ _. lt)

-- ---- numbers

on_is_more : (limit c j : ℕ) → j ≤ limit → j < on_left limit c
on_is_more limit c j le = omega arith

on_is_more_than_back : (limit c n m : ℕ) → c - m ≡ n → n < on_left limit c
on_is_more_than_back limit c n m e = omega arith

on_falls : (limit c m : ℕ) → c + m ≤ limit → IsNearer m (on_left limit c) (on_left limit (c + m))
on_falls limit c m le = (omega arith, λ some. omega arith)

back_falls : (c n m : ℕ) → c - m ≡ suc n → IsNearer m c (suc n)
back_falls c n m e = (omega arith, λ some. omega arith)

in_all_less : (n t u : ℕ) → t < u → in_all n t < in_all n u
in_all_less n t u lt = omega arith

in_all_nearer : (n m t u : ℕ) → IsNearer m u t → IsNearer m (in_all n u) (in_all n t)
in_all_nearer n m t u near = ((let le = near.0 in omega arith), λ some. in_all_less n t u (near.1 some))

-- one cell less, and the step to the border, is less than what was left
one_less : (n m t : ℕ) → n - 1 ≡ suc m → in_all (suc m) (step_limit + step_limit + 3) < in_all n t
one_less n m t e = omega arith

-- ---- the cases of a slice

backs_nearer : (m : ℕ) (s : Past) (work : Work) (why : Why) (old : Job) (j : ℕ) (told : Sliced) (new : State)
    → ((n : ℕ) → j ≡ suc n → IsNearer m (left old) (in_all (cells_left work) (suc n))) → Backs s work why j told new → Nearer m old told new.job
backs_nearer m s work why old zero told new near h =
    subst (λ t. Nearer m old t new.job) (sym h.0) (ap (λ x. x.job) h.1)
backs_nearer m s work why old (suc c) told new near h =
    subst (λ t. Nearer m old t new.job) (sym h.0)
    ((_, ap (λ x. x.job) h.1), subst (λ n. IsNearer m (left old) n) (sym (ap (λ x. left x.job) h.1)) (near c refl))

abbrev inside : Work → ℕ → Heading → Job
inside work c heading = Inside (record { work = work; count = c; heading = heading })

stepped_left : (t : Travel) (way : Way) → next_way t ≡ way → cells (stepped t) ≡ cells t - 1
stepped_left t Up way = (let some = way_up t.up way in rw (way, stepped) (omega arith))
stepped_left t Down way = (let none = way_down t.up way in rw (way, stepped) (omega arith))

arrives_nearer : (m : ℕ) (s : Past) (travel on : Travel) (n c : ℕ) (told : Sliced) (new : State) → cells travel - 1 ≡ n → cells on ≡ n → Arrives n s on told new
    → Nearer m (inside (Move travel) c GoesOn) told new.job
arrives_nearer m s travel on zero c told new e f h =
    subst (λ t. Nearer m (inside (Move travel) c GoesOn) t new.job) (sym h.0) (ap (λ x. x.job) h.1)
arrives_nearer m s travel on (suc n) c told new e f h =
    let there : left new.job ≡ in_all (suc n) (step_limit + step_limit + 3) = ap (λ x. left x.job) h.1 ∙ ap (λ k. in_all k (step_limit + step_limit + 3)) f in
    subst (λ t. Nearer m (inside (Move travel) c GoesOn) t new.job) (sym h.0) (
      (_, ap (λ x. x.job) h.1),
      less_is_nearer m _ _ (subst (λ n. n < left (inside (Move travel) c GoesOn)) (sym there) (one_less (cells travel) n (turn_left GoesOn c) e)),
    )

settles_nearer : (m : ℕ) (s : Past) (work : Work) (c n : ℕ) (w : World) (told : Sliced) (new : State) → Settles s work n w told new →
    Nearer m (inside work c GoesOn) told new.job
settles_nearer m s (Posted cell) c n w told new h = subst (λ t. Nearer m (inside (Posted cell) c GoesOn) t new.job) (sym h.0) (ap (λ x. x.job) h.1)
settles_nearer m s (Move travel) c n w told new h =
    arrives_nearer m (moved s travel) travel (stepped travel) (cells (stepped travel)) c told new (sym (stepped_left travel (next_way travel) refl)) refl h

-- a part is never past the limit
part_limit : (code : Code) (w v : World) (j : ℕ) → CodePart code w j v → j ≤ step_limit
unfolding CodePart
part_limit code w v j h = h.limit

comes_nearer : (m : ℕ) (s : Past) (work : Work) (c : ℕ) (ran : Progress) (w : World) (told : Sliced) (new : State) →
    Reaches (code_of s work) (here s) (c + m) ran w → Comes s work (c + m) ran w told new
    → Nearer m (inside work c GoesOn) told new.job
comes_nearer m s work c Went w told new r h =
    let le = part_limit (code_of s work) (here s) w (c + m) r.0 in
    let near = in_all_nearer (cells_left work) m (turn_left GoesOn (c + m)) (turn_left GoesOn c) (on_falls step_limit c m le) in
    subst (λ t. Nearer m (inside work c GoesOn) t new.job) (sym h.0)
    ((_, ap (λ x. x.job) h.1), subst (λ n. IsNearer m (left (inside work c GoesOn)) n) (sym (ap (λ x. left x.job) h.1)) near)
comes_nearer m s work c (Ended n) w told new r h = settles_nearer m s work c n w told new h
comes_nearer m s work c (Stopped j fault) w told new r h =
    let le = part_limit (code_of s work) (here s) w j r.0 in
    backs_nearer m s work _ (inside work c GoesOn) j told new
    (λ n e. less_is_nearer m
    _ _ (in_all_less (cells_left work) (suc n) (turn_left GoesOn c) (on_is_more step_limit c (suc n) (subst (λ k. k ≤ step_limit) e le)))) h

slices_nearer : (m : ℕ) (asked : Bool) (s : Past) (work : Work) (c : ℕ) (heading : Heading) (told : Sliced) (new : State) →
    SlicesIn s work c heading m asked told new → Nearer m (inside work c heading) told new.job
slices_nearer m false s work c GoesOn told new h = comes_nearer m s work c h.0 h.1 told new h.2 h.3
slices_nearer m true s work c GoesOn told new h =
    backs_nearer m s work (WasAsked c) (inside work c GoesOn) (c - m) told new
    (λ n e. less_is_nearer m _ _ (in_all_less (cells_left work) (suc n) (turn_left GoesOn c) (on_is_more_than_back step_limit c (suc n) m e))) h
slices_nearer m asked s work c (GoesBack why) told new h =
    backs_nearer m s work why (inside work c (GoesBack why)) (c - m) told new
    (λ n e. in_all_nearer (cells_left work) m (suc n) c (back_falls c n m e)) h

-- a slice of a job inside a cell
pub slice_nearer : (old new : Machine) (m : ℕ) (asked : Bool) (told : Sliced) → IsInside old.state.job → IsSliceOf old m asked told new →
    Nearer m old.state.job told new.state.job
slice_nearer old new m asked told i h =
    let at : SlicesAt old.state.past (Inside i.0) m asked told h.0 = subst (λ job. SlicesAt old.state.past job m asked told h.0) i.1 h.1 in
    subst (λ job. Nearer m job told new.state.job) (sym i.1)
    (subst (λ state. Nearer m (Inside i.0) told state.job) (sym (ap (λ m. m.state) h.2))
    (slices_nearer m asked old.state.past i.0.work i.0.count i.0.heading told h.0 at))

-- ---- begins at a border

-- what the answer of a begin tells
abbrev pub Begins : Job → Begun → Job → Type 0
Begins old begun.Nothing new = ⊥
Begins old begun.Going new = IsInside new × (left new < left old)
Begins old (begun.Ended o) new = new ≡ Idle

enter_less : (n limit : ℕ) → n + on_left limit 0 < n + (limit + limit + 3)
enter_less n limit = omega arith

enters_nearer : (s : Past) (t : Travel) (told : Begun) (new : State) → Enters s t told new → Begins (Border t) told new.job
enters_nearer s t told new h =
    ⊎_elim
    (λ h. subst (λ b. Begins (Border t) b new.job) (sym h.0) (
      (_, ap (λ x. x.job) h.1),
      subst (λ n. n < left (Border t)) (sym (ap (λ x. left x.job) h.1))
          (enter_less (cells t * (step_limit + step_limit + 4)) step_limit),
    ))
    (λ h. subst (λ b. Begins (Border t) b new.job) (sym h.0) (ap (λ x. x.job) h.2))
    h

pub begin_nearer : (old new : Machine) (told : Begun) → IsBorder old.state.job → IsBegin old told new → Begins old.state.job told new.state.job
begin_nearer old new told i h =
    let at : BeginsAt old (Border i.0) old.queue told h.0 = subst (λ job. BeginsAt old job old.queue told h.0) i.1 h.1 in
    let state : new.state ≡ at.0 = ap (λ m. m.state) h.2 ∙ ap (λ m. m.state) at.2 in
    subst (λ job. Begins job told new.state.job) (sym i.1)
    (subst (λ state. Begins (Border i.0) told state.job) (sym state) (enters_nearer old.state.past i.0 told at.0 at.1))
