-- Each slice brings an open job nearer to its end.
use Rattle.std.proofs.Common.{◌≡◌, ℕ, zero, suc, ◌+◌, ◌-◌, ◌*◌, ◌<◌, ◌≤◌, false, refl, ap, sym, ◌∙◌, subst, arith, ⊎_elim}
use Rattle.janus_meaning.specs.World.{World}
use Rattle.janus_meaning.specs.Limit.{step_limit}
use Rattle.kernel_core.specs.Language.{Code, CodePart}
use Rattle.kernel_core.specs.progress.Progress.{Progress}
use Rattle.kernel_core.specs.progress.Progress.TheVariants.{Went, Ended, Stopped}
use Rattle.kernel_core.specs.Reached.{Reaches}
use Rattle.kernel_core.specs.State.{Past, State, Work, Posted, Move, Job, Idle, Border, Inside, here, code_of}
use Rattle.kernel_core.specs.Slices.{cells, stepped, moved, Backs, Arrives, Settles, Comes, SlicesIn, SlicesAt}
use Rattle.kernel_core.specs.Begins.{Enters}
use Rattle.kernel_core.specs.Runs.{Machine, IsBegin, BeginsAt, IsSliceOf}
use Rattle.kernel_core.specs.travel.Travel.{Travel}
use Rattle.kernel_core.specs.travel.Way.{Way}
use Rattle.kernel_core.specs.travel.Way.TheVariants.{Up, Down}
use Rattle.kernel_core.specs.Travel.{next_way}
use Rattle.kernel_core.specs.heading.Why.{Why}
use Rattle.kernel_core.specs.heading.Heading.{Heading}
use Rattle.kernel_core.specs.heading.Heading.TheVariants.{GoesOn, GoesBack}
use Rattle.kernel_core.proofs.Trees.{way_up, way_down}
use Rattle.kernel_core.specs.outcome.Sliced.{Sliced}
use Rattle.kernel_core.specs.outcome.Sliced.TheVariants as sliced
use Rattle.kernel_core.specs.outcome.Begun.{Begun}
use Rattle.kernel_core.specs.outcome.Begun.TheVariants as begun
use Rattle.kernel_core.proofs.Taken.{IsInside, IsBorder}

-- ---- how much is left of a job

abbrev turn_left : Heading → ℕ → ℕ
turn_left GoesOn zero = step_limit + 2
turn_left GoesOn (suc c) = step_limit + 1
turn_left (GoesBack why) c = c

abbrev cells_left : Work → ℕ
cells_left (Posted cell) = 0
cells_left (Move travel) = cells travel

abbrev pub left : Job → ℕ
left Idle = 0
left (Border travel) = cells travel * (step_limit + 4) + (step_limit + 3)
left (Inside e) = cells_left e.work * (step_limit + 4) + turn_left e.heading e.count

-- what the answer of a slice inside a cell tells
abbrev pub Nearer : Job → Sliced → Job → Type 0
Nearer old sliced.Nothing new = ⊥
Nearer old sliced.Going new = IsInside new × (left new < left old)
Nearer old sliced.Backing new = IsInside new × (left new < left old)
Nearer old sliced.Border new = IsBorder new × (left new < left old)
Nearer old (sliced.Ended o) new = new ≡ Idle

-- ---- the cases of a slice

going_left : (c : ℕ) → step_limit < turn_left GoesOn c
going_left zero = omega arith
going_left (suc c) = omega arith

backs_nearer : (s : Past) (work : Work) (why : Why) (old : Job) (j : ℕ) (told : Sliced) (new : State) → cells_left work * (step_limit + 4) + j < left old →
    Backs s work why j told new → Nearer old told new.job
backs_nearer s work why old zero told new lt h =
    subst (λ t. Nearer old t new.job) (sym h.0) (ap (λ x. x.job) h.1)
backs_nearer s work why old (suc c) told new lt h =
    subst (λ t. Nearer old t new.job) (sym h.0) ((_, ap (λ x. x.job) h.1), subst (λ n. n < left old) (sym (ap (λ x. left x.job) h.1)) lt)

abbrev inside : Work → ℕ → Job
inside work c = Inside (record { work = work; count = c; heading = GoesOn })

-- one cell less, and the step to the border, is less than what was left
one_less : (n m t : ℕ) → n - 1 ≡ suc m → step_limit < t → suc m * (step_limit + 4) + (step_limit + 3) < n * (step_limit + 4) + t
one_less n m t e h = omega arith

stepped_left : (t : Travel) (way : Way) → next_way t ≡ way → cells (stepped t) ≡ cells t - 1
stepped_left t Up way = (let some = way_up t.up way in rw (way, stepped) (omega arith))
stepped_left t Down way = (let none = way_down t.up way in rw (way, stepped) (omega arith))

arrives_nearer : (s : Past) (travel on : Travel) (n c : ℕ) (told : Sliced) (new : State) → cells travel - 1 ≡ n → cells on ≡ n → Arrives n s on told new →
    Nearer (inside (Move travel) c) told new.job
arrives_nearer s travel on zero c told new e f h =
    subst (λ t. Nearer (inside (Move travel) c) t new.job) (sym h.0) (ap (λ x. x.job) h.1)
arrives_nearer s travel on (suc n) c told new e f h =
    let there : left new.job ≡ suc n * (step_limit + 4) + (step_limit + 3) = ap (λ x. left x.job) h.1 ∙ ap (λ k. k * (step_limit + 4) + (step_limit + 3)) f in
    subst (λ t. Nearer (inside (Move travel) c) t new.job) (sym h.0)
    ((_, ap (λ x. x.job) h.1), subst (λ n. n < left (inside (Move travel) c)) (sym there) (one_less (cells travel) n (turn_left GoesOn c) e (going_left c)))

settles_nearer : (s : Past) (work : Work) (c n : ℕ) (w : World) (told : Sliced) (new : State) → Settles s work n w told new →
    Nearer (inside work c) told new.job
settles_nearer s (Posted cell) c n w told new h = subst (λ t. Nearer (inside (Posted cell) c) t new.job) (sym h.0) (ap (λ x. x.job) h.1)
settles_nearer s (Move travel) c n w told new h =
    arrives_nearer (moved s travel) travel (stepped travel) (cells (stepped travel)) c told new (sym (stepped_left travel (next_way travel) refl)) refl h

-- a part is never past the limit
part_limit : (code : Code) (w v : World) (j : ℕ) → CodePart code w j v → j ≤ step_limit
unfolding CodePart
part_limit code w v j h = h.limit

comes_nearer : (s : Past) (work : Work) (c : ℕ) (ran : Progress) (w : World) (told : Sliced) (new : State) →
    Reaches (code_of s work) (here s) (c + step_limit) ran w → Comes s work (c + step_limit) ran w told new → Nearer (inside work c) told new.job
comes_nearer s work c Went w told new r h =
    let le = part_limit (code_of s work) (here s) w (c + step_limit) r.0 in
    let none : c ≡ zero = omega arith in
    let some : c + step_limit ≡ suc (step_limit - 1) = omega arith in
    let old_left : turn_left GoesOn c ≡ step_limit + 2 = ap (turn_left GoesOn) none in
    let new_left : turn_left GoesOn (c + step_limit) ≡ step_limit + 1 = ap (turn_left GoesOn) some in
    let less : cells_left work * (step_limit + 4) + turn_left GoesOn (c + step_limit) < cells_left work * (step_limit + 4) + turn_left GoesOn c =
    further (cells_left work * (step_limit + 4)) _ _ new_left old_left in
    subst (λ t. Nearer (inside work c) t new.job) (sym h.0)
    ((_, ap (λ x. x.job) h.1), subst (λ n. n < left (inside work c)) (sym (ap (λ x. left x.job) h.1)) less)
  where
    further : (a m n : ℕ) → m ≡ step_limit + 1 → n ≡ step_limit + 2 → a + m < a + n
    further a m n e f = omega arith
comes_nearer s work c (Ended n) w told new r h = settles_nearer s work c n w told new h
comes_nearer s work c (Stopped j fault) w told new r h =
    let le = part_limit (code_of s work) (here s) w j r.0 in
    backs_nearer s work _ (inside work c) j told new (within (cells_left work * (step_limit + 4)) j (turn_left GoesOn c) le (going_left c)) h
  where
    within : (a j t : ℕ) → j ≤ step_limit → step_limit < t → a + j < a + t
    within a j t h k = omega arith

back_less : (a c n : ℕ) → c - step_limit ≡ suc n → a + suc n < a + c
back_less a c n e = omega arith

-- backing: what is left to go back is less
backing_nearer : (s : Past) (work : Work) (why : Why) (c n : ℕ) (told : Sliced) (new : State) → c - step_limit ≡ n → Backs s work why n told new →
    Nearer (Inside (record { work = work; count = c; heading = GoesBack why })) told new.job
backing_nearer s work why c zero told new e h =
    subst (λ t. Nearer (Inside (record { work = work; count = c; heading = GoesBack why })) t new.job) (sym h.0) (ap (λ x. x.job) h.1)
backing_nearer s work why c (suc n) told new e h =
    subst (λ t. Nearer (Inside (record { work = work; count = c; heading = GoesBack why })) t new.job) (sym h.0) (
      (_, ap (λ x. x.job) h.1),
      subst (λ n. n < cells_left work * (step_limit + 4) + c) (sym (ap (λ x. left x.job) h.1))
          (back_less (cells_left work * (step_limit + 4)) c n e),
    )

slices_nearer : (s : Past) (work : Work) (c : ℕ) (heading : Heading) (told : Sliced) (new : State) → SlicesIn s work c heading step_limit false told new →
    Nearer (Inside (record { work = work; count = c; heading = heading })) told new.job
slices_nearer s work c GoesOn told new h = comes_nearer s work c h.0 h.1 told new h.2 h.3
slices_nearer s work c (GoesBack why) told new h = backing_nearer s work why c (c - step_limit) told new refl h

-- a slice of a job inside a cell
pub slice_nearer : (old new : Machine) (told : Sliced) → IsInside old.state.job → IsSliceOf old step_limit false told new →
    Nearer old.state.job told new.state.job
slice_nearer old new told i h =
    let at : SlicesAt old.state.past (Inside i.0) step_limit false told h.0 = subst (λ job. SlicesAt old.state.past job step_limit false told h.0) i.1 h.1 in
    subst (λ job. Nearer job told new.state.job) (sym i.1)
    (subst (λ state. Nearer (Inside i.0) told state.job) (sym (ap (λ m. m.state) h.2))
    (slices_nearer old.state.past i.0.work i.0.count i.0.heading told h.0 at))

-- ---- begins

-- what the answer of a begin tells, at a border or without an open job
abbrev pub Begins : Job → Begun → Job → Type 0
Begins old begun.Nothing new = ⊥
Begins old begun.Going new = IsInside new × (left new < left old)
Begins old (begun.Ended o) new = new ≡ Idle

enter_less : (a : ℕ) → a + (step_limit + 2) < a + (step_limit + 3)
enter_less a = omega arith

enters_nearer : (s : Past) (t : Travel) (told : Begun) (new : State) → Enters s t told new → Begins (Border t) told new.job
enters_nearer s t told new h =
    ⊎_elim
    (λ h. subst (λ b. Begins (Border t) b new.job) (sym h.0)
    ((_, ap (λ x. x.job) h.1), subst (λ n. n < left (Border t)) (sym (ap (λ x. left x.job) h.1)) (enter_less (cells t * (step_limit + 4)))))
    (λ h. subst (λ b. Begins (Border t) b new.job) (sym h.0) (ap (λ x. x.job) h.2))
    h

pub begin_nearer : (old new : Machine) (told : Begun) → IsBorder old.state.job → IsBegin old told new → Begins old.state.job told new.state.job
begin_nearer old new told i h =
    let at : BeginsAt old (Border i.0) old.queue told h.0 = subst (λ job. BeginsAt old job old.queue told h.0) i.1 h.1 in
    let state : new.state ≡ at.0 = ap (λ m. m.state) h.2 ∙ ap (λ m. m.state) at.2 in
    subst (λ job. Begins job told new.state.job) (sym i.1)
    (subst (λ state. Begins (Border i.0) told state.job) (sym state) (enters_nearer old.state.past i.0 told at.0 at.1))
