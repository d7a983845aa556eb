-- What the slices of a posted cell tell, and those of a job that goes back.
use Rattle.std.proofs.Common.{◌≡◌, ℕ, Bool, true, false, zero, suc, ◌+◌, ◌-◌, ◌<◌, refl, ap, sym, subst, arith}
use Rattle.janus_meaning.specs.World.{World, Cell}
use Rattle.janus_meaning.specs.Limit.{step_limit}
use Rattle.kernel_core.specs.progress.Progress.{Progress}
use Rattle.kernel_core.specs.progress.Progress.TheVariants.{Went, Ended, Stopped}
use Rattle.kernel_core.specs.State.{Past, State, Work, Posted, Job, Idle, Border, Inside}
use Rattle.kernel_core.specs.Slices.{Backs, Comes, SlicesIn, SlicesAt}
use Rattle.kernel_core.specs.Runs.{Machine, IsSliceOf}
use Rattle.kernel_core.specs.heading.Why.{Why}
use Rattle.kernel_core.specs.heading.Why.TheVariants.{WasAsked, Faulted}
use Rattle.kernel_core.specs.heading.Heading.{Heading}
use Rattle.kernel_core.specs.heading.Heading.TheVariants.{GoesOn, GoesBack}
use Rattle.kernel_core.specs.outcome.Sliced.{Sliced}
use Rattle.kernel_core.specs.outcome.Sliced.TheVariants as sliced
use Rattle.cells_program.specs.OpenJob.{IsInCell, MustGoBack, TurnsBack}

-- how many steps are still to be taken back
abbrev pub count_of : Job → ℕ
count_of Idle = 0
count_of (Border travel) = 0
count_of (Inside e) = e.count

turned_goes_back : (asked : Bool) (why : Why) → TurnsBack asked (GoesBack why)
turned_goes_back true why = tt
turned_goes_back false why = tt

abbrev turned : Work → ℕ → Why → Job
turned work c why = Inside (record { work = work; count = c; heading = GoesBack why })

turned_must : (asked : Bool) (work : Work) (c : ℕ) (why : Why) (job : Job) → job ≡ turned work c why → MustGoBack asked job
turned_must asked work c why job e = (record { work = work; count = c; heading = GoesBack why }, e, turned_goes_back asked why)

-- ---- a slice that goes back

-- what its answer tells
abbrev pub Nearer : Bool → Job → Sliced → Job → Type 0
Nearer asked old sliced.Nothing new = ⊥
Nearer asked old sliced.Going new = ⊥
Nearer asked old sliced.Border new = ⊥
Nearer asked old sliced.Backing new = MustGoBack asked new × (count_of new < count_of old)
Nearer asked old (sliced.Ended o) new = new ≡ Idle

less : (c n : ℕ) → c - step_limit ≡ suc n → suc n < c
less c n e = omega arith

backs_nearer : (asked : Bool) (s : Past) (work : Work) (why : Why) (heading : Heading) (c n : ℕ) (told : Sliced) (new : State) → c - step_limit ≡ n →
    Backs s work why n told new
    → Nearer asked (Inside (record { work = work; count = c; heading = heading })) told new.job
backs_nearer asked s work why heading c zero told new e h =
    subst (λ t. Nearer asked (Inside (record { work = work; count = c; heading = heading })) t new.job) (sym h.0) (ap (λ x. x.job) h.1)
backs_nearer asked s work why heading c (suc n) told new e h =
    let job : new.job ≡ turned work (suc n) why = ap (λ x. x.job) h.1 in
    subst (λ t. Nearer asked (Inside (record { work = work; count = c; heading = heading })) t new.job) (sym h.0)
    (turned_must asked work (suc n) why new.job job, subst (λ k. k < c) (sym (ap count_of job)) (less c n e))

slices_nearer : (asked : Bool) (s : Past) (work : Work) (c : ℕ) (heading : Heading) (told : Sliced) (new : State) → TurnsBack asked heading →
    SlicesIn s work c heading step_limit asked told new
    → Nearer asked (Inside (record { work = work; count = c; heading = heading })) told new.job
slices_nearer true s work c GoesOn told new t h = backs_nearer true s work (WasAsked c) GoesOn c (c - step_limit) told new refl h
slices_nearer false s work c GoesOn told new t h = absurd t
slices_nearer asked s work c (GoesBack why) told new t h = backs_nearer asked s work why (GoesBack why) c (c - step_limit) told new refl h

pub slice_back : (old new : Machine) (asked : Bool) (told : Sliced) → MustGoBack asked old.state.job → IsSliceOf old step_limit asked told new →
    Nearer asked old.state.job told new.state.job
slice_back old new asked told i h =
    let at : SlicesAt old.state.past (Inside i.0) step_limit asked told h.0 = subst (λ job. SlicesAt old.state.past job step_limit asked told h.0) i.1 h.1 in
    subst (λ job. Nearer asked job told new.state.job) (sym i.1)
    (subst (λ state. Nearer asked (Inside i.0) told state.job) (sym (ap (λ m. m.state) h.2))
    (slices_nearer asked old.state.past i.0.work i.0.count i.0.heading told h.0 i.2 at))

-- ---- a slice of a posted cell

-- what its answer tells
abbrev pub Tells : Sliced → Job → Type 0
Tells sliced.Nothing new = ⊥
Tells sliced.Border new = ⊥
Tells sliced.Going new = MustGoBack true new
Tells sliced.Backing new = MustGoBack false new
Tells (sliced.Ended o) new = new ≡ Idle

backs_so : (s : Past) (work : Work) (why : Why) (j : ℕ) (told : Sliced) (new : State) → Backs s work why j told new → Tells told new.job
backs_so s work why zero told new h = subst (λ t. Tells t new.job) (sym h.0) (ap (λ x. x.job) h.1)
backs_so s work why (suc j) told new h = subst (λ t. Tells t new.job) (sym h.0) (turned_must false work (suc j) why new.job (ap (λ x. x.job) h.1))

comes_so : (s : Past) (cell : Cell) (c : ℕ) (ran : Progress) (w : World) (told : Sliced) (new : State) → Comes s (Posted cell) c ran w told new →
    Tells told new.job
comes_so s cell c Went w told new h = subst (λ t. Tells t new.job) (sym h.0) (_, ap (λ x. x.job) h.1, tt)
comes_so s cell c (Ended n) w told new h = subst (λ t. Tells t new.job) (sym h.0) (ap (λ x. x.job) h.1)
comes_so s cell c (Stopped j fault) w told new h = backs_so s (Posted cell) (Faulted fault j) j told new h

slices_so : (s : Past) (cell : Cell) (c m : ℕ) (heading : Heading) (told : Sliced) (new : State) → SlicesIn s (Posted cell) c heading m false told new →
    Tells told new.job
slices_so s cell c m GoesOn told new h = comes_so s cell (c + m) h.0 h.1 told new h.3
slices_so s cell c m (GoesBack why) told new h = backs_so s (Posted cell) why (c - m) told new h

pub cell_slice : (old new : Machine) (m : ℕ) (told : Sliced) → IsInCell old.state.job → IsSliceOf old m false told new → Tells told new.state.job
cell_slice old new m told i h =
    let at : SlicesAt old.state.past (Inside i.0) m false told h.0 = subst (λ job. SlicesAt old.state.past job m false told h.0) i.2 h.1 in
    let in_cell : SlicesIn old.state.past (Posted i.1) i.0.count i.0.heading m false told h.0 =
    subst (λ work. SlicesIn old.state.past work i.0.count i.0.heading m false told h.0) i.3 at in
    subst (λ state. Tells told state.job) (sym (ap (λ m. m.state) h.2)) (slices_so old.state.past i.1 i.0.count m i.0.heading told h.0 in_cell)
