-- What a job keeps from its begin to its end, over any events.
use Rattle.std.proofs.Common.{◌≡◌, ℕ, ◌+◌, ◌-◌, ◌≤◌, Bool, true, false, List, length, zero, suc, refl, ap, subst, arith, inl, inr, Result, Ok, Err}
use Rattle.janus_meaning.specs.World.{World, Cell, entered}
use Rattle.kernel_machine.specs.Language.{Code, Forward, Backward, CodePart}
use Rattle.kernel_machine.specs.Reached.{Reaches, Progress, Went, Ended, Stopped, IsUnderWay}
use Rattle.kernel_machine.specs.Text.{Accepts}
use Rattle.kernel_machine.specs.State.{Past, Work, Posted, Move, Job as Open, Idle, Border, Inside, State, here, code_of}
use Rattle.kernel_machine.specs.Legal.{IsMeeting}
use Rattle.kernel_machine.proofs.LanguageLaws.{part_zero_forward, part_zero_backward, exec_some}
use Rattle.kernel_machine.specs.Slices.{finished, turned, cells, stepped, moved, grown, Backs, Arrives, Comes, SlicesIn, SlicesAt}
use Rattle.kernel_machine.specs.Begins.{Declares, travel_to, Departs, Enters, TakesMove, TakesGoto, TakesCell}
use Rattle.kernel_machine.specs.Runs.{Machine, IsPost, Takes}
use Rattle.kernel_machine.specs.Request.{Request, RunCell, Undo, Redo, Goto}
use Rattle.kernel_machine.specs.Midway.{after, gone, count_of, IsReason, IsAtCount, IsStage, KeepsIn, KeepsAt, Keeps, IsCell, CellIn, CellAt, CellKeeps, Holds}
use Rattle.kernel_machine.specs.Ends.{TravelEnds, MoveEnds, GotoEnds, CellEnds, JobEnds, IsNoNode, TextEnds}
use Rattle.kernel_machine.proofs.Trees.{stepped_cells}
use Rattle.kernel_machine.specs.Travel as aim
use Rattle.kernel_machine.specs.Travel.{Travel}
use Rattle.kernel_machine.specs.Heading.{Why, WasAsked, Faulted, Heading, GoesOn, GoesBack}
use Rattle.kernel_machine.specs.declared.outcome.TravelEnd.{TravelEnd}
use Rattle.kernel_machine.specs.declared.outcome.TravelEnd.TheVariants.{All, Asked, NoMemory}
use Rattle.kernel_machine.specs.declared.outcome.Refusal.TheVariants.{HistoryFull, TooFar, NoNode}
use Rattle.kernel_machine.specs.declared.outcome.Outcome.{Outcome}
use Rattle.kernel_machine.specs.declared.outcome.Outcome.TheVariants as outcome
use Rattle.kernel_machine.specs.declared.outcome.Begun.{Begun}
use Rattle.kernel_machine.specs.declared.outcome.Begun.TheVariants as begun
use Rattle.kernel_machine.specs.declared.outcome.Sliced.{Sliced}
use Rattle.kernel_machine.specs.declared.outcome.Sliced.TheVariants as sliced
use Rattle.kernel_machine.specs.declared.post.PostFault.{PostFault}

-- ---- any job

-- after an answer either the job has ended, and so, or what it keeps still holds
abbrev pub ThenBegun : (State → Type 0) → (Outcome → State → Type 0) → Begun → State → Type 0
ThenBegun keeps ends begun.Nothing new = keeps new
ThenBegun keeps ends begun.Going new = keeps new
ThenBegun keeps ends (begun.Ended o) new = ends o new

abbrev pub ThenSliced : (State → Type 0) → (Outcome → State → Type 0) → Sliced → State → Type 0
ThenSliced keeps ends sliced.Nothing new = keeps new
ThenSliced keeps ends sliced.Going new = keeps new
ThenSliced keeps ends sliced.Border new = keeps new
ThenSliced keeps ends sliced.Backing new = keeps new
ThenSliced keeps ends (sliced.Ended o) new = ends o new

-- a post changes the queue and the minutes alone
pub post_keeps : (old : Machine) (lane : ℕ) (posted : Request) (answer : Result ℕ PostFault) (new : Machine) → IsPost old lane posted answer new →
    new.state ≡ old.state
post_keeps old lane posted (Ok n) new s = ap (λ (m : Machine). m.state) s.2
post_keeps old lane posted (Err fault) new s = ap (λ (m : Machine). m.state) s.1

-- ---- a turn

-- before the first step
pub part_none : (code : Code) (w : World) → (v : World) × CodePart code w 0 v
part_none (Forward cell) w = (entered cell w, part_zero_forward cell w)
part_none (Backward cell) w = (w, part_zero_backward cell w)

-- the code has just been entered
under_way : (code : Code) (w : World) → IsUnderWay code w 0
under_way code w = (let start = part_none code w in (start.0, start.1, exec_some code w))

-- ---- a travel

abbrev Sliced-move : Past → Travel → Sliced → State → Type 0
Sliced-move p whole told new = ThenSliced (Keeps p whole) (TravelEnds p whole) told new

-- the answer and the state after it are known
sliced_at : (keeps : State → Type 0) (ends : Outcome → State → Type 0) (a told : Sliced) (s new : State) → told ≡ a → new ≡ s → ThenSliced keeps ends a s →
    ThenSliced keeps ends told new
sliced_at keeps ends a told s new e f h = rw (e, f) h

pub begun_at : (keeps : State → Type 0) (ends : Outcome → State → Type 0) (a told : Begun) (s new : State) → told ≡ a → new ≡ s → ThenBegun keeps ends a s →
    ThenBegun keeps ends told new
begun_at keeps ends a told s new e f h = rw (e, f) h

-- a job that ends at this border, not having done all
ends_here : (p : Past) (whole : Travel) (s : Past) (t : Travel) (end : TravelEnd) → IsStage p whole s t → (end ≡ All → ⊥) → (end ≡ NoMemory → Declares s t) →
    TravelEnds p whole (finished t end) (record { past = s; job = Idle })
ends_here p whole s t end i not_all short =
    let count = i.count in
    let some = i.some in (
      i.done,
      end,
      record {
        tells = ap (λ (x : Travel). finished x end) i.left;
        stands = ap (λ (x : Past). record { past = x; job = Idle }) i.stands;
        within = omega arith;
        all = ((λ e. absurd (not_all e)), (λ e. absurd (omega arith)));
        no_memory = λ e. subst (λ (x : Past). Declares x (after whole i.done)) i.stands (subst (λ (x : Travel). Declares s x) i.left (short e));
      },
    )

backs_move : (p : Past) (whole : Travel) (s : Past) (t : Travel) (why : Why) (c : ℕ) (told : Sliced) (new : State) → IsStage p whole s t → c ≤ count_of why →
    IsReason (code_of s (Move t)) (here s) why →
    Backs s (Move t) why c told new → Sliced-move p whole told new
backs_move p whole s t why zero told new i l r b =
    sliced_at _ _ (sliced.Ended (finished t Asked)) told (record { past = s; job = Idle }) new b.0 b.1
    (ends_here p whole s t Asked i (λ e. cc) (λ e. absurd (cc)))
backs_move p whole s t why (suc c) told new i l r b =
    sliced_at _ _ sliced.Backing told (record { past = s; job = Inside (record { work = Move t; count = suc c; heading = GoesBack why }) }) new b.0 b.1
    (i, (l, r))

-- one cell further
further : (p : Past) (whole : Travel) (done : ℕ) (s : Past) (t : Travel) → s ≡ gone p whole done → t ≡ after whole done → moved s t ≡ gone p whole (suc done)
further p whole done s t e f = rw (e, f) refl

arrives_move : (p : Past) (whole : Travel) (left : ℕ) (s : Past) (t : Travel) (told : Sliced) (new : State) → IsStage p whole s t → left ≡ cells (stepped t) →
    Arrives left (moved s t) (stepped t) told new → Sliced-move p whole told new
arrives_move p whole zero s t told new i l a =
    let count = i.count in
    let one = stepped_cells t i.some in
    let done : suc i.done ≡ cells whole = omega arith in
    sliced_at _ _ (sliced.Ended (finished (stepped t) All)) told (record { past = moved s t; job = Idle }) new a.0 a.1 (
      suc i.done,
      All,
      record {
        tells = ap (λ (x : Travel). finished (stepped x) All) i.left;
        stands = ap (λ (x : Past). record { past = x; job = Idle }) (further p whole i.done s t i.stands i.left);
        within = omega arith;
        all = ((λ _. done), (λ _. refl));
        no_memory = λ e. absurd (cc);
      },
    )
arrives_move p whole (suc left) s t told new i l a =
    let count = i.count in
    let one = stepped_cells t i.some in
    sliced_at _ _ sliced.Border told (record { past = moved s t; job = Border (stepped t) }) new a.0 a.1
    (record {
      done = suc i.done;
      left = ap (λ (x : Travel). stepped x) i.left;
      stands = further p whole i.done s t i.stands i.left;
      count = omega arith;
      some =
          omega arith;
    })

comes_move : (p : Past) (whole : Travel) (s : Past) (t : Travel) (c : ℕ) (ran : Progress) (w : World) (told : Sliced) (new : State) → IsStage p whole s t →
    Reaches (code_of s (Move t)) (here s) c ran w → Comes s (Move t) c ran w told new → Sliced-move p whole told new
comes_move p whole s t c Went w told new i r a =
    sliced_at _ _ sliced.Going told (record { past = s; job = Inside (record { work = Move t; count = c; heading = GoesOn }) }) new a.0 a.1 (i, (w, r.0, r.1))
comes_move p whole s t c (Ended n) w told new i r a = arrives_move p whole (cells (stepped t)) s t told new i refl a
comes_move p whole s t c (Stopped j f) w told new i r a = backs_move p whole s t (Faulted f j) j told new i (omega arith) (w, r.0, r.1) a

slices_move : (p : Past) (whole : Travel) (s : Past) (t : Travel) (c : ℕ) (heading : Heading) (m : ℕ) (asked : Bool) (told : Sliced) (new : State) →
    IsStage p whole s t → IsAtCount (code_of s (Move t)) (here s) c heading →
    SlicesIn s (Move t) c heading m asked told new → Sliced-move p whole told new
slices_move p whole s t c GoesOn m false told new i at a = comes_move p whole s t (c + m) a.0 a.1 told new i a.2 a.3
slices_move p whole s t c GoesOn m true told new i at a = backs_move p whole s t (WasAsked c) (c - m) told new i (omega arith) at a
slices_move p whole s t c (GoesBack why) m asked told new i at a =
    backs_move p whole s t why (c - m) told new i (let l : c ≤ count_of why = at.0 in omega arith) at.1 a

slice_in_move : (p : Past) (whole : Travel) (s : Past) (work : Work) (c : ℕ) (heading : Heading) (m : ℕ) (asked : Bool) (told : Sliced) (new : State) →
    KeepsIn p whole s work c heading → SlicesIn s work c heading m asked told new → Sliced-move p whole told new
slice_in_move p whole s (Posted program) c heading m asked told new i a = absurd i
slice_in_move p whole s (Move t) c heading m asked told new i a = slices_move p whole s t c heading m asked told new i.0 i.1 a

slice_at_move : (p : Past) (whole : Travel) (s : Past) (job : Open) (m : ℕ) (asked : Bool) (told : Sliced) (new : State) → KeepsAt p whole s job →
    SlicesAt s job m asked told new → Sliced-move p whole told new
slice_at_move p whole s Idle m asked told new i a = absurd i
slice_at_move p whole s (Border t) m asked told new i a = sliced_at _ _ sliced.Nothing told (record { past = s; job = Border t }) new a.0 a.1 i
slice_at_move p whole s (Inside e) m asked told new i a = slice_in_move p whole s e.work e.count e.heading m asked told new i a

enters_move : (p : Past) (whole : Travel) (s : Past) (t : Travel) (answer : Begun) (new : State) → IsStage p whole s t → Enters s t answer new →
    ThenBegun (Keeps p whole) (TravelEnds p whole) answer new
enters_move p whole s t answer new i a = elim a [
  | inl b ↦ begun_at _ _ begun.Going answer (record { past = s; job = Inside (record { work = Move t; count = 0; heading = GoesOn }) }) new b.0 b.1
      (i, under_way (code_of s (Move t)) (here s))
  | inr b ↦ begun_at _ _ (begun.Ended (finished t NoMemory)) answer (record { past = s; job = Idle }) new b.0 b.2
      (ends_here p whole s t NoMemory i (λ e. cc) (λ e. b.1))
]

departs_move : (left : ℕ) (s : Past) (t : Travel) (answer : Begun) (new : State) → left ≡ cells t → Departs left s t answer new →
    ThenBegun (Keeps s t) (TravelEnds s t) answer new
departs_move zero s t answer new e a =
    begun_at _ _ (begun.Ended (finished t All)) answer (record { past = s; job = Idle }) new a.0 a.1
    (0, All, record { tells = refl; stands = refl; within = omega arith; all = ((λ _. e), (λ _. refl)); no_memory = λ h. absurd (cc) })
departs_move (suc left) s t answer new e a =
    enters_move s t s t answer new (record { done = 0; left = refl; stands = refl; count = omega arith; some = omega arith }) a

-- ---- a cell

abbrev Sliced-cell : Past → List ℕ → Sliced → State → Type 0
Sliced-cell p text told new = ThenSliced (CellKeeps p text) (TextEnds p text) told new

no_node : (p : Past) (text : List ℕ) (cell : Cell) (why : Why) → Accepts (here p) text cell → IsReason (Forward cell) (here p) why →
    IsNoNode p text (turned (Posted cell) why)
no_node p text cell (WasAsked at) a t = (cell, a, t)
no_node p text cell (Faulted f at) a t = (cell, a, t)

backs_cell : (p : Past) (text : List ℕ) (cell : Cell) (why : Why) (c : ℕ) (told : Sliced) (new : State) → IsCell p text cell p → c ≤ count_of why →
    IsReason (Forward cell) (here p) why →
    Backs p (Posted cell) why c told new → Sliced-cell p text told new
backs_cell p text cell why zero told new i l t b =
    sliced_at _ _ (sliced.Ended (turned (Posted cell) why)) told (record { past = p; job = Idle }) new b.0 b.1
    (inr (refl, no_node p text cell why i.accepted t))
backs_cell p text cell why (suc c) told new i l t b =
    sliced_at _ _ sliced.Backing told (record { past = p; job = Inside (record { work = Posted cell; count = suc c; heading = GoesBack why }) }) new b.0 b.1
    (i, (l, t))

comes_cell : (p : Past) (text : List ℕ) (cell : Cell) (c : ℕ) (ran : Progress) (w : World) (told : Sliced) (new : State) → IsCell p text cell p →
    Reaches (Forward cell) (here p) c ran w → Comes p (Posted cell) c ran w told new → Sliced-cell p text told new
comes_cell p text cell c Went w told new i r a =
    sliced_at _ _ sliced.Going told (record { past = p; job = Inside (record { work = Posted cell; count = c; heading = GoesOn }) }) new a.0 a.1
    (i, (w, r.0, r.1))
comes_cell p text cell c (Ended n) w told new i r a =
    sliced_at _ _ (sliced.Ended (outcome.Ran (length p.nodes) n)) told (record { past = grown p cell n w; job = Idle }) new a.0 a.1
    (inl (cell, n, w, i.accepted, refl, r.0, refl))
comes_cell p text cell c (Stopped j f) w told new i r a = backs_cell p text cell (Faulted f j) j told new i (omega arith) (w, r.0, r.1) a

slices_cell : (p : Past) (text : List ℕ) (cell : Cell) (c : ℕ) (heading : Heading) (m : ℕ) (asked : Bool) (told : Sliced) (new : State) → IsCell p text cell p →
    IsAtCount (Forward cell) (here p) c heading →
    SlicesIn p (Posted cell) c heading m asked told new → Sliced-cell p text told new
slices_cell p text cell c GoesOn m false told new i t a = comes_cell p text cell (c + m) a.0 a.1 told new i a.2 a.3
slices_cell p text cell c GoesOn m true told new i t a = backs_cell p text cell (WasAsked c) (c - m) told new i (omega arith) t a
slices_cell p text cell c (GoesBack why) m asked told new i t a =
    backs_cell p text cell why (c - m) told new i (let l : c ≤ count_of why = t.0 in omega arith) t.1 a

slice_in_cell : (p : Past) (text : List ℕ) (s : Past) (work : Work) (c : ℕ) (heading : Heading) (m : ℕ) (asked : Bool) (told : Sliced) (new : State) →
    CellIn p text s work c heading → SlicesIn s work c heading m asked told new → Sliced-cell p text told new
slice_in_cell p text s (Move t) c heading m asked told new i a = absurd i
slice_in_cell p text s (Posted cell) c heading m asked told new i a =
    slices_cell p text cell c heading m asked told new (record { accepted = i.0.accepted; same = refl }) i.1
    (subst (λ (x : Past). SlicesIn x (Posted cell) c heading m asked told new) i.0.same a)

slice_at_cell : (p : Past) (text : List ℕ) (s : Past) (job : Open) (m : ℕ) (asked : Bool) (told : Sliced) (new : State) → CellAt p text s job →
    SlicesAt s job m asked told new → Sliced-cell p text told new
slice_at_cell p text s Idle m asked told new i a = absurd i
slice_at_cell p text s (Border t) m asked told new i a = absurd i
slice_at_cell p text s (Inside e) m asked told new i a = slice_in_cell p text s e.work e.count e.heading m asked told new i a

takes_text : (s : Past) (text : List ℕ) (answer : Begun) (new : State) → TakesCell s text false answer new →
    ThenBegun (CellKeeps s text) (TextEnds s text) answer new
takes_text s text answer new a = elim a [
  | inl b ↦ begun_at _ _ begun.Going answer (record { past = s; job = Inside (record { work = Posted b.0; count = 0; heading = GoesOn }) }) new b.2 b.3
      (record { accepted = b.1; same = refl }, under_way (Forward b.0) (here s))
  | inr b ↦ begun_at _ _ (begun.Ended (outcome.Refused b.0)) answer (record { past = s; job = Idle }) new b.2 b.3 (inr (refl, b.1))
]

-- ---- any job

-- from what is kept and how it ends, in one form, to another
pub then_sliced : (keeps other : State → Type 0) (ends more : Outcome → State → Type 0) (told : Sliced) (new : State) → ((s : State) → keeps s → other s) →
    ((o : Outcome) (s : State) → ends o s → more o s) →
    ThenSliced keeps ends told new → ThenSliced other more told new
then_sliced keeps other ends more sliced.Nothing new f h a = f new a
then_sliced keeps other ends more sliced.Going new f h a = f new a
then_sliced keeps other ends more sliced.Border new f h a = f new a
then_sliced keeps other ends more sliced.Backing new f h a = f new a
then_sliced keeps other ends more (sliced.Ended o) new f h a = h o new a

pub then_begun : (keeps other : State → Type 0) (ends more : Outcome → State → Type 0) (told : Begun) (new : State) → ((s : State) → keeps s → other s) →
    ((o : Outcome) (s : State) → ends o s → more o s) →
    ThenBegun keeps ends told new → ThenBegun other more told new
then_begun keeps other ends more begun.Nothing new f h a = f new a
then_begun keeps other ends more begun.Going new f h a = f new a
then_begun keeps other ends more (begun.Ended o) new f h a = h o new a

move_ended : (p : Past) (t : Travel) (can : Bool) (o : Outcome) (s : State) → can ≡ true → TravelEnds p t o s → MoveEnds p t can o s
move_ended p t false o s e a = absurd (cc)
move_ended p t true o s e a = a

cell_ended : (p : Past) (text : List ℕ) (full : Bool) (o : Outcome) (s : State) → full ≡ false → TextEnds p text o s → CellEnds p text full o s
cell_ended p text true o s e a = absurd (cc)
cell_ended p text false o s e a = a

goto_ended : (p : Past) (n : ℕ) (known : Bool) (o : Outcome) (s : State) → known ≡ true → (up : ℕ) (down : ℕ) → IsMeeting p.nodes p.position n up down →
    TravelEnds p (travel_to (aim.Goto n) up down) o s → GotoEnds p n known o s
goto_ended p n false o s e up down m a = absurd (cc)
goto_ended p n true o s e up down m a = (up, down, m, a)

-- a slice of the open job
pub slice_holds : (p : Past) (r : Request) (s : Past) (job : Open) (m : ℕ) (asked : Bool) (told : Sliced) (new : State) →
    Holds p r (record { past = s; job = job }) → SlicesAt s job m asked told new → ThenSliced (Holds p r) (JobEnds p r) told new
slice_holds p (RunCell text silent store) s job m asked told new i a =
    then_sliced _ _ _ _ told new (λ x h. (h, i.1)) (λ o x h. cell_ended p text _ o x i.1 h) (slice_at_cell p text s job m asked told new i.0 a)
slice_holds p (Undo k) s job m asked told new i a =
    then_sliced _ _ _ _ told new (λ x h. (h, i.1)) (λ o x h. move_ended p _ _ o x i.1 h) (slice_at_move p (travel_to aim.Undo k 0) s job m asked told new i.0 a)
slice_holds p (Redo k) s job m asked told new i a =
    then_sliced _ _ _ _ told new (λ x h. (h, i.1)) (λ o x h. move_ended p _ _ o x i.1 h) (slice_at_move p (travel_to aim.Redo 0 k) s job m asked told new i.0 a)
slice_holds p (Goto n) s job m asked told new i a =
    then_sliced _ _ _ _ told new (λ x h. (i.0, (i.1.0, i.1.1, i.1.2, h))) (λ o x h. goto_ended p n _ o x i.0 i.1.0 i.1.1 i.1.2 h)
    (slice_at_move p (travel_to (aim.Goto n) i.1.0 i.1.1) s job m asked told new i.1.3 a)

-- its begin at a border
pub enter_holds : (p : Past) (r : Request) (s : Past) (t : Travel) (answer : Begun) (new : State) → Holds p r (record { past = s; job = Border t }) →
    Enters s t answer new → ThenBegun (Holds p r) (JobEnds p r) answer new
enter_holds p (RunCell text silent store) s t answer new i a = absurd i.0
enter_holds p (Undo k) s t answer new i a =
    then_begun _ _ _ _ answer new (λ x h. (h, i.1)) (λ o x h. move_ended p _ _ o x i.1 h) (enters_move p (travel_to aim.Undo k 0) s t answer new i.0 a)
enter_holds p (Redo k) s t answer new i a =
    then_begun _ _ _ _ answer new (λ x h. (h, i.1)) (λ o x h. move_ended p _ _ o x i.1 h) (enters_move p (travel_to aim.Redo 0 k) s t answer new i.0 a)
enter_holds p (Goto n) s t answer new i a =
    then_begun _ _ _ _ answer new (λ x h. (i.0, (i.1.0, i.1.1, i.1.2, h))) (λ o x h. goto_ended p n _ o x i.0 i.1.0 i.1.1 i.1.2 h)
    (enters_move p (travel_to (aim.Goto n) i.1.0 i.1.1) s t answer new i.1.3 a)

takes_move : (s : Past) (t : Travel) (can : Bool) (answer : Begun) (new : State) → TakesMove s t can answer new →
    ThenBegun (λ x. Keeps s t x × (can ≡ true)) (MoveEnds s t can) answer new
takes_move s t false answer new a = begun_at _ _ (begun.Ended (outcome.Refused TooFar)) answer (record { past = s; job = Idle }) new a.0 a.1 (refl, refl)
takes_move s t true answer new a = then_begun _ _ _ _ answer new (λ x h. (h, refl)) (λ o x h. h) (departs_move (cells t) s t answer new refl a)

takes_cell : (s : Past) (text : List ℕ) (full : Bool) (answer : Begun) (new : State) → TakesCell s text full answer new →
    ThenBegun (λ x. CellKeeps s text x × (full ≡ false)) (CellEnds s text full) answer new
takes_cell s text true answer new a = begun_at _ _ (begun.Ended (outcome.Refused HistoryFull)) answer (record { past = s; job = Idle }) new a.0 a.1 (refl, refl)
takes_cell s text false answer new a = then_begun _ _ _ _ answer new (λ x h. (h, refl)) (λ o x h. h) (takes_text s text answer new a)

takes_goto : (s : Past) (n : ℕ) (known : Bool) (answer : Begun) (new : State) → TakesGoto s n known answer new →
    ThenBegun (λ x. (known ≡ true) × ((up : ℕ) × (down : ℕ) × IsMeeting s.nodes s.position n up down × Keeps s (travel_to (aim.Goto n) up down) x))
    (GotoEnds s n known) answer new
takes_goto s n false answer new a = begun_at _ _ (begun.Ended (outcome.Refused NoNode)) answer (record { past = s; job = Idle }) new a.0 a.1 (refl, refl)
takes_goto s n true answer new a =
    then_begun _ _ _ _ answer new (λ x h. (refl, (a.0, a.1, a.2, h))) (λ o x h. (a.0, a.1, a.2, h))
    (departs_move (a.0 + a.1) s (travel_to (aim.Goto n) a.0 a.1) answer new refl a.3)

-- the begin of a job
pub take_holds : (s : Past) (r : Request) (answer : Begun) (new : State) → Takes s r answer new → ThenBegun (Holds s r) (JobEnds s r) answer new
take_holds s (RunCell text silent store) answer new a = takes_cell s text _ answer new a
take_holds s (Undo k) answer new a = takes_move s (travel_to aim.Undo k 0) _ answer new a
take_holds s (Redo k) answer new a = takes_move s (travel_to aim.Redo 0 k) _ answer new a
take_holds s (Goto n) answer new a = takes_goto s n _ answer new a

-- what is kept of the job has it open
pub no_idle : (p : Past) (r : Request) (s : Past) → Holds p r (record { past = s; job = Idle }) → ⊥
no_idle p (RunCell text silent store) s h = h.0
no_idle p (Undo k) s h = h.0
no_idle p (Redo k) s h = h.0
no_idle p (Goto n) s h = h.1.3

cell_idle : (p : Past) (text : List ℕ) (full : Bool) (o : Outcome) (s : State) → CellEnds p text full o s → s.job ≡ Idle
cell_idle p text true o s h = ap (λ (x : State). x.job) h.1
cell_idle p text false o s h = elim h [
  | inl n ↦ ap (λ (x : State). x.job) n.6
  | inr b ↦ ap (λ (x : State). x.job) b.0
]

move_idle : (p : Past) (t : Travel) (can : Bool) (o : Outcome) (s : State) → MoveEnds p t can o s → s.job ≡ Idle
move_idle p t false o s h = ap (λ (x : State). x.job) h.1
move_idle p t true o s h = ap (λ (x : State). x.job) h.2.stands

goto_idle : (p : Past) (n : ℕ) (known : Bool) (o : Outcome) (s : State) → GotoEnds p n known o s → s.job ≡ Idle
goto_idle p n false o s h = ap (λ (x : State). x.job) h.1
goto_idle p n true o s h = ap (λ (x : State). x.job) h.3.2.stands

-- a job that ended is open no more
pub ended_idle : (p : Past) (job : Request) (o : Outcome) (s : State) → JobEnds p job o s → s.job ≡ Idle
ended_idle p (RunCell text silent store) o s h = cell_idle p text _ o s h
ended_idle p (Undo k) o s h = move_idle p (travel_to aim.Undo k 0) _ o s h
ended_idle p (Redo k) o s h = move_idle p (travel_to aim.Redo 0 k) _ o s h
ended_idle p (Goto n) o s h = goto_idle p n _ o s h
