-- Where memory is ample, each request is served in one way, and so is a list of actions.
use Rattle.std.proofs.Common.{◌≡◌, ◌∙◌, ℕ, List, [], ◌∷◌, ◌++◌, Bool, inl, inr, refl, sym, ap, subst, append_assoc, append-nil, Result, Ok, Err, true, false, arith}
use Rattle.std.specs.Prelude.{codes}
use Rattle.std.specs.Fmt.{digits}
use Rattle.janus_meaning.specs.Limit.{step_limit}
use Rattle.janus_meaning.specs.World.{World}
use Rattle.kernel_core.specs.Determined as machine
use Rattle.kernel_core.specs.Determined.{StepIsDetermined}
use Rattle.kernel_core.specs.LegalState.{IsLegalState}
use Rattle.kernel_core.specs.State.{here}
use Rattle.kernel_core.specs.Theorems.{StaysLegal}
use Rattle.kernel_core.specs.travel.Aim.{Aim}
use Rattle.kernel_core.specs.travel.Aim.TheVariants as aim
use Rattle.kernel_core.specs.Slices.{finished_by, finished}
use Rattle.kernel_core.specs.Runs.{Machine, IsPost, IsBegin, IsSliceOf}
use Rattle.kernel_core.specs.Request.{Request, RunCell, Undo, Redo, Goto}
use Rattle.kernel_core.proofs.Determined.{post_same}
use Rattle.kernel_core.specs.events.Event.TheVariants as event
use Rattle.kernel_core.specs.events.Told.{Told}
use Rattle.kernel_core.specs.events.Told.TheVariants as told
use Rattle.kernel_core.specs.post.PostFault.{PostFault}
use Rattle.kernel_core.specs.post.PostFault.TheVariants.{Closing, MinutesFull, QueueFull, Memory}
use Rattle.kernel_core.specs.outcome.Begun.{Begun}
use Rattle.kernel_core.specs.outcome.Begun.TheVariants as begun
use Rattle.kernel_core.specs.outcome.Sliced.{Sliced}
use Rattle.kernel_core.specs.outcome.Sliced.TheVariants as sliced
use Rattle.kernel_core.specs.outcome.Outcome.{Outcome}
use Rattle.kernel_core.specs.outcome.Outcome.TheVariants as outcome
use Rattle.kernel_core.specs.outcome.Refusal.{Refusal}
use Rattle.kernel_core.specs.outcome.Refusal.TheVariants as refusal
use Rattle.kernel_core.specs.outcome.TravelEnd.TheVariants.{NoMemory}
use Rattle.cells_program.specs.Determined.{Holds, TellsWant}
use Rattle.cells_program.specs.Lines.{ended_line}
use Rattle.kernel_text.specs.Lines.{counted_text, outcome_line, refusal_text}
use Rattle.cells_program.specs.Listing.{IsListed}
use Rattle.cells_program.specs.Script.{Action, RunText, UndoCells, RedoCells, GoToNode, ShowWorld, ListProcedures, BadCommand}
use Rattle.cells_program.specs.Served.{lane, GoesBack, is_back, not_yet_back, CellFinishes, in_time, interrupted, faulted, FinishesAs, Finishes, ended, going}
use Rattle.cells_program.specs.Served.{backing, next_cell, no_next_cell, Came, NotPosted, Finished, Serves, not_posted, at_once, later}
use Rattle.cells_program.specs.declared.choice.Choice.{Choice}
use Rattle.cells_program.specs.Explained.{explained}
use Rattle.cells_program.specs.Transcript.{came_line, told as told_of, told_cell, told_outcome, told_refusal, Answers, ActionServes, ActionsServe}
use Rattle.cells_program.proofs.OneListing.{one_list_text}

-- ---- one begin, one slice, one post

begun_of : Told → Begun
begun_of (told.Post answer) = begun.Nothing
begun_of (told.Begin answer) = answer
begun_of (told.Slice answer) = begun.Nothing
begun_of told.Shut = begun.Nothing

sliced_of : Told → Sliced
sliced_of (told.Post answer) = sliced.Nothing
sliced_of (told.Begin answer) = sliced.Nothing
sliced_of (told.Slice answer) = answer
sliced_of told.Shut = sliced.Nothing

abbrev Wants : Begun → Type 0
Wants answer = machine.TellsWant (told.Begin answer)

begins_same : StepIsDetermined → (old new other : Machine) (t u : Begun) → IsLegalState old.state → IsBegin old t new → (Wants t → ⊥) → IsBegin old u other →
    (Wants u → ⊥) → (t ≡ u) × (new ≡ other)
unfolding begun_of
begins_same determined old new other t u legal a ample b enough =
    let same = determined old new other event.Begin (told.Begin t) (told.Begin u) legal a ample b enough in
    (ap begun_of same.0, same.1)

slices_same : StepIsDetermined → (old new other : Machine) (m : ℕ) (asked : Bool) (t u : Sliced) → IsLegalState old.state → IsSliceOf old m asked t new →
    IsSliceOf old m asked u other → (t ≡ u) × (new ≡ other)
unfolding sliced_of
slices_same determined old new other m asked t u legal a b =
    let same = determined old new other (event.Slice m asked) (told.Slice t) (told.Slice u) legal a (λ x. x) b (λ x. x) in
    (ap sliced_of same.0, same.1)

-- ---- what stays legal

begin_legal : StaysLegal → (old new : Machine) (t : Begun) → IsLegalState old.state → IsBegin old t new → IsLegalState new.state
begin_legal stays old new t legal h = stays old new (event.Begin ∷ []) (told.Begin t ∷ []) legal (new, h, refl)

slice_legal : StaysLegal → (old new : Machine) (m : ℕ) (asked : Bool) (t : Sliced) → IsLegalState old.state → IsSliceOf old m asked t new →
    IsLegalState new.state
slice_legal stays old new m asked t legal h = stays old new (event.Slice m asked ∷ []) (told.Slice t ∷ []) legal (new, h, refl)

post_legal : (old new : Machine) (r : Request) (t : Result ℕ PostFault) → IsLegalState old.state → IsPost old lane r t new → IsLegalState new.state
post_legal old new r (Ok n) legal h = subst (λ (m : Machine). IsLegalState m.state) (sym h.2) legal
post_legal old new r (Err fault) legal h = subst (λ (m : Machine). IsLegalState m.state) (sym h.1) legal

-- ---- a job that goes back

-- what follows a slice that goes back
abbrev AfterBack : Bool → Sliced → Machine → Outcome → Machine → Type 0
AfterBack asked sliced.Nothing mid o new = ⊥
AfterBack asked sliced.Going mid o new = ⊥
AfterBack asked sliced.Border mid o new = ⊥
AfterBack asked sliced.Backing mid o new = GoesBack asked mid o new
AfterBack asked (sliced.Ended p) mid o new = (p ≡ o) × (mid ≡ new)

first_back : (asked : Bool) {old new : Machine} {o : Outcome} → GoesBack asked old o new → (t : Sliced) × (mid : Machine) ×
    IsSliceOf old step_limit asked t mid × AfterBack asked t mid o new
first_back asked (is_back s) = (sliced.Ended _, _, s, (refl, refl))
first_back asked (not_yet_back s f) = (sliced.Backing, _, s, f)

-- what follows one slice, where another run of the same job is known to its end
after_back : StepIsDetermined → (asked : Bool) (old mid other : Machine) (t : Sliced) (p : Outcome) → IsLegalState old.state →
    IsSliceOf old step_limit asked t mid → GoesBack asked old p other → AfterBack asked t mid p other
after_back determined asked old mid other t p legal s g =
    let first = first_back asked g in
    let same = slices_same determined old mid first.1 step_limit asked t first.0 legal s first.2 in
    subst (λ (m : Machine). AfterBack asked t m p other) (sym same.1) (subst (λ (x : Sliced). AfterBack asked x first.1 p other) (sym same.0) first.3)

goes_back_same : StepIsDetermined → StaysLegal → (asked : Bool) (old new other : Machine) (o p : Outcome) → IsLegalState old.state → GoesBack asked old o new →
    GoesBack asked old p other → (o ≡ p) × (new ≡ other)
goes_back_same determined stays asked old new other o p legal (is_back s) g = after_back determined asked old new other (sliced.Ended o) p legal s g
goes_back_same determined stays asked old new other o p legal (not_yet_back {mid = mid} s f) g =
    goes_back_same determined stays asked mid new other o p (slice_legal stays old mid step_limit asked sliced.Backing legal s) f
    (after_back determined asked old mid other sliced.Backing p legal s g)

-- ---- a cell to its end

-- what follows the slice of a cell
abbrev AfterCell : Sliced → Machine → Outcome → Machine → Type 0
AfterCell sliced.Nothing mid o new = ⊥
AfterCell sliced.Border mid o new = ⊥
AfterCell sliced.Going mid o new = GoesBack true mid o new
AfterCell sliced.Backing mid o new = GoesBack false mid o new
AfterCell (sliced.Ended p) mid o new = (p ≡ o) × (mid ≡ new)

first_cell : (steps : ℕ) {old new : Machine} {o : Outcome} → CellFinishes steps old o new → (t : Sliced) × (mid : Machine) × IsSliceOf old steps false t mid ×
    AfterCell t mid o new
first_cell steps (in_time s) = (sliced.Ended _, _, s, (refl, refl))
first_cell steps (interrupted s f) = (sliced.Going, _, s, f)
first_cell steps (faulted s f) = (sliced.Backing, _, s, f)

after_cell : StepIsDetermined → (steps : ℕ) (old mid other : Machine) (t : Sliced) (p : Outcome) → IsLegalState old.state → IsSliceOf old steps false t mid →
    CellFinishes steps old p other → AfterCell t mid p other
after_cell determined steps old mid other t p legal s g =
    let first = first_cell steps g in
    let same = slices_same determined old mid first.1 steps false t first.0 legal s first.2 in
    subst (λ (m : Machine). AfterCell t m p other) (sym same.1) (subst (λ (x : Sliced). AfterCell x first.1 p other) (sym same.0) first.3)

cell_same : StepIsDetermined → StaysLegal → (steps : ℕ) (old new other : Machine) (o p : Outcome) → IsLegalState old.state → CellFinishes steps old o new →
    CellFinishes steps old p other → (o ≡ p) × (new ≡ other)
cell_same determined stays steps old new other o p legal (in_time s) g = after_cell determined steps old new other (sliced.Ended o) p legal s g
cell_same determined stays steps old new other o p legal (interrupted {mid = mid} s f) g =
    goes_back_same determined stays true mid new other o p (slice_legal stays old mid steps false sliced.Going legal s) f
    (after_cell determined steps old mid other sliced.Going p legal s g)
cell_same determined stays steps old new other o p legal (faulted {mid = mid} s f) g =
    goes_back_same determined stays false mid new other o p (slice_legal stays old mid steps false sliced.Backing legal s) f
    (after_cell determined steps old mid other sliced.Backing p legal s g)

-- ---- a move to its end

-- how a job inside a cell comes to its end
abbrev Ends : Type 1
Ends = Machine → Outcome → Machine → Type 0

-- what follows a begin
abbrev AfterBegin : Ends → Begun → Machine → Outcome → Machine → Type 0
AfterBegin F begun.Nothing mid o new = ⊥
AfterBegin F begun.Going mid o new = F mid o new
AfterBegin F (begun.Ended p) mid o new = (p ≡ o) × (mid ≡ new)

-- what follows a slice
abbrev AfterSlice : Sliced → Machine → Outcome → Machine → Type 0
AfterSlice sliced.Nothing mid o new = ⊥
AfterSlice sliced.Going mid o new = Finishes mid o new
AfterSlice sliced.Backing mid o new = Finishes mid o new
AfterSlice sliced.Border mid o new = (t : Begun) × (inside : Machine) × IsBegin mid t inside × AfterBegin Finishes t inside o new
AfterSlice (sliced.Ended p) mid o new = (p ≡ o) × (mid ≡ new)

first_slice : {old new : Machine} {o : Outcome} → Finishes old o new → (t : Sliced) × (mid : Machine) × IsSliceOf old step_limit false t mid ×
    AfterSlice t mid o new
first_slice (ended s) = (sliced.Ended _, _, s, (refl, refl))
first_slice (going s f) = (sliced.Going, _, s, f)
first_slice (backing s f) = (sliced.Backing, _, s, f)
first_slice (next_cell s b f) = (sliced.Border, _, s, (begun.Going, _, b, f))
first_slice (no_next_cell s b) = (sliced.Border, _, s, (begun.Ended _, _, b, (refl, refl)))

abbrev IsAmple : Outcome → Type 0
IsAmple o = Wants (begun.Ended o) → ⊥

is_over : Begun → ℕ
is_over begun.Nothing = 0
is_over begun.Going = 0
is_over (begun.Ended o) = 1

going_ample : Wants begun.Going → ⊥
unfolding is_over
going_ample (inl e) = absurd (let h : 0 ≡ 1 = ap is_over e in omega arith)
going_ample (inr (j, e)) = absurd (let h : 0 ≡ 1 = ap is_over e in omega arith)

begin_ample : (F : Ends) (t : Begun) (mid new : Machine) (o : Outcome) → AfterBegin F t mid o new → IsAmple o → Wants t → ⊥
begin_ample F begun.Nothing mid new o h ample = absurd h
begin_ample F begun.Going mid new o h ample = going_ample
begin_ample F (begun.Ended p) mid new o h ample = subst (λ (x : Outcome). IsAmple x) (sym h.0) ample

-- what follows one slice, where another run of the same job is known to its end
after_slice : StepIsDetermined → (old mid other : Machine) (t : Sliced) (p : Outcome) → IsLegalState old.state → IsSliceOf old step_limit false t mid →
    Finishes old p other → AfterSlice t mid p other
after_slice determined old mid other t p legal s g =
    let first = first_slice g in
    let same = slices_same determined old mid first.1 step_limit false t first.0 legal s first.2 in
    subst (λ (m : Machine). AfterSlice t m p other) (sym same.1) (subst (λ (x : Sliced). AfterSlice x first.1 p other) (sym same.0) first.3)

-- what follows one begin, likewise
after_begin : StepIsDetermined → (F : Ends) (old inside other_inside other : Machine) (t u : Begun) (p : Outcome) → IsLegalState old.state →
    IsBegin old t inside → (Wants t → ⊥)
    → IsBegin old u other_inside → AfterBegin F u other_inside p other → IsAmple p → AfterBegin F t inside p other
after_begin determined F old inside other_inside other t u p legal b ample c g enough =
    let same = begins_same determined old inside other_inside t u legal b ample c (begin_ample F u other_inside other p g enough) in
    subst (λ (m : Machine). AfterBegin F t m p other) (sym same.1) (subst (λ (x : Begun). AfterBegin F x other_inside p other) (sym same.0) g)

finishes_same : StepIsDetermined → StaysLegal → (old new other : Machine) (o p : Outcome) → IsLegalState old.state → Finishes old o new → IsAmple o →
    Finishes old p other → IsAmple p → (o ≡ p) × (new ≡ other)
finishes_same determined stays old new other o p legal (ended s) ample g enough = after_slice determined old new other (sliced.Ended o) p legal s g
finishes_same determined stays old new other o p legal (going {mid = mid} s f) ample g enough =
    finishes_same determined stays mid new other o p (slice_legal stays old mid step_limit false sliced.Going legal s) f ample
    (after_slice determined old mid other sliced.Going p legal s g) enough
finishes_same determined stays old new other o p legal (backing {mid = mid} s f) ample g enough =
    finishes_same determined stays mid new other o p (slice_legal stays old mid step_limit false sliced.Backing legal s) f ample
    (after_slice determined old mid other sliced.Backing p legal s g) enough
finishes_same determined stays old new other o p legal (next_cell {border = border} {mid = mid} s b f) ample g enough =
    let at = after_slice determined old border other sliced.Border p legal s g in
    let legal_border = slice_legal stays old border step_limit false sliced.Border legal s in
    finishes_same determined stays mid new other o p (begin_legal stays border mid begun.Going legal_border b) f ample
    (after_begin determined Finishes border mid at.1 other begun.Going at.0 p legal_border b going_ample at.2 at.3 enough) enough
finishes_same determined stays old new other o p legal (no_next_cell {border = border} s b) ample g enough =
    let at = after_slice determined old border other sliced.Border p legal s g in
    after_begin determined Finishes border new at.1 other (begun.Ended o) at.0 p (slice_legal stays old border step_limit false sliced.Border legal s)
    b ample at.2 at.3 enough

-- ---- a request from its post to its end

as_same : StepIsDetermined → StaysLegal → (steps : ℕ) (r : Request) (old new other : Machine) (o p : Outcome) → IsLegalState old.state →
    FinishesAs steps r old o new → IsAmple o → FinishesAs steps r old p other → IsAmple p
    → (o ≡ p) × (new ≡ other)
as_same determined stays steps (RunCell text silent store) old new other o p legal f ample g enough =
    cell_same determined stays steps old new other o p legal f g
as_same determined stays steps (Undo k) old new other o p legal f ample g enough = finishes_same determined stays old new other o p legal f ample g enough
as_same determined stays steps (Redo k) old new other o p legal f ample g enough = finishes_same determined stays old new other o p legal f ample g enough
as_same determined stays steps (Goto n) old new other o p legal f ample g enough = finishes_same determined stays old new other o p legal f ample g enough

-- what follows a post
abbrev AfterPost : ℕ → Request → Result ℕ PostFault → Machine → Came → Machine → Type 0
AfterPost steps r (Err f) mid came new = (NotPosted f ≡ came) × (mid ≡ new)
AfterPost steps r (Ok n) mid came new =
    (o : Outcome) × (Finished o ≡ came) × (t : Begun) × (inside : Machine) × IsBegin mid t inside × AfterBegin (FinishesAs steps r) t inside o new

first_post : (steps : ℕ) (r : Request) {old new : Machine} {came : Came} → Serves steps old r came new → (t : Result ℕ PostFault) × (mid : Machine) ×
    IsPost old lane r t mid × AfterPost steps r t mid came new
first_post steps r (not_posted {f = f} p) = (Err f, _, p, (refl, refl))
first_post steps r (at_once {n = n} {o = o} p b) = (Ok n, _, p, (o, refl, begun.Ended o, _, b, (refl, refl)))
first_post steps r (later {n = n} {o = o} p b f) = (Ok n, _, p, (o, refl, begun.Going, _, b, f))

-- what comes of a request tells want of memory
abbrev Lacks : Came → Type 0
Lacks (NotPosted f) = f ≡ Memory
Lacks (Finished o) = Wants (begun.Ended o)

posted_ample : (steps : ℕ) (r : Request) (t : Result ℕ PostFault) (mid new : Machine) (came : Came) → AfterPost steps r t mid came new → (Lacks came → ⊥) →
    t ≡ Err Memory → ⊥
posted_ample steps r (Err Memory) mid new came h ample e = subst (λ (c : Came). Lacks c → ⊥) (sym h.0) ample refl
posted_ample steps r (Err Closing) mid new came h ample e = cc
posted_ample steps r (Err MinutesFull) mid new came h ample e = cc
posted_ample steps r (Err QueueFull) mid new came h ample e = cc
posted_ample steps r (Ok n) mid new came h ample e = cc

begun_same : StepIsDetermined → StaysLegal → (steps : ℕ) (r : Request) (mid inside other_inside new other : Machine) (t u : Begun) (o p : Outcome) →
    IsLegalState mid.state → IsBegin mid t inside → AfterBegin (FinishesAs steps r) t inside o new → IsAmple o
    → IsBegin mid u other_inside → AfterBegin (FinishesAs steps r) u other_inside p other → IsAmple p → (o ≡ p) × (new ≡ other)
begun_same determined stays steps r mid inside other_inside new other begun.Nothing u o p legal b f ample c g enough = absurd f
begun_same determined stays steps r mid inside other_inside new other begun.Going u o p legal b f ample c g enough =
    as_same determined stays steps r inside new other o p (begin_legal stays mid inside begun.Going legal b) f ample
    (after_begin determined (FinishesAs steps r) mid inside other_inside other begun.Going u p legal b going_ample c g enough) enough
begun_same determined stays steps r mid inside other_inside new other (begun.Ended q) u o p legal b f ample c g enough =
    let at = after_begin determined (FinishesAs steps r) mid inside other_inside other (begun.Ended q) u p legal b
    (begin_ample (FinishesAs steps r) (begun.Ended q) inside new o f ample) c g enough in
    (sym f.0 ∙ at.0, sym f.1 ∙ at.1)

after_same : StepIsDetermined → StaysLegal → (steps : ℕ) (r : Request) (t : Result ℕ PostFault) (mid new other : Machine) (a b : Came) →
    IsLegalState mid.state → AfterPost steps r t mid a new → (Lacks a → ⊥) → AfterPost steps r t mid b other → (Lacks b → ⊥) → (a ≡ b) × (new ≡ other)
after_same determined stays steps r (Err f) mid new other a b legal h ample k enough = (sym h.0 ∙ k.0, sym h.1 ∙ k.1)
after_same determined stays steps r (Ok n) mid new other a b legal h ample k enough =
    let same = begun_same determined stays steps r mid h.3 k.3 new other h.2 k.2 h.0 k.0 legal h.4 h.5 (subst (λ (c : Came). Lacks c → ⊥) (sym h.1) ample)
    k.4 k.5 (subst (λ (c : Came). Lacks c → ⊥) (sym k.1) enough) in
    (sym h.1 ∙ ap (λ (o : Outcome). Finished o) same.0 ∙ k.1, same.1)

serves_same : StepIsDetermined → StaysLegal → (steps : ℕ) (old new other : Machine) (r : Request) (a b : Came) → IsLegalState old.state →
    Serves steps old r a new → (Lacks a → ⊥) → Serves steps old r b other → (Lacks b → ⊥) → (a ≡ b) × (new ≡ other)
serves_same determined stays steps old new other r a b legal s ample s2 enough =
    let one = first_post steps r s in
    let two = first_post steps r s2 in
    let same = post_same old lane r one.0 two.0 one.1 two.1 one.2 (posted_ample steps r one.0 one.1 new a one.3 ample) two.2
    (posted_ample steps r two.0 two.1 other b two.3 enough) in
    after_same determined stays steps r one.0 one.1 new other a b (post_legal old one.1 r one.0 legal one.2) one.3 ample
    (subst (λ (m : Machine). AfterPost steps r one.0 m b other) (sym same.1)
    (subst (λ (x : Result ℕ PostFault). AfterPost steps r x two.1 b other) (sym same.0) two.3)) enough

-- ---- a served request leaves a legal state

finishes_legal : StaysLegal → {old new : Machine} {o : Outcome} → IsLegalState old.state → Finishes old o new → IsLegalState new.state
finishes_legal stays legal (ended s) = slice_legal stays _ _ step_limit false _ legal s
finishes_legal stays legal (going s f) = finishes_legal stays (slice_legal stays _ _ step_limit false _ legal s) f
finishes_legal stays legal (backing s f) = finishes_legal stays (slice_legal stays _ _ step_limit false _ legal s) f
finishes_legal stays legal (next_cell s b f) = finishes_legal stays (begin_legal stays _ _ _ (slice_legal stays _ _ step_limit false _ legal s) b) f
finishes_legal stays legal (no_next_cell s b) = begin_legal stays _ _ _ (slice_legal stays _ _ step_limit false _ legal s) b

goes_back_legal : StaysLegal → (asked : Bool) {old new : Machine} {o : Outcome} → IsLegalState old.state → GoesBack asked old o new → IsLegalState new.state
goes_back_legal stays asked legal (is_back s) = slice_legal stays _ _ step_limit asked _ legal s
goes_back_legal stays asked legal (not_yet_back s f) = goes_back_legal stays asked (slice_legal stays _ _ step_limit asked _ legal s) f

cell_legal : StaysLegal → (steps : ℕ) {old new : Machine} {o : Outcome} → IsLegalState old.state → CellFinishes steps old o new → IsLegalState new.state
cell_legal stays steps legal (in_time s) = slice_legal stays _ _ steps false _ legal s
cell_legal stays steps legal (interrupted s f) = goes_back_legal stays true (slice_legal stays _ _ steps false _ legal s) f
cell_legal stays steps legal (faulted s f) = goes_back_legal stays false (slice_legal stays _ _ steps false _ legal s) f

as_legal : StaysLegal → (steps : ℕ) (r : Request) (old new : Machine) (o : Outcome) → IsLegalState old.state → FinishesAs steps r old o new →
    IsLegalState new.state
as_legal stays steps (RunCell text silent store) old new o legal f = cell_legal stays steps legal f
as_legal stays steps (Undo k) old new o legal f = finishes_legal stays legal f
as_legal stays steps (Redo k) old new o legal f = finishes_legal stays legal f
as_legal stays steps (Goto n) old new o legal f = finishes_legal stays legal f

serves_legal : StaysLegal → (steps : ℕ) {old new : Machine} {r : Request} {came : Came} → IsLegalState old.state → Serves steps old r came new →
    IsLegalState new.state
serves_legal stays steps {old = old} {r = r} legal (not_posted {new = new} {f = f} p) = post_legal old new r (Err f) legal p
serves_legal stays steps {old = old} {r = r} legal (at_once {posted = posted} {n = n} p b) =
    begin_legal stays posted _ _ (post_legal old posted r (Ok n) legal p) b
serves_legal stays steps {old = old} {r = r} legal (later {posted = posted} {inside = inside} {new = new} {n = n} {o = o} p b f) =
    as_legal stays steps r inside new o (begin_legal stays posted _ _ (post_legal old posted r (Ok n) legal p) b) f

-- ---- what is written where there is no memory

holds_first : (first second octets : List ℕ) → Holds first octets → Holds (first ++ second) octets
holds_first first second octets (before, after, e) =
    (before, after ++ second, ap (λ t. t ++ second) e ∙ append_assoc (before ++ octets) after second)

holds_second : (first second octets : List ℕ) → Holds second octets → Holds (first ++ second) octets
holds_second first second octets (before, after, e) = (
  first ++ before,
  after,
  ap (λ t. first ++ t) e
      ∙ sym (ap (λ t. t ++ after) (append_assoc first before octets) ∙ append_assoc first (before ++ octets) after),
)

tells_first : (first second : List ℕ) → TellsWant first → TellsWant (first ++ second)
tells_first first second (inl h) = inl (holds_first first second _ h)
tells_first first second (inr h) = inr (holds_first first second _ h)

tells_second : (first second : List ℕ) → TellsWant second → TellsWant (first ++ second)
tells_second first second (inl h) = inl (holds_second first second _ h)
tells_second first second (inr h) = inr (holds_second first second _ h)

over_of : Begun → Outcome
over_of begun.Nothing = outcome.Ran 0 0
over_of begun.Going = outcome.Ran 0 0
over_of (begun.Ended o) = o

-- so does a travel that ended for it
travel_tells : (a : Aim) (up down : ℕ) → TellsWant (ended_line (came_line (Finished (finished_by a up down NoMemory))))
unfolding digits
travel_tells aim.Undo up down = inr (counted_text (codes "undid ") up, 10 ∷ [], refl)
travel_tells aim.Redo up down = inr (counted_text (codes "redid ") down, 10 ∷ [], refl)
travel_tells (aim.Goto n) up down =
    let way : List ℕ = counted_text (codes "went ") up ++ counted_text (codes " up ") down in
    inr (
      (counted_text (codes "went ") up ++ counted_text (codes " up ") down) ++ codes " down",
      10 ∷ [],
      ap (λ t. t ++ 10 ∷ []) (sym (append_assoc way (codes " down") (codes " then no memory"))),
    )

lacks_told : (came : Came) → Lacks came → TellsWant (ended_line (came_line came))
unfolding over_of digits
lacks_told (NotPosted f) e = subst (λ (g : PostFault). TellsWant (ended_line (came_line (NotPosted g)))) (sym e) (inl ([], 10 ∷ [], refl))
lacks_told (Finished o) (inl e) =
    let is : o ≡ outcome.Refused refusal.Memory = ap over_of e in
    subst (λ (p : Outcome). TellsWant (ended_line (came_line (Finished p)))) (sym is) (inl ([], 10 ∷ [], refl))
lacks_told (Finished o) (inr (travel, e)) =
    let is : o ≡ finished travel NoMemory = ap over_of e in
    subst (λ (p : Outcome). TellsWant (ended_line (came_line (Finished p)))) (sym is) (travel_tells travel.aim travel.went_up travel.went_down)

-- what is told of a request begins with the line of what came of it
abbrev Begins : List ℕ → List ℕ → Type 0
Begins text line = (rest : List ℕ) × (text ≡ line ++ rest)

begins_whole : (line : List ℕ) → Begins line line
begins_whole line = ([], sym (append-nil line))

refusal_begins : (explains : Bool) (text : List ℕ) (r : Refusal) → Begins (told_refusal explains text r) (ended_line (refusal_text r))
refusal_begins false text r = begins_whole (ended_line (refusal_text r))
refusal_begins true text r = (explained text r, refl)

outcome_begins : (explains : Bool) (text : List ℕ) (o : Outcome) → Begins (told_outcome explains text o) (ended_line (outcome_line o))
outcome_begins explains text (outcome.Ran node steps) = begins_whole (ended_line (outcome_line (outcome.Ran node steps)))
outcome_begins explains text (outcome.Failed f steps) = begins_whole (ended_line (outcome_line (outcome.Failed f steps)))
outcome_begins explains text (outcome.Interrupted steps) = begins_whole (ended_line (outcome_line (outcome.Interrupted steps)))
outcome_begins explains text (outcome.Undid cells end) = begins_whole (ended_line (outcome_line (outcome.Undid cells end)))
outcome_begins explains text (outcome.Redid cells end) = begins_whole (ended_line (outcome_line (outcome.Redid cells end)))
outcome_begins explains text (outcome.Went up down end) = begins_whole (ended_line (outcome_line (outcome.Went up down end)))
outcome_begins explains text (outcome.Refused r) = refusal_begins explains text r

cell_begins : (explains : Bool) (text : List ℕ) (came : Came) → Begins (told_cell explains text came) (ended_line (came_line came))
cell_begins explains text (NotPosted f) = begins_whole (ended_line (came_line (NotPosted f)))
cell_begins explains text (Finished o) = outcome_begins explains text o

told_begins : (explains : Bool) (r : Request) (came : Came) → Begins (told_of explains r came) (ended_line (came_line came))
told_begins explains (RunCell text silent store) came = cell_begins explains text came
told_begins explains (Undo k) came = begins_whole (ended_line (came_line came))
told_begins explains (Redo k) came = begins_whole (ended_line (came_line came))
told_begins explains (Goto n) came = begins_whole (ended_line (came_line came))

lacks_told_as : (explains : Bool) (r : Request) (came : Came) → Lacks came → TellsWant (told_of explains r came)
lacks_told_as explains r came l =
    let b = told_begins explains r came in
    subst TellsWant (sym b.1) (tells_first (ended_line (came_line came)) b.0 (lacks_told came l))

-- ---- actions

answers_same : StepIsDetermined → StaysLegal → (choice : Choice) (old new other : Machine) (r : Request) (out more : List ℕ) → IsLegalState old.state →
    Answers choice old r out new → (TellsWant out → ⊥) → Answers choice old r more other → (TellsWant more → ⊥)
    → (out ≡ more) × (new ≡ other)
answers_same determined stays choice old new other r out more legal (a, s, e) ample (b, s2, e2) enough =
    let same = serves_same determined stays choice.steps old new other r a b legal s (λ l. ample (subst TellsWant (sym e) (lacks_told_as choice.explains r a l)))
    s2 (λ l. enough (subst TellsWant (sym e2) (lacks_told_as choice.explains r b l))) in
    (e ∙ ap (told_of choice.explains r) same.0 ∙ sym e2, same.1)

-- where nothing tells want of memory, a world's procedures are listed in one way
listed_same : (w : World) (out more : List ℕ) → IsListed w out → (TellsWant out → ⊥) → IsListed w more → (TellsWant more → ⊥) → out ≡ more
listed_same w out more (inl text) ample (inl other) enough = one_list_text w out more text other
listed_same w out more (inl text) ample (inr want) enough = absurd (enough (subst TellsWant (sym want) (lacks_told (NotPosted Memory) refl)))
listed_same w out more (inr want) ample b enough = absurd (ample (subst TellsWant (sym want) (lacks_told (NotPosted Memory) refl)))

action_same : StepIsDetermined → StaysLegal → (choice : Choice) (action : Action) (old new other : Machine) (out more : List ℕ) → IsLegalState old.state →
    ActionServes choice action old out new → (TellsWant out → ⊥) → ActionServes choice action old more other → (TellsWant more → ⊥)
    → (out ≡ more) × (new ≡ other)
action_same determined stays choice (RunText text) old new other out more legal a ample b enough =
    answers_same determined stays choice old new other _ out more legal a ample b enough
action_same determined stays choice (UndoCells k) old new other out more legal a ample b enough =
    answers_same determined stays choice old new other _ out more legal a ample b enough
action_same determined stays choice (RedoCells k) old new other out more legal a ample b enough =
    answers_same determined stays choice old new other _ out more legal a ample b enough
action_same determined stays choice (GoToNode n) old new other out more legal a ample b enough =
    answers_same determined stays choice old new other _ out more legal a ample b enough
action_same determined stays choice ShowWorld old new other out more legal a ample b enough = (a.0 ∙ sym b.0, a.1 ∙ sym b.1)
action_same determined stays choice ListProcedures old new other out more legal a ample b enough =
    (listed_same (here old.state.past) out more a.0 ample b.0 enough, a.1 ∙ sym b.1)
action_same determined stays choice BadCommand old new other out more legal a ample b enough = (a.0 ∙ sym b.0, a.1 ∙ sym b.1)

action_legal : StaysLegal → (choice : Choice) (action : Action) (old new : Machine) (out : List ℕ) → IsLegalState old.state → ActionServes choice action old out new →
    IsLegalState new.state
action_legal stays choice (RunText text) old new out legal a = serves_legal stays choice.steps legal a.1
action_legal stays choice (UndoCells k) old new out legal a = serves_legal stays choice.steps legal a.1
action_legal stays choice (RedoCells k) old new out legal a = serves_legal stays choice.steps legal a.1
action_legal stays choice (GoToNode n) old new out legal a = serves_legal stays choice.steps legal a.1
action_legal stays choice ShowWorld old new out legal a = subst (λ (m : Machine). IsLegalState m.state) (sym a.1) legal
action_legal stays choice ListProcedures old new out legal a = subst (λ (m : Machine). IsLegalState m.state) (sym a.1) legal
action_legal stays choice BadCommand old new out legal a = subst (λ (m : Machine). IsLegalState m.state) (sym a.1) legal

pub actions_same : StepIsDetermined → StaysLegal → (choice : Choice) (actions : List Action) (old new other : Machine) (out more : List ℕ) → IsLegalState old.state →
    ActionsServe choice actions old out new → (TellsWant out → ⊥) → ActionsServe choice actions old more other → (TellsWant more → ⊥)
    → out ≡ more
actions_same determined stays choice [] old new other out more legal a ample b enough = a.0 ∙ sym b.0
actions_same determined stays choice (action ∷ rest) old new other out more legal (mid, first, second, s, r, e) ample (mid2, first2, second2, s2, r2, e2)
    enough =
    let told = λ (h : TellsWant (first ++ second)). ample (subst TellsWant (sym e) h) in
    let told2 = λ (h : TellsWant (first2 ++ second2)). enough (subst TellsWant (sym e2) h) in
    let same = action_same determined stays choice action old mid mid2 first first2 legal s (λ h. told (tells_first first second h)) s2
    (λ h. told2 (tells_first first2 second2 h)) in
    let later = actions_same determined stays choice rest mid new other second second2 (action_legal stays choice action old mid first legal s) r
    (λ h. told (tells_second first second h))
    (subst (λ (m : Machine). ActionsServe choice rest m second2 other) (sym same.1) r2) (λ h. told2 (tells_second first2 second2 h)) in
    e ∙ ap (λ t. t ++ second) same.0 ∙ ap (λ t. first2 ++ t) later ∙ sym e2
