-- Where memory is ample, each step of the machine is determined, and so is each run.
use Rattle.std.specs.Prelude.{nat_lt, length}
use Rattle.std.proofs.Common.{◌≡◌, ℕ, ◌+◌, ◌-◌, ◌<◌, ◌≤◌, Bool, true, false, List, [], ◌∷◌, zero, suc, refl, sym, ap, ◌∙◌, subst, arith, inl, inr, Result, Ok}
use Rattle.std.proofs.Common.{Err}
use Rattle.janus_meaning.specs.Fault as meaning
use Rattle.janus_meaning.specs.World.{World, Cell}
use Rattle.janus_meaning.specs.Faults.{fault_of}
use Rattle.janus_meaning.specs.declared.fault.Fault.{Fault}
use Rattle.janus_meaning.specs.declared.fault.Fault.TheVariants as fault
use Rattle.kernel_machine.specs.Language.{Code, CodePart}
use Rattle.kernel_machine.specs.Reached.{Reaches}
use Rattle.kernel_machine.specs.declared.progress.Progress.{Progress}
use Rattle.kernel_machine.specs.declared.progress.Progress.TheVariants.{Went, Ended, Stopped}
use Rattle.kernel_machine.specs.State.{Past, Work, Posted, Move, Job as Open, Idle, Border, Inside, State, ShownAt, here, code_of, is_full}
use Rattle.kernel_machine.specs.Legal.{can_undo, can_redo, IsLegal}
use Rattle.kernel_machine.specs.Slices.{cells, stepped, moved, Backs, Arrives, Settles, Comes, Goes, SlicesIn, SlicesAt}
use Rattle.kernel_machine.specs.Begins.{travel_to, Departs, Enters, TakesMove, TakesGoto, TakesCell}
use Rattle.kernel_machine.specs.Runs.{Machine, IsRefusal, IsPost, Run, IsBegin, BeginsAt, Takes, TakesUnless, noted, end_of_begun, end_of_sliced}
use Rattle.kernel_machine.specs.Request.{Request, RunCell, Undo, Redo, Goto, request_of, raised}
use Rattle.machine_laws.specs.Determined.{TellsWant, StepIsDetermined, RunIsDetermined, OneWorldIsShown}
use Rattle.kernel_machine.specs.declared.travel.Aim.TheVariants as aim
use Rattle.kernel_machine.proofs.Trees.{meeting_same}
use Rattle.kernel_machine.specs.declared.travel.Travel.{Travel}
use Rattle.kernel_machine.specs.declared.heading.Why.{Why}
use Rattle.kernel_machine.specs.declared.heading.Why.TheVariants.{WasAsked, Faulted}
use Rattle.kernel_machine.specs.declared.heading.Heading.{Heading}
use Rattle.kernel_machine.specs.declared.heading.Heading.TheVariants.{GoesOn, GoesBack}
use Rattle.kernel_machine.specs.declared.outcome.Refusal.{Refusal}
use Rattle.kernel_machine.specs.declared.outcome.Refusal.TheVariants.{Memory}
use Rattle.kernel_machine.specs.declared.outcome.Outcome.TheVariants as outcome
use Rattle.kernel_machine.specs.declared.outcome.Begun.{Begun}
use Rattle.kernel_machine.specs.declared.outcome.Begun.TheVariants as begun
use Rattle.kernel_machine.specs.declared.outcome.Sliced.{Sliced}
use Rattle.kernel_machine.specs.declared.post.PostFault.{PostFault}
use Rattle.kernel_machine.specs.declared.post.PostFault.TheVariants.{Closing, MinutesFull, QueueFull, Memory as NoRoom}
use Rattle.kernel_machine.specs.declared.events.Event.TheVariants as event
use Rattle.kernel_machine.specs.declared.events.Told.{Told}
use Rattle.kernel_machine.specs.declared.events.Told.TheVariants as told
use Rattle.kernel_machine.proofs.LanguageLaws.{part_same, exec_same, exec_no_stop, stop_same, stop_no_part}
use Rattle.machine_laws.proofs.Refusals.{one_cell, one_answer, not_both}
use Rattle.kernel_machine.proofs.Stays.{step_legal}

-- ---- how far code comes

code_fault : meaning.Fault → Fault
code_fault meaning.FiAssertion = fault.FiAssertion
code_fault meaning.EntryAssertion = fault.EntryAssertion
code_fault meaning.LoopAssertion = fault.LoopAssertion
code_fault meaning.DelocalMismatch = fault.DelocalMismatch
code_fault meaning.PopNotZero = fault.PopNotZero
code_fault meaning.PopEmpty = fault.PopEmpty
code_fault meaning.TopEmpty = fault.TopEmpty
code_fault meaning.DivisionByZero = fault.DivisionByZero
code_fault meaning.IndexRange = fault.IndexRange
code_fault meaning.StackFull = fault.StackFull
code_fault meaning.TooDeep = fault.TooDeep
code_fault meaning.TooManyStacks = fault.TooManyStacks
code_fault meaning.StepLimit = fault.StepLimit
code_fault meaning.Broken = fault.StepLimit

fault_back : (f : Fault) → code_fault (fault_of f) ≡ f
unfolding code_fault
fault_back fault.FiAssertion = refl
fault_back fault.EntryAssertion = refl
fault_back fault.LoopAssertion = refl
fault_back fault.DelocalMismatch = refl
fault_back fault.PopNotZero = refl
fault_back fault.PopEmpty = refl
fault_back fault.TopEmpty = refl
fault_back fault.DivisionByZero = refl
fault_back fault.IndexRange = refl
fault_back fault.StackFull = refl
fault_back fault.TooDeep = refl
fault_back fault.TooManyStacks = refl
fault_back fault.StepLimit = refl

fault_same : (f g : Fault) → fault_of f ≡ fault_of g → f ≡ g
fault_same f g e = sym (fault_back f) ∙ ap code_fault e ∙ fault_back g

-- from one world, with m steps to take, code comes thus far and no further
pub reach_same : (code : Code) (w : World) (m : ℕ) (a b : Progress) (u v : World) → Reaches code w m a u → Reaches code w m b v → (a ≡ b) × (u ≡ v)
reach_same code w m Went Went u v p q = (refl, part_same code w m u v p.0 q.0)
reach_same code w m Went (Ended n) u v p q = absurd (let l : m < n = p.1 n v q.0 in let h : n ≤ m = q.1 in omega arith)
reach_same code w m (Ended n) Went u v p q = absurd (let l : m < n = q.1 n u p.0 in let h : n ≤ m = p.1 in omega arith)
reach_same code w m Went (Stopped j f) u v p q = absurd (stop_no_part code w j m u (fault_of f) q.1 q.2 p.0 (λ x e. (let l : m < m = p.1 m x e in omega arith)))
reach_same code w m (Stopped j f) Went u v p q = absurd (stop_no_part code w j m v (fault_of f) p.1 p.2 q.0 (λ x e. (let l : m < m = q.1 m x e in omega arith)))
reach_same code w m (Ended n) (Ended i) u v p q = let same = exec_same code w n i u v p.0 q.0 in (ap Ended same.0, same.1)
reach_same code w m (Ended n) (Stopped j f) u v p q = absurd (exec_no_stop code w n j u (fault_of f) p.0 q.1)
reach_same code w m (Stopped j f) (Ended n) u v p q = absurd (exec_no_stop code w n j v (fault_of f) q.0 p.1)
reach_same code w m (Stopped i f) (Stopped j g) u v p q =
    let same = stop_same code w i j (fault_of f) (fault_of g) p.1 q.1 in (
      ap (λ (n : ℕ). Stopped n f) same.0 ∙ ap (λ (x : Fault). Stopped j x) (fault_same f g same.1),
      part_same code w j u v (subst (λ (n : ℕ). CodePart code w n u) same.0 p.0) q.0,
    )

-- ---- slices

backs_same : (s : Past) (work : Work) (why : Why) (c : ℕ) (t u : Sliced) (new other : State) → Backs s work why c t new → Backs s work why c u other → (t ≡ u) ×
    (new ≡ other)
backs_same s work why zero t u new other a b = (a.0 ∙ sym b.0, a.1 ∙ sym b.1)
backs_same s work why (suc c) t u new other a b = (a.0 ∙ sym b.0, a.1 ∙ sym b.1)

arrives_same : (left : ℕ) (s : Past) (travel : Travel) (t u : Sliced) (new other : State) → Arrives left s travel t new → Arrives left s travel u other →
    (t ≡ u) × (new ≡ other)
arrives_same zero s travel t u new other a b = (a.0 ∙ sym b.0, a.1 ∙ sym b.1)
arrives_same (suc left) s travel t u new other a b = (a.0 ∙ sym b.0, a.1 ∙ sym b.1)

settles_same : (s : Past) (work : Work) (n : ℕ) (w : World) (t u : Sliced) (new other : State) → Settles s work n w t new → Settles s work n w u other →
    (t ≡ u) × (new ≡ other)
settles_same s (Posted cell) n w t u new other a b = (a.0 ∙ sym b.0, a.1 ∙ sym b.1)
settles_same s (Move travel) n w t u new other a b = arrives_same (cells (stepped travel)) (moved s travel) (stepped travel) t u new other a b

comes_same : (s : Past) (work : Work) (c : ℕ) (ran : Progress) (w : World) (t u : Sliced) (new other : State) → Comes s work c ran w t new →
    Comes s work c ran w u other → (t ≡ u) × (new ≡ other)
comes_same s work c Went w t u new other a b = (a.0 ∙ sym b.0, a.1 ∙ sym b.1)
comes_same s work c (Ended n) w t u new other a b = settles_same s work n w t u new other a b
comes_same s work c (Stopped j f) w t u new other a b = backs_same s work (Faulted f j) j t u new other a b

goes_same : (s : Past) (work : Work) (c m : ℕ) (t u : Sliced) (new other : State) → Goes s work c m t new → Goes s work c m u other → (t ≡ u) × (new ≡ other)
goes_same s work c m t u new other a b =
    let same = reach_same (code_of s work) (here s) (c + m) a.0 b.0 a.1 b.1 a.2 b.2 in
    comes_same s work (c + m) a.0 a.1 t u new other a.3
    (subst (λ (x : Progress). Comes s work (c + m) x a.1 u other) (sym same.0) (subst (λ (x : World). Comes s work (c + m) b.0 x u other) (sym same.1) b.3))

slice_in_same : (s : Past) (work : Work) (c : ℕ) (heading : Heading) (m : ℕ) (asked : Bool) (t u : Sliced) (new other : State) →
    SlicesIn s work c heading m asked t new → SlicesIn s work c heading m asked u other → (t ≡ u) × (new ≡ other)
slice_in_same s work c GoesOn m false t u new other a b = goes_same s work c m t u new other a b
slice_in_same s work c GoesOn m true t u new other a b = backs_same s work (WasAsked c) (c - m) t u new other a b
slice_in_same s work c (GoesBack why) m asked t u new other a b = backs_same s work why (c - m) t u new other a b

slice_same : (s : Past) (job : Open) (m : ℕ) (asked : Bool) (t u : Sliced) (new other : State) → SlicesAt s job m asked t new → SlicesAt s job m asked u other →
    (t ≡ u) × (new ≡ other)
slice_same s Idle m asked t u new other a b = (a.0 ∙ sym b.0, a.1 ∙ sym b.1)
slice_same s (Border travel) m asked t u new other a b = (a.0 ∙ sym b.0, a.1 ∙ sym b.1)
slice_same s (Inside e) m asked t u new other a b = slice_in_same s e.work e.count e.heading m asked t u new other a b

-- ---- begins

abbrev IsAmple : Begun → Type 0
IsAmple answer = TellsWant (told.Begin answer) → ⊥

enters_same : (s : Past) (travel : Travel) (t u : Begun) (new other : State) → Enters s travel t new → IsAmple t → Enters s travel u other → IsAmple u →
    (t ≡ u) × (new ≡ other)
enters_same s travel t u new other a ample b enough = elim a [
  | inl x ↦ elim b [
    | inl y ↦ (x.0 ∙ sym y.0, x.1 ∙ sym y.1)
    | inr y ↦ absurd (enough (inr (travel, y.0)))
  ]
  | inr x ↦ absurd (ample (inr (travel, x.0)))
]

departs_same : (left : ℕ) (s : Past) (travel : Travel) (t u : Begun) (new other : State) → Departs left s travel t new → IsAmple t →
    Departs left s travel u other → IsAmple u → (t ≡ u) × (new ≡ other)
departs_same zero s travel t u new other a ample b enough = (a.0 ∙ sym b.0, a.1 ∙ sym b.1)
departs_same (suc left) s travel t u new other a ample b enough = enters_same s travel t u new other a ample b enough

takes_move_same : (s : Past) (travel : Travel) (can : Bool) (t u : Begun) (new other : State) → TakesMove s travel can t new → IsAmple t →
    TakesMove s travel can u other → IsAmple u → (t ≡ u) × (new ≡ other)
takes_move_same s travel false t u new other a ample b enough = (a.0 ∙ sym b.0, a.1 ∙ sym b.1)
takes_move_same s travel true t u new other a ample b enough = departs_same (cells travel) s travel t u new other a ample b enough

takes_goto_same : (s : Past) (n : ℕ) (known : Bool) (t u : Begun) (new other : State) → TakesGoto s n known t new → IsAmple t → TakesGoto s n known u other →
    IsAmple u → (t ≡ u) × (new ≡ other)
takes_goto_same s n false t u new other a ample b enough = (a.0 ∙ sym b.0, a.1 ∙ sym b.1)
takes_goto_same s n true t u new other a ample b enough =
    let same = meeting_same s.nodes s.position n a.0 a.1 b.0 b.1 a.2 b.2 in
    departs_same (a.0 + a.1) s (travel_to (aim.Goto n) a.0 a.1) t u new other a.3 ample
    (subst (λ (j : ℕ). Departs (a.0 + j) s (travel_to (aim.Goto n) a.0 j) u other) (sym same.1)
    (subst (λ (i : ℕ). Departs (i + b.1) s (travel_to (aim.Goto n) i b.1) u other) (sym same.0) b.3)) enough

real : (answer : Begun) (r : Refusal) → IsAmple answer → answer ≡ begun.Ended (outcome.Refused r) → r ≡ Memory → ⊥
real answer r ample e same = ample (inl (e ∙ ap (λ (x : Refusal). begun.Ended (outcome.Refused x)) same))

takes_cell_same : (s : Past) (text : List ℕ) (full : Bool) (t u : Begun) (new other : State) → IsLegal s → TakesCell s text full t new → IsAmple t →
    TakesCell s text full u other → IsAmple u → (t ≡ u) × (new ≡ other)
takes_cell_same s text true t u new other g a ample b enough = (a.0 ∙ sym b.0, a.1 ∙ sym b.1)
takes_cell_same s text false t u new other g a ample b enough = elim a [
  | inl x ↦ elim b [
    | inl y ↦
        (let same : x.0 ≡ y.0 = one_cell (here s) text x.0 y.0 x.1 y.1 in
        (x.2 ∙ sym y.2, x.3 ∙ ap (λ (c : Cell). record { past = s; job = Inside (record { work = Posted c; count = 0; heading = GoesOn }) }) same ∙ sym y.3))
    | inr y ↦ absurd (not_both (here s) text x.0 y.0 (g.sound s.position g.position) x.1 y.1 (real u y.0 enough y.2))
  ]
  | inr x ↦ elim b [
    | inl y ↦ absurd (not_both (here s) text y.0 x.0 (g.sound s.position g.position) y.1 x.1 (real t x.0 ample x.2))
    | inr y ↦
        (let same : x.0 ≡ y.0 = one_answer (here s) text x.0 y.0 x.1 (real t x.0 ample x.2) y.1 (real u y.0 enough y.2) in
        (x.2 ∙ ap (λ (r : Refusal). begun.Ended (outcome.Refused r)) same ∙ sym y.2, x.3 ∙ sym y.3))
  ]
]

takes_same : (s : Past) (r : Request) (t u : Begun) (new other : State) → IsLegal s → Takes s r t new → IsAmple t → Takes s r u other → IsAmple u → (t ≡ u) ×
    (new ≡ other)
takes_same s (RunCell text silent store) t u new other g a ample b enough = takes_cell_same s text (is_full s) t u new other g a ample b enough
takes_same s (Undo k) t u new other g a ample b enough =
    takes_move_same s (travel_to aim.Undo k 0) (can_undo s.nodes s.position k) t u new other a ample b enough
takes_same s (Redo k) t u new other g a ample b enough =
    takes_move_same s (travel_to aim.Redo 0 k) (can_redo s.favourites s.position k) t u new other a ample b enough
takes_same s (Goto n) t u new other g a ample b enough = takes_goto_same s n (nat_lt n (length s.nodes)) t u new other a ample b enough

taken_same : (closing : Bool) (s : Past) (r : Request) (t u : Begun) (new other : State) → IsLegal s → TakesUnless closing s r t new → IsAmple t →
    TakesUnless closing s r u other → IsAmple u → (t ≡ u) × (new ≡ other)
taken_same false s r t u new other g a ample b enough = takes_same s r t u new other g a ample b enough
taken_same true s r t u new other g a ample b enough = (a.0 ∙ sym b.0, a.1 ∙ sym b.1)

begins_same : (old : Machine) (job : Open) (queue : List Request) (t u : Begun) (new other : Machine) → IsLegal old.state.past → BeginsAt old job queue t new →
    IsAmple t → BeginsAt old job queue u other → IsAmple u →
    (t ≡ u) × (new ≡ other)
begins_same old Idle [] t u new other g a ample b enough = (a.0 ∙ sym b.0, a.1 ∙ sym b.1)
begins_same old Idle (first ∷ rest) t u new other g a ample b enough =
    let same = taken_same old.closing old.state.past first t u a.0 b.0 g a.1 ample b.1 enough in
    (same.0, a.2 ∙ ap (λ (x : State). record old { state = x; queue = rest; counter = raised old.counter first }) same.1 ∙ sym b.2)
begins_same old (Border travel) queue t u new other g a ample b enough =
    let same = enters_same old.state.past travel t u a.0 b.0 a.1 ample b.1 enough in
    (same.0, a.2 ∙ ap (λ (x : State). record old { state = x }) same.1 ∙ sym b.2)
begins_same old (Inside e) queue t u new other g a ample b enough = (a.0 ∙ sym b.0, a.1 ∙ sym b.1)

begin_same : (old : Machine) (t u : Begun) (new other : Machine) → IsLegal old.state.past → IsBegin old t new → IsAmple t → IsBegin old u other → IsAmple u →
    (t ≡ u) × (new ≡ other)
begin_same old t u new other g a ample b enough =
    let same = begins_same old old.state.job old.queue t u a.0 b.0 g a.1 ample b.1 enough in
    (same.0, a.2 ∙ ap (λ (x : Machine). noted x (end_of_begun t)) same.1 ∙ ap (λ (x : Begun). noted b.0 (end_of_begun x)) same.0 ∙ sym b.2)

-- ---- posts, steps and runs

-- nothing else refuses a post than one thing
pub refusal_same : (m : Machine) (f g : PostFault) → IsRefusal m f → IsRefusal m g → f ≡ g
refusal_same m Closing Closing a b = refl
refusal_same m MinutesFull MinutesFull a b = refl
refusal_same m QueueFull QueueFull a b = refl
refusal_same m NoRoom NoRoom a b = refl
refusal_same m Closing MinutesFull a b = absurd (let e = sym a ∙ b.0 in cc)
refusal_same m Closing QueueFull a b = absurd (let e = sym a ∙ b.0 in cc)
refusal_same m Closing NoRoom a b = absurd (let e = sym a ∙ b.serves in cc)
refusal_same m MinutesFull Closing a b = absurd (let e = sym b ∙ a.0 in cc)
refusal_same m QueueFull Closing a b = absurd (let e = sym b ∙ a.0 in cc)
refusal_same m NoRoom Closing a b = absurd (let e = sym b ∙ a.serves in cc)
refusal_same m MinutesFull QueueFull a b = absurd (a.1 b.1)
refusal_same m MinutesFull NoRoom a b = absurd (a.1 b.places)
refusal_same m QueueFull MinutesFull a b = absurd (b.1 a.1)
refusal_same m NoRoom MinutesFull a b = absurd (b.1 a.places)
refusal_same m QueueFull NoRoom a b = absurd (let l = a.2 in let h = b.room in omega arith)
refusal_same m NoRoom QueueFull a b = absurd (let l = b.2 in let h = a.room in omega arith)

pub post_same : (old : Machine) (lane : ℕ) (r : Request) (t u : Result ℕ PostFault) (new other : Machine) → IsPost old lane r t new → (t ≡ Err NoRoom → ⊥) →
    IsPost old lane r u other → (u ≡ Err NoRoom → ⊥) → (t ≡ u) × (new ≡ other)
post_same old lane r (Ok n) (Ok i) new other a ample b enough = (ap (λ (k : ℕ). Ok k) (a.1 ∙ sym b.1), a.2 ∙ sym b.2)
post_same old lane r (Err f) (Err g) new other a ample b enough = (ap (λ (x : PostFault). Err x) (refusal_same old f g a.0 b.0), a.1 ∙ sym b.1)
post_same old lane r (Ok n) (Err g) new other a ample b enough = absurd (enough (ap (λ (x : PostFault). Err x) (refusal_same old g NoRoom b.0 a.0)))
post_same old lane r (Err f) (Ok i) new other a ample b enough = absurd (ample (ap (λ (x : PostFault). Err x) (refusal_same old f NoRoom a.0 b.0)))

pub step_is_determined : StepIsDetermined
step_is_determined old new other (event.Post lane posted) (told.Post t) (told.Post u) g a ample b enough =
    let same = post_same old lane (request_of posted) t u new other a ample b enough in
    (ap (λ (x : Result ℕ PostFault). told.Post x) same.0, same.1)
step_is_determined old new other event.Begin (told.Begin t) (told.Begin u) g a ample b enough =
    let same = begin_same old t u new other g.legal a ample b enough in
    (ap (λ (x : Begun). told.Begin x) same.0, same.1)
step_is_determined old new other (event.Slice m asked) (told.Slice t) (told.Slice u) g a ample b enough =
    let same = slice_same old.state.past old.state.job m asked t u a.0 b.0 a.1 b.1 in (
      ap (λ (x : Sliced). told.Slice x) same.0,
      a.2 ∙ ap (λ (x : State). noted (record old { state = x }) (end_of_sliced t)) same.1
          ∙ ap (λ (x : Sliced). noted (record old { state = b.0 }) (end_of_sliced x)) same.0 ∙ sym b.2,
    )
step_is_determined old new other event.Shut told.Shut told.Shut g a ample b enough = (refl, a ∙ sym b)
step_is_determined old new other (event.Post lane posted) (told.Post t) u g a ample b enough = absurd b
step_is_determined old new other event.Begin (told.Begin t) u g a ample b enough = absurd b
step_is_determined old new other (event.Slice m asked) (told.Slice t) u g a ample b enough = absurd b
step_is_determined old new other event.Shut told.Shut u g a ample b enough = absurd b
step_is_determined old new other e t u g a ample b enough = absurd a

pub run_is_determined : RunIsDetermined
run_is_determined old new other [] [] [] g r a q b = (refl, r ∙ sym q)
run_is_determined old new other [] (t ∷ answers) others g r a q b = absurd r
run_is_determined old new other [] [] (u ∷ others) g r a q b = absurd q
run_is_determined old new other (e ∷ events) [] others g r a q b = absurd r
run_is_determined old new other (e ∷ events) (t ∷ answers) [] g r a q b = absurd q
run_is_determined old new other (e ∷ events) (t ∷ answers) (u ∷ others) g r a q b =
    let one = step_is_determined old r.0 q.0 e t u g r.1 a.0 q.1 b.0 in
    let rest = run_is_determined r.0 new other events answers others (step_legal old e t r.0 g r.1) r.2 a.1
    (subst (λ (m : Machine). Run m events others other) (sym one.1) q.2) b.1 in
    (ap (λ (x : Told). x ∷ answers) one.0 ∙ ap (λ (xs : List Told). u ∷ xs) rest.0, rest.1)

-- ---- the shown world

pub one_world_is_shown : OneWorldIsShown
one_world_is_shown s v w a b = at s.job a b
  where
    at : (job : Open) → ShownAt s.past job v → ShownAt s.past job w → v ≡ w
    at Idle a b = a ∙ sym b
    at (Border travel) a b = a ∙ sym b
    at (Inside e) a b = part_same (code_of s.past e.work) (here s.past) e.count v w a b
