-- Notes lead to one machine, whose minutes tell what was posted.
use Rattle.std.proofs.Common.{◌≡◌, ◌∙◌, ℕ, List, [], ◌∷◌, ◌++◌, sym, ap, subst, append_assoc, append-nil}
use mathlib.Core.List.{IsPrefix}
use Rattle.kernel_machine.specs.LegalState.{IsLegalState}
use Rattle.kernel_machine.specs.Request.{Request}
use Rattle.kernel_machine.specs.Minutes as minutes
use Rattle.kernel_machine.specs.Minutes.{Entry}
use Rattle.kernel_machine.specs.Runs.{Machine, new_machine, posted, entries_of, end_of_begun, end_of_sliced}
use Rattle.kernel_machine.specs.declared.events.Event.TheVariants as event
use Rattle.kernel_machine.specs.declared.events.Told.TheVariants as told
use Rattle.kernel_machine.proofs.Posts.{begins_minutes}
use Rattle.kernel_machine.proofs.Stays.{new_is_legal, legal_at, begin_legal, slice_legal}
use Rattle.machine_laws.proofs.Determined.{step_is_determined}
use Rattle.kernel_audit.specs.declared.note.Note.{Note}
use Rattle.kernel_audit.specs.declared.note.Note.TheVariants.{Posted, Shut, Asked, Changed, Began, Cut, Told}
use Rattle.kernel_audit.specs.Course.{GoesBy, Goes}
use Rattle.kernel_audit.proofs.Fronts.{prefix_trans}
use Rattle.hall_laws.specs.OneKernel.{OneKernelStands}
use Rattle.hall_laws.proofs.Begins.{one_begin}

-- ---- minutes only grow

same : (xs ys : List Entry) → ys ≡ xs → IsPrefix xs ys
same xs ys is = ([], append-nil xs ∙ sym is)

grows_by : (note : Note) (old new : Machine) → GoesBy note old new → IsPrefix old.minutes new.minutes
grows_by (Posted wishes) old new (lane, job, number, by) = (minutes.Posted lane job ∷ [], sym (ap (λ (m : Machine). m.minutes) by.2))
grows_by Shut old new by = same old.minutes new.minutes (ap (λ (m : Machine). m.minutes) by)
grows_by Asked old new by = same old.minutes new.minutes (ap (λ (m : Machine). m.minutes) by)
grows_by (Changed comms) old new by = same old.minutes new.minutes (ap (λ (m : Machine). m.minutes) by)
grows_by (Began answer) old new (mid, by, is) =
    let kept : mid.minutes ≡ old.minutes = (begins_minutes old old.state.job old.queue answer mid by).0 in (
      entries_of mid (end_of_begun answer),
      ap (λ (l : List Entry). l ++ entries_of mid (end_of_begun answer)) (sym kept) ∙ sym (ap (λ (m : Machine). m.minutes) is),
    )
grows_by (Cut most is_asked answer) old new (state, by, is) =
    (entries_of (record old { state = state }) (end_of_sliced answer), sym (ap (λ (m : Machine). m.minutes) is))
grows_by (Told done) old new by = same old.minutes new.minutes (ap (λ (m : Machine). m.minutes) by)

grows : (notes : List Note) (old new : Machine) → Goes old notes new → IsPrefix old.minutes new.minutes
grows [] old new by = same old.minutes new.minutes (ap (λ (m : Machine). m.minutes) by)
grows (note ∷ notes) old new by = prefix_trans old.minutes by.0.minutes new.minutes (grows_by note old by.0 by.1) (grows notes by.0 new by.2)

-- ---- so what stands next in them was posted

abbrev head_or : Entry → List Entry → Entry
head_or other [] = other
head_or other (x ∷ xs) = x

abbrev tail_of : List Entry → List Entry
tail_of [] = []
tail_of (x ∷ xs) = xs

next_same : (xs rest others : List Entry) (a b : Entry) → xs ++ a ∷ rest ≡ xs ++ b ∷ others → a ≡ b
next_same [] rest others a b is = ap (head_or a) is
next_same (x ∷ xs) rest others a b is = next_same xs rest others a b (ap tail_of is)

abbrev lane_of : Entry → ℕ
lane_of (minutes.Posted lane job) = lane
lane_of (minutes.Ended number o count node) = 0

abbrev job_of : Request → Entry → Request
job_of other (minutes.Posted lane job) = job
job_of other (minutes.Ended number o count node) = other

one_post : (old k other : Machine) (lane lane' : ℕ) (job job' : Request) → IsPrefix (posted old lane job).minutes k.minutes →
    IsPrefix (posted old lane' job').minutes other.minutes → k.minutes ≡ other.minutes → posted old lane job ≡ posted old lane' job'
one_post old k other lane lane' job job' p q is =
    let a : Entry = minutes.Posted lane job in
    let b : Entry = minutes.Posted lane' job' in
    let all : old.minutes ++ a ∷ p.0 ≡ old.minutes ++ b ∷ q.0 =
    sym (append_assoc old.minutes (a ∷ []) p.0) ∙ p.1 ∙ is ∙ sym q.1 ∙ append_assoc old.minutes (b ∷ []) q.0 in
    let one : a ≡ b = next_same old.minutes p.0 q.0 a b all in
    ap (λ (n : ℕ). posted old n job) (ap lane_of one) ∙ ap (λ (r : Request). posted old lane' r) (ap (job_of job) one)

-- ---- one machine

legal_by : (note : Note) (old new : Machine) → IsLegalState old.state → GoesBy note old new → IsLegalState new.state
legal_by (Posted wishes) old new g (lane, job, number, by) = legal_at old.state new.state (ap (λ (m : Machine). m.state) by.2) g
legal_by Shut old new g by = legal_at old.state new.state (ap (λ (m : Machine). m.state) by) g
legal_by Asked old new g by = legal_at old.state new.state (ap (λ (m : Machine). m.state) by) g
legal_by (Changed comms) old new g by = legal_at old.state new.state (ap (λ (m : Machine). m.state) by) g
legal_by (Began answer) old new g by = begin_legal old answer new g by
legal_by (Cut most is_asked answer) old new g by = slice_legal old most is_asked answer new g by
legal_by (Told done) old new g by = legal_at old.state new.state (ap (λ (m : Machine). m.state) by) g

one_next : (note : Note) (notes : List Note) (old mid mid' k other : Machine) → IsLegalState old.state → GoesBy note old mid → GoesBy note old mid' →
    Goes mid notes k → Goes mid' notes other → k.minutes ≡ other.minutes → mid ≡ mid'
one_next (Posted wishes) notes old mid mid' k other g (lane, job, number, a) (lane', job', number', b) p q is =
    a.2
    ∙ one_post old k other lane lane' job job' (subst (λ (m : Machine). IsPrefix m.minutes k.minutes) a.2 (grows notes mid k p))
    (subst (λ (m : Machine). IsPrefix m.minutes other.minutes) b.2 (grows notes mid' other q)) is
    ∙ sym b.2
one_next Shut notes old mid mid' k other g a b p q is = a ∙ sym b
one_next Asked notes old mid mid' k other g a b p q is = a ∙ sym b
one_next (Changed comms) notes old mid mid' k other g a b p q is = a ∙ sym b
one_next (Began answer) notes old mid mid' k other g a b p q is = one_begin old answer mid mid' a b
one_next (Cut most is_asked answer) notes old mid mid' k other g a b p q is =
    (step_is_determined old mid mid' (event.Slice most is_asked) (told.Slice answer) (told.Slice answer) g a (λ want. want) b (λ want. want)).1
one_next (Told done) notes old mid mid' k other g a b p q is = a ∙ sym b

one_end : (notes : List Note) (old k other : Machine) → IsLegalState old.state → Goes old notes k → Goes old notes other → k.minutes ≡ other.minutes → k ≡ other
one_end [] old k other g a b is = a ∙ sym b
one_end (note ∷ notes) old k other g a b is =
    let one : a.0 ≡ b.0 = one_next note notes old a.0 b.0 k other g a.1 b.1 a.2 b.2 is in
    one_end notes a.0 k other (legal_by note old a.0 g a.1) a.2 (subst (λ (m : Machine). Goes m notes other) (sym one) b.2) is

pub one_kernel_stands : OneKernelStands
one_kernel_stands notes k other a b is = one_end notes new_machine k other new_is_legal.0 a b is
