-- What the hall says of a call, as the desk's relation has it.
use Rattle.std.proofs.Common.{◌≡◌, ◌∙◌, ◌⊎◌, ◌≤◌, Bool, true, true≢false, List, Result, Ok, Err, IfOk, IfErr, OnErr, refl, sym, ap, subst, ⊎_elim}
use Rattle.kernel_hall.specs.Runs.{Machine, IsRefusal}
use Rattle.kernel_hall.specs.Course.{IsKernelSeen}
use Rattle.kernel_hall.specs.Minutes.{Entry, posted_in}
use Rattle.kernel_hall.specs.Request.{Request}
use Rattle.kernel_hall.specs.Passes.{PassOf, next_act, HasSeen, HasPosted}
use Rattle.kernel_hall.specs.Ends.{HasEnd}
use Rattle.kernel_hall.specs.Answer.{IsAnswer}
use Rattle.kernel_hall.specs.post.PostFault.{PostFault}
use Rattle.kernel_hall.specs.post.PostFault.TheVariants.{Closing, MinutesFull, QueueFull, Memory}
use Rattle.kernel_hall.specs.Wishes.{WishOf}
use Rattle.kernel_hall.specs.Notes.{has_shutdown, comms_in, IsNotedQuestion, IsNotedChange, IsNotedEnd}
use Rattle.kernel_hall.specs.comm_change.CommChange.{CommChange}
use Rattle.kernel_hall.specs.Refused.{IsRefused}
use Rattle.kernel_hall.proofs.Noted.{shut_stays}
use Rattle.kernel_hall.specs.answer.Ask.{Ask}
use Rattle.kernel_hall.specs.answer.Answer.{Answer}
use Rattle.kernel_hall.specs.answer.HallFault.{HallFault}
use Rattle.kernel_hall.specs.answer.HallFault.TheVariants.{Memory as NoMemory}
use Rattle.kernel_hall.specs.done.Done.{Done}
use Rattle.kernel_session.specs.Question.{question_of, change_of, wishes_of}
use Rattle.kernel_desk.specs.HallDesk.{DeskState, OnlyPass, TellsMade, HasActed, HasNotActed, IsPosted, RefusesBehindShutdown, IsAnswered, IsChanged}

-- a call of the hall leaves the desk with this pass, all else as it was
abbrev pub with_pass : DeskState → PassOf → DeskState
with_pass desk pass = record desk { pass = pass }

-- a kernel that closes refuses as closing
closing : (k : Machine) (fault : PostFault) → k.closing ≡ true → IsRefusal k fault → fault ≡ Closing
closing k Closing shut is = refl
closing k MinutesFull shut is = absurd (true≢false (sym shut ∙ is.0))
closing k QueueFull shut is = absurd (true≢false (sym shut ∙ is.0))
closing k Memory shut is = absurd (true≢false (sym shut ∙ is.serves))

-- so does one that closes where the pass has seen a shutdown
refuses : (old new : PassOf) (fault : PostFault) → has_shutdown old.notes ≡ true → HasSeen old new → IsRefused new fault → fault ≡ Closing
refuses old new fault shut seen r = closing r.0 fault (sym r.3 ∙ shut_stays old.notes new.notes seen.noted shut) r.4

-- what a call of the hall says of a job that is run
pub record IsRun (old : PassOf) (job : Request) (given : List WishOf) (r : Result Done PostFault) (new : PassOf) : Type 0 where
  pub posted : IfOk r (λ done. HasPosted old job given done.number new)
  pub end : IfOk r (λ done. HasEnd new.front done)
  pub made : IfOk r (λ done. TellsMade new.front given done)
  pub noted : IfOk r (λ done. IsNotedEnd old.notes done new.notes)
  pub acts : IfOk r (λ done. new.acts ≡ next_act old.acts)
  pub refused : OnErr r (HasSeen old new)
  pub no_acts : OnErr r (new.acts ≡ old.acts)
  pub refusal : IfErr r (IsRefused new)

posted : (desk : DeskState) (job : Request) (given : List WishOf) (r : Result Done PostFault) (pass : PassOf) → IsRun desk.pass job given r pass
    → IsPosted desk job (wishes_of given) r (with_pass desk pass)
posted desk job given (Ok done) pass h = (given, refl, h.posted, h.end, h.made, h.noted, h.acts)
posted desk job given (Err fault) pass h = (h.refused, h.refusal, h.no_acts)

was_seen : (desk : DeskState) → (desk.was_shut ≡ true → has_shutdown desk.pass.notes ≡ true)
    → (desk.was_shut ≡ true) ⊎ (has_shutdown desk.pass.notes ≡ true) → has_shutdown desk.pass.notes ≡ true
was_seen desk knows shut = ⊎_elim knows (λ seen. seen) shut

behind : (desk : DeskState) (job : Request) (given : List WishOf) (r : Result Done PostFault) (pass : PassOf)
    → (desk.was_shut ≡ true → has_shutdown desk.pass.notes ≡ true) → IsRun desk.pass job given r pass → RefusesBehindShutdown desk r
behind desk job given (Ok done) pass knows h = λ shut. absurd (true≢false (sym (was_seen desk knows shut) ∙ h.posted.serves))
behind desk job given (Err fault) pass knows h = λ shut.
    ap (λ (f : PostFault). Err f) (refuses desk.pass pass fault (was_seen desk knows shut) h.refused h.refusal)

pub is_posted : (desk old : DeskState) (job : Request) (given : List WishOf) (r : Result Done PostFault) (pass : PassOf) → desk ≡ old
    → (desk.was_shut ≡ true → has_shutdown desk.pass.notes ≡ true) → IsRun desk.pass job given r pass
    → IsPosted old job (wishes_of given) r (with_pass desk pass) × RefusesBehindShutdown old r × OnlyPass old (with_pass desk pass)
is_posted desk old job given r pass same knows h =
    subst (λ (d : DeskState). IsPosted d job (wishes_of given) r (with_pass desk pass) × RefusesBehindShutdown d r × OnlyPass d (with_pass desk pass)) same
    (posted desk job given r pass h, behind desk job given r pass knows h, refl)

-- a pass that has posted, or has seen on, still knows of a shutdown
pub still_knows : (was_shut : Bool) (old : PassOf) (job : Request) (given : List WishOf) (r : Result Done PostFault) (new : PassOf)
    → (was_shut ≡ true → has_shutdown old.notes ≡ true) → IsRun old job given r new → was_shut ≡ true → has_shutdown new.notes ≡ true
still_knows was_shut old job given (Ok done) new knows h = λ shut. shut_stays old.notes new.notes h.posted.noted (knows shut)
still_knows was_shut old job given (Err fault) new knows h = λ shut. shut_stays old.notes new.notes h.refused.noted (knows shut)

pub knows_on : (was_shut : Bool) (old new : PassOf) → (was_shut ≡ true → has_shutdown old.notes ≡ true) → HasSeen old new
    → was_shut ≡ true → has_shutdown new.notes ≡ true
knows_on was_shut old new knows seen = λ shut. shut_stays old.notes new.notes seen.noted (knows shut)

answered : (desk : DeskState) (asked : Ask) (r : Result Answer HallFault)
    → IfOk r (λ answer. (k : Machine) × IsKernelSeen desk.pass k × IsAnswer k (comms_in desk.pass.notes) asked answer)
    → desk.pass.posts ≤ posted_in desk.pass.front → IfErr r (λ fault. fault ≡ NoMemory) → IsAnswered (question_of asked) r desk
answered desk asked (Ok answer) (k, seen, is) own memory =
    (asked, refl, k, seen, subst (λ (entries : List Entry). desk.pass.posts ≤ posted_in entries) (sym seen.minutes) own, is)
answered desk asked (Err fault) is own memory = memory

pub is_answered : (desk old : DeskState) (asked : Ask) (r : Result Answer HallFault) (pass : PassOf) → desk ≡ old
    → IfOk r (λ answer. (k : Machine) × IsKernelSeen pass k × IsAnswer k (comms_in pass.notes) asked answer)
    → pass.posts ≤ posted_in pass.front → IfErr r (λ fault. fault ≡ NoMemory) → IsNotedQuestion desk.pass.notes pass.notes → HasSeen desk.pass pass
    → pass.acts ≡ desk.pass.acts
    → IsAnswered (question_of asked) r (with_pass desk pass) × IsNotedQuestion old.pass.notes pass.notes × HasSeen old.pass pass
    × HasNotActed old (with_pass desk pass) × OnlyPass old (with_pass desk pass)
is_answered desk old asked r pass same is own memory noted seen acts =
    subst (λ (d : DeskState). IsAnswered (question_of asked) r (with_pass desk pass) × IsNotedQuestion d.pass.notes pass.notes × HasSeen d.pass pass
    × HasNotActed d (with_pass desk pass) × OnlyPass d (with_pass desk pass)) same
    (answered (with_pass desk pass) asked r is own memory, noted, seen, acts, refl)

pub is_changed : (desk old : DeskState) (asked : CommChange) (r : Result Bool HallFault) (pass : PassOf) → desk ≡ old
    → IsNotedChange desk.pass.notes asked r pass.notes → HasSeen desk.pass pass → pass.acts ≡ next_act desk.pass.acts
    → IsChanged old (change_of asked) r (with_pass desk pass) × HasSeen old.pass pass × HasActed old (with_pass desk pass)
    × OnlyPass old (with_pass desk pass)
is_changed desk old asked r pass same is seen acts =
    subst (λ (d : DeskState). IsChanged d (change_of asked) r (with_pass desk pass) × HasSeen d.pass pass × HasActed d (with_pass desk pass)
    × OnlyPass d (with_pass desk pass)) same
    ((asked, refl, is), seen, acts, refl)

-- the hall is shut for the desk
pub record IsShut (old new : PassOf) : Type 0 where
  pub seen : HasSeen old new
  pub shut : has_shutdown new.notes ≡ true
  pub acts : new.acts ≡ next_act old.acts

pub is_shut : (desk old : DeskState) (pass : PassOf) → desk ≡ old → IsShut desk.pass pass
    → HasSeen old.pass pass × (has_shutdown pass.notes ≡ true) × HasActed old (with_pass desk pass)
    × (record desk { pass = pass; was_shut = true } ≡ record old { pass = pass; was_shut = true })
is_shut desk old pass same h =
    subst (λ (d : DeskState). HasSeen d.pass pass × (has_shutdown pass.notes ≡ true) × HasActed d (with_pass desk pass)
    × (record desk { pass = pass; was_shut = true } ≡ record d { pass = pass; was_shut = true })) same
    (h.seen, h.shut, h.acts, refl)
