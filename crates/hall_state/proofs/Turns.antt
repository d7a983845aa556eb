-- What a turn writes into the minutes.
use Rattle.std.proofs.Common.{◌≡◌, suc, Bool, true, false, List, [], ◌∷◌, ◌++◌, subst}
use Rattle.kernel_audit.specs.Minutes.{Entry, Ended, ended_in}
use Rattle.kernel_audit.specs.Runs.{Machine, IsBegin}
use Rattle.kernel_audit.specs.outcome.Begun.{Begun}
use Rattle.kernel_audit.proofs.Posts.{begins_minutes}
use Rattle.hall_state.specs.JustEnded.{HasJustEnded, EndsOrWrites}

pub same_minutes : (old : Machine) (answer : Begun) (new : Machine) (b : IsBegin old answer new) → b.0.minutes ≡ old.minutes
same_minutes old answer new b = (begins_minutes old old.state.job old.queue answer b.0 b.1).0

-- where it ends a job, and where it ends none
pub just_ended : (ends : Bool) (before : List Entry) (m : Machine) → ends ≡ true → EndsOrWrites ends before m → HasJustEnded before m
just_ended ends before m is e = subst (λ (b : Bool). EndsOrWrites b before m) is e

pub wrote_one : (ends : Bool) (before : List Entry) (m : Machine) → ends ≡ true → EndsOrWrites ends before m →
    (entry : Entry) × (m.minutes ≡ before ++ entry ∷ [])
wrote_one ends before m is e = let h = just_ended ends before m is e in (Ended (suc (ended_in before)) h.outcome h.count h.node, h.written)

pub wrote_none : (ends : Bool) (before : List Entry) (m : Machine) → ends ≡ false → EndsOrWrites ends before m → m.minutes ≡ before
wrote_none ends before m is e = subst (λ (b : Bool). EndsOrWrites b before m) is e
