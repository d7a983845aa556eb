-- How a connection stands behind a piece, by whether there was memory for it.
use Rattle.std.proofs.Common.{◌≡◌, ◌≤◌, ◌*◌, ℕ, sym, ◌∙◌, refl, arith, Result, Ok, Err, OnOk, OnErr, IfOk, is_err, true, false, inl, inr}
use Rattle.std.specs.Prelude.{max}
use Rattle.std.proofs.lemmas.Bool.{false≢true}
use Rattle.zmtp_wire.specs.Stream.{Rest, IsPartial}
use Rattle.zmtp_peer.specs.declared.connection.Connection.{Connection}
use Rattle.zmtp_peer.specs.Events.{State, Opening, Open, Refused, bodies}
use Rattle.zmtp_peer.specs.Intake.{EndsFrames}
use Rattle.zmtp_peer.specs.Connection.{IsUnread}
use Rattle.zmtp_peer.specs.Reading.{Room, ReservesFor}

-- what holds at Ok, and at an error, of a call that was the one or the other
pub at_ok : {T E : Type 0} (P : Type 0) (r : Result T E) → is_err r ≡ false → OnOk r P → P
at_ok P (Ok x) fine p = p
at_ok P (Err e) fine p = absurd (false≢true (sym fine))

pub at_err : {T E : Type 0} (P : Type 0) (r : Result T E) → is_err r ≡ true → OnErr r P → P
at_err P (Ok x) broken p = absurd (false≢true broken)
at_err P (Err e) broken p = p

pub if_ok : {T E : Type 0} (P Q : T → Type 0) (r : Result T E) → ((x : T) → P x → Q x) → IfOk r P → IfOk r Q
if_ok P Q (Ok x) h p = h x p
if_ok P Q (Err e) h p = tt

-- what came is less than a frame
pub ends-partial : (state : State) (rest : Rest) → IsPartial rest → EndsFrames state state rest
ends-partial Opening rest partial = inl (partial, refl, λ refused. refused)
ends-partial (Open held) rest partial = inl (partial, refl, λ refused. refused)
ends-partial (Refused fault) rest partial = inr (inl (refl, tt))

-- nothing was read, where the piece was taken back
pub unread : {T E : Type 0} (r : Result T E) (old new : Connection) (before : Rest) → before ≡ old.decoder.rest
    → OnErr r (new.decoder.rest ≡ before) → OnErr r (new.intake.stage ≡ old.intake.stage) →
    OnErr r (bodies new.intake.held.items ≡ bodies old.intake.held.items) → OnErr r (IsUnread old new)
unread (Ok x) old new before same rest stage held = tt
unread (Err e) old new before same rest stage held = record { rest = rest ∙ same; stage = stage; held = held }

-- what is reserved behind the octets so far is reserved behind those before and the piece
pub reserves-fed : (n m frames : ℕ) (old mid new : Room) (events : ℕ) → n ≡ m → mid.octets ≤ max old.octets (4 * m) → mid.frames ≡ old.frames
    → ReservesFor n frames mid new events → ReservesFor m frames old new events
reserves-fed n m frames old mid new events same room kept r = record {
  stream = omega (arith, same, room, r.stream);
  held = omega (arith, same, kept, r.held);
  told = omega (arith, same, r.told);
}
