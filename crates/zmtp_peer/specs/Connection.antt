-- The stream behind the greeting, and what one piece of it brings.
use Rattle.std.specs.Prelude.{◌≡◌, ℕ, List, [], vec_capacity}
use Rattle.zmtp_wire.specs.Frame.{Frame}
use Rattle.zmtp_wire.specs.Stream.{Rest, Leaves}
use Rattle.zmtp_peer.specs.declared.terms.Terms.{Terms}
use Rattle.zmtp_peer.specs.declared.intake.Stage.{Stage}
use Rattle.zmtp_peer.specs.declared.intake.Stage.TheVariants as stage
use Rattle.zmtp_peer.specs.declared.connection.Connection.{Connection}
use Rattle.zmtp_peer.specs.Events.{Event, State, bodies, after, told}
use Rattle.zmtp_peer.specs.Intake.{EndsFrames, state_at}
use Rattle.zmtp_peer.specs.Subscriptions.{IsTidy}
use Rattle.zmtp_peer.specs.Reading.{Room, GivesBack}

-- the frames at the front of the rest are taken, and these are the events that they tell
pub record ReadsPiece (terms : Terms) (rest : Rest) (old : State) (behind : Rest) (new : State) (events : List Event) : Type 0 where
  pub frames : List Frame
  pub left : Leaves rest frames behind
  pub told : events ≡ told terms old frames
  pub ends : EndsFrames (after terms old frames) new behind

-- before READY no frames are held
abbrev pub IsOpeningEmpty : Stage → List (List ℕ) → Type 0
IsOpeningEmpty stage.Opening held = held ≡ []
IsOpeningEmpty stage.Open held = Unit {0}
IsOpeningEmpty (stage.Refused fault) held = Unit {0}

-- how far a connection is
abbrev pub state_in : Connection → State
state_in connection = state_at connection.intake.stage (bodies connection.intake.held.items)

-- for how much a connection has memory
abbrev pub room_in : Connection → Room
room_in connection = record { octets = connection.decoder.room; frames = vec_capacity connection.intake.held }

-- before READY nothing is held, no prefix has a place but those that are subscribed to, a large memory was given back, and what the last piece
-- brought takes none
abbrev pub IsConnection : Connection → Type 0
IsConnection connection =
    IsOpeningEmpty connection.intake.stage (bodies connection.intake.held.items)
    × IsTidy connection.counts
    × GivesBack connection.decoder.rest connection.decoder.room
    × (vec_capacity connection.intake.brought ≡ 0)

-- nothing of the connection is changed, but memory may be laid out anew
pub record IsUnread (old new : Connection) : Type 0 where
  pub rest : new.decoder.rest ≡ old.decoder.rest
  pub stage : new.intake.stage ≡ old.intake.stage
  pub held : bodies new.intake.held.items ≡ bodies old.intake.held.items
