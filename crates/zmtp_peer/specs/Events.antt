-- What the frames of a peer bring, by role: events are a fold over the frames.
use Rattle.std.specs.Prelude.{ℕ, ◌==◌, ◌&&◌, Bool, true, false, Option, Some, None, List, [], ◌∷◌, ◌++◌, map, codes, if◌then◌else◌}
use Rattle.std.specs.Str.{bytes_eq}
use Rattle.std.specs.declared.alloc.Global.{Global}
use Rattle.std.specs.declared.vec.Vec.{Vec}
use Rattle.zmtp_wire.specs.Frame.{Frame}
use Rattle.zmtp_peer.specs.declared.role.Role.{Role}
use Rattle.zmtp_peer.specs.declared.role.Role.TheVariants.{Router, Pub, Rep, Dealer, Sub}
use Rattle.zmtp_peer.specs.declared.event.PeerEvent.{PeerEvent}
use Rattle.zmtp_peer.specs.declared.event.PeerEvent.TheVariants as code
use Rattle.zmtp_peer.specs.declared.terms.Terms.{Terms}
use Rattle.zmtp_peer.specs.Commands.{command_of, context_of}
use Rattle.zmtp_peer.specs.Faults.{Fault, NotReady, BadPing}
use Rattle.zmtp_peer.specs.Handshake.{error_of, first_refusal}

-- an event, without how its octets lie in memory
pub data Event : Type 0 where
  Ready : Event
  Message : List (List ℕ) → Event
  Subscribe : List ℕ → Event
  Cancel : List ℕ → Event
  Ping : List ℕ → Event

-- the octets of each frame
abbrev pub bodies : List (Vec ℕ Global) → List (List ℕ)
bodies frames = map (λ frame. frame.items) frames

abbrev pub event_of : PeerEvent → Event
event_of code.Ready = Ready
event_of (code.Message frames) = Message (bodies frames.items)
event_of (code.Subscribe prefix) = Subscribe prefix.items
event_of (code.Cancel prefix) = Cancel prefix.items
event_of (code.Ping context) = Ping context.items

abbrev pub events_of : List PeerEvent → List Event
events_of events = map event_of events

-- a frame that subscribes begins with 1, and one that cancels a subscription with 0; the prefix stands behind it
-- (RFC 23, its grammar of `subscribe` and `cancel`)
abbrev pub subscription_told : List ℕ → List Event
subscription_told [] = []
subscription_told (first ∷ prefix) = if first == 1 then Subscribe prefix ∷ [] else (if first == 0 then Cancel prefix ∷ [] else [])

-- what a message tells one that publishes: only a message of one frame can subscribe
abbrev pub told_to_publisher : List (List ℕ) → List Event
told_to_publisher [] = []
told_to_publisher (frame ∷ []) = subscription_told frame
told_to_publisher (frame ∷ other ∷ frames) = []

-- what a message tells each role
abbrev pub message_told : Role → List (List ℕ) → List Event
message_told Pub frames = told_to_publisher frames
message_told Router frames = Message frames ∷ []
message_told Rep frames = Message frames ∷ []
message_told Dealer frames = Message frames ∷ []
message_told Sub frames = Message frames ∷ []

-- what a command behind READY is: passed over, told as an event, or the end of the connection
pub data Later : Type 0 where
  Passed : Later
  Telling : Event → Later
  Refusal : Fault → Later

abbrev pub publishes : Role → Bool
publishes Pub = true
publishes Router = false
publishes Rep = false
publishes Dealer = false
publishes Sub = false

-- a PING is told with its context, if its data is of a length that it may have
unfoldable pub ping_told : List ℕ → Later
ping_told octets = elim (context_of octets) [ None ↦ Refusal BadPing | Some context ↦ Telling (Ping context) ]

-- what the commands of ZMTP 3.1 are told as, by name and data: PING to each role, SUBSCRIBE and CANCEL to one that publishes (RFC 37)
abbrev pub newer_told : Role → List ℕ → List ℕ → Later
newer_told role name octets =
    if bytes_eq name (codes "PING") then ping_told octets
    else if publishes role && bytes_eq name (codes "SUBSCRIBE") then Telling (Subscribe octets)
    else if publishes role && bytes_eq name (codes "CANCEL") then Telling (Cancel octets)
    else Passed

-- what a command behind READY is; one of ZMTP 3.1 is passed over where the partner speaks an older version
unfoldable pub behind_ready : Terms → List ℕ → Later
behind_ready terms body = elim (command_of body) [
  | None ↦ Passed
  | Some command ↦
      (if bytes_eq command.0 (codes "ERROR") then Refusal (error_of command.1)
      else if terms.newer then newer_told terms.role command.0 command.1
      else Passed)
]

-- how far a connection is: before READY; behind it, with the frames of a message that isn't whole yet; or refused
pub data State : Type 0 where
  Opening : State
  Open : List (List ℕ) → State
  Refused : Fault → State

-- refused, if there is a reason to, or else the state
abbrev pub unless : Option Fault → State → State
unless None state = state
unless (Some fault) state = Refused fault

-- the state behind a command, where these frames are held: a command between the frames of a message leaves them
abbrev pub after_later : List (List ℕ) → Later → State
after_later held Passed = Open held
after_later held (Telling event) = Open held
after_later held (Refusal fault) = Refused fault

-- the state behind one more frame
abbrev pub after_frame : Terms → State → Frame → State
after_frame terms Opening f = if f.command then unless (first_refusal terms.role f.body) (Open []) else Refused NotReady
after_frame terms (Open held) f =
    if f.command then after_later held (behind_ready terms f.body)
    else (if f.more then Open (held ++ f.body ∷ []) else Open [])
after_frame terms (Refused fault) f = Refused fault

-- READY, unless it is refused
abbrev pub ready_told : Option Fault → List Event
ready_told None = Ready ∷ []
ready_told (Some fault) = []

-- the event of a command
abbrev pub later_told : Later → List Event
later_told Passed = []
later_told (Telling event) = event ∷ []
later_told (Refusal fault) = []

-- what one more frame tells
abbrev pub frame_told : Terms → State → Frame → List Event
frame_told terms Opening f = if f.command then ready_told (first_refusal terms.role f.body) else []
frame_told terms (Open held) f =
    if f.command then later_told (behind_ready terms f.body)
    else (if f.more then [] else message_told terms.role (held ++ f.body ∷ []))
frame_told terms (Refused fault) f = []

-- the state behind frames
abbrev pub after : Terms → State → List Frame → State
after terms state [] = state
after terms state (f ∷ fs) = after terms (after_frame terms state f) fs

-- what frames tell, in their order
abbrev pub told : Terms → State → List Frame → List Event
told terms state [] = []
told terms state (f ∷ fs) = frame_told terms state f ++ told terms (after_frame terms state f) fs
