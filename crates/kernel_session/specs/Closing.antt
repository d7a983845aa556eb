-- What the end of the input brings: on iopub the broadcasts that the desk keeps, as far as the peer has subscribed to them.
use Rattle.std.specs.Prelude.{◌≡◌, ℕ, ◌⊎◌, List, [], ◌∷◌, ◌++◌}
use Rattle.zmtp_wire.specs.Message.{message_octets}
use Rattle.zmtp_peer.specs.Events.{Event}
use Rattle.zmtp_peer.specs.Subscriptions.{IsWanted}
use Rattle.kernel_board.specs.Frames.{Frames, topic_of}
use Rattle.kernel_session.specs.declared.socket.Socket.{Socket}
use Rattle.kernel_session.specs.declared.socket.Socket.TheVariants.{Shell, Control, Iopub, Stdin, Heartbeat}
use Rattle.kernel_session.specs.Call.{Kept}
use Rattle.kernel_session.specs.Action.{Action, sends, asks}

-- a broadcast goes out where the peer has subscribed to it
abbrev pub IsShown : List Event → Frames → List ℕ → Type 0
IsShown events b octets = (IsWanted events (topic_of b) × (octets ≡ message_octets b)) ⊎ (¬ (IsWanted events (topic_of b)) × (octets ≡ []))

-- each in turn
abbrev pub AreShown : List Event → List Frames → List ℕ → Type 0
AreShown events [] octets = octets ≡ []
AreShown events (b ∷ bs) octets =
    (first : List ℕ) × (rest : List ℕ) × IsShown events b first × AreShown events bs rest × (octets ≡ first ++ rest)

-- the broadcasts that the desk keeps, and those that the peer wants of them
pub record IsFarewell (events : List Event) (actions : List Action) : Type 0 where
  pub kept : List Frames
  pub octets : List ℕ
  pub shown : AreShown events kept octets
  pub brings : actions ≡ asks (Kept kept ∷ []) ++ sends octets

-- the broadcasts that the desk keeps, and those that the peer wants of the first of them
pub record IsFarewellPart (events : List Event) (actions : List Action) : Type 0 where
  pub front : List Frames
  pub later : List Frames
  pub octets : List ℕ
  pub shown : AreShown events front octets
  pub brings : actions ≡ asks (Kept (front ++ later) ∷ []) ++ sends octets

-- what the end of the input brings after these events
abbrev pub Closes : Socket → List Event → List Action → Type 0
Closes Iopub events actions = IsFarewell events actions
Closes Shell events actions = actions ≡ []
Closes Control events actions = actions ≡ []
Closes Stdin events actions = actions ≡ []
Closes Heartbeat events actions = actions ≡ []

-- a beginning of that
abbrev pub ClosesPart : Socket → List Event → List Action → Type 0
ClosesPart Iopub events actions = IsFarewellPart events actions
ClosesPart Shell events actions = actions ≡ []
ClosesPart Control events actions = actions ≡ []
ClosesPart Stdin events actions = actions ≡ []
ClosesPart Heartbeat events actions = actions ≡ []
