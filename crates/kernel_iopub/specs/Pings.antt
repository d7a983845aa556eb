-- The pings of a peer that wait for an answer.
use Rattle.std.specs.Prelude.{◌≡◌, ℕ, List, [], ◌∷◌, ◌++◌, length}
use Rattle.std.specs.List.{flat_map}
use Rattle.zmtp_peer.specs.Events.{Event, Ready, Message, Subscribe, Cancel, Ping}
use Rattle.zmtp_peer.specs.Reading.{PeerState, Stands, Brings}

-- the context of an event that is a ping
abbrev pub ping_in : Event → List (List ℕ)
ping_in (Ping context) = context ∷ []
ping_in Ready = []
ping_in (Message frames) = []
ping_in (Subscribe prefix) = []
ping_in (Cancel prefix) = []

-- the contexts of the pings among events, in their order
abbrev pub pings_in : List Event → List (List ℕ)
pings_in events = flat_map ping_in events

-- of all pings the first `taken` were taken, and these are all the others
pub record AreLeft (taken : ℕ) (contexts all : List (List ℕ)) : Type 0 where
  pub front : List (List ℕ)
  pub count : length front ≡ taken
  pub whole : all ≡ front ++ contexts

-- a peer was fed some octets from the first of its connection on; of the pings that they told `taken` were taken, and these are all the others
abbrev pub HasAsked : PeerState → ℕ → List (List ℕ) → Type 0
HasAsked peer taken contexts = ∥ ((octets : List ℕ) × (events : List Event) × Stands octets events peer × AreLeft taken contexts (pings_in events)) ∥₁

-- some peer asked so
abbrev pub WereAsked : ℕ → List (List ℕ) → Type 0
WereAsked taken contexts = (peer : PeerState) × HasAsked peer taken contexts

-- What a piece brings of pings: their contexts stand behind those that waited, in their order, none left out, and their number is told.
pub record BringsPings (old : PeerState) (piece : List ℕ) (new : PeerState) (before after : List (List ℕ)) (told : ℕ) : Type 0 where
  pub events : List Event
  pub brings : Brings old piece events new
  pub waiting : after ≡ before ++ pings_in events
  pub counted : told ≡ length (pings_in events)
