-- What all octets of a connection tell, from its first octet on.
use Rattle.std.specs.Prelude.{◌≡◌, ℕ, ◌<◌, ◌≤◌, ◌+◌, ◌*◌, List, [], ◌++◌, length, take, drop, max, ◌⊎◌}
use Rattle.zmtp_wire.specs.declared.decoder.TheConstants.{KEPT_BUFFER_OCTETS}
use Rattle.zmtp_wire.specs.declared.fault.WireFault.{WireFault}
use Rattle.zmtp_wire.specs.declared.greeting.Greeting.{Greeting}
use Rattle.zmtp_wire.specs.Greeting.{IsGreeting, IsGreetingFault}
use Rattle.zmtp_wire.specs.Frame.{Frame}
use Rattle.zmtp_wire.specs.Stream.{Rest, whole, Leaves, IsPartial, IsFaultAt}
use Rattle.zmtp_peer.specs.declared.role.Role.{Role}
use Rattle.zmtp_peer.specs.Terms.{terms_of}
use Rattle.zmtp_peer.specs.Faults.{Fault, Wire}
use Rattle.zmtp_peer.specs.Events.{Event, State, Opening, Open, Refused, after, told}
use Rattle.zmtp_peer.specs.Subscriptions.{subscriptions, count_in}

-- what comes behind the events: more octets are awaited, or the peer is refused
pub data Ending : Type 0 where
  Awaiting : Ending
  Failing : Fault → Ending

-- less than the 64 octets of a greeting tells nothing
pub record IsShort (octets : List ℕ) (events : List Event) (ending : Ending) : Type 0 where
  pub short : length octets < 64
  pub quiet : events ≡ []
  pub awaits : ending ≡ Awaiting

-- the greeting is refused, at its 64th octet
pub record IsUnwelcome (octets : List ℕ) (events : List Event) (ending : Ending) : Type 0 where
  pub complete : 64 ≤ length octets
  pub fault : WireFault
  pub refused : IsGreetingFault (take 64 octets) fault
  pub quiet : events ≡ []
  pub fails : ending ≡ Failing (Wire fault)

-- behind the frames so far: less than a whole frame is left, or a fault
abbrev pub EndsAt : Rest → Ending → Type 0
EndsAt behind ending =
    (IsPartial behind × (ending ≡ Awaiting)) ⊎ ((fault : WireFault) × IsFaultAt behind fault × (ending ≡ Failing (Wire fault)))

-- the same, unless the frames themselves refuse the peer
abbrev pub EndsIn : State → Rest → Ending → Type 0
EndsIn Opening behind ending = EndsAt behind ending
EndsIn (Open held) behind ending = EndsAt behind ending
EndsIn (Refused fault) behind ending = ending ≡ Failing fault

-- behind the greeting stand frames, and the events are those that they tell the role, from a partner of the greeting's version
pub record IsGreeted (role : Role) (octets : List ℕ) (events : List Event) (ending : Ending) : Type 0 where
  pub complete : 64 ≤ length octets
  pub greeting : Greeting
  pub welcome : IsGreeting (take 64 octets) greeting
  pub frames : List Frame
  pub behind : Rest
  pub left : Leaves (whole (drop 64 octets)) frames behind
  pub tells : events ≡ told (terms_of role (take 64 octets)) Opening frames
  pub ends : EndsIn (after (terms_of role (take 64 octets)) Opening frames) behind ending

-- all octets of a connection tell a role these events, and this is behind them
abbrev pub PeerReads : Role → List ℕ → List Event → Ending → Type 0
PeerReads role octets events ending = IsShort octets events ending ⊎ (IsUnwelcome octets events ending ⊎ IsGreeted role octets events ending)

-- for how many octets of the stream there is memory, and for how many frames of a message that isn't whole yet
pub record Room : Type 0 where
  pub octets : ℕ
  pub frames : ℕ

-- what a peer is: its role, the octets of the greeting, how far the connection is, what has come of the next frame, how often
-- each prefix is subscribed to, and for how much there is memory
pub record PeerState : Type 0 where
  pub role : Role
  pub greeting : List ℕ
  pub state : State
  pub rest : Rest
  pub table : List (List ℕ × ℕ)
  pub room : Room

-- where nothing of the stream is left, a large memory was given back: there is some for the octets at most that a decoder keeps
abbrev pub GivesBack : Rest → ℕ → Type 0
GivesBack rest room = rest.octets ≡ [] → room ≤ KEPT_BUFFER_OCTETS

-- how many frames of a message are held
abbrev pub held_in : State → ℕ
held_in Opening = 0
held_in (Open held) = length held
held_in (Refused fault) = 0

-- Behind the octets that were not given before, and the frames that were held, there is memory for what there was, or by
-- their number: for four times the octets, for twice the frames and octets, and for an event an octet and one more.
pub record ReservesFor (octets frames : ℕ) (old new : Room) (events : ℕ) : Type 0 where
  pub stream : new.octets ≤ max old.octets (4 * octets)
  pub held : new.frames ≤ max old.frames (2 * (frames + octets))
  pub told : events ≤ octets + 1

-- that is so behind a piece
abbrev pub Reserves : List ℕ → PeerState → PeerState → ℕ → Type 0
Reserves piece old new events = ReservesFor (length old.rest.octets + length piece) (held_in old.state) old.room new.room events

-- what such a state awaits
abbrev pub ending_of : State → Ending
ending_of Opening = Awaiting
ending_of (Open held) = Awaiting
ending_of (Refused fault) = Failing fault

-- the greeting isn't whole yet, and is kept
pub record IsGreetingBegun (octets : List ℕ) (given : List Event) (greeting : List ℕ) (state : State) (rest : Rest) : Type 0 where
  pub short : length octets < 64
  pub kept : greeting ≡ octets
  pub opening : state ≡ Opening
  pub nothing : rest ≡ whole []
  pub quiet : given ≡ []

-- the greeting is whole, and the frames behind it are taken as far as they came
pub record IsStreaming (role : Role) (octets : List ℕ) (given : List Event) (greeting : List ℕ) (state : State) (rest : Rest) : Type 0 where
  pub stream : List ℕ
  pub came : octets ≡ greeting ++ stream
  pub complete : length greeting ≡ 64
  pub of : Greeting
  pub welcome : IsGreeting greeting of
  pub frames : List Frame
  pub left : Leaves (whole stream) frames rest
  pub reached : state ≡ after (terms_of role greeting) Opening frames
  pub tells : given ≡ told (terms_of role greeting) Opening frames

-- what the octets so far leave, where more are awaited
abbrev pub IsAt : Role → List ℕ → List Event → List ℕ → State → Rest → Type 0
IsAt role octets given greeting (Refused fault) rest = Unit {0}
IsAt role octets given greeting Opening rest = IsGreetingBegun octets given greeting Opening rest ⊎ IsStreaming role octets given greeting Opening rest
IsAt role octets given greeting (Open held) rest = IsStreaming role octets given greeting (Open held) rest

-- A peer that was fed these octets in all, and gave these events, stands so: the events are all that the octets tell.
pub record Stands (octets : List ℕ) (given : List Event) (s : PeerState) : Type 0 where
  pub reads : PeerReads s.role octets given (ending_of s.state)
  pub leaves : IsAt s.role octets given s.greeting s.state s.rest
  pub counts : (prefix : List ℕ) → count_in s.table prefix ≡ subscriptions given prefix

-- whatever came before: the octets bring these events, and lead from one standing to the other
abbrev pub Brings : PeerState → List ℕ → List Event → PeerState → Type 0
Brings s octets events t =
    (fed : List ℕ) (given : List Event) → Stands fed given s → Stands (fed ++ octets) (given ++ events) t
