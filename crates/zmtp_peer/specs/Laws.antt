-- Laws of what octets tell a peer.
use Rattle.std.specs.Prelude.{◌≡◌, ◌≢◌, ℕ, ◌+◌, ◌<◌, ◌≤◌, ◌⊎◌, true, false, All, List, [], ◌∷◌, ◌++◌, length}
use Rattle.std.specs.List.{flat_map}
use Rattle.zmtp_wire.specs.Greeting.{major_in, minor_in}
use Rattle.zmtp_wire.specs.Frame.{Frame, IsFrame, written}
use Rattle.zmtp_wire.specs.Tally.{octet_limit}
use Rattle.zmtp_wire.specs.Pong.{context_limit}
use Rattle.zmtp_wire.specs.Message.{message_octets, IsWithinLimits}
use Rattle.zmtp_wire.specs.Stream.{whole}
use Rattle.zmtp_peer.specs.declared.role.Role.{Role}
use Rattle.zmtp_peer.specs.declared.terms.Terms.{Terms}
use Rattle.zmtp_peer.specs.declared.role.Role.TheVariants.{Pub}
use Rattle.zmtp_peer.specs.Roles.{socket_type_of, is_partner}
use Rattle.zmtp_peer.specs.Faults.{Fault, BadPing}
use Rattle.zmtp_peer.specs.Terms.{is_newer}
use Rattle.zmtp_peer.specs.Events.{Event, Ready, Message, Subscribe, Ping, State, Open, Refused, after, told}
use Rattle.zmtp_peer.specs.Subscriptions.{counted_all}
use Rattle.zmtp_peer.specs.Reading.{Ending, Awaiting, Failing, PeerReads, PeerState, ending_of, Stands, Brings}
use Rattle.zmtp_peer.specs.Opening.{opening_of}
use Rattle.zmtp_peer.specs.Subscribing.{subscription_frame}
use Rattle.zmtp_peer.specs.Pings.{ping}

-- all octets tell a role something
abbrev pub OctetsAreRead : Type 0
OctetsAreRead = (role : Role) (octets : List ℕ) → All (λ octet. octet < 256) octets → (es : List Event) × (e : Ending) × PeerReads role octets es e

-- octets tell a role one list of events, and one ending
abbrev pub OctetsHaveOneReading : Type 0
OctetsHaveOneReading =
    (role : Role) (octets : List ℕ) (es fs : List Event) (e d : Ending) → PeerReads role octets es e → PeerReads role octets fs d → (es ≡ fs) × (e ≡ d)

-- a refusal is the same whatever follows
abbrev pub RefusalsStay : Type 0
RefusalsStay =
    (role : Role) (octets more : List ℕ) (es : List Event) (fault : Fault) → PeerReads role octets es (Failing fault) →
    PeerReads role (octets ++ more) es (Failing fault)

-- pieces are fed one after another, each with the events that it brings
abbrev pub Run : PeerState → List (List ℕ × List Event) → PeerState → Type 0
Run s [] t = t ≡ s
Run s (p ∷ ps) t = (u : PeerState) × Brings s p.0 p.1 u × Run u ps t

-- However the octets were cut, a new peer has told the events of all octets joined, and those alone.
abbrev pub NoCutMatters : Type 0
NoCutMatters =
    (s t : PeerState) (ps : List (List ℕ × List Event)) → Stands [] [] s → Run s ps t
    → PeerReads t.role (flat_map (λ p. p.0) ps) (flat_map (λ p. p.1) ps) (ending_of t.state)

-- what frames tell is told frame by frame, and so are subscriptions event by event
abbrev pub FoldsGoOn : Type 0
FoldsGoOn =
    ((terms : Terms) (s : State) (fs gs : List Frame) → after terms s (fs ++ gs) ≡ after terms (after terms s fs) gs)
    × ((terms : Terms) (s : State) (fs gs : List Frame) → told terms s (fs ++ gs) ≡ told terms s fs ++ told terms (after terms s fs) gs)
    × ((prefix : List ℕ) (n : ℕ) (es fs : List Event) → counted_all prefix n (es ++ fs) ≡ counted_all prefix (counted_all prefix n es) fs)

-- a role that is fed the opening of a partner is told that it is ready, and nothing else
abbrev pub PartnersAreReady : Type 0
PartnersAreReady = (role other : Role) → is_partner role (socket_type_of other) ≡ true → PeerReads role (opening_of other) (Ready ∷ []) Awaiting

-- nothing is told before READY: the first event of a connection is Ready
abbrev pub ReadyComesFirst : Type 0
ReadyComesFirst = (s : PeerState) (fed : List ℕ) (given : List Event) → Stands fed given s → (given ≡ []) ⊎ ((later : List Event) × (given ≡ Ready ∷ later))

-- a peer that was told Ready, and stands between two messages
pub record IsBetweenMessages (s : PeerState) : Type 0 where
  pub ready : s.state ≡ Open []
  pub nothing : s.rest ≡ whole []

-- A message within the limits, as it is written, tells a peer between two messages that message; what follows brings what it
-- brings without it. A publisher is told subscriptions alone.
abbrev pub MessagesAreTold : Type 0
MessagesAreTold =
    (s t : PeerState) (message : List (List ℕ)) (more : List ℕ) (es : List Event)
    → s.role ≢ Pub → IsBetweenMessages s → 0 < length message → IsWithinLimits message
    → Brings s more es t → Brings s (message_octets message ++ more) (Message message ∷ es) t

-- The other way: where a peer between two messages is fed a message within the limits, as it is written, and anything behind it,
-- however cut, that message is the next event that it tells, and the others are those that what follows brings without it.
abbrev pub FedMessagesAreTold : Type 0
FedMessagesAreTold =
    (s t : PeerState) (ps : List (List ℕ × List Event)) (fed : List ℕ) (given : List Event) (message : List (List ℕ)) (more : List ℕ)
    → Stands fed given s → s.role ≢ Pub → t.role ≡ s.role → IsBetweenMessages s → 0 < length message → IsWithinLimits message
    → Run s ps t → flat_map (λ p. p.0) ps ≡ message_octets message ++ more
    → (es : List Event) × (flat_map (λ p. p.1) ps ≡ Message message ∷ es) × Brings s more es t

-- A publisher that is ready and between two messages is told a subscription as it is written, and nothing else: the message by any partner, the
-- command by one of version 3.1 or later.
abbrev pub SubscriptionsAreTold : Type 0
SubscriptionsAreTold =
    (s : PeerState) (fed : List ℕ) (given : List Event) (asks : Terms) (prefix : List ℕ)
    → Stands fed given s → s.role ≡ Pub → IsBetweenMessages s
    → (asks.newer ≡ true → is_newer (major_in s.greeting) (minor_in s.greeting) ≡ true)
    → length (subscription_frame asks prefix).body ≤ octet_limit
    → PeerReads s.role (fed ++ written (subscription_frame asks prefix)) (given ++ Subscribe prefix ∷ []) Awaiting

-- a peer that was told Ready, and stands between two frames: behind a message, or within one of which these frames are held
pub record IsBetweenFrames (s : PeerState) (held : List (List ℕ)) : Type 0 where
  pub ready : s.state ≡ Open held
  pub nothing : s.rest.octets ≡ []

-- A ping of a partner of 3.1 or later, with two octets and a context of 16 at most, tells each role that ping with its context, and what follows brings
-- what it brings without it. A frame may be written in either form.
abbrev pub PingsAreTold : Type 0
PingsAreTold =
    (s t : PeerState) (held : List (List ℕ)) (octets time context more : List ℕ) (es : List Event)
    → IsBetweenFrames s held → is_newer (major_in s.greeting) (minor_in s.greeting) ≡ true
    → length time ≡ 2 → length context ≤ context_limit → IsFrame octets (ping (time ++ context))
    → Brings s more es t → Brings s (octets ++ more) (Ping context ∷ es) t

-- one with shorter or longer data refuses its partner, and tells nothing
abbrev pub BadPingsAreRefused : Type 0
BadPingsAreRefused =
    (s : PeerState) (held : List (List ℕ)) (octets content : List ℕ)
    → IsBetweenFrames s held → is_newer (major_in s.greeting) (minor_in s.greeting) ≡ true
    → (length content < 2) ⊎ (2 + context_limit < length content) → length (ping content).body ≤ octet_limit → IsFrame octets (ping content)
    → Brings s octets [] (record s { state = Refused BadPing })

-- of a partner of an older version a ping with any data is passed over
abbrev pub OldPingsArePassedOver : Type 0
OldPingsArePassedOver =
    (s t : PeerState) (held : List (List ℕ)) (octets content more : List ℕ) (es : List Event)
    → IsBetweenFrames s held → is_newer (major_in s.greeting) (minor_in s.greeting) ≡ false
    → length (ping content).body ≤ octet_limit → IsFrame octets (ping content)
    → Brings s more es t → Brings s (octets ++ more) es t
