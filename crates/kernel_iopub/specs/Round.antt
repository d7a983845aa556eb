-- What goes out to a subscriber: messages of broadcasts that were read from the board, and answers to its pings, each of which the watcher is told.
use Rattle.std.specs.Prelude.{◌≡◌, ℕ, ◌+◌, ◌⊎◌, List, [], ◌∷◌, ◌++◌, length, map, Option, Some, None}
use Rattle.std.specs.List.{flat_map}
use Rattle.zmtp_peer.specs.declared.role.Role.TheVariants.{Pub}
use Rattle.zmtp_peer.specs.Events.{Event}
use Rattle.zmtp_peer.specs.Reading.{PeerState, Stands}
use Rattle.zmtp_peer.specs.Subscriptions.{IsWanted}
use Rattle.kernel_board.specs.Frames.{Frames, topic_of}
use Rattle.kernel_board.specs.Log.{Log, IsLog}
use Rattle.kernel_board.specs.Reads.{IsRead}
use Rattle.kernel_board.specs.declared.log.Place.{Place}
use Rattle.kernel_board.specs.declared.log.Read.{Read}
use Rattle.kernel_board.specs.declared.log.Read.TheVariants.{Got, Lagged}
use Rattle.kernel_iopub.specs.Pings.{WereAsked}
use Rattle.kernel_iopub.specs.Signs.{Sign, Gone, Goes, GoesSome, message_signs, pong_signs}

-- those of the broadcasts to which a peer has subscribed by these events, in their order
abbrev pub AreWanted : List Event → List Frames → List Frames → Type 0
AreWanted events [] kept = kept ≡ []
AreWanted events (b ∷ bs) kept =
    (IsWanted events (topic_of b) × (rest : List Frames) × AreWanted events bs rest × (kept ≡ b ∷ rest))
    ⊎ (¬ (IsWanted events (topic_of b)) × AreWanted events bs kept)

-- a peer was fed some octets: the first of its connection, and those that came behind them
abbrev pub WasFed : PeerState → Type 0
WasFed peer = ∥ ((octets : List ℕ) × (events : List Event) × Stands octets events peer) ∥₁

-- Of some broadcasts these are kept: those to which a publisher's peer had subscribed by all that it was fed, in their order.
pub record IsChosen (broadcasts kept : List Frames) : Type 0 where
  pub peer : PeerState
  pub publishes : peer.role ≡ Pub
  pub was_fed : WasFed peer
  pub wanted : (octets : List ℕ) (events : List Event) → Stands octets events peer → AreWanted events broadcasts kept

-- what a read gave
abbrev pub IsGot : Read → List Frames → ℕ → Type 0
IsGot (Got given place) got next = (given.items ≡ got) × (place.number ≡ next)
IsGot (Lagged oldest) got next = ⊥

-- One read of some board from a place to the next gave broadcasts, and of these the ones are kept that the peer wanted.
pub record IsRound (from next : ℕ) (kept : List Frames) : Type 0 where
  pub board : Log
  pub is_board : IsLog board
  pub read : Read
  pub is_read : IsRead board from read
  pub got : List Frames
  pub gives : IsGot read got next
  pub chosen : IsChosen got kept

-- ---- what goes out of a round

-- one thing that goes out to a subscriber: a broadcast, or the answer to a ping
pub data Outgoing : Type 0 where
  Shown : Frames → Outgoing
  Pong : List ℕ → Outgoing

abbrev pub outgoing_signs : Outgoing → List Sign
outgoing_signs (Shown frames) = message_signs frames
outgoing_signs (Pong context) = pong_signs context

-- These broadcasts in turn. Before each of them go the answers to all pings that some peer had asked by behind and that were not taken before, in their
-- order: `taken` were taken before the first one, and `behind` behind the last.
abbrev pub AreTold : ℕ → List Frames → List Outgoing → ℕ → Type 0
AreTold taken [] out behind = (out ≡ []) × (behind ≡ taken)
AreTold taken (b ∷ bs) out behind =
    (contexts : List (List ℕ)) × (rest : List Outgoing) × WereAsked taken contexts × AreTold (taken + length contexts) bs rest behind
    × (out ≡ map Pong contexts ++ Shown b ∷ rest)

-- they went out so, each whole
abbrev pub AreToldTo : ℕ → Gone → Gone → List Frames → ℕ → Type 0
AreToldTo taken old new bs behind = (out : List Outgoing) × AreTold taken bs out behind × Goes old new (flat_map outgoing_signs out)

-- a beginning of the signs of that, for all of them or for the first ones
abbrev pub AreToldInPart : ℕ → Gone → Gone → List Frames → Type 0
AreToldInPart taken old new bs =
    (front later : List Frames) × (bs ≡ front ++ later)
    × (behind : ℕ) × (out : List Outgoing) × AreTold taken front out behind × GoesSome old new (flat_map outgoing_signs out)

-- what goes out of a round: all that is kept
abbrev pub IsSent : ℕ → Gone → Gone → ℕ → ℕ → ℕ → Type 0
IsSent taken old new from next behind = (kept : List Frames) × IsRound from next kept × AreToldTo taken old new kept behind

-- what goes out of a round that fails: nothing, or a beginning of that
abbrev pub IsSentInPart : ℕ → Gone → Gone → ℕ → Type 0
IsSentInPart taken old new from = Goes old new [] ⊎ ((next : ℕ) × (kept : List Frames) × IsRound from next kept × AreToldInPart taken old new kept)

-- what goes out where pings are answered: the answers to all that some peer had asked and that were not taken before
abbrev pub AreAnswered : ℕ → Gone → Gone → ℕ → Type 0
AreAnswered taken old new behind =
    (contexts : List (List ℕ)) × WereAsked taken contexts × (behind ≡ taken + length contexts) × Goes old new (flat_map pong_signs contexts)

-- where that fails: nothing, or a beginning of that
abbrev pub AreAnsweredInPart : ℕ → Gone → Gone → Type 0
AreAnsweredInPart taken old new =
    Goes old new [] ⊎ ((contexts : List (List ℕ)) × WereAsked taken contexts × GoesSome old new (flat_map pong_signs contexts))

-- ---- all that goes out

-- Turns one after another: rounds, each from the place where the one before ended, and behind them answers to pings. `taken` pings were taken before
-- the first turn, and `behind` behind the last: each turn goes on with the count where the one before ended. Answers go out before messages and behind
-- them, and none within one.
pub data AreTurns : ℕ → Option ℕ → ℕ → List Outgoing → Type 0 where
  none : (taken : ℕ) → AreTurns taken None taken []
  begun : (taken from behind : ℕ) (out : List Outgoing) → AreTurns taken None behind out → AreTurns taken (Some from) behind out
  round : (taken at next so_far behind : ℕ) (out : List Outgoing) (kept : List Frames) (told : List Outgoing)
      → AreTurns taken (Some at) so_far out → IsRound at next kept → AreTold so_far kept told behind → AreTurns taken (Some next) behind (out ++ told)
  pongs : (taken : ℕ) (at : Option ℕ) (so_far : ℕ) (out : List Outgoing) (contexts : List (List ℕ))
      → AreTurns taken at so_far out → WereAsked so_far contexts → AreTurns taken at (so_far + length contexts) (out ++ map Pong contexts)

-- the number of the place behind the last round
abbrev pub number_at : Option Place → Option ℕ
number_at None = None
number_at (Some place) = Some place.number

-- what goes out of all turns so far, whole and in order
abbrev pub AreSentTo : ℕ → Gone → Gone → Option Place → ℕ → Type 0
AreSentTo taken old new at behind = (out : List Outgoing) × AreTurns taken (number_at at) behind out × Goes old new (flat_map outgoing_signs out)

-- WHAT HAS GONE OUT to a subscriber: the messages of all that is kept of rounds, and between them the answers to its pings.
abbrev pub IsServed : ℕ → Gone → Gone → ℕ → Type 0
IsServed taken old new behind = (at : Option Place) × AreSentTo taken old new at behind

-- of the turn behind those nothing went out, or a beginning
abbrev pub IsTurnInPart : ℕ → Gone → Gone → Option Place → Type 0
IsTurnInPart taken old new at =
    AreAnsweredInPart taken old new ⊎ ((from : Place) × (at ≡ Some from) × IsSentInPart taken old new from.number)

-- what has gone out to one where the last turn failed: all turns before it, whole, and nothing of it or a beginning
abbrev pub IsServedInPart : ℕ → Gone → Gone → Type 0
IsServedInPart taken old new =
    (mid : Gone) × (at : Option Place) × (behind : ℕ) × AreSentTo taken old mid at behind × IsTurnInPart behind mid new at
