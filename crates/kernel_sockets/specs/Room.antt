-- Who makes room where all places of a socket are taken and another connection waits.
use Rattle.std.specs.Prelude.{◌≡◌, ℕ, ◌+◌, ◌-◌, ◌<◌, ◌≤◌, Bool, false, not, ◌&&◌, nat_lt, nat_le, IsTrue, if◌then◌else◌}
use Rattle.std.specs.Prelude.{List, length, slice_get, Option, Some, None}
use Rattle.kernel_sockets.specs.declared.room.Sight.{Sight}
use Rattle.kernel_sockets.specs.declared.room.Stays.{Stays}

-- the class of a connection: 0 its handshake is ahead, 1 it is a stranger that is ready, 2 a message with a valid signature came on it
abbrev pub rank : Sight → ℕ
rank s = if s.is_trusted then 2 else (if s.is_ready then 1 else 0)

-- since when it has been silent: who showed the key since no request is under way and nothing came
abbrev pub since_of : Sight → ℕ
since_of s = if s.is_trusted then s.rested else s.heard

-- how many milliseconds it stays at least from then on
abbrev pub stay_of : Stays → Sight → ℕ
stay_of stays s = if s.is_trusted then stays.owner else (if s.is_ready then stays.stranger else stays.handshake)

-- a request of who showed the key is under way
abbrev pub IsUnderWay : Sight → Type 0
IsUnderWay s = IsTrue s.is_trusted × (s.is_resting ≡ false)

-- it was pinged, had its time to answer, and nothing came since
abbrev pub IsUnanswered : Stays → ℕ → Sight → Type 0
IsUnanswered stays now s = (s.rested < s.pinged) × (s.pinged + stays.answer ≤ now)

-- Who may have to make room: whose time is over, and no request of who showed the key is under way. Who showed the key and answers pings has not answered one.
-- A place that was relieved of its connection has none that counts.
abbrev pub MayLeave : Stays → ℕ → Sight → Type 0
MayLeave stays now s = IsTrue s.is_taken × (s.is_relieved ≡ false) × ¬ IsUnderWay s × (since_of s + stay_of stays s ≤ now)
    × (IsTrue s.is_trusted → IsTrue s.answers_pings → IsUnanswered stays now s)

-- who is pinged before it may have to leave: who showed the key and answers pings, has been silent for its time with no request under way, and was not
-- pinged since
abbrev pub is_to_be_pinged : Stays → ℕ → Sight → Bool
is_to_be_pinged stays now s = s.is_taken && (not s.is_relieved && (s.is_trusted && (s.is_resting && (s.answers_pings
    && (nat_le stays.owner (now - s.rested) && not (nat_lt s.rested s.pinged))))))

-- The first leaves no later than the second: its class is no higher, and in one class it has been silent no shorter.
abbrev pub LeavesFirst : Sight → Sight → Type 0
LeavesFirst s t = (rank s ≤ rank t) × (rank s ≡ rank t → since_of s ≤ since_of t)

-- Among the first places this one makes room: it may have to, and of those who may it leaves first. None makes room where none may have to.
abbrev pub MakesRoomAmong : Stays → ℕ → List Sight → ℕ → Option ℕ → Type 0
MakesRoomAmong stays now sights first None = (k : ℕ) (s : Sight) → k < first → slice_get sights k ≡ Some s → ¬ MayLeave stays now s
MakesRoomAmong stays now sights first (Some place) =
    (one : Sight) × (slice_get sights place ≡ Some one) × MayLeave stays now one
    × ((k : ℕ) (s : Sight) → k < first → slice_get sights k ≡ Some s → MayLeave stays now s → LeavesFirst one s)

-- of all places this one makes room, or none
abbrev pub MakesRoom : Stays → ℕ → List Sight → Option ℕ → Type 0
MakesRoom stays now sights answer = MakesRoomAmong stays now sights (length sights) answer
