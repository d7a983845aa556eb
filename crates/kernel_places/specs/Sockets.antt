-- The rules of the five sockets: how many connections each serves at once, how long they stay where another one waits, and how much a stranger may bring.
use Rattle.std.specs.Prelude.{◌≡◌, ◌≢◌, ℕ, ◌+◌, ◌≤◌, ◌⊎◌, Bool, true, false, if◌then◌else◌}
use Rattle.kernel_desk.specs.socket.Socket.{Socket}
use Rattle.kernel_desk.specs.socket.Socket.TheVariants.{Shell, Control, Iopub, Stdin, Heartbeat}
use Rattle.kernel_sockets.specs.declared.account.Quota.{Quota}
use Rattle.kernel_sockets.specs.declared.account.Quota.TheVariants.{Own, Within, Common}
use Rattle.kernel_sockets.specs.declared.room.Stays.{Stays}
use Rattle.kernel_places.specs.declared.decisions.places.TheConstants.{PLACES, ORPHANS, CALLED_PLACES}
use Rattle.kernel_places.specs.declared.decisions.limits.Limits.{Limits}
use Rattle.kernel_places.specs.declared.decisions.times.Times.{Times}

-- shell has as many places more as orphans may wait there for their cells
abbrev pub places_on : Socket → ℕ
places_on Shell = PLACES + ORPHANS
places_on Control = PLACES
places_on Iopub = PLACES
places_on Stdin = PLACES
places_on Heartbeat = PLACES

-- where the places of a socket begin: those of shell, control, stdin and heartbeat are one behind another in one register, and those of iopub in their own
abbrev pub first_on : Socket → ℕ
first_on Shell = 0
first_on Control = places_on Shell
first_on Stdin = places_on Shell + places_on Control
first_on Heartbeat = places_on Shell + places_on Control + places_on Stdin
first_on Iopub = 0

-- whether the places of a socket stand in the register of subscribers
abbrev pub is_subscribed : Socket → Bool
is_subscribed Shell = false
is_subscribed Control = false
is_subscribed Iopub = true
is_subscribed Stdin = false
is_subscribed Heartbeat = false

-- no place of a register is of two sockets
abbrev pub PlacesAreApart : Type 0
PlacesAreApart = (s t : Socket) → s ≢ t → is_subscribed s ≡ is_subscribed t → (first_on s + places_on s ≤ first_on t) ⊎ (first_on t + places_on t ≤ first_on s)

-- each place is in its register
abbrev pub PlacesAreThere : Type 0
PlacesAreThere = (s : Socket) → first_on s + places_on s ≤ (if is_subscribed s then PLACES else CALLED_PLACES)

-- a signed message shows who has the key
abbrev pub is_signed_on : Socket → Bool
is_signed_on Shell = true
is_signed_on Control = true
is_signed_on Iopub = false
is_signed_on Stdin = false
is_signed_on Heartbeat = false

-- A stranger stays for a moment where it could show the key, and else until it has been silent for long.
abbrev pub stays_on : Socket → Times → Stays
stays_on socket times = record
    { handshake = times.stranger; stranger = if is_signed_on socket then times.stranger else times.silence; owner = times.owner; answer = times.answer }

-- What is sent back on the heartbeat answers all that came, so nobody needs more there than its own. A subscriber needs no more than its prefixes take.
abbrev pub quota_on : Socket → Limits → Quota
quota_on Shell limits = Common
quota_on Control limits = Common
quota_on Iopub limits = Within limits.subscriber
quota_on Stdin limits = Common
quota_on Heartbeat limits = Own
