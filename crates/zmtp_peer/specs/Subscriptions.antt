-- The subscriptions of a peer: how often it has subscribed to each prefix, less how often it took that back.
use Rattle.std.specs.Prelude.{◌≡◌, ℕ, ◌+◌, ◌-◌, ◌<◌, ◌⊎◌, List, [], ◌∷◌, ◌++◌, Option, Some, unwrap_or, is_some, Bool, true, false, ◌^◌, if◌then◌else◌}
use Rattle.std.specs.List.{list_any}
use Rattle.std.specs.Map.{lookup}
use Rattle.std.specs.Str.{bytes_eq}
use Rattle.zmtp_peer.specs.declared.event.PeerEvent.{PeerEvent}
use Rattle.zmtp_peer.specs.declared.role.Role.{Role}
use Rattle.zmtp_peer.specs.declared.brought.Brought as code
use Rattle.zmtp_peer.specs.Events.{Event, Ready, Message, Subscribe, Cancel, Ping, event_of}
use Rattle.zmtp_peer.specs.Brought.{brought_of, brought_told}

-- how often a prefix is subscribed to behind an event, where it was n times before
abbrev pub counted : List ℕ → ℕ → Event → ℕ
counted prefix n (Subscribe p) = if bytes_eq prefix p then n + 1 else n
counted prefix n (Cancel p) = if bytes_eq prefix p then n - 1 else n
counted prefix n Ready = n
counted prefix n (Message frames) = n
counted prefix n (Ping context) = n

-- the same behind events
abbrev pub counted_all : List ℕ → ℕ → List Event → ℕ
counted_all prefix n [] = n
counted_all prefix n (e ∷ es) = counted_all prefix (counted prefix n e) es

-- how often a prefix is subscribed to behind the events of a connection
abbrev pub subscriptions : List Event → List ℕ → ℕ
subscriptions es prefix = counted_all prefix 0 es

-- a subscribed prefix stands at the front of the topic
abbrev pub IsWanted : List Event → List ℕ → Type 0
IsWanted es topic = (prefix : List ℕ) × (rest : List ℕ) × (topic ≡ prefix ++ rest) × (0 < subscriptions es prefix)

-- the place of a prefix in a table of counts, if it has one
abbrev pub place_of : List (List ℕ × ℕ) → List ℕ → Option ℕ
place_of table prefix = lookup (bytes_eq prefix) table

-- how often a prefix is counted in a table
abbrev pub count_in : List (List ℕ × ℕ) → List ℕ → ℕ
count_in table prefix = unwrap_or (place_of table prefix) 0

-- a prefix that is counted stands at the front of the topic
abbrev pub HasWanted : List (List ℕ × ℕ) → List ℕ → Type 0
HasWanted table topic = (prefix : List ℕ) × (rest : List ℕ) × (topic ≡ prefix ++ rest) × (0 < count_in table prefix)

-- A subscription has a place in the table, and can be counted n more times.
abbrev pub IsRoomFor : ℕ → List (List ℕ × ℕ) → Event → Type 0
IsRoomFor n table (Subscribe prefix) = (is_some (place_of table prefix) ≡ true) × (count_in table prefix + n < 2 ^ 64)
IsRoomFor n table (Cancel prefix) = Unit {0}
IsRoomFor n table Ready = Unit {0}
IsRoomFor n table (Message frames) = Unit {0}
IsRoomFor n table (Ping context) = Unit {0}

-- each subscription among the events has one
abbrev pub HasRoom : ℕ → List (List ℕ × ℕ) → List Event → Type 0
HasRoom n table [] = Unit {0}
HasRoom n table (e ∷ es) = IsRoomFor n table e × HasRoom n table es

-- ---- places at which nothing is counted

abbrev pub IsIdle : List (List ℕ × ℕ) → List ℕ → Type 0
IsIdle table prefix = place_of table prefix ≡ Some 0

-- there are none, so the table has a place for each subscription and no more
abbrev pub IsTidy : List (List ℕ × ℕ) → Type 0
IsTidy table = (prefix : List ℕ) → ¬ (IsIdle table prefix)

-- new ones are those of these prefixes alone
abbrev pub AddsIdle : (List ℕ → Bool) → List (List ℕ × ℕ) → List (List ℕ × ℕ) → Type 0
AddsIdle among old new = (prefix : List ℕ) → IsIdle new prefix → IsIdle old prefix ⊎ (among prefix ≡ true)

-- there are no new ones, and those of these prefixes are given up
abbrev pub DropsIdle : (List ℕ → Bool) → List (List ℕ × ℕ) → List (List ℕ × ℕ) → Type 0
DropsIdle among old new = (prefix : List ℕ) → IsIdle new prefix → IsIdle old prefix × (among prefix ≡ false)

-- an event subscribes to a prefix
abbrev pub subscribes : List ℕ → Event → Bool
subscribes prefix (Subscribe p) = bytes_eq prefix p
subscribes prefix (Cancel p) = false
subscribes prefix Ready = false
subscribes prefix (Message frames) = false
subscribes prefix (Ping context) = false

-- an event subscribes to a prefix, or takes that back
abbrev pub names : List ℕ → Event → Bool
names prefix (Subscribe p) = bytes_eq prefix p
names prefix (Cancel p) = bytes_eq prefix p
names prefix Ready = false
names prefix (Message frames) = false
names prefix (Ping context) = false

-- one of the events does
abbrev pub is_named : List PeerEvent → List ℕ → Bool
is_named events prefix = list_any (λ event. names prefix (event_of event)) events

-- a message or a command subscribes to a prefix
abbrev pub asks : Role → code.Brought → List ℕ → Bool
asks role item prefix = list_any (subscribes prefix) (brought_told role (brought_of item))

-- one of them does
abbrev pub is_asked : Role → List code.Brought → List ℕ → Bool
is_asked role items prefix = list_any (λ item. asks role item prefix) items
