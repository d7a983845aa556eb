-- What frames bring one behind another: messages that became whole, and events of commands that came between them or within one.
use Rattle.std.specs.Prelude.{ℕ, List, [], ◌∷◌}
use Rattle.zmtp_peer.specs.declared.role.Role.{Role}
use Rattle.zmtp_peer.specs.declared.brought.Brought as code
use Rattle.zmtp_peer.specs.declared.brought.Brought.TheVariants as variant
use Rattle.zmtp_peer.specs.Events.{Event, bodies, event_of, message_told}

pub data Brought : Type 0 where
  Whole : List (List ℕ) → Brought
  OfCommand : Event → Brought

abbrev pub brought_of : code.Brought → Brought
brought_of (variant.Message frames) = Whole (bodies frames.items)
brought_of (variant.Event event) = OfCommand (event_of event)

-- what it is told as, to each role
abbrev pub brought_told : Role → Brought → List Event
brought_told role (Whole frames) = message_told role frames
brought_told role (OfCommand event) = event ∷ []

-- the message that goes on with what was held before: the first that became whole, or else the one that isn't yet
abbrev pub first_of : List Brought → List (List ℕ) → List (List ℕ)
first_of [] held = held
first_of (Whole message ∷ others) held = message
first_of (OfCommand event ∷ others) held = first_of others held
