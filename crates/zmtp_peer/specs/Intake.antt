-- What the frames of a piece have brought.
use Rattle.std.specs.Prelude.{◌≡◌, ℕ, ◌≤◌, ◌+◌, ◌*◌, max, vec_len, vec_capacity, false, List, [], ◌∷◌, ◌++◌, length, map, take, if◌then◌else◌, ◌⊎◌}
use Rattle.std.specs.List.{flat_map}
use Rattle.zmtp_wire.specs.declared.fault.WireFault.{WireFault}
use Rattle.zmtp_wire.specs.Frame.{Frame}
use Rattle.zmtp_wire.specs.Stream.{Rest, Leaves, IsPartial, IsFaultAt}
use Rattle.zmtp_peer.specs.declared.role.Role.{Role}
use Rattle.zmtp_peer.specs.declared.terms.Terms.{Terms}
use Rattle.zmtp_peer.specs.declared.intake.Stage.{Stage}
use Rattle.zmtp_peer.specs.declared.intake.Stage.TheVariants as stage
use Rattle.zmtp_peer.specs.declared.intake.Intake.{Intake}
use Rattle.zmtp_peer.specs.Faults.{Wire, fault_of}
use Rattle.zmtp_peer.specs.Events.{Event, Ready, State, Opening, Open, Refused, bodies, after, told}
use Rattle.zmtp_peer.specs.Brought.{Brought, brought_of, brought_told, first_of}

-- the state at a stage, with these frames held
abbrev pub state_at : Stage → List (List ℕ) → State
state_at stage.Opening held = Opening
state_at stage.Open held = Open held
state_at (stage.Refused fault) held = Refused (fault_of fault)

abbrev pub state_of : Intake → State
state_of intake = state_at intake.stage (bodies intake.held.items)

-- the messages that became whole, and the events of commands, in their order
abbrev pub brought_in : Intake → List Brought
brought_in intake = map brought_of intake.brought.items

-- what was brought is told as these events
abbrev pub told_by : Role → Intake → List Event
told_by role intake = (if intake.ready then Ready ∷ [] else []) ++ flat_map (brought_told role) (brought_in intake)

abbrev pub front_of : Intake → List (List ℕ)
front_of intake = first_of (brought_in intake) (bodies intake.held.items)

-- a list still begins as another did
abbrev pub Keeps : List (List ℕ) → List (List ℕ) → Type 0
Keeps old new = (n : ℕ) → n ≤ length old → (n ≤ length new) × (take n new ≡ take n old)

-- before READY nothing else was brought
abbrev pub IsFreshAt : Stage → Intake → Type 0
IsFreshAt stage.Opening intake = (bodies intake.held.items ≡ []) × (brought_in intake ≡ []) × (intake.ready ≡ false)
IsFreshAt stage.Open intake = Unit {0}
IsFreshAt (stage.Refused fault) intake = Unit {0}

abbrev pub IsFresh : Intake → Type 0
IsFresh intake = IsFreshAt intake.stage intake

-- At most n messages and events were brought, and at most n frames are held on top; there is memory for what there was, or for
-- twice the frames.
pub record GrowsBy (n : ℕ) (old new : Intake) : Type 0 where
  pub brought : vec_len new.brought ≤ vec_len old.brought + n
  pub held : vec_len new.held ≤ vec_len old.held + n
  pub room : vec_capacity new.held ≤ max (vec_capacity old.held) (2 * (vec_len old.held + n))

-- whether a state is a refusal
abbrev pub IsRefusal : State → Type 0
IsRefusal Opening = ⊥
IsRefusal (Open held) = ⊥
IsRefusal (Refused fault) = Unit {0}

-- how frames end: the rest is less than a whole one, or the frames refuse the peer, or the rest has a fault
abbrev pub EndsFrames : State → State → Rest → Type 0
EndsFrames behind state rest =
    (IsPartial rest × (state ≡ behind) × (¬ (IsRefusal state)))
    ⊎ (((state ≡ behind) × IsRefusal state)
    ⊎ ((fault : WireFault) × IsFaultAt rest fault × (¬ (IsRefusal behind)) × (state ≡ Refused (Wire fault))))

-- the frames at the front of the old rest are taken, up to the new rest, and what they bring is added
pub record TakesFrames (terms : Terms) (rest : Rest) (old : Intake) (behind : Rest) (new : Intake) : Type 0 where
  pub frames : List Frame
  pub left : Leaves rest frames behind
  pub events : told_by terms.role new ≡ told_by terms.role old ++ told terms (state_of old) frames
  pub ends : EndsFrames (after terms (state_of old) frames) (state_of new) behind
