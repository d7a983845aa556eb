-- What a store holds: the slots in sight with their values, the stores that open calls left behind, and the texts of the declared names.
use Rattle.std.specs.Prelude.{◌≡◌, suc, ◌+◌, ◌<◌, ◌≤◌, ℕ, List, [], ◌∷◌, ◌++◌, length, reverse, refl}
use Rattle.std.specs.Coded.{Coded, code_by, coded×, coded_list, coded_ℕ}
use Rattle.janus_meaning.specs.Limit.{parameter_limit}
use Rattle.janus_meaning.specs.Syntax.{Name}
use Rattle.janus_meaning.specs.Store.{Store, Bare, Slot, Val, cleared, held_in}
use Rattle.janus_meaning.specs.World.{size_of, oldest, stacks_in}
use Rattle.janus_meaning.specs.Codes.{store_code}
use Rattle.janus_slots.specs.Slots.{slot, in_slots, under_names}
use Rattle.janus_frames.specs.Calls.{Caller, caller_code, Enters, Returns, AreAlone, given_back, stacks_lent, values_lent}
use Rattle.janus_frames.specs.Limits.{call_limit}

-- the declared names under their texts with their values, without locals and parameters
abbrev pub shown_of : Store → ℕ → List Name → List Caller → Store
shown_of s d ts cs = under_names (reverse ts) (oldest d (given_back s cs))

pub record StoreState : Type 0 where
  -- the declared names under their texts with their values, the newest on top: between two cells all that is in sight
  pub sight : Store
  -- the slots in sight: outside of calls those of the declared names, in a call its parameters; above them the locals that are open there,
  -- the newest on top
  pub slots : Store
  -- how many names are declared
  pub declared : ℕ
  -- the texts of the declared names, the oldest first
  pub texts : List Name
  -- the open calls, the innermost first
  pub callers : List Caller
  -- how often values were written
  pub writes : ℕ

-- the state of these slots, under whose texts their declared names are seen
abbrev pub state_of : Store → ℕ → List Name → List Caller → ℕ → StoreState
state_of s d ts cs w = record { sight = shown_of s d ts cs; slots = s; declared = d; texts = ts; callers = cs; writes = w }

abbrev pub empty_state : StoreState
empty_state = state_of Bare 0 [] [] 0

-- the declared names in their slots with their values, without locals and parameters
abbrev pub declared_store : StoreState → Store
declared_store h = oldest h.declared (given_back h.slots h.callers)

-- the same under their texts
abbrev pub shown_store : StoreState → Store
shown_store h = under_names (reverse h.texts) (declared_store h)

-- ---- how much is held

-- how many stacks live, declared and local: one that is lent counts once, where it is in no lent slot
abbrev pub live_stacks : StoreState → ℕ
live_stacks h = stacks_in h.slots + stacks_lent h.callers

-- how many values all live stacks hold together, those of the callers too
abbrev pub values_held : StoreState → ℕ
values_held h = held_in h.slots + values_lent h.callers

-- ---- what contracts ask for

-- no local and no call is open, and each declared name stands in its slot
pub record IsWhole (h : StoreState) : Type 0 where
  pub declared : h.declared ≡ size_of h.slots
  pub callers : h.callers ≡ []
  pub slots : in_slots h.slots ≡ h.slots

-- one call more, with `count` parameters, may be open
pub record HasCallRoom (h : StoreState) (count : ℕ) : Type 0 where
  pub calls : length h.callers < call_limit
  pub params : count ≤ parameter_limit

-- no local of the innermost call is open
abbrev pub HasParametersAlone : StoreState → Type 0
HasParametersAlone h = AreAlone h.callers h.slots

-- ---- what calls of the store do

-- one name more is declared, with its first value in the next slot
pub record Declares (old new : StoreState) (x : Name) (v : Val) : Type 0 where
  pub slots : new.slots ≡ Slot (slot old.declared) v old.slots
  pub declared : new.declared ≡ suc old.declared
  pub texts : new.texts ≡ old.texts ++ x ∷ []
  pub callers : new.callers ≡ old.callers
  pub unwritten : new.writes ≡ old.writes

-- all but the values and the count of writes stays
pub record IsLike (old new : StoreState) : Type 0 where
  pub slots : cleared new.slots ≡ cleared old.slots
  pub declared : new.declared ≡ old.declared
  pub texts : new.texts ≡ old.texts
  pub callers : new.callers ≡ old.callers

-- a call is entered: its arguments are moved to its parameters, and nothing is written
pub record IsEntered (args : List Name) (old new : StoreState) : Type 0 where
  pub declared : new.declared ≡ old.declared
  pub texts : new.texts ≡ old.texts
  pub unwritten : new.writes ≡ old.writes
  pub entered : Enters args old.slots old.callers new.slots new.callers

-- the innermost call is left: its parameters' values are moved back, and nothing is written
pub record IsLeft (old new : StoreState) : Type 0 where
  pub declared : new.declared ≡ old.declared
  pub texts : new.texts ≡ old.texts
  pub unwritten : new.writes ≡ old.writes
  pub returned : Returns old.callers old.slots new.slots new.callers

pub held_code : Coded StoreState
held_code =
    code_by (Store × (Store × (ℕ × (List Name × (List Caller × ℕ)))))
    (coded× store_code (coded× store_code (coded× coded_ℕ (coded× (coded_list (coded_list coded_ℕ)) (coded× (coded_list caller_code) coded_ℕ)))))
    (λ h. (h.sight, (h.slots, (h.declared, (h.texts, (h.callers, h.writes))))))
    (λ p. record { sight = p.0; slots = p.1.0; declared = p.1.1.0; texts = p.1.1.1.0; callers = p.1.1.1.1.0; writes = p.1.1.1.1.1 })
    (λ _. refl)
