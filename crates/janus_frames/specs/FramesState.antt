-- What frames of cells hold: the names in sight with their values, and the open calls around them.
use Rattle.std.specs.Prelude.{◌≡◌, ◌+◌, ℕ, List, [], refl}
use Rattle.std.specs.Coded.{Coded, code_by, coded×, coded_list, coded_ℕ}
use Rattle.janus_meaning.specs.Codes.{store_code}
use Rattle.janus_meaning.specs.Store.{Store, Bare, cleared, held_in}
use Rattle.janus_meaning.specs.World.{size_of, stacks_in}
use Rattle.janus_frames.specs.Calls.{Caller, caller_code, names_lent, stacks_lent, values_lent}

pub record FramesState : Type 0 where
  -- the slots in sight, the newest on top
  pub slots : Store
  -- the open calls, the innermost first
  pub callers : List Caller
  -- for how many names the memory was taken
  pub room : ℕ
  -- from which cell on all are for results: those before it, of callers and in sight, are for names
  pub results : ℕ
  -- how often values were written
  pub writes : ℕ

-- no names, with room for so many
abbrev pub no_frames : ℕ → FramesState
no_frames n = record { slots = Bare; callers = []; room = n; results = 0; writes = 0 }

-- how many names there are
abbrev pub names_there : FramesState → ℕ
names_there h = size_of h.slots + names_lent h.callers

-- how many stacks live: one that is lent counts once, where it is in no lent slot
abbrev pub stacks_there : FramesState → ℕ
stacks_there h = stacks_in h.slots + stacks_lent h.callers

-- how many values all live stacks hold together
abbrev pub values_there : FramesState → ℕ
values_there h = held_in h.slots + values_lent h.callers

-- other names are in sight, in the same calls
abbrev pub with_names : Store → FramesState → FramesState
with_names s h = record h { slots = s }

-- all but the values and the count of writes stays
pub record HasShape (old new : FramesState) : Type 0 where
  pub slots : cleared new.slots ≡ cleared old.slots
  pub callers : new.callers ≡ old.callers
  pub room : new.room ≡ old.room

abbrev pub frames_code : Coded FramesState
frames_code =
    code_by (Store × (List Caller × (ℕ × (ℕ × ℕ)))) (coded× store_code (coded× (coded_list caller_code) (coded× coded_ℕ (coded× coded_ℕ coded_ℕ))))
    (λ h. (h.slots, (h.callers, (h.room, (h.results, h.writes)))))
    (λ p. record { slots = p.0; callers = p.1.0; room = p.1.1.0; results = p.1.1.1.0; writes = p.1.1.1.1 }) (λ _. refl)
