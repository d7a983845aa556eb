-- How the fields of a store are read, and their invariant.
use Rattle.std.specs.Prelude.{◌≡◌, ℕ, ◌+◌, ◌≤◌, List, [], ◌∷◌, length}
use Rattle.janus_slots.specs.Numbers.{HaveOneNumber}
use Rattle.janus_meaning.specs.Syntax.{Name}
use Rattle.janus_meaning.specs.World.{size_of}
use Rattle.janus_frames.specs.Calls.{Caller, AreShort, params_bound}
use Rattle.janus_frames.specs.FramesState.{FramesState, names_there}
use Rattle.janus_frames.specs.Limits.{local_limit, call_limit, bound_limit, result_limit}
use Rattle.janus_frames.specs.StoreState.{StoreState, state_of}
use Rattle.janus_frames.specs.declared.store.Store.TheInside.{Inside}

abbrev pub held_of : {L : Type 0} → Inside L → StoreState
held_of a = state_of a.frames.slots a.declared a.texts a.frames.callers a.frames.writes

-- how many names are in sight outside of calls, where n are inside
abbrev pub outer_size : ℕ → List Caller → ℕ
outer_size n [] = n
outer_size n (c ∷ cs) = outer_size (size_of c.store) cs

-- each declared name has a text, of which no two are one; the declared names are among those outside of calls, no more locals are open and
-- parameters bound than may be, and there is room for all that may be
pub record AreHeld (frames : FramesState) (d : ℕ) (ts : List Name) : Type 0 where
  pub one_text : HaveOneNumber ts
  pub many : length ts ≡ d
  pub declared : d ≤ outer_size (size_of frames.slots) frames.callers
  pub few : names_there frames ≤ d + params_bound frames.callers + local_limit
  pub short : AreShort frames.callers
  pub calls : length frames.callers ≤ call_limit
  pub room : d + local_limit + bound_limit + result_limit ≤ frames.room

abbrev pub IsHeld : {L : Type 0} → Inside L → Type 0
IsHeld a = AreHeld a.frames a.declared a.texts
