-- How the fields of frames are read, and their invariant.
use Rattle.std.specs.Prelude.{◌≡◌, ℕ, ◌+◌, ◌-◌, ◌<◌, ◌≤◌, List, [], ◌∷◌, length, reverse, true, false, vec_capacity}
use Rattle.janus_meaning.specs.Limit.{live_stack_limit}
use Rattle.janus_meaning.specs.Store.{Val, Lent}
use Rattle.janus_memory.specs.Memory.{MemoryState, Plain, val_at, content_at, values_among}
use Rattle.janus_frames.specs.Cells.{stored, has, AreApart, AreBelow, from, IsPresent}
use Rattle.janus_frames.specs.Calls.{Caller, slots_of, names_of}
use Rattle.janus_frames.specs.FramesState.{FramesState, stacks_there, values_there}
use Rattle.janus_frames.specs.Limits.{call_limit}
use Rattle.janus_frames.specs.declared.frames.OpenCall.{OpenCall}
use Rattle.janus_frames.specs.declared.frames.Frames.TheInside.{Inside}

-- the open calls, the innermost first, whose frame begins at b
abbrev pub callers_of : (ℕ → Val) → ℕ → List OpenCall → List Caller
callers_of v b [] = []
callers_of v b (c ∷ cs) = record { args = names_of c.args; store = stored (from v c.base) (b - c.base) } ∷ callers_of v c.base cs

-- frames of cells with these values
abbrev pub state_at : (ℕ → Val) → ℕ → ℕ → List OpenCall → (room results writes : ℕ) → FramesState
state_at v base top calls room results writes = record {
  slots = stored (from v base) (top - base);
  callers = callers_of v base calls;
  room = room;
  results = results;
  writes = writes;
}

-- the frames that stand in a memory up to a place
abbrev pub frames_in : MemoryState → ℕ → List OpenCall → FramesState
frames_in m top calls = state_at (val_at m) m.base top calls m.room m.results m.writes

-- what the fields hold
abbrev pub frames_of : {L : Type 0} → Inside L → FramesState
frames_of a = frames_in a.memory a.top (reverse a.calls.items)

-- in a frame of n cells from b on, just these are lent
pub record AreLent (v : ℕ → Val) (b n : ℕ) (xs : List ℕ) : Type 0 where
  pub below : AreBelow n xs
  pub apart : AreApart xs
  pub lent : (k : ℕ) → k < n → has xs k ≡ true → v (b + k) ≡ Lent
  pub own : (k : ℕ) → k < n → has xs k ≡ false → IsPresent (v (b + k))

-- the frames of open calls stand one behind another in front of b, and the n names inside are as many as the arguments, or more
abbrev pub AreNested : (ℕ → Val) → ℕ → ℕ → List OpenCall → Type 0
AreNested v b n [] = b ≡ 0
AreNested v b n (c ∷ cs) =
    (c.base ≤ b) × (length (slots_of c.args) ≤ n) × AreLent v c.base (b - c.base) (slots_of c.args) × AreNested v c.base (b - c.base) cs

-- the names in sight are not lent, and the frames of the open calls stand in front of them
pub record AreFrames (v : ℕ → Val) (base top : ℕ) (calls : List OpenCall) : Type 0 where
  pub order : base ≤ top
  pub present : (k : ℕ) → k < top - base → IsPresent (v (base + k))
  pub nested : AreNested v base (top - base) calls

-- the stacks that live and the spare ones are all that may be, and so many values are on them
pub record AreCounted (spare many : ℕ) (h : FramesState) : Type 0 where
  pub stacks : spare + stacks_there h ≡ live_stack_limit
  pub values : many ≡ values_there h

-- frames stand in a memory up to a place, and behind it are plain cells alone
pub record AreIn (m : MemoryState) (top : ℕ) (calls : List OpenCall) : Type 0 where
  pub frames : AreFrames (val_at m) m.base top calls
  pub counted : AreCounted m.spare (values_among m.contents) (frames_in m top calls)
  pub above : (p : ℕ) → top ≤ p → content_at m p ≡ Plain
  pub long : top ≤ length m.numbers

-- all but where values stand is as it was
pub record HoldsAlike (old new : MemoryState) : Type 0 where
  pub size : length new.numbers ≡ length old.numbers
  pub base : new.base ≡ old.base
  pub spare : new.spare ≡ old.spare
  pub values : values_among new.contents ≡ values_among old.contents
  pub room : new.room ≡ old.room
  pub writes : new.writes ≡ old.writes

-- the invariant of frames
pub record IsKept {L : Type 0} (a : Inside L) : Type 0 where
  pub inside : AreIn a.memory a.top (reverse a.calls.items)
  pub call_room : call_limit ≤ vec_capacity a.calls
