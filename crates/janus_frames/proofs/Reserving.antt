-- Frames in a memory that has taken more room.
use Rattle.std.proofs.Common.{ℕ, List}
use Rattle.janus_memory.specs.Memory.{MemoryState}
use Rattle.janus_frames.specs.Inside.{AreIn}
use Rattle.janus_frames.specs.declared.frames.OpenCall.{OpenCall}

pub room-in : (m : MemoryState) (top : ℕ) (calls : List OpenCall) (room : ℕ) → AreIn m top calls → AreIn (record m { room = room }) top calls
room-in m top calls room i = record {
  frames = i.frames;
  counted = record { stacks = i.counted.stacks; values = i.counted.values };
  above = i.above;
  long = i.long;
}

-- or in which other cells are for results
pub told-in : (m : MemoryState) (top : ℕ) (calls : List OpenCall) (results : ℕ) → AreIn m top calls → AreIn (record m { results = results }) top calls
told-in m top calls results i = record {
  frames = i.frames;
  counted = record { stacks = i.counted.stacks; values = i.counted.values };
  above = i.above;
  long = i.long;
}
