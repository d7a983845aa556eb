-- A name in sight of frames: where its cell is, and what that has.
use Rattle.std.proofs.Common.{◌≡◌, ℕ, ℤ, ◌+◌, ◌-◌, ◌<◌, List, length, refl, arith}
use Rattle.janus_meaning.specs.Fault.{Fine}
use Rattle.janus_meaning.specs.Store.{Val, Num, Arr, Stk, Lent, look}
use Rattle.janus_meaning.specs.World.{size_of}
use Rattle.janus_slots.specs.Slots.{slot}
use Rattle.janus_memory.specs.Memory.{MemoryState, Content, Plain, HasArray, HasStack, Gone, IsHere, IsBare, val_of, val_at, content_at, number_at}
use Rattle.janus_frames.specs.Cells.{from, IsPresent}
use Rattle.janus_frames.specs.FramesState.{names_there}
use Rattle.janus_frames.specs.Inside.{AreIn, frames_in}
use Rattle.janus_frames.specs.declared.frames.OpenCall.{OpenCall}
use Rattle.janus_frames.proofs.Holding.{names-all}
use Rattle.janus_frames.proofs.Reading.{look-inv, size-stored}

-- ---- what a cell of this value has

pub num-content : (n : ℤ) (c : Content) (x : ℤ) → val_of n c ≡ Num x → (c ≡ Plain) × (n ≡ x)
num-content n Plain x h = (refl, cc)
num-content n (HasArray l) x h = absurd cc
num-content n (HasStack l) x h = absurd cc
num-content n Gone x h = absurd cc

pub arr-content : (n : ℤ) (c : Content) (m : List ℤ) → val_of n c ≡ Arr m → c ≡ HasArray m
arr-content n Plain m h = absurd cc
arr-content n (HasArray l) m h = cc
arr-content n (HasStack l) m h = absurd cc
arr-content n Gone m h = absurd cc

pub stk-content : (n : ℤ) (c : Content) (m : List ℤ) → val_of n c ≡ Stk m → c ≡ HasStack m
stk-content n Plain m h = absurd cc
stk-content n (HasArray l) m h = absurd cc
stk-content n (HasStack l) m h = cc
stk-content n Gone m h = absurd cc

pub lent-bare : (n : ℤ) (c : Content) → val_of n c ≡ Lent → IsBare c
lent-bare n Plain h = tt
lent-bare n (HasArray l) h = absurd cc
lent-bare n (HasStack l) h = absurd cc
lent-bare n Gone h = tt

pub present-here : (n : ℤ) (c : Content) → IsPresent (val_of n c) → IsHere c
present-here n Plain p = tt
present-here n (HasArray l) p = tt
present-here n (HasStack l) p = tt
present-here n Gone p = absurd p

-- ---- names in sight

module _ (m : MemoryState) (top : ℕ) (calls : List OpenCall) (i : AreIn m top calls) where
  -- how many names there are
  pub all-names : names_there (frames_in m top calls) ≡ top
  all-names = names-all (val_at m) m.base top calls i.frames

  pub in-sight : size_of (frames_in m top calls).slots ≡ top - m.base
  in-sight = size-stored (from (val_at m) m.base) (top - m.base)

  module _ (k : ℕ) (u : Val) (e : look (slot k) (frames_in m top calls).slots ≡ Fine u) where
    pub name-low : k < top - m.base
    name-low = (look-inv (from (val_at m) m.base) (top - m.base) k u e).0

    pub name-value : val_at m (m.base + k) ≡ u
    name-value = (look-inv (from (val_at m) m.base) (top - m.base) k u e).1

    pub name-place : m.base + k < top
    name-place = let l = name-low in let o = i.frames.order in omega (arith, l, o)

    pub name-cell : m.base + k < length m.numbers
    name-cell = let l = name-place in let o = i.long in omega (arith, l, o)

  pub number-there : (k : ℕ) (n : ℤ) → look (slot k) (frames_in m top calls).slots ≡ Fine (Num n)
      → (content_at m (m.base + k) ≡ Plain) × (number_at m (m.base + k) ≡ n)
  number-there k n e = num-content (number_at m (m.base + k)) (content_at m (m.base + k)) n (name-value k (Num n) e)

  pub array-there : (k : ℕ) (l : List ℤ) → look (slot k) (frames_in m top calls).slots ≡ Fine (Arr l) → content_at m (m.base + k) ≡ HasArray l
  array-there k l e = arr-content (number_at m (m.base + k)) (content_at m (m.base + k)) l (name-value k (Arr l) e)

  pub stack-there : (k : ℕ) (l : List ℤ) → look (slot k) (frames_in m top calls).slots ≡ Fine (Stk l) → content_at m (m.base + k) ≡ HasStack l
  stack-there k l e = stk-content (number_at m (m.base + k)) (content_at m (m.base + k)) l (name-value k (Stk l) e)
