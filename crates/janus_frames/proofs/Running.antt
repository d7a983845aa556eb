-- Frames behind a run over the cells of the frame in sight, which left those in front of it.
use Rattle.std.proofs.Common.{◌≡◌, ℕ, ◌+◌, ◌-◌, ◌<◌, ◌≤◌, List, length, ap, ◌∙◌, sym, subst, arith}
use Rattle.janus_memory.specs.Memory.{MemoryState, Plain, val_at, content_at, values_among}
use Rattle.janus_frames.specs.Cells.{IsPresent, from, stored}
use Rattle.janus_frames.specs.Inside.{AreIn, AreCounted, AreNested, frames_in, callers_of}
use Rattle.janus_frames.specs.declared.frames.OpenCall.{OpenCall}
use Rattle.janus_frames.proofs.Holding.{nested-same, callers-same, IsEnough}

-- u names are in sight then, none of which is lent, and behind them are plain cells
module _ (m n : MemoryState) (top u : ℕ) (calls : List OpenCall) (i : AreIn m top calls) (base : n.base ≡ m.base)
    (before : (p : ℕ) → p < m.base → val_at m p ≡ val_at n p) (enough : IsEnough u calls) where
  -- the callers' stores are as they were
  pub ran-callers : (frames_in n (n.base + u) calls).callers ≡ (frames_in m top calls).callers
  ran-callers =
      ap (λ b. callers_of (val_at n) b calls) base
      ∙ sym (callers-same (val_at m) (val_at n) m.base (top - m.base) calls i.frames.nested before)

  -- and the names in sight have the values of their cells
  pub ran-slots : (frames_in n (n.base + u) calls).slots ≡ stored (from (val_at n) m.base) u
  ran-slots =
      ap (stored (from (val_at n) n.base)) (omega arith) ∙ ap (λ b. stored (from (val_at n) b) u) base

  pub ran-in : ((k : ℕ) → k < u → IsPresent (val_at n (n.base + k))) → ((p : ℕ) → n.base + u ≤ p → content_at n p ≡ Plain) → n.base + u ≤ length n.numbers
      → AreCounted n.spare (values_among n.contents) (frames_in n (n.base + u) calls) → AreIn n (n.base + u) calls
  ran-in present above long counted =
      let size : u ≡ n.base + u - n.base = omega arith in
      record {
        frames = record {
          order = omega arith;
          present = λ k l. present k (omega (arith, l));
          nested = subst (λ k. AreNested (val_at n) n.base k calls) size (subst (λ b. AreNested (val_at n) b u calls) (sym base)
              (nested-same (val_at m) (val_at n) m.base (top - m.base) u calls i.frames.nested enough before));
        };
        counted = counted;
        above = above;
        long = long;
      }
