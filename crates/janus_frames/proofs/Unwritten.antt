-- A run in which nothing was counted, as frames see it.
use Rattle.std.proofs.Common.{◌≡◌, ℕ, ℤ, ◌+◌, ◌-◌, ◌≤◌, List, pos, ap, ◌∙◌, sym, subst, arith}
use Rattle.std.proofs.lemmas.List.{get_or-drop}
use Rattle.janus_memory.specs.Memory.{MemoryState, Content, Plain, HasArray, HasStack, Gone, val_of, val_at, number_at, content_at}
use Rattle.janus_row.specs.Over.{cells_of, others_of}
use Rattle.janus_row.specs.Seen.{AreUnwritten, array_in, stack_in}
use Rattle.janus_frames.specs.Cells.{from}
use Rattle.janus_frames.specs.Inside.{frames_in}
use Rattle.janus_frames.specs.Run.{IsSameValue, KeepsValues}
use Rattle.janus_frames.specs.declared.frames.OpenCall.{OpenCall}
use Rattle.janus_frames.proofs.Reading.{look-inv}

-- cells of the same number, the same elements and the same values of a stack
same-val : (n m : ℤ) (c d : Content) → m ≡ n → array_in d ≡ array_in c → stack_in d ≡ stack_in c → IsSameValue (val_of n c) (val_of m d)
same-val n m Plain Plain e a s = e
same-val n m Plain (HasArray l) e a s = tt
same-val n m Plain (HasStack l) e a s = tt
same-val n m Plain Gone e a s = tt
same-val n m (HasArray l) Plain e a s = tt
same-val n m (HasArray l) (HasArray k) e a s = a
same-val n m (HasArray l) (HasStack k) e a s = tt
same-val n m (HasArray l) Gone e a s = tt
same-val n m (HasStack l) Plain e a s = tt
same-val n m (HasStack l) (HasArray k) e a s = tt
same-val n m (HasStack l) (HasStack k) e a s = s
same-val n m (HasStack l) Gone e a s = tt
same-val n m Gone Plain e a s = tt
same-val n m Gone (HasArray l) e a s = tt
same-val n m Gone (HasStack l) e a s = tt
same-val n m Gone Gone e a s = tt

-- Only cells for names are in sight then, and none of them was written.
pub unwritten-in : (r n : MemoryState) (top u names : ℕ) (calls : List OpenCall) → n.base ≡ r.base → u ≤ names
    → AreUnwritten names (cells_of r) (others_of r) (cells_of n) (others_of n)
    → KeepsValues (frames_in r top calls).slots (frames_in n (n.base + u) calls).slots
unwritten-in r n top u names calls base few x k v w e f =
    let p = look-inv (from (val_at r) r.base) (top - r.base) k v e in
    let q = look-inv (from (val_at n) n.base) (n.base + u - n.base) k w f in
    let number : number_at n (n.base + k) ≡ number_at r (r.base + k) =
    sym (get_or-drop n.base n.numbers k (pos 0)) ∙ x.numbers.numbers k (omega (arith, q.0, few)) ∙ get_or-drop r.base r.numbers k (pos 0) in
    let array : array_in (content_at n (n.base + k)) ≡ array_in (content_at r (r.base + k)) =
    sym (ap array_in (get_or-drop n.base n.contents k Plain)) ∙ x.arrays k ∙ ap array_in (get_or-drop r.base r.contents k Plain) in
    let stack : stack_in (content_at n (n.base + k)) ≡ stack_in (content_at r (r.base + k)) =
    sym (ap stack_in (get_or-drop n.base n.contents k Plain)) ∙ x.stacks k ∙ ap stack_in (get_or-drop r.base r.contents k Plain) in
    subst (IsSameValue v) q.1 (subst (λ v. IsSameValue v (val_at n (n.base + k))) p.1
    (same-val (number_at r (r.base + k)) (number_at n (n.base + k)) (content_at r (r.base + k)) (content_at n (n.base + k)) number array stack))
