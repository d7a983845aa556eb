use Rattle.std.proofs.Common.{◌≡◌, ◌≢◌, ◌<◌, ◌+◌, ◌-◌, ℕ, length, get_or, ap, arith, sym, subst, ◌∙◌, below_more}
use Rattle.janus_memory.specs.Memory.{MemoryState, Gone, IsBare, content_at, val_at}
use Rattle.janus_frames.specs.Inside.{HoldsAlike}
use Rattle.janus_frames.proofs.Among.{below-at}
use Rattle.janus_frames.proofs.Moving as moving
use Rattle.janus_frames.proofs.moves.lend.Goals as goal

pub lend-requires-clause-from : goal.lend-requires-clause-from
lend-requires-clause-from g c =
    let b = below-at (c.args.top - c.args.base) c.args.args.now c.loop-i.i c.requires.low (omega arith) in
    omega (arith, b, c.loop-i.invariant.alike.size)

pub lend-requires-clause-apart : goal.lend-requires-clause-apart
lend-requires-clause-apart g c =
    let b = below-at (c.args.top - c.args.base) c.args.args.now c.loop-i.i c.requires.low (omega arith) in
    λ e. omega (arith, b, e)

pub loop-i-preserved : goal.loop-i-preserved
loop-i-preserved g c =
    let i = c.loop-i.i in
    let v = c.loop-i.invariant in
    let xs = c.args.args.now in
    let m = c.loop-i.memory in
    let n = c.lend.new.self in
    let init = c.args.memory.now in
    let base = c.args.base in
    let top = c.args.top in
    let size = v.alike.size in
    let b = below-at (top - base) xs i c.requires.low (omega arith) in
    let from = base + get_or xs i 0 in
    let to = top + (length xs - (i + 1)) in
    let wide = c.law.ensures.contents in
    let l : from < length m.numbers = omega (arith, b, size) in
    let h : to < length m.numbers = omega (arith, size) in
    let d : from ≢ to = λ e. omega (arith, b, e) in
    let bare : IsBare (content_at m to) = subst IsBare (sym (v.free to (omega arith) (omega arith))) tt in
    let at : (p : ℕ) → p ≢ from → p ≢ to → val_at n p ≡ val_at m p =
    λ p f k. ap (λ (n : MemoryState). val_at n p) c.lend.ensures ∙ moving.moved-else Gone m from to wide l h d p f k in
    let beside : (p : ℕ) → p ≢ from → p ≢ to → content_at n p ≡ content_at m p =
    λ p f k. ap (λ (n : MemoryState). content_at n p) c.lend.ensures ∙ moving.content-else Gone m from to wide l h d p f k in
    let was : val_at m from ≡ val_at init from =
    moving.as-before (val_at m from) xs i (val_at init from) c.requires.apart (omega arith) (v.frame (get_or xs i 0) b) in
    record {
      alike = moving.alike-then init m n v.alike (subst (HoldsAlike m) (sym c.lend.ensures) (moving.moved-alike Gone m from to wide l h d tt bare));
      before = λ p k. at p (λ e. omega (arith, e, k)) (λ e. omega (arith, e, k)) ∙ v.before p k;
      frame = λ k f. moving.lend-frame (val_at init (base + k)) (val_at m) (val_at n) base xs i (i + 1) k (omega arith) (omega arith)
          (ap (λ (n : MemoryState). val_at n from) c.lend.ensures ∙ moving.moved-from Gone m from to wide l h d)
          (λ e. at (base + k) e (λ e. omega (arith, e, f))) (v.frame k f);
      moved = below_more (λ j. val_at n (top + (length xs - (j + 1))) ≡ val_at init (base + get_or xs j 0)) i
          (λ j f. at (top + (length xs - (j + 1))) (λ e. omega (arith, e, f, b)) (λ e. omega (arith, e, f)) ∙ v.moved j f)
          (ap (λ (n : MemoryState). val_at n to) c.lend.ensures ∙ moving.moved-to Gone m from to wide l h d ∙ was);
      free = λ p f k. beside p (λ e. omega (arith, e, f, b)) (λ e. omega (arith, e, k)) ∙ v.free p f (omega (arith, k));
      above = λ p f. beside p (λ e. omega (arith, e, f, b)) (λ e. omega (arith, e, f)) ∙ v.above p f;
    }
