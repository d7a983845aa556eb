use Rattle.std.proofs.Common.{◌≡◌, ◌≢◌, ◌<◌, ◌+◌, ◌-◌, ℕ, Bool, true, false, nat_eq, length, get_or, refl, ap, arith, sym, subst, ◌∙◌, below_more}
use Rattle.janus_memory.specs.Memory.{MemoryState, Plain, IsBare, content_at, number_at, val_at, carried}
use Rattle.janus_frames.specs.Inside.{HoldsAlike}
use Rattle.janus_frames.proofs.Among.{below-at, not-equal, equal, apart-at, has-less, none-before}
use Rattle.janus_frames.proofs.Calling.{has-some}
use Rattle.janus_frames.proofs.Moving as moving
use Rattle.janus_frames.proofs.Sight.{lent-bare}
use Rattle.janus_frames.proofs.moves.give_back.Goals as goal

pub give_back-requires-clause-to : goal.give_back-requires-clause-to
give_back-requires-clause-to g c =
    let b = below-at (c.args.top - c.args.base) c.args.args.now c.loop-i.i c.requires.low (omega arith) in
    omega (arith, b, c.loop-i.invariant.alike.size)

pub give_back-requires-clause-apart : goal.give_back-requires-clause-apart
give_back-requires-clause-apart g c =
    let b = below-at (c.args.top - c.args.base) c.args.args.now c.loop-i.i c.requires.low (omega arith) in
    λ e. omega (arith, b, e)

pub give_back-requires-clause-bare : goal.give_back-requires-clause-bare
give_back-requires-clause-bare g c =
    let xs = c.args.args.now in
    let i = c.loop-i.i in
    let m = c.loop-i.memory in
    let b = below-at (c.args.top - c.args.base) xs i c.requires.low (omega arith) in
    let to = c.args.base + get_or xs i 0 in
    lent-bare (number_at m to) (content_at m to)
    (c.loop-i.invariant.frame (get_or xs i 0) b (none-before xs i c.requires.apart (omega arith))
    ∙ c.requires.lent (get_or xs i 0) b (has-some xs i (omega arith)))

-- one place or another one
cases : (p q : ℕ) (P : Type 0) → (p ≡ q → P) → (p ≢ q → P) → P
cases p q P f h = by (nat_eq p q) refl
  where
    by : (b : Bool) → nat_eq p q ≡ b → P
    by true e = f (equal p q e)
    by false e = h (not-equal p q e)

pub loop-i-preserved : goal.loop-i-preserved
loop-i-preserved g c =
    let i = c.loop-i.i in
    let v = c.loop-i.invariant in
    let xs = c.args.args.now in
    let m = c.loop-i.memory in
    let n = c.give_back.new.self in
    let init = c.args.memory.now in
    let base = c.args.base in
    let top = c.args.top in
    let size = v.alike.size in
    let b = below-at (top - base) xs i c.requires.low (omega arith) in
    let to = base + get_or xs i 0 in
    let from = top + (length xs - (i + 1)) in
    let wide = c.law.ensures.contents in
    let l : from < length m.numbers = omega (arith, size) in
    let h : to < length m.numbers = omega (arith, b, size) in
    let d : from ≢ to = λ e. omega (arith, b, e) in
    let bare : IsBare (content_at m to) = lent-bare (number_at m to) (content_at m to)
    (v.frame (get_or xs i 0) b (none-before xs i c.requires.apart (omega arith)) ∙ c.requires.lent (get_or xs i 0) b (has-some xs i (omega arith))) in
    let at : (p : ℕ) → p ≢ from → p ≢ to → val_at n p ≡ val_at m p =
    λ p f k. ap (λ (n : MemoryState). val_at n p) c.give_back.ensures ∙ moving.moved-else Plain m from to wide l h d p f k in
    record {
      alike = moving.alike-then init m n v.alike (subst (HoldsAlike m) (sym c.give_back.ensures) (moving.moved-alike Plain m from to wide l h d tt bare));
      before = λ p k. at p (λ e. omega (arith, e, k)) (λ e. omega (arith, e, k)) ∙ v.before p k;
      behind = λ p f k. at p (λ e. omega (arith, e, k)) (λ e. omega (arith, e, f, b)) ∙ v.behind p f (omega (arith, k));
      frame = λ k f z. let o = has-less xs i (i + 1) k (omega arith) (omega arith) z in let y : get_or xs i 0 ≢ k = not-equal (get_or xs i 0) k o.1 in
          at (base + k) (λ e. omega (arith, e, f)) (λ e. y (omega (arith, e))) ∙ v.frame k f o.0;
      moved = below_more (λ j. val_at n (base + get_or xs j 0) ≡ val_at init (top + (length xs - (j + 1)))) i
          (λ j f. let z : get_or xs j 0 ≢ get_or xs i 0 = apart-at xs j i f c.requires.apart (omega arith) in
          let y = below-at (top - base) xs j c.requires.low (omega (arith, f)) in
          at (base + get_or xs j 0) (λ e. omega (arith, e, y)) (λ e. z (omega (arith, e))) ∙ v.moved j f)
          (ap (λ (n : MemoryState). val_at n to) c.give_back.ensures ∙ moving.moved-to Plain m from to wide l h d ∙ v.behind from (omega arith) (omega arith));
      above = λ p f. ap (λ (n : MemoryState). content_at n p) c.give_back.ensures ∙ cases p from (content_at (carried Plain m from to) p ≡ Plain)
          (λ e. ap (content_at (carried Plain m from to)) e ∙ moving.content-left Plain m from to wide l h d)
          (λ e. moving.content-else Plain m from to wide l h d p e (λ z. omega (arith, z, f, b)) ∙ v.above p (omega (arith, f, e)));
    }
