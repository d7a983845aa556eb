-- Trees with slots: their inverses, and the blocks round a gap.
use Rattle.std.proofs.Common.{◌≡◌, List, ◌∷◌, length, refl, ap, ◌∙◌}
use Rattle.janus_meaning.specs.Syntax.{Name, Atom, Skip, Set, SetAt, Push, Pop, Swap, Own, LocalInt, LocalStack, Stm, Blk, Do, Branch, Local, Call, Nil, Cons}
use Rattle.janus_meaning.specs.Syntax.{Proc, inverse, inverse_atom, inverse_own, facing, Way, Forwards, Backwards, turn, inverse_block, rejoin}
use Rattle.janus_meaning.specs.Moves.{Hole, InFirst, InSecond, InLocal, InCall, rebuild}
use Rattle.janus_meaning.specs.Stepping.{Frame, AfterBlock, gap}
use Rattle.janus_slots.specs.Slots.{slot, exp_in, atom_in, own_in, stm_in, block_in}
use Rattle.janus_slots.specs.Places.{sight_inside, sight_at, hole_in, frames_in, place_in}

atom_inverse_in : (g : List Name) (k : Atom) → inverse_atom (atom_in g k) ≡ atom_in g (inverse_atom k)
atom_inverse_in g Skip = refl
atom_inverse_in g (Set x o e) = refl
atom_inverse_in g (SetAt a i o e) = refl
atom_inverse_in g (Push x y) = refl
atom_inverse_in g (Pop x y) = refl
atom_inverse_in g (Swap x y) = refl

own_inverse_in : (g : List Name) (k : Own) → inverse_own (own_in g k) ≡ own_in g (inverse_own k)
own_inverse_in g (LocalInt a b) = refl
own_inverse_in g LocalStack = refl

mutual
  inverse_in : (es g : List Name) (c : Stm) → inverse (stm_in es g c) ≡ stm_in es g (inverse c)
  inverse_in es g (Do k) = ap Do (atom_inverse_in g k)
  inverse_in es g (Branch w a s t b) =
      ap (λ p. Branch w (exp_in g b) p (turn (block_in es g t) Nil) (exp_in g a)) (turn_in es g s Nil)
      ∙ ap (λ p. Branch w (exp_in g b) (block_in es g (turn s Nil)) p (exp_in g a)) (turn_in es g t Nil)
  inverse_in es g (Local x k s) =
      ap (λ o. Local (slot (length g)) o (turn (block_in es (x ∷ g) s) Nil)) (own_inverse_in g k)
      ∙ ap (Local (slot (length g)) (own_in g (inverse_own k))) (turn_in es (x ∷ g) s Nil)
  inverse_in es g (Call w f xs) = refl

  turn_in : (es g : List Name) (b after : Blk) → turn (block_in es g b) (block_in es g after) ≡ block_in es g (turn b after)
  turn_in es g Nil after = refl
  turn_in es g (Cons c b) after =
      ap (λ c. turn (block_in es g b) (Cons c (block_in es g after))) (inverse_in es g c) ∙ turn_in es g b (Cons (inverse c) after)

pub inverse_block_in : (es g : List Name) (b : Blk) → inverse_block (block_in es g b) ≡ block_in es g (inverse_block b)
inverse_block_in es g b = turn_in es g b Nil

pub facing_in : (es g : List Name) (w : Way) (b : Blk) → facing w (block_in es g b) ≡ block_in es g (facing w b)
facing_in es g Forwards b = refl
facing_in es g Backwards b = inverse_block_in es g b

rejoin_in : (es g : List Name) (before b : Blk) → rejoin (block_in es g before) (block_in es g b) ≡ block_in es g (rejoin before b)
rejoin_in es g Nil b = refl
rejoin_in es g (Cons c before) b = rejoin_in es g before (Cons c b)

pub gap_in : (es : List Name) (ps : List Proc) (g : List Name) (before after : Blk) (fs : List Frame)
    → gap (block_in es (sight_at ps g fs) before) (block_in es (sight_at ps g fs) after) (frames_in es ps g fs) ≡ place_in es ps g (gap before after fs)
gap_in es ps g before Nil fs = ap (λ b. AfterBlock b (frames_in es ps g fs)) (rejoin_in es (sight_at ps g fs) before Nil)
gap_in es ps g before (Cons c after) fs = refl

pub rebuild_in : (es : List Name) (ps : List Proc) (g : List Name) (h : Hole) (b : Blk)
    → rebuild (hole_in es g h) (block_in es (sight_inside ps h g) b) ≡ stm_in es g (rebuild h b)
rebuild_in es ps g (InFirst w a t c) b = refl
rebuild_in es ps g (InSecond w a s c) b = refl
rebuild_in es ps g (InLocal x (LocalInt a c)) b = refl
rebuild_in es ps g (InLocal x LocalStack) b = refl
rebuild_in es ps g (InCall w f xs c) b = refl
