-- The spots of a block's text follow the places of its code one by one.
use Rattle.std.proofs.Common.{◌≡◌, ℕ, zero, suc, ◌<◌, List, [], ◌∷◌, ◌++◌, length, get_or, refl, ap, ◌∙◌, sym, subst, arith}
use Rattle.std.specs.Prelude.{slice_get, Some}
use Rattle.janus_meaning.specs.Syntax as tree
use Rattle.janus_meaning.specs.Syntax.{Name, Blk, Nil, Cons, rejoin, From, If, LocalInt, LocalStack}
use Rattle.janus_meaning.specs.Moves.{InFirst, InSecond, InLocal}
use Rattle.janus_meaning.specs.Stepping.{Frame, Framed, Place, BeforeBlock, AfterBlock, BeforeOne, AfterOne}
use Rattle.janus_slots.specs.Slots.{slot, exp_in, stm_in, block_in}
use Rattle.janus_linear.specs.declared.code.Order.TheVariants.{Straight}
use Rattle.janus_linear.specs.Layout.{row_places, inner_places, places}
use Rattle.janus_linear.specs.Open.{locals_in}
use Rattle.janus_linear.proofs.Turns.{places_long}
use Rattle.janus_syntax.specs.Tree.{Stm, Skip, Assign, AssignElement, Push, Pop, Swap, If, Loop, LocalInt, LocalStack, Call, Uncall, Block, Empty, More}
use Rattle.janus_syntax.specs.View.{text_of, plain_exp, plain_stm, plain_block}
use Rattle.janus_places.specs.declared.part.Branch.TheVariants.{First, Second}
use Rattle.janus_places.specs.Spots.{Spot, Begin, End, Before, After, Enters, Leaves, between, block_spots, inner_spots, stm_spots, spots}
use Rattle.janus_places.specs.Standing.{StandsAt, code_of, SpotsStand, AsManySpots}

-- these spots stand at the first of the places, and behind them are others
abbrev Follow : (es g : List Name) → List Spot → (ps rest : List Place) → Type 0
Follow es g [] ps rest = ps ≡ rest
Follow es g (spot ∷ ss) [] rest = ⊥
Follow es g (spot ∷ ss) (p ∷ ps) rest = StandsAt es g spot p × Follow es g ss ps rest

follow_more : (es g : List Name) (ss ts : List Spot) (ps qs rest : List Place) → Follow es g ss ps qs → Follow es g ts qs rest →
    Follow es g (ss ++ ts) ps rest
follow_more es g [] ts ps qs rest e h = subst (λ l. Follow es g ts l rest) (sym e) h
follow_more es g (spot ∷ ss) ts [] qs rest f h = absurd f
follow_more es g (spot ∷ ss) ts (p ∷ ps) qs rest f h = (f.0, follow_more es g ss ts ps qs rest f.1 h)

follow_between : (es g : List Name) (a b : Spot) (ss : List Spot) (p q : Place) (ps rest : List Place) → StandsAt es g a p → Follow es g ss ps (q ∷ rest) →
    StandsAt es g b q → Follow es g (between a ss b) (p ∷ ps) rest
follow_between es g a b ss p q ps rest h f k = (h, follow_more es g ss (b ∷ []) ps (q ∷ rest) rest f (k, refl))

mutual
  rows_follow : (es g xs : List Name) (b : Block) (before whole : Blk) (fs : List Frame) (rest : List Place) → length xs ≡ locals_in fs →
      rejoin before (block_in es (xs ++ g) (plain_block b)) ≡ whole →
      Follow es g (block_spots xs b) (row_places Straight before (block_in es (xs ++ g) (plain_block b)) fs rest) (AfterBlock whole fs ∷ rest)
  rows_follow es g xs Empty before whole fs rest n e = ap (λ b. AfterBlock b fs ∷ rest) e
  rows_follow es g xs (More s b) before whole fs rest n e =
      let c : tree.Stm = stm_in es (xs ++ g) (plain_stm s) in
      let after : Blk = block_in es (xs ++ g) (plain_block b) in
      let behind : List Place = row_places Straight (Cons c before) after fs rest in
      follow_more es g (stm_spots xs s) (block_spots xs b)
      (BeforeOne c before after fs ∷ inner_places Straight c before after fs (AfterOne c before after fs ∷ behind)) behind (AfterBlock whole fs ∷ rest)
      (follow_between es g (Before xs s) (After xs s) (inner_spots xs s) (BeforeOne c before after fs) (AfterOne c before after fs)
      (inner_places Straight c before after fs (AfterOne c before after fs ∷ behind)) behind (record { is = refl; locals = n })
      (inner_follow es g xs s before after fs (AfterOne c before after fs ∷ behind) n) (record { is = refl; locals = n }))
      (rows_follow es g xs b (Cons c before) whole fs rest n e)

  inner_follow : (es g xs : List Name) (s : Stm) (before after : Blk) (fs : List Frame) (rest : List Place) → length xs ≡ locals_in fs →
      Follow es g (inner_spots xs s) (inner_places Straight (stm_in es (xs ++ g) (plain_stm s)) before after fs rest) rest
  inner_follow es g xs Skip before after fs rest n = refl
  inner_follow es g xs (Assign x u e) before after fs rest n = refl
  inner_follow es g xs (AssignElement a i u e) before after fs rest n = refl
  inner_follow es g xs (Push x y) before after fs rest n = refl
  inner_follow es g xs (Pop x y) before after fs rest n = refl
  inner_follow es g xs (Swap x y) before after fs rest n = refl
  inner_follow es g xs (If a s t b) before after fs rest n =
      let m : List Name = xs ++ g in
      let c : Blk = block_in es m (plain_block s) in
      let d : Blk = block_in es m (plain_block t) in
      let f : List Frame = Framed (InFirst If (exp_in m (plain_exp a)) d (exp_in m (plain_exp b))) before after ∷ fs in
      let h : List Frame = Framed (InSecond If (exp_in m (plain_exp a)) c (exp_in m (plain_exp b))) before after ∷ fs in
      let second : List Place = BeforeBlock d h ∷ row_places Straight Nil d h rest in
      follow_more es g (between (Enters xs (If a s t b) First) (block_spots xs s) (Leaves xs (If a s t b) First))
      (between (Enters xs (If a s t b) Second) (block_spots xs t) (Leaves xs (If a s t b) Second))
      (BeforeBlock c f ∷ row_places Straight Nil c f second) second rest
      (follow_between es g (Enters xs (If a s t b) First) (Leaves xs (If a s t b) First) (block_spots xs s) (BeforeBlock c f) (AfterBlock c f)
      (row_places Straight Nil c f second) second (record { is = (refl, refl); locals = n }) (rows_follow es g xs s Nil c f second n refl)
      (record { is = (refl, refl); locals = n }))
      (follow_between es g (Enters xs (If a s t b) Second) (Leaves xs (If a s t b) Second) (block_spots xs t) (BeforeBlock d h) (AfterBlock d h)
      (row_places Straight Nil d h rest) rest (record { is = (refl, refl); locals = n }) (rows_follow es g xs t Nil d h rest n refl)
      (record { is = (refl, refl); locals = n }))
  inner_follow es g xs (Loop a s t b) before after fs rest n =
      let m : List Name = xs ++ g in
      let c : Blk = block_in es m (plain_block s) in
      let d : Blk = block_in es m (plain_block t) in
      let f : List Frame = Framed (InFirst From (exp_in m (plain_exp a)) d (exp_in m (plain_exp b))) before after ∷ fs in
      let h : List Frame = Framed (InSecond From (exp_in m (plain_exp a)) c (exp_in m (plain_exp b))) before after ∷ fs in
      let second : List Place = BeforeBlock d h ∷ row_places Straight Nil d h rest in
      follow_more es g (between (Enters xs (Loop a s t b) First) (block_spots xs s) (Leaves xs (Loop a s t b) First))
      (between (Enters xs (Loop a s t b) Second) (block_spots xs t) (Leaves xs (Loop a s t b) Second))
      (BeforeBlock c f ∷ row_places Straight Nil c f second) second rest
      (follow_between es g (Enters xs (Loop a s t b) First) (Leaves xs (Loop a s t b) First) (block_spots xs s) (BeforeBlock c f) (AfterBlock c f)
      (row_places Straight Nil c f second) second (record { is = (refl, refl); locals = n }) (rows_follow es g xs s Nil c f second n refl)
      (record { is = (refl, refl); locals = n }))
      (follow_between es g (Enters xs (Loop a s t b) Second) (Leaves xs (Loop a s t b) Second) (block_spots xs t) (BeforeBlock d h) (AfterBlock d h)
      (row_places Straight Nil d h rest) rest (record { is = (refl, refl); locals = n }) (rows_follow es g xs t Nil d h rest n refl)
      (record { is = (refl, refl); locals = n }))
  inner_follow es g xs (LocalInt x a s y b) before after fs rest n =
      let m : List Name = xs ++ g in
      let c : Blk = block_in es (text_of x ∷ m) (plain_block s) in
      let f : List Frame = Framed (InLocal (slot (length m)) (LocalInt (exp_in m (plain_exp a)) (exp_in m (plain_exp b)))) before after ∷ fs in
      follow_between es g (Enters xs (LocalInt x a s y b) First) (Leaves xs (LocalInt x a s y b) First) (block_spots (text_of x ∷ xs) s) (BeforeBlock c f)
      (AfterBlock c f) (row_places Straight Nil c f rest) rest (record { is = (refl, refl); locals = ap suc n })
      (rows_follow es g (text_of x ∷ xs) s Nil c f rest (ap suc n) refl) (record { is = (refl, refl); locals = ap suc n })
  inner_follow es g xs (LocalStack x s y) before after fs rest n =
      let m : List Name = xs ++ g in
      let c : Blk = block_in es (text_of x ∷ m) (plain_block s) in
      let f : List Frame = Framed (InLocal (slot (length m)) LocalStack) before after ∷ fs in
      follow_between es g (Enters xs (LocalStack x s y) First) (Leaves xs (LocalStack x s y) First) (block_spots (text_of x ∷ xs) s) (BeforeBlock c f)
      (AfterBlock c f) (row_places Straight Nil c f rest) rest (record { is = (refl, refl); locals = ap suc n })
      (rows_follow es g (text_of x ∷ xs) s Nil c f rest (ap suc n) refl) (record { is = (refl, refl); locals = ap suc n })
  inner_follow es g xs (Call f ys) before after fs rest n = refl
  inner_follow es g xs (Uncall f ys) before after fs rest n = refl

whole_follow : (es g : List Name) (b : Block) → Follow es g (spots b) (places Straight (code_of es g b)) []
unfolding places
whole_follow es g b =
    let c : Blk = code_of es g b in
    follow_between es g Begin End (block_spots [] b) (BeforeBlock c []) (AfterBlock c []) (row_places Straight Nil c [] []) []
    (record { is = tt; locals = refl }) (rows_follow es g [] b Nil c [] [] refl refl) (record { is = tt; locals = refl })

-- ---- one place

long : (es g : List Name) (ss : List Spot) (ps : List Place) → Follow es g ss ps [] → length ss ≡ length ps
long es g [] ps f = sym (ap (λ (l : List Place). length l) f)
long es g (spot ∷ ss) [] f = absurd f
long es g (spot ∷ ss) (p ∷ ps) f = ap suc (long es g ss ps f.1)

follow_at : (es g : List Name) (ss : List Spot) (ps : List Place) (n : ℕ) (q : Place) → Follow es g ss ps [] → n < length ss →
    (spot : Spot) × (slice_get ss n ≡ Some spot) × StandsAt es g spot (get_or ps n q)
follow_at es g [] ps n q f lt = absurd (omega (arith, lt))
follow_at es g (spot ∷ ss) [] n q f lt = absurd f
follow_at es g (spot ∷ ss) (p ∷ ps) zero q f lt = (spot, refl, f.0)
follow_at es g (spot ∷ ss) (p ∷ ps) (suc n) q f lt = follow_at es g ss ps n q f.1 (omega (arith, lt))

pub as_many : AsManySpots
as_many es g b = long es g (spots b) (places Straight (code_of es g b)) (whole_follow es g b) ∙ places_long Straight (code_of es g b)

pub spots_stand : SpotsStand
spots_stand es g b n lt =
    follow_at es g (spots b) (places Straight (code_of es g b)) n (AfterBlock (code_of es g b) []) (whole_follow es g b) (omega (arith, lt, as_many es g b))
