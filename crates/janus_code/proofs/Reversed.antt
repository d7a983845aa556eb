-- Inverse code stands for the inverse block.
use Rattle.std.proofs.Common.{◌≡◌, ℕ, zero, suc, ◌+◌, ◌-◌, ◌<◌, ◌≤◌, List, length, get_or, refl, ap, ◌∙◌, sym, arith, ⊎_elim}
use Rattle.std.specs.Prelude.{slice_get, Some, None}
use Rattle.std.proofs.lemmas.Bool.{cases_lt}
use Rattle.std.proofs.lemmas.Option.{slice_get-get_or, slice_get_within, slice_get_cases}
use Rattle.janus_meaning.specs.Syntax as tree
use Rattle.janus_meaning.specs.Syntax.{Name}
use Rattle.janus_meaning.specs.Word.{opposite}
use Rattle.janus_syntax.specs.View.{update_of}
use Rattle.janus_syntax.specs.declared.tree.Update.{Update}
use Rattle.janus_syntax.specs.declared.tree.Update.TheVariants as update
use Rattle.janus_code.specs.declared.code.Block.{Block}
use Rattle.janus_code.specs.declared.code.Statement.{Statement}
use Rattle.janus_code.specs.declared.code.Statement.TheVariants.{Skip, Assign, AssignElement, Push, Pop, Swap, If, Loop, LocalInt, LocalStack, Call, Uncall}
use Rattle.janus_code.specs.Expressions.{exp_of, symbol_name, names_in}
use Rattle.janus_code.specs.Flat.{ahead, block_at, built, tree_at, IsBelow, BlocksAreBelow, AreBelow, IsDownward}
use Rattle.janus_code.specs.Cells.{IsOpposite}
use Rattle.janus_code.specs.Inverted.{IsBackward, IsInverse, AreInverse}
use Rattle.janus_code.specs.Longer.{IsLonger}
use Rattle.janus_code.proofs.Trees.{tree_of}

-- ---- blocks

-- the first n members of the block c are the last n of b, the last one first
row_turned : (t u : ℕ → tree.Stm) (members others : List ℕ) (b c : Block) → b.start ≤ b.end → IsBackward members others b c →
    ((i : ℕ) → b.start ≤ i → i < b.end → u (get_or members i 0) ≡ tree.inverse (t (get_or members i 0))) → (n k : ℕ) (done : tree.Blk) →
    n + k ≡ b.end - b.start → done ≡ ahead u others (c.start + k) n → tree.turn (ahead t members (b.start + n) k) done ≡ ahead u others c.start (n + k)
row_turned t u members others b c o v inv n zero done e h =
    let z : c.start + 0 ≡ c.start = omega arith in
    let y : n ≡ n + 0 = omega arith in
    h ∙ ap (λ i. ahead u others i n) z ∙ ap (ahead u others c.start) y
row_turned t u members others b c o v inv n (suc k) done e h =
    let at : ℕ = b.start + n in
    let z : suc at ≡ b.start + suc n = omega arith in
    let y : suc n + k ≡ n + suc k = omega arith in
    let x : b.end - suc k ≡ at = omega arith in
    let w : c.start + suc k ≡ suc (c.start + k) = omega arith in
    let there : get_or others (c.start + k) 0 ≡ get_or members at 0 = v.backward k (omega arith) ∙ ap (λ i. get_or members i 0) x in
    let first : u (get_or others (c.start + k) 0) ≡ tree.inverse (t (get_or members at 0)) = ap u there ∙ inv at (omega arith) (omega arith) in
    let more : tree.Cons (tree.inverse (t (get_or members at 0))) done ≡ ahead u others (c.start + k) (suc n) =
    ap (tree.Cons (tree.inverse (t (get_or members at 0)))) (h ∙ ap (λ i. ahead u others i n) w)
    ∙ ap (λ s. tree.Cons s (ahead u others (suc (c.start + k)) n)) (sym first) in
    ap (λ i. tree.turn (ahead t members i k) (tree.Cons (tree.inverse (t (get_or members at 0))) done)) z
    ∙ row_turned t u members others b c o v inv (suc n) k (tree.Cons (tree.inverse (t (get_or members at 0))) done) (omega (arith, e)) more
    ∙ ap (ahead u others c.start) y

block_turned : (t u : ℕ → tree.Stm) (members others : List ℕ) (m : ℕ) (b c : Block) → IsBelow members m b → IsBackward members others b c →
    ((j : ℕ) → j < m → u j ≡ tree.inverse (t j)) → block_at u others c ≡ tree.inverse_block (block_at t members b)
block_turned t u members others m b c below v inv =
    let o : b.start ≤ b.end = below.order in
    let z : b.start + 0 ≡ b.start = omega arith in
    let y : c.end - c.start ≡ 0 + (b.end - b.start) = omega (arith, v.as_many) in
    ap (ahead u others c.start) y
    ∙ sym (row_turned t u members others b c o v (λ i low high. inv (get_or members i 0) (below.below i low high)) 0 (b.end - b.start) tree.Nil (omega arith)
    refl)
    ∙ ap (λ i. tree.inverse_block (ahead t members i (b.end - b.start))) z

-- ---- statements

opposite_sign : (u v : Update) → IsOpposite u v → update_of v ≡ opposite (update_of u)
opposite_sign update.Add update.Subtract h = refl
opposite_sign update.Subtract update.Add h = refl
opposite_sign update.Xor update.Xor h = refl
opposite_sign _ _ h = absurd h

module _ (xs : List Name) (t u : ℕ → tree.Stm) (members others : List ℕ) (m : ℕ) (inv : (j : ℕ) → j < m → u j ≡ tree.inverse (t j)) where
  built_turned : (s r : Statement) → BlocksAreBelow members m s → IsInverse members others s r → built xs u others r ≡ tree.inverse (built xs t members s)
  built_turned Skip Skip b h = refl
  built_turned (Assign x o e) (Assign y p f) b h =
      ap (λ z. tree.Do (tree.Set z (update_of p) (exp_of xs f))) (ap (symbol_name xs) h.0)
      ∙ ap (λ q. tree.Do (tree.Set (symbol_name xs x) q (exp_of xs f))) (opposite_sign o p h.1)
      ∙ ap (λ z1. tree.Do (tree.Set (symbol_name xs x) (opposite (update_of o)) z1)) (h.2.tree xs)
  built_turned (AssignElement x i o e) (AssignElement y j p f) b h =
      ap (λ z. tree.Do (tree.SetAt z (exp_of xs j) (update_of p) (exp_of xs f))) (ap (symbol_name xs) h.0)
      ∙ ap (λ z. tree.Do (tree.SetAt (symbol_name xs x) z (update_of p) (exp_of xs f))) (h.1.tree xs)
      ∙ ap (λ q. tree.Do (tree.SetAt (symbol_name xs x) (exp_of xs i) q (exp_of xs f))) (opposite_sign o p h.2)
      ∙ ap (λ z1. tree.Do (tree.SetAt (symbol_name xs x) (exp_of xs i) (opposite (update_of o)) z1)) (h.3.tree xs)
  built_turned (Push x y) (Pop v w) b h = ap (λ z. tree.Do (tree.Pop z (symbol_name xs w))) (ap (symbol_name xs) h.0)
      ∙ ap (λ z1. tree.Do (tree.Pop (symbol_name xs x) z1)) (ap (symbol_name xs) h.1)
  built_turned (Pop x y) (Push v w) b h = ap (λ z. tree.Do (tree.Push z (symbol_name xs w))) (ap (symbol_name xs) h.0)
      ∙ ap (λ z1. tree.Do (tree.Push (symbol_name xs x) z1)) (ap (symbol_name xs) h.1)
  built_turned (Swap x y) (Swap v w) b h = ap (λ z. tree.Do (tree.Swap z (symbol_name xs w))) (ap (symbol_name xs) h.0)
      ∙ ap (λ z1. tree.Do (tree.Swap (symbol_name xs x) z1)) (ap (symbol_name xs) h.1)
  built_turned (If a p q c) (If d r s e) b h =
      ap (λ z. tree.Branch tree.If z (block_at u others r) (block_at u others s) (exp_of xs e)) (h.0.tree xs)
      ∙ ap (λ z. tree.Branch tree.If (exp_of xs c) z (block_at u others s) (exp_of xs e)) (block_turned t u members others m p r b.0 h.1 inv)
      ∙ ap (λ z. tree.Branch tree.If (exp_of xs c) (tree.inverse_block (block_at t members p)) z (exp_of xs e)) (block_turned t u members others m q s b.1 h.2 inv)
      ∙ ap (tree.Branch tree.If (exp_of xs c) (tree.inverse_block (block_at t members p)) (tree.inverse_block (block_at t members q))) (h.3.tree xs)
  built_turned (Loop a p q c) (Loop d r s e) b h =
      ap (λ z. tree.Branch tree.From z (block_at u others r) (block_at u others s) (exp_of xs e)) (h.0.tree xs)
      ∙ ap (λ z. tree.Branch tree.From (exp_of xs c) z (block_at u others s) (exp_of xs e)) (block_turned t u members others m p r b.0 h.1 inv)
      ∙ ap (λ z. tree.Branch tree.From (exp_of xs c) (tree.inverse_block (block_at t members p)) z (exp_of xs e)) (block_turned t u members others m q s b.1 h.2 inv)
      ∙ ap (tree.Branch tree.From (exp_of xs c) (tree.inverse_block (block_at t members p)) (tree.inverse_block (block_at t members q))) (h.3.tree xs)
  built_turned (LocalInt x a p c) (LocalInt y d r e) b h =
      ap (λ z. tree.Local z (tree.LocalInt (exp_of xs d) (exp_of xs e)) (block_at u others r)) (ap (symbol_name xs) h.0)
      ∙ ap (λ z. tree.Local (symbol_name xs x) (tree.LocalInt z (exp_of xs e)) (block_at u others r)) (h.1.tree xs)
      ∙ ap (λ z. tree.Local (symbol_name xs x) (tree.LocalInt (exp_of xs c) (exp_of xs e)) z) (block_turned t u members others m p r b h.2 inv)
      ∙ ap (λ z1. tree.Local (symbol_name xs x) (tree.LocalInt (exp_of xs c) z1) (tree.inverse_block (block_at t members p))) (h.3.tree xs)
  built_turned (LocalStack x p) (LocalStack y r) b h =
      ap (λ z. tree.Local z tree.LocalStack (block_at u others r)) (ap (symbol_name xs) h.0)
      ∙ ap (λ z1. tree.Local (symbol_name xs x) tree.LocalStack z1) (block_turned t u members others m p r b h.1 inv)
  built_turned (Call f ys) (Uncall g zs) b h = ap (λ z. tree.Call tree.Backwards z (names_in xs zs.items)) (ap (symbol_name xs) h.0)
      ∙ ap (tree.Call tree.Backwards (symbol_name xs f)) (ap (names_in xs) h.1)
  built_turned (Uncall f ys) (Call g zs) b h = ap (λ z. tree.Call tree.Forwards z (names_in xs zs.items)) (ap (symbol_name xs) h.0)
      ∙ ap (tree.Call tree.Forwards (symbol_name xs f)) (ap (names_in xs) h.1)
  built_turned _ _ b h = absurd h

-- ---- code

module _ (xs : List Name) (members : List ℕ) (statements : List Statement) (body : Block) (others : List ℕ) (inverses : List Statement) (back : Block)
    (d : AreBelow members statements) (e : AreBelow others inverses) (v : AreInverse members statements body others inverses back) where
  turned_up_to : (n : ℕ) → n ≤ length statements → (m : ℕ) → m < n → tree_at xs others inverses m ≡ tree.inverse (tree_at xs members statements m)
  turned_up_to zero h m lt = absurd (omega arith)
  turned_up_to (suc n) h m lt =
      let before = turned_up_to n (omega arith) in
      ⊎_elim
      (λ (q : m < n). before m q)
      (λ (q : n ≤ m).
      ⊎_elim
      (λ (p : (s : Statement) × (m < length statements) × (slice_get statements m ≡ Some s) × (get_or statements m s ≡ s)).
      let s = p.0 in
      let r = get_or inverses m s in
      let there : slice_get inverses m ≡ Some r = slice_get-get_or inverses m s (omega (arith, v.as_many)) in
      tree_of xs others inverses m r e there
      ∙ built_turned xs (tree_at xs members statements) (tree_at xs others inverses) members others m (λ j low. before j (omega arith)) s r (d m s p.2)
      (v.inverse m s r p.2 there)
      ∙ ap tree.inverse (sym (tree_of xs members statements m s d p.2)))
      (λ (p : (length statements ≤ m) × (slice_get statements m ≡ None)). let q : length statements ≤ m = p.0 in absurd (omega arith))
      (slice_get_cases statements m).1)
      (cases_lt m n)

  -- the whole block
  pub body_turned : IsBelow members (length statements) body → block_at (tree_at xs others inverses) others back ≡ tree.inverse_block
      (block_at (tree_at xs members statements) members body)
  body_turned b =
      block_turned (tree_at xs members statements) (tree_at xs others inverses) members others (length statements) body back b v.whole
      (λ j lt. turned_up_to (length statements) (omega arith) j lt)

-- ---- the parts of inverse code

backward_below : (members others : List ℕ) (n : ℕ) (b c : Block) → IsBelow members n b → IsBackward members others b c → IsBelow others n c
backward_below members others n b c h v =
    let o : b.start ≤ b.end = h.order in
    record {
      order = v.order;
      within = v.within;
      below = λ i low high.
          let j : ℕ = i - c.start in
          let z : c.start + j ≡ i = omega arith in
          let lt : j < b.end - b.start = omega (arith, v.as_many) in
          let e : get_or others i 0 ≡ get_or members (b.end - suc j) 0 = ap (λ i. get_or others i 0) (sym z) ∙ v.backward j lt in
          let below : get_or members (b.end - suc j) 0 < n = h.below (b.end - suc j) (omega arith) (omega arith) in
          omega arith;
    }

pub inverse_below : (members others : List ℕ) (n : ℕ) (s r : Statement) → BlocksAreBelow members n s → IsInverse members others s r → BlocksAreBelow others n r
inverse_below members others n Skip Skip b h = tt
inverse_below members others n (Assign x o e) (Assign y p f) b h = tt
inverse_below members others n (AssignElement x i o e) (AssignElement y j p f) b h = tt
inverse_below members others n (Push x y) (Pop v w) b h = tt
inverse_below members others n (Pop x y) (Push v w) b h = tt
inverse_below members others n (Swap x y) (Swap v w) b h = tt
inverse_below members others n (If a p q c) (If d r s e) b h = (backward_below members others n p r b.0 h.1, backward_below members others n q s b.1 h.2)
inverse_below members others n (Loop a p q c) (Loop d r s e) b h = (backward_below members others n p r b.0 h.1, backward_below members others n q s b.1 h.2)
inverse_below members others n (LocalInt x a p c) (LocalInt y d r e) b h = backward_below members others n p r b h.2
inverse_below members others n (LocalStack x p) (LocalStack y r) b h = backward_below members others n p r b h.1
inverse_below members others n (Call f xs) (Uncall g ys) b h = tt
inverse_below members others n (Uncall f xs) (Call g ys) b h = tt
inverse_below members others n _ _ b h = absurd h

pub whole_below : (members others : List ℕ) (n m : ℕ) (b c : Block) → m ≡ n → IsBelow members n b → IsBackward members others b c → IsBelow others m c
whole_below members others n m b c e h v =
    let g = backward_below members others n b c h v in
    record { order = g.order; within = g.within; below = λ i low high. let lt : get_or others i 0 < n = g.below i low high in omega arith }

-- ---- more members behind

backward_longer : (members others more : List ℕ) (b c : Block) → IsLonger others more → IsBackward members others b c → IsBackward members more b c
backward_longer members others more b c l v = record {
  order = v.order;
  within = omega (arith, v.within, l.longer);
  as_many = v.as_many;
  backward = λ i lt. l.same (c.start + i) (omega (arith, v.within, v.as_many, v.order)) ∙ v.backward i lt;
}

pub inverse_longer : (members others more : List ℕ) (s r : Statement) → IsLonger others more → IsInverse members others s r → IsInverse members more s r
inverse_longer members others more Skip Skip l h = tt
inverse_longer members others more (Assign x o e) (Assign y p f) l h = h
inverse_longer members others more (AssignElement x i o e) (AssignElement y j p f) l h = h
inverse_longer members others more (Push x y) (Pop v w) l h = h
inverse_longer members others more (Pop x y) (Push v w) l h = h
inverse_longer members others more (Swap x y) (Swap v w) l h = h
inverse_longer members others more (If a p q c) (If d r s e) l h =
    (h.0, backward_longer members others more p r l h.1, backward_longer members others more q s l h.2, h.3)
inverse_longer members others more (Loop a p q c) (Loop d r s e) l h =
    (h.0, backward_longer members others more p r l h.1, backward_longer members others more q s l h.2, h.3)
inverse_longer members others more (LocalInt x a p c) (LocalInt y d r e) l h = (h.0, h.1, backward_longer members others more p r l h.2, h.3)
inverse_longer members others more (LocalStack x p) (LocalStack y r) l h = (h.0, backward_longer members others more p r l h.1)
inverse_longer members others more (Call f xs) (Uncall g ys) l h = h
inverse_longer members others more (Uncall f xs) (Call g ys) l h = h
inverse_longer members others more _ _ l h = absurd h

-- ---- what the loop over all statements has made, and the whole block behind it

module _ (members : List ℕ) (statements : List Statement) (body : Block) (others more : List ℕ) (inverses : List Statement) (back : Block)
    (as_many : length inverses ≡ length statements)
    (pairs : (n : ℕ) (s r : Statement) → slice_get statements n ≡ Some s → slice_get inverses n ≡ Some r → IsInverse members others s r)
    (longer : IsLonger others more) (whole : IsBackward members more body back) where
  pub are_inverse : AreInverse members statements body more inverses back
  are_inverse = record { as_many = as_many; inverse = λ n s r e f. inverse_longer members others more s r longer (pairs n s r e f); whole = whole }

pub inverse_downward : (members : List ℕ) (statements : List Statement) (body : Block) (others more : List ℕ) (inverses : List Statement) (back : Block) →
    IsDownward members statements body → length inverses ≡ length statements →
    ((n : ℕ) (s r : Statement) → slice_get statements n ≡ Some s → slice_get inverses n ≡ Some r → IsInverse members others s r) → IsLonger others more →
    IsBackward members more body back → IsDownward more inverses back
inverse_downward members statements body others more inverses back d as_many pairs longer whole = record {
  each = λ n r e.
      let lt : n < length statements = omega (arith, slice_get_within inverses n r e, as_many) in
      let s = get_or statements n r in
      let here : slice_get statements n ≡ Some s = slice_get-get_or statements n r lt in
      inverse_below members more n s r (d.each n s here) (inverse_longer members others more s r longer (pairs n s r here e));
  whole = whole_below members more (length statements) (length inverses) body back as_many d.whole whole;
}
