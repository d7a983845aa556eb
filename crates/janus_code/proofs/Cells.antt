-- The inverse of a parser's block, and of its tree without the places.
use Rattle.std.proofs.Common.{◌≡◌, Vec, Box, Global, ℕ, suc, ◌-◌, ◌<◌, ◌≤◌, List, [], ◌∷◌, ◌++◌, length, get_or, drop, drop-cons, refl, ap, ◌∙◌, sym, arith}
use Rattle.janus_meaning.specs.Syntax as tree
use Rattle.janus_meaning.specs.Word.{opposite}
use Rattle.janus_syntax.specs.View.{name_of, text_of, plain_exp, plain_stm, plain_block, block_of, update_of}
use Rattle.janus_syntax.specs.declared.tree.Update.{Update}
use Rattle.janus_syntax.specs.declared.tree.Update.TheVariants.{Add, Subtract, Xor}
use Rattle.janus_syntax.specs.declared.tree.Name as code_name
use Rattle.janus_syntax.specs.declared.tree.Exp as code_exp
use Rattle.janus_syntax.specs.declared.tree.Stm as code_stm
use Rattle.janus_syntax.proofs.Views.{view_if, view_loop, view_local_int, view_local_stack}
use Rattle.janus_syntax.specs.Tree.{named, name_view, Stm, Skip, Assign, AssignElement, Push, Pop, Swap, If, Loop, LocalInt, LocalStack, Call, Uncall, Block}
use Rattle.janus_syntax.specs.Tree.{Empty, More, cell_of, exp_view, stm_view, block_view}
use Rattle.janus_code.specs.Cells.{opposite_of, inverse_stm, turned, InverseCellTwice}

-- ---- twice is the identity

opposite_twice : (u : Update) → opposite_of (opposite_of u) ≡ u
opposite_twice Add = refl
opposite_twice Subtract = refl
opposite_twice Xor = refl

mutual
  inverse_twice : (s : Stm) → inverse_stm (inverse_stm s) ≡ s
  inverse_twice Skip = refl
  inverse_twice (Assign x u e) = ap (λ u. Assign x u e) (opposite_twice u)
  inverse_twice (AssignElement x i u e) = ap (λ u. AssignElement x i u e) (opposite_twice u)
  inverse_twice (Push x y) = refl
  inverse_twice (Pop x y) = refl
  inverse_twice (Swap x y) = refl
  inverse_twice (If a s t b) = ap (λ r. If a r (turned (turned t Empty) Empty) b) (turned_twice s Empty) ∙ ap (λ r. If a s r b) (turned_twice t Empty)
  inverse_twice (Loop a s t b) = ap (λ r. Loop a r (turned (turned t Empty) Empty) b) (turned_twice s Empty) ∙ ap (λ r. Loop a s r b) (turned_twice t Empty)
  inverse_twice (LocalInt x a s y b) = ap (λ r. LocalInt x a r y b) (turned_twice s Empty)
  inverse_twice (LocalStack x s y) = ap (λ r. LocalStack x r y) (turned_twice s Empty)
  inverse_twice (Call f xs) = refl
  inverse_twice (Uncall f xs) = refl

  pub turned_twice : (b acc : Block) → turned (turned b acc) Empty ≡ turned acc b
  turned_twice Empty acc = refl
  turned_twice (More s b) acc = turned_twice b (More (inverse_stm s) acc) ∙ ap (λ r. turned acc (More r b)) (inverse_twice s)

pub inverse_cell_twice : InverseCellTwice
inverse_cell_twice (cell_of declarations b procedures) = ap (λ b. cell_of declarations b procedures) (turned_twice b Empty)

-- ---- one more statement, from the last to the first

abbrev pub join : Block → Stm → Block
join Empty s = More s Empty
join (More r b) s = More r (join b s)

turned_end : (b acc : Block) (s : Stm) → turned b (join acc s) ≡ join (turned b acc) s
turned_end Empty acc s = refl
turned_end (More r b) acc s = turned_end b (More (inverse_stm r) acc) s

pub block_end : (xs : List code_stm.Stm) (r : code_stm.Stm) → block_view (xs ++ r ∷ []) ≡ join (block_view xs) (stm_view r)
block_end [] r = refl
block_end (x ∷ xs) r = ap (More (stm_view x)) (block_end xs r)

-- the inverse of one more statement behind those that are inverted
pub one_more : (b xs ys : List code_stm.Stm) (i : ℕ) (r d : code_stm.Stm) → 0 < i → i ≤ length b → block_view xs ≡ turned (block_view (drop i b)) Empty →
    stm_view r ≡ inverse_stm (stm_view (get_or b (i - 1) d)) → ys ≡ xs ++ r ∷ [] → block_view ys ≡ turned (block_view (drop (i - 1) b)) Empty
one_more b xs ys i r d low le h e f =
    let lt : i - 1 < length b = omega arith in
    let up : suc (i - 1) ≡ i = omega arith in
    ap block_view f ∙ block_end xs r ∙ ap (λ b. join b (stm_view r)) h
    ∙ ap (join (turned (block_view (drop i b)) Empty)) e
    ∙ sym (turned_end (block_view (drop i b)) Empty (inverse_stm (stm_view (get_or b (i - 1) d))))
    ∙ ap (λ j. turned (block_view (drop j b)) (More (inverse_stm (stm_view (get_or b (i - 1) d))) Empty)) (sym up)
    ∙ ap (λ l. turned (block_view l) Empty) (sym (drop-cons b (i - 1) d lt))

-- ---- without the places

opposite_plain : (u : Update) → update_of (opposite_of u) ≡ opposite (update_of u)
opposite_plain Add = refl
opposite_plain Subtract = refl
opposite_plain Xor = refl

mutual
  inverse_plain : (s : Stm) → plain_stm (inverse_stm s) ≡ tree.inverse (plain_stm s)
  inverse_plain Skip = refl
  inverse_plain (Assign x u e) = ap (λ o. tree.Do (tree.Set (text_of x) o (plain_exp e))) (opposite_plain u)
  inverse_plain (AssignElement x i u e) = ap (λ o. tree.Do (tree.SetAt (text_of x) (plain_exp i) o (plain_exp e))) (opposite_plain u)
  inverse_plain (Push x y) = refl
  inverse_plain (Pop x y) = refl
  inverse_plain (Swap x y) = refl
  inverse_plain (If a s t b) =
      ap (λ r. tree.Branch tree.If (plain_exp b) r (plain_block (turned t Empty)) (plain_exp a)) (turned_plain s Empty)
      ∙ ap (λ r. tree.Branch tree.If (plain_exp b) (tree.turn (plain_block s) tree.Nil) r (plain_exp a)) (turned_plain t Empty)
  inverse_plain (Loop a s t b) =
      ap (λ r. tree.Branch tree.From (plain_exp b) r (plain_block (turned t Empty)) (plain_exp a)) (turned_plain s Empty)
      ∙ ap (λ r. tree.Branch tree.From (plain_exp b) (tree.turn (plain_block s) tree.Nil) r (plain_exp a)) (turned_plain t Empty)
  inverse_plain (LocalInt x a s y b) = ap (λ r. tree.Local (text_of x) (tree.LocalInt (plain_exp b) (plain_exp a)) r) (turned_plain s Empty)
  inverse_plain (LocalStack x s y) = ap (λ z1. tree.Local (text_of x) tree.LocalStack z1) (turned_plain s Empty)
  inverse_plain (Call f xs) = refl
  inverse_plain (Uncall f xs) = refl

  pub turned_plain : (b acc : Block) → plain_block (turned b acc) ≡ tree.turn (plain_block b) (plain_block acc)
  turned_plain Empty acc = refl
  turned_plain (More s b) acc =
      turned_plain b (More (inverse_stm s) acc) ∙ ap (λ s. tree.turn (plain_block b) (tree.Cons s (plain_block acc))) (inverse_plain s)

-- what is inverted with its places is inverted without them
pub inverse_block_is : (rs ss : List code_stm.Stm) → block_view rs ≡ turned (block_view ss) Empty → block_of rs ≡ tree.inverse_block (block_of ss)
inverse_block_is rs ss h = ap plain_block h ∙ turned_plain (block_view ss) Empty

-- ---- statements with blocks, made from their vectors

pub if_turned : (a b : Box code_exp.Exp Global) (v w x y : Vec code_stm.Stm Global) → block_view x.items ≡ turned (block_view v.items) Empty →
    block_view y.items ≡ turned (block_view w.items) Empty → If (exp_view b.value) (block_view x.items) (block_view y.items) (exp_view a.value) ≡ inverse_stm
    (stm_view (code_stm.If a v w b))
if_turned a b v w x y g h =
    ap (λ s. If (exp_view b.value) s (block_view y.items) (exp_view a.value)) g
    ∙ ap (λ s. If (exp_view b.value) (turned (block_view v.items) Empty) s (exp_view a.value)) h
    ∙ ap inverse_stm (sym (view_if a b v w))

pub loop_turned : (a b : Box code_exp.Exp Global) (v w x y : Vec code_stm.Stm Global) → block_view x.items ≡ turned (block_view v.items) Empty →
    block_view y.items ≡ turned (block_view w.items) Empty → Loop (exp_view b.value) (block_view x.items) (block_view y.items) (exp_view a.value) ≡ inverse_stm
    (stm_view (code_stm.Loop a v w b))
loop_turned a b v w x y g h =
    ap (λ s. Loop (exp_view b.value) s (block_view y.items) (exp_view a.value)) g
    ∙ ap (λ s. Loop (exp_view b.value) (turned (block_view v.items) Empty) s (exp_view a.value)) h
    ∙ ap inverse_stm (sym (view_loop a b v w))

pub local_int_turned : (m n : code_name.Name) (a b : Box code_exp.Exp Global) (v w : Vec code_stm.Stm Global) → block_view w.items ≡ turned (block_view v.items) Empty →
    LocalInt (name_view m) (exp_view b.value) (block_view w.items) (name_view n) (exp_view a.value) ≡ inverse_stm (stm_view (code_stm.LocalInt m a v n b))
local_int_turned m n a b v w g =
    ap (λ z. LocalInt (name_view m) (exp_view b.value) z (name_view n) (exp_view a.value)) g
    ∙ ap inverse_stm (sym (view_local_int m n a b v))

pub local_stack_turned : (m n : code_name.Name) (v w : Vec code_stm.Stm Global) → block_view w.items ≡ turned (block_view v.items) Empty →
    LocalStack (name_view m) (block_view w.items) (name_view n) ≡ inverse_stm (stm_view (code_stm.LocalStack m v n))
local_stack_turned m n v w g =
    ap (λ z. LocalStack (name_view m) z (name_view n)) g
    ∙ ap inverse_stm (sym (view_local_stack m n v))

-- a copy of a name, at its place
pub name_copied : (x y : code_name.Name) → name_of y ≡ name_of x → y.span ≡ x.span → name_view y ≡ name_view x
name_copied x y e f = ap (λ t. named t y.span) e ∙ ap (named (name_of x)) f
