-- How heavy trees are: each block of a statement weighs less than it, and each statement less than its block.
use Rattle.std.proofs.Common.{◌≡◌, ◌<◌, ◌+◌, length, get_or, ℕ, zero, suc, List, [], ◌∷◌, Vec, Box, Global, ap, ◌∙◌, arith}
use Rattle.janus_meaning.specs.Syntax.{Stm, Blk, Do, Branch, Local, LocalInt, LocalStack, Call, Nil, Cons}
use Rattle.janus_syntax.specs.declared.tree.Stm as code_stm
use Rattle.janus_syntax.specs.declared.tree.Name as code_name
use Rattle.janus_syntax.specs.declared.tree.Exp as code_exp
use Rattle.janus_syntax.specs.View.{stm_of, block_of, plain_stm}
use Rattle.janus_syntax.proofs.Views.{view_if, view_loop, view_local_int, view_local_stack}

abbrev mutual
  pub stm_weight : Stm → ℕ
  stm_weight (Do k) = 1
  stm_weight (Branch w a s t b) = suc (block_weight s + block_weight t)
  stm_weight (Local x (LocalInt a b) s) = suc (block_weight s)
  stm_weight (Local x LocalStack s) = suc (block_weight s)
  stm_weight (Call w f xs) = 1

  pub block_weight : Blk → ℕ
  block_weight Nil = 0
  block_weight (Cons c b) = suc (stm_weight c + block_weight b)

pub one_lighter : (ss : List code_stm.Stm) (i : ℕ) (s : code_stm.Stm) → i < length ss → get_or ss i s ≡ s → stm_weight (stm_of s) < block_weight (block_of ss)
one_lighter [] i s lt e = absurd (omega arith)
one_lighter (r ∷ ss) zero s lt e = let same : stm_weight (stm_of r) ≡ stm_weight (stm_of s) = ap (λ s. stm_weight (stm_of s)) e in omega arith
one_lighter (r ∷ ss) (suc i) s lt e = let ih : stm_weight (stm_of s) < block_weight (block_of ss) = one_lighter ss i s (omega arith) e in omega arith

-- the blocks of an if, of a loop and of locals
pub if_lighter : (s : code_stm.Stm) (a b : Box code_exp.Exp Global) (v w : Vec code_stm.Stm Global) → s ≡ code_stm.If a v w b →
    (block_weight (block_of v.items) < stm_weight (stm_of s)) × (block_weight (block_of w.items) < stm_weight (stm_of s))
if_lighter s a b v w e = let weight = ap stm_weight (ap stm_of e ∙ ap plain_stm (view_if a b v w)) in (omega (arith, weight), omega (arith, weight))

pub loop_lighter : (s : code_stm.Stm) (a b : Box code_exp.Exp Global) (v w : Vec code_stm.Stm Global) → s ≡ code_stm.Loop a v w b →
    (block_weight (block_of v.items) < stm_weight (stm_of s)) × (block_weight (block_of w.items) < stm_weight (stm_of s))
loop_lighter s a b v w e = let weight = ap stm_weight (ap stm_of e ∙ ap plain_stm (view_loop a b v w)) in (omega (arith, weight), omega (arith, weight))

pub local_int_lighter : (s : code_stm.Stm) (x y : code_name.Name) (a b : Box code_exp.Exp Global) (v : Vec code_stm.Stm Global) → s ≡ code_stm.LocalInt x a v y b →
    block_weight (block_of v.items) < stm_weight (stm_of s)
local_int_lighter s x y a b v e = let weight = ap stm_weight (ap stm_of e ∙ ap plain_stm (view_local_int x y a b v)) in omega (arith, weight)

pub local_stack_lighter : (s : code_stm.Stm) (x y : code_name.Name) (v : Vec code_stm.Stm Global) → s ≡ code_stm.LocalStack x v y →
    block_weight (block_of v.items) < stm_weight (stm_of s)
local_stack_lighter s x y v e = let weight = ap stm_weight (ap stm_of e ∙ ap plain_stm (view_local_stack x y v)) in omega (arith, weight)
