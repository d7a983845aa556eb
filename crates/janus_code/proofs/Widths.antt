-- How many locals are open in a statement with blocks, and in the rest of a block.
use Rattle.std.proofs.Common.{◌≡◌, ◌<◌, ◌+◌, ℕ, suc, max, length, get_or, drop, List, Vec, Box, Global, ap, ◌∙◌, sym}
use Rattle.janus_syntax.specs.declared.tree.Name as code_name
use Rattle.janus_syntax.specs.declared.tree.Exp as code_exp
use Rattle.janus_syntax.specs.declared.tree.Stm as code_stm
use Rattle.janus_syntax.specs.View.{stm_of, block_of, plain_stm}
use Rattle.janus_syntax.proofs.Views.{view_if, view_loop, view_local_int, view_local_stack}
use Rattle.janus_check.proofs.DropLemmas.{dropped}
use Rattle.janus_code.specs.Width.{open_in_stm, open_in_block}

abbrev open_in : List code_stm.Stm → ℕ
open_in ss = open_in_block (block_of ss)

two_same : (ss ts us vs : List code_stm.Stm) → ss ≡ us → ts ≡ vs → max (open_in us) (open_in vs) ≡ max (open_in ss) (open_in ts)
two_same ss ts us vs e f = ap (λ us. max (open_in us) (open_in vs)) (sym e) ∙ ap (λ vs. max (open_in ss) (open_in vs)) (sym f)

pub open_if : (s : code_stm.Stm) (a b : Box code_exp.Exp Global) (v w : Vec code_stm.Stm Global) (ss ts : List code_stm.Stm) → s ≡ code_stm.If a v w b →
    ss ≡ v.items → ts ≡ w.items → open_in_stm (stm_of s) ≡ max (open_in_block (block_of ss)) (open_in_block (block_of ts))
open_if s a b v w ss ts is e f =
    ap (λ s. open_in_stm (stm_of s)) is ∙ ap (λ c. open_in_stm (plain_stm c)) (view_if a b v w) ∙ two_same ss ts v.items w.items e f

pub open_loop : (s : code_stm.Stm) (a b : Box code_exp.Exp Global) (v w : Vec code_stm.Stm Global) (ss ts : List code_stm.Stm) → s ≡ code_stm.Loop a v w b →
    ss ≡ v.items → ts ≡ w.items → open_in_stm (stm_of s) ≡ max (open_in_block (block_of ss)) (open_in_block (block_of ts))
open_loop s a b v w ss ts is e f =
    ap (λ s. open_in_stm (stm_of s)) is ∙ ap (λ c. open_in_stm (plain_stm c)) (view_loop a b v w) ∙ two_same ss ts v.items w.items e f

pub open_local_int : (s : code_stm.Stm) (x y : code_name.Name) (a b : Box code_exp.Exp Global) (v : Vec code_stm.Stm Global) (ss : List code_stm.Stm) →
    s ≡ code_stm.LocalInt x a v y b → ss ≡ v.items → open_in_stm (stm_of s) ≡ suc (open_in_block (block_of ss))
open_local_int s x y a b v ss is e =
    ap (λ s. open_in_stm (stm_of s)) is ∙ ap (λ c. open_in_stm (plain_stm c)) (view_local_int x y a b v) ∙ ap (λ us. suc (open_in us)) (sym e)

pub open_local_stack : (s : code_stm.Stm) (x y : code_name.Name) (v : Vec code_stm.Stm Global) (ss : List code_stm.Stm) →
    s ≡ code_stm.LocalStack x v y → ss ≡ v.items → open_in_stm (stm_of s) ≡ suc (open_in_block (block_of ss))
open_local_stack s x y v ss is e =
    ap (λ s. open_in_stm (stm_of s)) is ∙ ap (λ c. open_in_stm (plain_stm c)) (view_local_stack x y v) ∙ ap (λ us. suc (open_in us)) (sym e)

pub open_more : (ss : List code_stm.Stm) (i : ℕ) (s : code_stm.Stm) → s ≡ get_or ss i s → i < length ss →
    open_in_block (block_of (drop i ss)) ≡ max (open_in_stm (stm_of s)) (open_in_block (block_of (drop (i + 1) ss)))
open_more ss i s e h = ap open_in (sym (dropped ss i s e h))
