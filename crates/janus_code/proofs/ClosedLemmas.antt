-- Closed statements, made from their vectors.
use Rattle.std.proofs.Common.{◌≡◌, Vec, Box, Global, ℕ, ◌+◌, ◌<◌, List, [], ◌∷◌, ◌++◌, length, get_or, take, refl, ap, ◌∙◌, sym}
use Rattle.std.proofs.lemmas.List.{take_more}
use Rattle.janus_syntax.specs.declared.tree.Name as code_name
use Rattle.janus_syntax.specs.declared.tree.Exp as code_exp
use Rattle.janus_syntax.specs.declared.tree.Stm as code_stm
use Rattle.janus_syntax.specs.Tree.{name_view, If, Loop, LocalInt, LocalStack, Stm, Block, Empty, More, exp_view, stm_view, block_view}
use Rattle.janus_syntax.proofs.Views.{view_if, view_loop, view_local_int, view_local_stack}
use Rattle.janus_code.specs.Closed.{closed_stm, closed_block}
use Rattle.janus_code.proofs.Cells.{join, block_end}

-- ---- one more statement

closed_end : (b : Block) (s : Stm) → closed_block (join b s) ≡ join (closed_block b) (closed_stm s)
closed_end Empty s = refl
closed_end (More r b) s = ap (More (closed_stm r)) (closed_end b s)

-- one more statement behind those that are closed
pub one_more : (b xs ys : List code_stm.Stm) (i : ℕ) (r d : code_stm.Stm) → i < length b → block_view xs ≡ closed_block (block_view (take i b)) →
    stm_view r ≡ closed_stm (stm_view (get_or b i d)) → ys ≡ xs ++ r ∷ [] → block_view ys ≡ closed_block (block_view (take (i + 1) b))
one_more b xs ys i r d lt h e f =
    ap block_view f ∙ block_end xs r ∙ ap (λ b. join b (stm_view r)) h
    ∙ ap (join (closed_block (block_view (take i b)))) e
    ∙ sym (closed_end (block_view (take i b)) (stm_view (get_or b i d)))
    ∙ ap closed_block (sym (block_end (take i b) (get_or b i d)))
    ∙ ap (λ l. closed_block (block_view l)) (sym (take_more b i d lt))

-- ---- statements with blocks, made from their vectors

pub if_closed : (a b : Box code_exp.Exp Global) (v w x y : Vec code_stm.Stm Global) → block_view x.items ≡ closed_block (block_view v.items) →
    block_view y.items ≡ closed_block (block_view w.items) → If (exp_view a.value) (block_view x.items) (block_view y.items) (exp_view b.value) ≡ closed_stm
    (stm_view (code_stm.If a v w b))
if_closed a b v w x y g h =
    ap (λ s. If (exp_view a.value) s (block_view y.items) (exp_view b.value)) g
    ∙ ap (λ s. If (exp_view a.value) (closed_block (block_view v.items)) s (exp_view b.value)) h
    ∙ ap closed_stm (sym (view_if a b v w))

pub loop_closed : (a b : Box code_exp.Exp Global) (v w x y : Vec code_stm.Stm Global) → block_view x.items ≡ closed_block (block_view v.items) →
    block_view y.items ≡ closed_block (block_view w.items) → Loop (exp_view a.value) (block_view x.items) (block_view y.items) (exp_view b.value) ≡ closed_stm
    (stm_view (code_stm.Loop a v w b))
loop_closed a b v w x y g h =
    ap (λ s. Loop (exp_view a.value) s (block_view y.items) (exp_view b.value)) g
    ∙ ap (λ s. Loop (exp_view a.value) (closed_block (block_view v.items)) s (exp_view b.value)) h
    ∙ ap closed_stm (sym (view_loop a b v w))

pub local_int_closed : (m n : code_name.Name) (a b : Box code_exp.Exp Global) (v w : Vec code_stm.Stm Global) → block_view w.items ≡ closed_block (block_view v.items) →
    LocalInt (name_view m) (exp_view a.value) (block_view w.items) (name_view m) (exp_view b.value) ≡ closed_stm (stm_view (code_stm.LocalInt m a v n b))
local_int_closed m n a b v w g =
    ap (λ z. LocalInt (name_view m) (exp_view a.value) z (name_view m) (exp_view b.value)) g
    ∙ ap closed_stm (sym (view_local_int m n a b v))

pub local_stack_closed : (m n : code_name.Name) (v w : Vec code_stm.Stm Global) → block_view w.items ≡ closed_block (block_view v.items) →
    LocalStack (name_view m) (block_view w.items) (name_view m) ≡ closed_stm (stm_view (code_stm.LocalStack m v n))
local_stack_closed m n v w g =
    ap (λ z. LocalStack (name_view m) z (name_view m)) g
    ∙ ap closed_stm (sym (view_local_stack m n v))
