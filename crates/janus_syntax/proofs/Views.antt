-- How a statement with blocks is seen, where it is made from its vectors.
use Rattle.std.proofs.Common.{◌≡◌, Vec, Box, Global, refl, ap, ◌∙◌}
use mathlib.Core.Former.{Count}
use Rattle.janus_syntax.specs.declared.tree.Stm.{Stm, If, If', Loop, Loop', LocalInt, LocalInt', LocalStack, LocalStack', Row_of-Stm, end_of-Stm, more_of-Stm}
use Rattle.janus_syntax.specs.declared.tree.Stm.{items-the_row-Stm, items_hidden-the_row-Stm-0}
use Rattle.janus_syntax.specs.declared.tree.Exp as code_exp
use Rattle.janus_syntax.specs.declared.tree.Name as code_name
use Rattle.janus_syntax.specs.Tree
use Rattle.janus_syntax.specs.Tree.{Block, Empty, More, name_view, exp_view, stm_view, row_view, block_view}

row_is_block : (n : _) (row : Row_of-Stm n) → row_view row ≡ block_view (items-the_row-Stm n row)
row_is_block n end_of-Stm = refl
row_is_block n (more_of-Stm s rest) = ap (More (stm_view s)) (row_is_block _ rest)

abbrev rows_of : Stm → (n : Count) × Row_of-Stm n × (m : Count) × Row_of-Stm m
rows_of (If' _ _ ss _ ts _) = (_, ss, _, ts)
rows_of (Loop' _ _ ss _ ts _) = (_, ss, _, ts)
rows_of (LocalInt' _ _ _ ss _ _) = (_, ss, _, end_of-Stm)
rows_of (LocalStack' _ _ ss _) = (_, ss, _, end_of-Stm)
rows_of _ = (_, end_of-Stm, _, end_of-Stm)

pub view_if : (e f : Box code_exp.Exp Global) (v w : Vec Stm Global) → stm_view (If e v w f) ≡ Tree.If (exp_view e.value) (block_view v.items) (block_view w.items) (exp_view f.value)
view_if e f v w =
    let rows = rows_of (If e v w f) in
    ap (λ b. Tree.If (exp_view e.value) b (row_view rows.3) (exp_view f.value)) (row_is_block rows.0 rows.1 ∙ ap block_view (items_hidden-the_row-Stm-0 v))
    ∙ ap (λ b. Tree.If (exp_view e.value) (block_view v.items) b (exp_view f.value)) (row_is_block rows.2 rows.3 ∙ ap block_view (items_hidden-the_row-Stm-0 w))

pub view_loop : (e f : Box code_exp.Exp Global) (v w : Vec Stm Global) → stm_view (Loop e v w f) ≡ Tree.Loop (exp_view e.value) (block_view v.items) (block_view w.items)
    (exp_view f.value)
view_loop e f v w =
    let rows = rows_of (Loop e v w f) in
    ap (λ b. Tree.Loop (exp_view e.value) b (row_view rows.3) (exp_view f.value)) (row_is_block rows.0 rows.1 ∙ ap block_view (items_hidden-the_row-Stm-0 v))
    ∙ ap (λ b. Tree.Loop (exp_view e.value) (block_view v.items) b (exp_view f.value)) (row_is_block rows.2 rows.3 ∙ ap block_view (items_hidden-the_row-Stm-0 w))

pub view_local_int : (x y : code_name.Name) (e f : Box code_exp.Exp Global) (v : Vec Stm Global) → stm_view (LocalInt x e v y f) ≡ Tree.LocalInt (name_view x) (exp_view e.value)
    (block_view v.items) (name_view y) (exp_view f.value)
view_local_int x y e f v =
    let rows = rows_of (LocalInt x e v y f) in
    ap (λ b. Tree.LocalInt (name_view x) (exp_view e.value) b (name_view y) (exp_view f.value)) (row_is_block rows.0 rows.1 ∙ ap block_view (items_hidden-the_row-Stm-0 v))

pub view_local_stack : (x y : code_name.Name) (v : Vec Stm Global) → stm_view (LocalStack x v y) ≡ Tree.LocalStack (name_view x) (block_view v.items)
    (name_view y)
view_local_stack x y v =
    let rows = rows_of (LocalStack x v y) in
    ap (λ b. Tree.LocalStack (name_view x) b (name_view y)) (row_is_block rows.0 rows.1 ∙ ap block_view (items_hidden-the_row-Stm-0 v))
