-- Statements with blocks, by their parts.
use Rattle.std.proofs.Common.{◌≡◌, Vec, Box, Global, ap, ◌∙◌, sym}
use Rattle.janus_syntax.specs.declared.tree.Exp.{Exp}
use Rattle.janus_syntax.specs.declared.tree.Name.{Name}
use Rattle.janus_syntax.specs.declared.tree.Stm.{Stm, If, Loop, LocalInt, LocalStack}
use Rattle.janus_syntax.specs.Tree as tree
use Rattle.janus_syntax.specs.Tree.{name_view, exp_view, stm_view, block_view}
use Rattle.janus_syntax.proofs.Views.{view_if, view_loop, view_local_int, view_local_stack}

module _ (a d e h : Box Exp Global) (b c f g : Vec Stm Global) (first : exp_view a.value ≡ exp_view e.value) (last : exp_view d.value ≡ exp_view h.value)
    (block : block_view b.items ≡ block_view f.items) (second : block_view c.items ≡ block_view g.items) where
  pub same_if : stm_view (If a b c d) ≡ stm_view (If e f g h)
  same_if =
      view_if a d b c
      ∙ ap (λ x. tree.If x (block_view b.items) (block_view c.items) (exp_view d.value)) first
      ∙ ap (λ x. tree.If (exp_view e.value) x (block_view c.items) (exp_view d.value)) block
      ∙ ap (λ x. tree.If (exp_view e.value) (block_view f.items) x (exp_view d.value)) second
      ∙ ap (λ x. tree.If (exp_view e.value) (block_view f.items) (block_view g.items) x) last
      ∙ sym (view_if e h f g)

  pub same_loop : stm_view (Loop a b c d) ≡ stm_view (Loop e f g h)
  same_loop =
      view_loop a d b c
      ∙ ap (λ x. tree.Loop x (block_view b.items) (block_view c.items) (exp_view d.value)) first
      ∙ ap (λ x. tree.Loop (exp_view e.value) x (block_view c.items) (exp_view d.value)) block
      ∙ ap (λ x. tree.Loop (exp_view e.value) (block_view f.items) x (exp_view d.value)) second
      ∙ ap (λ x. tree.Loop (exp_view e.value) (block_view f.items) (block_view g.items) x) last
      ∙ sym (view_loop e h f g)

module _ (x y z w : Name) (b e : Vec Stm Global) (front : name_view x ≡ name_view z) (behind : name_view y ≡ name_view w)
    (block : block_view b.items ≡ block_view e.items) where
  pub same_int : (a c d f : Box Exp Global) → exp_view a.value ≡ exp_view d.value → exp_view c.value ≡ exp_view f.value →
      stm_view (LocalInt x a b y c) ≡ stm_view (LocalInt z d e w f)
  same_int a c d f first last =
      view_local_int x y a c b
      ∙ ap (λ k. tree.LocalInt k (exp_view a.value) (block_view b.items) (name_view y) (exp_view c.value)) front
      ∙ ap (λ k. tree.LocalInt (name_view z) k (block_view b.items) (name_view y) (exp_view c.value)) first
      ∙ ap (λ k. tree.LocalInt (name_view z) (exp_view d.value) k (name_view y) (exp_view c.value)) block
      ∙ ap (λ k. tree.LocalInt (name_view z) (exp_view d.value) (block_view e.items) k (exp_view c.value)) behind
      ∙ ap (λ k. tree.LocalInt (name_view z) (exp_view d.value) (block_view e.items) (name_view w) k) last
      ∙ sym (view_local_int z w d f e)

  pub same_stack : stm_view (LocalStack x b y) ≡ stm_view (LocalStack z e w)
  same_stack =
      view_local_stack x y b
      ∙ ap (λ k. tree.LocalStack k (block_view b.items) (name_view y)) front
      ∙ ap (λ k. tree.LocalStack (name_view z) k (name_view y)) block
      ∙ ap (λ k. tree.LocalStack (name_view z) (block_view e.items) k) behind
      ∙ sym (view_local_stack z w e)
