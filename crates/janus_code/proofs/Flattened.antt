-- Flat statements with blocks.
use Rattle.std.proofs.Common.{◌≡◌, ◌<◌, ◌≤◌, ◌+◌, ◌⊎◌, ⊎_elim, inl, inr, ℕ, arith, length, get_or, [], ◌∷◌, ◌++◌, List, Vec, Box, Global, ap, ◌∙◌, sym, subst}
use Rattle.std.specs.Prelude.{IfOk, Result, Ok, Err, slice_get, Some}
use Rattle.std.proofs.Math.ListN.{get_or-append}
use Rattle.std.proofs.Math.Seq.{get_or-append_seam}
use Rattle.std.proofs.lemmas.Bool.{cases_lt}
use Rattle.janus_meaning.specs.Syntax as tree
use Rattle.janus_syntax.specs.declared.tree.Name as code_name
use Rattle.janus_syntax.specs.declared.tree.Exp as code_exp
use Rattle.janus_syntax.specs.declared.tree.Stm as code_stm
use Rattle.janus_syntax.specs.View.{name_of, stm_of, block_of, plain_stm, exp_of as plain}
use Rattle.janus_syntax.proofs.Views.{view_if, view_loop, view_local_int, view_local_stack}
use Rattle.janus_code.specs.declared.code.FlatExp as flat_exp
use Rattle.janus_meaning.specs.Syntax.{Name}
use Rattle.janus_meaning.specs.Shape.{Shape}
use Rattle.janus_check.specs.Slots.{slot, exp_in, stm_in, block_in}
use Rattle.janus_check.proofs.Weights.{stm_weight, block_weight, if_lighter, loop_lighter, local_int_lighter, local_stack_lighter}
use Rattle.janus_code.specs.Expressions.{exp_of}
use Rattle.janus_code.specs.Seen.{SeesStm, SeesBlk}

pub if_ok : {T E : Type 0} {P Q : T → Type 0} (r : Result T E) → ((x : T) → P x → Q x) → IfOk r P → IfOk r Q
if_ok (Ok x) f p = f x p
if_ok (Err e) f p = p

pub always_ok : {T E : Type 0} {P : T → Type 0} (r : Result T E) → ((x : T) → P x) → IfOk r P
always_ok (Ok x) f = f x
always_ok (Err e) f = tt

-- what is seen of a statement with blocks is seen of its blocks, which weigh less
pub record Parts (es : List Name) (g : Shape) (s : code_stm.Stm) (ss ts : List code_stm.Stm) : Type 0 where
  pub first : SeesBlk es g (block_of ss)
  pub second : SeesBlk es g (block_of ts)
  pub first_lighter : block_weight (block_of ss) < stm_weight (stm_of s)
  pub second_lighter : block_weight (block_of ts) < stm_weight (stm_of s)

pub if_parts : (es : List Name) (g : Shape) (s : code_stm.Stm) (a b : Box code_exp.Exp Global) (v w : Vec code_stm.Stm Global) → s ≡ code_stm.If a v w b →
    SeesStm es g (stm_of s) → Parts es g s v.items w.items
if_parts es g s a b v w e h =
    let is = ap stm_of e ∙ ap plain_stm (view_if a b v w) in
    let seen = subst (SeesStm es g) is h in
    let lighter = if_lighter s a b v w e in
    record { first = seen.1; second = seen.2; first_lighter = lighter.0; second_lighter = lighter.1 }

pub loop_parts : (es : List Name) (g : Shape) (s : code_stm.Stm) (a b : Box code_exp.Exp Global) (v w : Vec code_stm.Stm Global) → s ≡ code_stm.Loop a v w b →
    SeesStm es g (stm_of s) → Parts es g s v.items w.items
loop_parts es g s a b v w e h =
    let is = ap stm_of e ∙ ap plain_stm (view_loop a b v w) in
    let seen = subst (SeesStm es g) is h in
    let lighter = loop_lighter s a b v w e in
    record { first = seen.1; second = seen.2; first_lighter = lighter.0; second_lighter = lighter.1 }

pub record Part (es : List Name) (g : Shape) (s : code_stm.Stm) (ss : List code_stm.Stm) : Type 0 where
  pub block : SeesBlk es g (block_of ss)
  pub lighter : block_weight (block_of ss) < stm_weight (stm_of s)

pub local_int_part : (es : List Name) (g : Shape) (s : code_stm.Stm) (x y : code_name.Name) (a b : Box code_exp.Exp Global) (v : Vec code_stm.Stm Global) →
    s ≡ code_stm.LocalInt x a v y b → SeesStm es g (stm_of s) → Part es ((name_of x, tree.ANumber) ∷ g) s v.items
local_int_part es g s x y a b v e h =
    let is = ap stm_of e ∙ ap plain_stm (view_local_int x y a b v) in
    let seen = subst (SeesStm es g) is h in
    record { block = seen.1; lighter = local_int_lighter s x y a b v e }

pub local_stack_part : (es : List Name) (g : Shape) (s : code_stm.Stm) (x y : code_name.Name) (v : Vec code_stm.Stm Global) → s ≡ code_stm.LocalStack x v y →
    SeesStm es g (stm_of s) → Part es ((name_of x, tree.AStack) ∷ g) s v.items
local_stack_part es g s x y v e h =
    let is = ap stm_of e ∙ ap plain_stm (view_local_stack x y v) in
    let seen = subst (SeesStm es g) is h in
    record { block = seen; lighter = local_stack_lighter s x y v e }

-- each with slots in place of names, where the names of g are in sight
pub local_int_flat : (es g xs : List Name) (x y : code_name.Name) (a b : Box code_exp.Exp Global) (z : Name) (f h : flat_exp.FlatExp)
    (v : Vec code_stm.Stm Global) (s : tree.Blk) → z ≡ slot (length g) → exp_of xs f ≡ exp_in g (plain a.value) → exp_of xs h ≡ exp_in g (plain b.value) →
    s ≡ block_in es (name_of x ∷ g) (block_of v.items) →
    tree.Local z (tree.LocalInt (exp_of xs f) (exp_of xs h)) s ≡ stm_in es g (stm_of (code_stm.LocalInt x a v y b))
local_int_flat es g xs x y a b z f h v s n i j k =
    ap (λ z. tree.Local z (tree.LocalInt (exp_of xs f) (exp_of xs h)) s) n
    ∙ ap (λ e. tree.Local (slot (length g)) (tree.LocalInt e (exp_of xs h)) s) i
    ∙ ap (λ z1. tree.Local (slot (length g)) (tree.LocalInt (exp_in g (plain a.value)) z1) s) j
    ∙ ap (λ s. tree.Local (slot (length g)) (tree.LocalInt (exp_in g (plain a.value)) (exp_in g (plain b.value))) s) k
    ∙ ap (λ c. stm_in es g (plain_stm c)) (sym (view_local_int x y a b v))

pub local_stack_flat : (es g : List Name) (x y : code_name.Name) (z : Name) (v : Vec code_stm.Stm Global) (s : tree.Blk) → z ≡ slot (length g) →
    s ≡ block_in es (name_of x ∷ g) (block_of v.items) → tree.Local z tree.LocalStack s ≡ stm_in es g (stm_of (code_stm.LocalStack x v y))
local_stack_flat es g x y z v s n j =
    ap (λ z. tree.Local z tree.LocalStack s) n ∙ ap (λ z1. tree.Local (slot (length g)) tree.LocalStack z1) j ∙ ap (λ c. stm_in es g (plain_stm c)) (sym (view_local_stack x y v))

pub if_flat : (es g xs : List Name) (a b : Box code_exp.Exp Global) (f h : flat_exp.FlatExp) (v w : Vec code_stm.Stm Global) (s t : tree.Blk) →
    exp_of xs f ≡ exp_in g (plain a.value) → exp_of xs h ≡ exp_in g (plain b.value) → s ≡ block_in es g (block_of v.items) → t ≡ block_in es g (block_of w.items) →
    tree.Branch tree.If (exp_of xs f) s t (exp_of xs h) ≡ stm_in es g (stm_of (code_stm.If a v w b))
if_flat es g xs a b f h v w s t i j k l =
    ap (λ e. tree.Branch tree.If e s t (exp_of xs h)) i
    ∙ ap (tree.Branch tree.If (exp_in g (plain a.value)) s t) j
    ∙ ap (λ s. tree.Branch tree.If (exp_in g (plain a.value)) s t (exp_in g (plain b.value))) k
    ∙ ap (λ t. tree.Branch tree.If (exp_in g (plain a.value)) (block_in es g (block_of v.items)) t (exp_in g (plain b.value))) l
    ∙ ap (λ c. stm_in es g (plain_stm c)) (sym (view_if a b v w))

pub loop_flat : (es g xs : List Name) (a b : Box code_exp.Exp Global) (f h : flat_exp.FlatExp) (v w : Vec code_stm.Stm Global) (s t : tree.Blk) →
    exp_of xs f ≡ exp_in g (plain a.value) → exp_of xs h ≡ exp_in g (plain b.value) → s ≡ block_in es g (block_of v.items) → t ≡ block_in es g (block_of w.items) →
    tree.Branch tree.From (exp_of xs f) s t (exp_of xs h) ≡ stm_in es g (stm_of (code_stm.Loop a v w b))
loop_flat es g xs a b f h v w s t i j k l =
    ap (λ e. tree.Branch tree.From e s t (exp_of xs h)) i
    ∙ ap (tree.Branch tree.From (exp_in g (plain a.value)) s t) j
    ∙ ap (λ s. tree.Branch tree.From (exp_in g (plain a.value)) s t (exp_in g (plain b.value))) k
    ∙ ap (λ t. tree.Branch tree.From (exp_in g (plain a.value)) (block_in es g (block_of v.items)) t (exp_in g (plain b.value))) l
    ∙ ap (λ c. stm_in es g (plain_stm c)) (sym (view_loop a b v w))

-- ---- one more statement in the row of a block

row_at : (ns more : List ℕ) (n i j : ℕ) → more ≡ ns ++ n ∷ [] → length ns ≡ i → j < i + 1 →
    ((j < i) × (get_or more j 0 ≡ get_or ns j 0)) ⊎ ((j ≡ i) × (get_or more j 0 ≡ n))
row_at ns more n i j e l lt =
    ⊎_elim
    (λ (q : j < i). inl (q, ap (λ ms. get_or ms j 0) e ∙ get_or-append ns (n ∷ []) 0 j (omega (arith, l))))
    (λ (q : i ≤ j).
    let same : j ≡ i = omega arith in
    let end : j ≡ length ns = omega (arith, l) in
    inr (same, ap (λ ms. get_or ms j 0) e ∙ ap (λ k. get_or (ns ++ n ∷ []) k 0) end ∙ get_or-append_seam ns n [] 0))
    (cases_lt j i)

pub row_below : (ns more : List ℕ) (n i k m : ℕ) → more ≡ ns ++ n ∷ [] → length ns ≡ i → ((j : ℕ) → j < i → get_or ns j 0 < k) → k ≤ m → n < m → (j : ℕ) →
    j < i + 1 → get_or more j 0 < m
row_below ns more n i k m e l h le lt j q =
    ⊎_elim
    (λ (p : (j < i) × (get_or more j 0 ≡ get_or ns j 0)). let b : get_or ns j 0 < k = h j p.0 in omega (arith, p.1))
    (λ (p : (j ≡ i) × (get_or more j 0 ≡ n)). omega (arith, p.1))
    (row_at ns more n i j e l q)

pub row_trees : (r : code_stm.Stm → tree.Stm) (t u : ℕ → tree.Stm) (ns more : List ℕ) (n i k : ℕ) (ss : List code_stm.Stm) (c : code_stm.Stm) →
    more ≡ ns ++ n ∷ [] → length ns ≡ i → ((j : ℕ) → j < i → get_or ns j 0 < k) → ((j : ℕ) → j < k → u j ≡ t j) →
    ((j : ℕ) (s : code_stm.Stm) → j < i → slice_get ss j ≡ Some s → t (get_or ns j 0) ≡ r s) → slice_get ss i ≡ Some c → u n ≡ r c →
    (j : ℕ) (s : code_stm.Stm) → j < i + 1 → slice_get ss j ≡ Some s → u (get_or more j 0) ≡ r s
row_trees r t u ns more n i k ss c e l h same old here new j s q there =
    ⊎_elim
    (λ (p : (j < i) × (get_or more j 0 ≡ get_or ns j 0)). ap u p.1 ∙ same (get_or ns j 0) (h j p.0) ∙ old j s p.0 there)
    (λ (p : (j ≡ i) × (get_or more j 0 ≡ n)).
    let one : Some c ≡ Some s = sym here ∙ ap (slice_get ss) (sym p.0) ∙ there in
    let is : c ≡ s = cc in
    ap u p.1 ∙ new ∙ ap r is)
    (row_at ns more n i j e l q)
