-- A cell has no faults exactly where it is well formed.
use Rattle.std.proofs.Common.{◌≡◌, List, [], ◌∷◌, ◌++◌, map, refl, ap, ◌∙◌, subst}
use Rattle.janus_meaning.specs.Syntax as tree
use Rattle.janus_meaning.specs.Shape.{Shape, Heads, heads_of}
use Rattle.janus_meaning.specs.Formed.{IsStm, IsBlk, AreProcs}
use Rattle.janus_meaning.specs.FormedWorld.{with_heads, with_declared}
use Rattle.janus_syntax.specs.Tree.{Declaration, Stm, Skip, Assign, AssignElement, Push, Pop, Swap, If, Loop, LocalInt, LocalStack, Call, Uncall, Block, Empty}
use Rattle.janus_syntax.specs.Tree.{More, Procedure, procedure_of, Cell, cell_of}
use Rattle.janus_syntax.specs.View.{text_of, plain_stm, plain_block, plain_parameter}
use Rattle.janus_check.specs.Names.{Known, shape_in, heads_in, over}
use Rattle.janus_check.specs.Sight.{heads_over}
use Rattle.janus_check.specs.Own.{IsOwn}
use Rattle.janus_check.specs.Check.{declarations_faults, after_declarations, heads_faults, heads_with, use_faults, exp_faults, side_faults, end_use_faults}
use Rattle.janus_check.specs.Check.{end_faults, shadow_faults, stm_faults, block_faults, parameters_faults, body_faults, bodies_faults, cell_faults}
use Rattle.janus_check.specs.WellFormed.{IsWellFormed, IsWellFormedOver, FaultsAreExact}
use Rattle.janus_check.proofs.NoFaults.{left_nil, right_nil, both_nil, four, all_four}
use Rattle.janus_check.proofs.UseLemmas.{use_formed, use_no_faults, exp_formed, exp_no_faults, side_formed, side_no_faults, shadow_formed, shadow_no_faults}
use Rattle.janus_check.proofs.UseLemmas.{end_uses, names_formed, names_no_faults}
use Rattle.janus_check.proofs.CallLemmas.{call_formed, call_no_faults}
use Rattle.janus_check.proofs.DeclaredLemmas.{declared, declares, declares_no_faults}
use Rattle.janus_check.proofs.HeadLemmas.{plain, all_apart, AreHeads, own_heads, defines, defines_no_faults}
use Rattle.janus_check.proofs.ParameterLemmas.{all_in_sight, parameters_formed, parameters_no_faults}

-- ---- statements

mutual
  stm_formed : (hs : Heads) (g : Shape) (s : Stm) → stm_faults hs g s ≡ [] → IsStm hs g (plain_stm s)
  stm_formed hs g Skip h = tt
  stm_formed hs g (Assign x o e) h = (use_formed g tree.ANumber x (left_nil _ _ h), side_formed g (text_of x) e (right_nil (use_faults g tree.ANumber x) _ h))
  stm_formed hs g (AssignElement a i o e) h =
      let front = left_nil (use_faults g tree.AnArray a ++ side_faults g (text_of a) i) _ h in (
        use_formed g tree.AnArray a (left_nil _ _ front),
        side_formed g (text_of a) i (right_nil (use_faults g tree.AnArray a) _ front),
        side_formed g (text_of a) e (right_nil (use_faults g tree.AnArray a ++ side_faults g (text_of a) i) _ h),
      )
  stm_formed hs g (Push x y) h = (use_formed g tree.ANumber x (left_nil _ _ h), use_formed g tree.AStack y (right_nil (use_faults g tree.ANumber x) _ h))
  stm_formed hs g (Pop x y) h = (use_formed g tree.ANumber x (left_nil _ _ h), use_formed g tree.AStack y (right_nil (use_faults g tree.ANumber x) _ h))
  stm_formed hs g (Swap x y) h = (use_formed g tree.ANumber x (left_nil _ _ h), use_formed g tree.ANumber y (right_nil (use_faults g tree.ANumber x) _ h))
  stm_formed hs g (If a s t b) h =
      let f = four (exp_faults g a) (block_faults hs g s) (block_faults hs g t) (exp_faults g b) h in
      (exp_formed g a f.0, block_formed hs g s f.1, block_formed hs g t f.2, exp_formed g b f.3)
  stm_formed hs g (Loop a s t b) h =
      let f = four (exp_faults g a) (block_faults hs g s) (block_faults hs g t) (exp_faults g b) h in
      (exp_formed g a f.0, block_formed hs g s f.1, block_formed hs g t f.2, exp_formed g b f.3)
  stm_formed hs g (LocalInt x a s y b) h =
      let inner = (text_of x, tree.ANumber) ∷ g in
      let f = four (shadow_faults g x) (end_faults g (text_of x) a) (block_faults hs inner s) (end_faults g (text_of x) b) h in
      let out = shadow_formed g x f.0 in
      let ends = names_formed (end_use_faults g (text_of x)) g (end_uses g (text_of x) out) in
      (out, ends a f.1, block_formed hs inner s f.2, ends b f.3)
  stm_formed hs g (LocalStack x s y) h =
      (shadow_formed g x (left_nil _ _ h), block_formed hs ((text_of x, tree.AStack) ∷ g) s (right_nil (shadow_faults g x) _ h))
  stm_formed hs g (Call f ys) h = call_formed hs g f ys h
  stm_formed hs g (Uncall f ys) h = call_formed hs g f ys h

  pub block_formed : (hs : Heads) (g : Shape) (b : Block) → block_faults hs g b ≡ [] → IsBlk hs g (plain_block b)
  block_formed hs g Empty h = tt
  block_formed hs g (More s b) h = (stm_formed hs g s (left_nil _ _ h), block_formed hs g b (right_nil (stm_faults hs g s) _ h))

mutual
  stm_no_faults : (hs : Heads) (g : Shape) (s : Stm) → IsStm hs g (plain_stm s) → stm_faults hs g s ≡ []
  stm_no_faults hs g Skip h = refl
  stm_no_faults hs g (Assign x o e) h = both_nil _ _ (use_no_faults g tree.ANumber x h.0) (side_no_faults g (text_of x) e h.1)
  stm_no_faults hs g (AssignElement a i o e) h =
      both_nil (use_faults g tree.AnArray a ++ side_faults g (text_of a) i)
      _ (both_nil _ _ (use_no_faults g tree.AnArray a h.0) (side_no_faults g (text_of a) i h.1)) (side_no_faults g (text_of a) e h.2)
  stm_no_faults hs g (Push x y) h = both_nil _ _ (use_no_faults g tree.ANumber x h.0) (use_no_faults g tree.AStack y h.1)
  stm_no_faults hs g (Pop x y) h = both_nil _ _ (use_no_faults g tree.ANumber x h.0) (use_no_faults g tree.AStack y h.1)
  stm_no_faults hs g (Swap x y) h = both_nil _ _ (use_no_faults g tree.ANumber x h.0) (use_no_faults g tree.ANumber y h.1)
  stm_no_faults hs g (If a s t b) h =
      all_four (exp_faults g a) (block_faults hs g s) (block_faults hs g t) (exp_faults g b) (exp_no_faults g a h.0) (block_no_faults hs g s h.1)
      (block_no_faults hs g t h.2) (exp_no_faults g b h.3)
  stm_no_faults hs g (Loop a s t b) h =
      all_four (exp_faults g a) (block_faults hs g s) (block_faults hs g t) (exp_faults g b) (exp_no_faults g a h.0) (block_no_faults hs g s h.1)
      (block_no_faults hs g t h.2) (exp_no_faults g b h.3)
  stm_no_faults hs g (LocalInt x a s y b) h =
      let inner = (text_of x, tree.ANumber) ∷ g in
      let ends = names_no_faults (end_use_faults g (text_of x)) g (end_uses g (text_of x) h.0) in
      all_four (shadow_faults g x) (end_faults g (text_of x) a) (block_faults hs inner s) (end_faults g (text_of x) b) (shadow_no_faults g x h.0) (ends a h.1)
      (block_no_faults hs inner s h.2) (ends b h.3)
  stm_no_faults hs g (LocalStack x s y) h =
      both_nil _ _ (shadow_no_faults g x h.0) (block_no_faults hs ((text_of x, tree.AStack) ∷ g) s h.1)
  stm_no_faults hs g (Call f ys) h = call_no_faults hs g f ys h
  stm_no_faults hs g (Uncall f ys) h = call_no_faults hs g f ys h

  pub block_no_faults : (hs : Heads) (g : Shape) (b : Block) → IsBlk hs g (plain_block b) → block_faults hs g b ≡ []
  block_no_faults hs g Empty h = refl
  block_no_faults hs g (More s b) h = both_nil _ _ (stm_no_faults hs g s h.0) (block_no_faults hs g b h.1)

-- ---- procedures

bodies_formed : (hs : Heads) (ps : List Procedure) → AreHeads hs (plain ps) → bodies_faults hs ps ≡ [] → AreProcs hs (plain ps)
bodies_formed hs [] a h = tt
bodies_formed hs (procedure_of f xs b ∷ ps) a h =
    let one = left_nil (body_faults hs (procedure_of f xs b)) _ h in
    let p = parameters_formed xs (left_nil (parameters_faults [] xs) _ one) in
    let body = subst (λ g. block_faults hs g b ≡ []) (all_in_sight xs p.1) (right_nil (parameters_faults [] xs) _ one) in (
      record { head = a.0; distinct = p.0; few = p.1; body = block_formed hs (map plain_parameter xs) b body },
      bodies_formed hs ps a.1 (right_nil (body_faults hs (procedure_of f xs b)) _ h),
    )

bodies_no_faults : (hs : Heads) (ps : List Procedure) → AreProcs hs (plain ps) → bodies_faults hs ps ≡ []
bodies_no_faults hs [] h = refl
bodies_no_faults hs (procedure_of f xs b ∷ ps) h =
    let p = parameters_no_faults xs h.0.distinct h.0.few in
    let body = ap (λ g. block_faults hs g b) (all_in_sight xs h.0.few) ∙ block_no_faults hs (map plain_parameter xs) b h.0.body in
    both_nil _ _ (both_nil _ _ p body) (bodies_no_faults hs ps h.1)

-- ---- cells

pub no_faults_formed : (g : Shape) (hs : Heads) (c : Cell) → cell_faults g hs c ≡ [] → IsWellFormed g hs c
no_faults_formed g hs (cell_of ds b ps) h =
    let parts = four (declarations_faults g ds) (heads_faults hs [] ps) (block_faults (heads_with hs ps) (after_declarations g ds) b)
    (bodies_faults (heads_with hs ps) ps) h in
    let d = declares g ds parts.0 in
    let e = defines hs [] ps parts.1 in
    let body = subst (λ n. block_faults (heads_with hs ps) n b ≡ []) d.names parts.2 in
    record {
      names = d.new;
      once = e.distinct;
      heads = e.definable;
      procedures = bodies_formed (with_heads hs (plain ps)) ps (own_heads hs (plain ps) e.distinct) (subst (λ n. bodies_faults n ps ≡ []) e.same parts.3);
      block = block_formed (with_heads hs (plain ps)) (with_declared g (declared ds)) b
          (subst (λ n. block_faults n (with_declared g (declared ds)) b ≡ []) e.same body);
    }

pub formed_no_faults : (g : Shape) (hs : Heads) (c : Cell) → IsWellFormed g hs c → cell_faults g hs c ≡ []
formed_no_faults g hs (cell_of ds b ps) f =
    let d = declares_no_faults g ds f.names in
    let e = defines_no_faults hs [] ps (all_apart (heads_of (plain ps))) f.once f.heads in
    all_four (declarations_faults g ds) (heads_faults hs [] ps) (block_faults (heads_with hs ps) (after_declarations g ds) b)
    (bodies_faults (heads_with hs ps) ps)
    d.0 e.0
    (ap (λ n. block_faults (heads_with hs ps) n b) d.1 ∙ ap (λ n. block_faults n (with_declared g (declared ds)) b) e.1
    ∙ block_no_faults (with_heads hs (plain ps)) (with_declared g (declared ds)) b f.block)
    (ap (λ n. bodies_faults n ps) e.1 ∙ bodies_no_faults (with_heads hs (plain ps)) ps f.procedures)

-- what was declared and defined of a well-formed cell
pub own_is : (k own : Known) (ds : List Declaration) (b : Block) (ps : List Procedure) → IsWellFormedOver k (cell_of ds b ps) →
    over (shape_in k.names) own.names ≡ after_declarations (shape_in k.names) ds → heads_over k own ≡ heads_with (heads_in k.procedures) ps →
    IsOwn k own (cell_of ds b ps)
own_is k own ds b ps f n m = record {
  names = n ∙ (declares_no_faults (shape_in k.names) ds f.names).1;
  heads = m ∙ (defines_no_faults (heads_in k.procedures) [] ps (all_apart (heads_of (plain ps))) f.once f.heads).1;
}

pub faults_are_exact : FaultsAreExact
faults_are_exact k =
    record {
      cells = λ c. (no_faults_formed (shape_in k.names) (heads_in k.procedures) c, formed_no_faults (shape_in k.names) (heads_in k.procedures) c);
      expressions = λ e. (exp_formed (shape_in k.names) e, exp_no_faults (shape_in k.names) e);
    }
