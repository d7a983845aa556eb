-- Well-formed trees name what is in sight, and call procedures that calls see.
use Rattle.std.proofs.Common.{◌≡◌, ◌<◌, length, get_or, ℕ, zero, suc, Bool, true, false, List, [], ◌∷◌, map, refl, ap, ◌∙◌, sym, subst, arith}
use Rattle.std.specs.Prelude.{Some, Contains}
use Rattle.janus_meaning.specs.Syntax as tree
use Rattle.janus_meaning.specs.Syntax.{Name, Kind, Exp, Number, Var, At, Empty, Top, Negate, Binary, And, Or, Stm, Blk, Proc, Do, Skip, Set, SetAt, Push, Pop}
use Rattle.janus_meaning.specs.Syntax.{Swap, Branch, Local, LocalInt, LocalStack, Call, Nil, Cons}
use Rattle.janus_meaning.specs.Store.{same_name}
use Rattle.janus_meaning.specs.Shape.{Shape, Heads, kind_at, pick_newest, left_out, without}
use Rattle.janus_meaning.specs.Formed.{IsExp, AreArguments, IsStm, IsBlk, IsProc, AreProcs}
use Rattle.janus_syntax.specs.declared.tree.Stm as code_stm
use Rattle.janus_syntax.specs.declared.tree.Name as code_name
use Rattle.janus_syntax.specs.Tree.{names_view}
use Rattle.janus_syntax.specs.View.{name_of, text_of, stm_of, block_of}
use Rattle.janus_check.specs.Sight.{IsSeen}
use Rattle.janus_code.specs.Seen.{AreSeen, SeesExp, SeesStm, SeesBlk}
use Rattle.janus_code.specs.Slotted.{HasEntries}

-- one name more in front hides none
seen_behind : (y : Name) (e : Name × Kind) (g : Shape) → IsSeen g y → IsSeen (e ∷ g) y
seen_behind y e g h = by (same_name y e.0) refl
  where
    by : (b : Bool) → same_name y e.0 ≡ b → IsSeen (e ∷ g) y
    by true s = (e.1, ap (λ b. pick_newest b e.1 (kind_at y g)) s)
    by false s = (h.0, ap (λ b. pick_newest b e.1 (kind_at y g)) s ∙ h.1)

-- nor does a name that is put back
seen_without : (x y : Name) (g : Shape) → IsSeen (without x g) y → IsSeen g y
seen_without x y [] h = h
seen_without x y (e ∷ g) h = by (seen_without x y g) (same_name x e.0) refl
  where
    front : (IsSeen (without x g) y → IsSeen g y) → (b : Bool) → same_name y e.0 ≡ b → pick_newest b e.1 (kind_at y (without x g)) ≡ Some h.0 → IsSeen (e ∷ g) y
    front behind true s f = (e.1, ap (λ b. pick_newest b e.1 (kind_at y g)) s)
    front behind false s f = seen_behind y e g (behind (h.0, f))

    by : (IsSeen (without x g) y → IsSeen g y) → (b : Bool) → same_name x e.0 ≡ b → IsSeen (e ∷ g) y
    by behind true s = seen_behind y e g (behind (h.0, sym (ap (λ b. kind_at y (left_out b e (without x g))) s) ∙ h.1))
    by behind false s =
        let f : pick_newest (same_name y e.0) e.1 (kind_at y (without x g)) ≡ Some h.0 = sym (ap (λ b. kind_at y (left_out b e (without x g))) s) ∙ h.1 in
        front behind (same_name y e.0) refl (ap (λ b. pick_newest b e.1 (kind_at y (without x g))) refl ∙ f)

-- what is seen in one sight is seen in another
abbrev Shows : Shape → Shape → Type 0
Shows g h = (y : Name) → IsSeen h y → IsSeen g y

exp_seen_in : (g h : Shape) (e : Exp) → Shows g h → IsExp h e → SeesExp g e
exp_seen_in g h (Number n) m f = tt
exp_seen_in g h (Var x) m f = m x (tree.ANumber, f)
exp_seen_in g h (At a i) m f = (m a (tree.AnArray, f.0), exp_seen_in g h i m f.1)
exp_seen_in g h (Empty x) m f = m x (tree.AStack, f)
exp_seen_in g h (Top x) m f = m x (tree.AStack, f)
exp_seen_in g h (Negate e) m f = exp_seen_in g h e m f
exp_seen_in g h (Binary o l r) m f = (exp_seen_in g h l m f.0, exp_seen_in g h r m f.1)
exp_seen_in g h (And l r) m f = (exp_seen_in g h l m f.0, exp_seen_in g h r m f.1)
exp_seen_in g h (Or l r) m f = (exp_seen_in g h l m f.0, exp_seen_in g h r m f.1)

pub exp_seen : (g : Shape) (e : Exp) → IsExp g e → SeesExp g e
exp_seen g e f = exp_seen_in g g e (λ y s. s) f

side_seen : (x : Name) (g : Shape) (e : Exp) → IsExp (without x g) e → SeesExp g e
side_seen x g e f = exp_seen_in g (without x g) e (λ y s. seen_without x y g s) f

arguments_seen : (g h : Shape) (cs : List Kind) (ys : List Name) → Shows g h → AreArguments cs ys h → AreSeen g ys
arguments_seen g h [] [] m f = tt
arguments_seen g h [] (y ∷ ys) m f = absurd f
arguments_seen g h (c ∷ cs) [] m f = absurd f
arguments_seen g h (c ∷ cs) (y ∷ ys) m f =
    (m y (c, f.0), arguments_seen g (without y h) cs ys (λ z s. m z (seen_without y z h s)) f.1)

mutual
  stm_seen : (hs : Heads) (es : List Name) (g : Shape) (c : Stm) → HasEntries hs es → IsStm hs g c → SeesStm es g c
  stm_seen hs es g (Do Skip) q h = tt
  stm_seen hs es g (Do (Set x o e)) q h = ((tree.ANumber, h.0), side_seen x g e h.1)
  stm_seen hs es g (Do (SetAt a i o e)) q h = ((tree.AnArray, h.0), side_seen a g i h.1, side_seen a g e h.2)
  stm_seen hs es g (Do (Push x y)) q h = ((tree.ANumber, h.0), (tree.AStack, h.1))
  stm_seen hs es g (Do (Pop x y)) q h = ((tree.ANumber, h.0), (tree.AStack, h.1))
  stm_seen hs es g (Do (Swap x y)) q h = ((tree.ANumber, h.0), (tree.ANumber, h.1))
  stm_seen hs es g (Branch w a s t b) q h = (exp_seen g a h.0, block_seen hs es g s q h.1, block_seen hs es g t q h.2, exp_seen g b h.3)
  stm_seen hs es g (Local x (LocalInt a b) s) q h = (exp_seen g a h.1, block_seen hs es ((x, tree.ANumber) ∷ g) s q h.2, exp_seen g b h.3)
  stm_seen hs es g (Local x LocalStack s) q h = block_seen hs es ((x, tree.AStack) ∷ g) s q h.1
  stm_seen hs es g (Call w f ys) q h = (q f h.0 h.1, arguments_seen g g h.0 ys (λ y s. s) h.2)

  pub block_seen : (hs : Heads) (es : List Name) (g : Shape) (b : Blk) → HasEntries hs es → IsBlk hs g b → SeesBlk es g b
  block_seen hs es g Nil q h = tt
  block_seen hs es g (Cons c b) q h = (stm_seen hs es g c q h.0, block_seen hs es g b q h.1)

-- ---- one of several

pub one_name_seen : (g : Shape) (ys : List code_name.Name) (i : ℕ) (y : code_name.Name) → i < length ys → get_or ys i y ≡ y →
    AreSeen g (map text_of (names_view ys)) → IsSeen g (name_of y)
one_name_seen g [] i y lt e h = absurd (omega arith)
one_name_seen g (r ∷ ys) zero y lt e h = subst (λ y. IsSeen g (name_of y)) e h.0
one_name_seen g (r ∷ ys) (suc i) y lt e h = one_name_seen g ys i y (omega arith) e h.1

-- each statement of a block
pub one_seen : (es : List Name) (g : Shape) (ss : List code_stm.Stm) (i : ℕ) (s : code_stm.Stm) → i < length ss → get_or ss i s ≡ s →
    SeesBlk es g (block_of ss) → SeesStm es g (stm_of s)
one_seen es g [] i s lt e h = absurd (omega arith)
one_seen es g (r ∷ ss) zero s lt e h = subst (λ s. SeesStm es g (stm_of s)) e h.0
one_seen es g (r ∷ ss) (suc i) s lt e h = one_seen es g ss i s (omega arith) e h.1

-- each of several procedures
pub formed_one : (hs : Heads) (ps : List Proc) (p : Proc) → AreProcs hs ps → Contains ps p → IsProc hs p
formed_one hs [] p h c = absurd (omega (arith, c.1))
formed_one hs (q ∷ ps) p h (zero, lt, e) = subst (λ (q : Proc). IsProc hs q) e h.0
formed_one hs (q ∷ ps) p h (suc k, lt, e) = formed_one hs ps p h.1 (k, omega (arith, lt), e)
