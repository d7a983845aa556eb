-- Trees that differ in places alone name the same names.
use Rattle.std.proofs.Common.{◌≡◌, Bool, false, not, ◌&&◌, ◌||◌, List, [], ◌∷◌, map, refl, sym, ap, ◌∙◌}
use Rattle.std.specs.List.{list_any}
use Rattle.janus_meaning.specs.Syntax as meaning
use Rattle.janus_meaning.specs.Store.{same_name}
use Rattle.janus_meaning.specs.World as world
use Rattle.janus_syntax.specs.Tree.{Name, named, Exp, Num, Var, Element, EmptyOf, TopOf, Neg, Bin, And, Or, Stm, Skip, Assign, AssignElement, Push, Pop, Swap}
use Rattle.janus_syntax.specs.Tree.{If}
use Rattle.janus_syntax.specs.Tree.{Loop, LocalInt, LocalStack, Call, Uncall, Block, Empty, More, Declaration, Int, Array, StackOf, Cell, cell_of}
use Rattle.janus_syntax.specs.View.{text_of, plain_exp, plain_stm, plain_block, plain_declaration, plain_cell}
use Rattle.kernel_text.specs.Naming.{is_it, in_exp, in_stm, in_block, in_declaration, in_cell}

module _ (x : meaning.Name) where
  abbrev is_name : meaning.Name → Bool
  is_name y = same_name y x

  -- the same questions of trees without places
  abbrev names_exp : meaning.Exp → Bool
  names_exp (meaning.Number n) = false
  names_exp (meaning.Var y) = is_name y
  names_exp (meaning.At a i) = is_name a || names_exp i
  names_exp (meaning.Empty y) = is_name y
  names_exp (meaning.Top y) = is_name y
  names_exp (meaning.Negate e) = names_exp e
  names_exp (meaning.Binary op l r) = names_exp l || names_exp r
  names_exp (meaning.And l r) = names_exp l || names_exp r
  names_exp (meaning.Or l r) = names_exp l || names_exp r

  abbrev mutual
    names_stm : meaning.Stm → Bool
    names_stm (meaning.Do meaning.Skip) = false
    names_stm (meaning.Do (meaning.Set y u e)) = is_name y || names_exp e
    names_stm (meaning.Do (meaning.SetAt a i u e)) = is_name a || names_exp i || names_exp e
    names_stm (meaning.Do (meaning.Push y z)) = is_name y || is_name z
    names_stm (meaning.Do (meaning.Pop y z)) = is_name y || is_name z
    names_stm (meaning.Do (meaning.Swap y z)) = is_name y || is_name z
    names_stm (meaning.Branch w a s t b) = names_exp a || names_block s || names_block t || names_exp b
    names_stm (meaning.Local y (meaning.LocalInt a b) s) = names_exp a || (not (is_name y) && names_block s) || names_exp b
    names_stm (meaning.Local y meaning.LocalStack s) = not (is_name y) && names_block s
    names_stm (meaning.Call w f ys) = list_any is_name ys

    names_block : meaning.Blk → Bool
    names_block meaning.Nil = false
    names_block (meaning.Cons s b) = names_stm s || names_block b

  abbrev names_declaration : world.Declaration → Bool
  names_declaration (world.DeclareInt y) = is_name y
  names_declaration (world.DeclareArray y n) = is_name y
  names_declaration (world.DeclareStack y) = is_name y

  abbrev names_cell : world.Cell → Bool
  names_cell c = list_any names_declaration c.declarations || names_block c.block

  -- and their answers

  it : (y : Name) → is_it x y ≡ is_name (text_of y)
  it (named y at) = refl

  any : (ys : List Name) → list_any (is_it x) ys ≡ list_any is_name (map text_of ys)
  any [] = refl
  any (y ∷ ys) = λ k. it y k || any ys k

  exp : (e : Exp) → in_exp x e ≡ names_exp (plain_exp e)
  exp (Num n at) = refl
  exp (Var y) = it y
  exp (Element a i) = λ k. it a k || exp i k
  exp (EmptyOf y) = it y
  exp (TopOf y) = it y
  exp (Neg e) = exp e
  exp (Bin op l r) = λ k. exp l k || exp r k
  exp (And l r) = λ k. exp l k || exp r k
  exp (Or l r) = λ k. exp l k || exp r k

  mutual
    stm : (s : Stm) → in_stm x s ≡ names_stm (plain_stm s)
    stm Skip = refl
    stm (Assign y u e) = λ k. it y k || exp e k
    stm (AssignElement a i u e) = λ k. it a k || exp i k || exp e k
    stm (Push y z) = λ k. it y k || it z k
    stm (Pop y z) = λ k. it y k || it z k
    stm (Swap y z) = λ k. it y k || it z k
    stm (If a s t b) = λ k. exp a k || block s k || block t k || exp b k
    stm (Loop a s t b) = λ k. exp a k || block s k || block t k || exp b k
    stm (LocalInt y a s z b) = λ k. exp a k || (not (it y k) && block s k) || exp b k
    stm (LocalStack y s z) = λ k. not (it y k) && block s k
    stm (Call f ys) = any ys
    stm (Uncall f ys) = any ys

    block : (b : Block) → in_block x b ≡ names_block (plain_block b)
    block Empty = refl
    block (More s b) = λ k. stm s k || block b k

  declaration : (d : Declaration) → in_declaration x d ≡ names_declaration (plain_declaration d)
  declaration (Int y) = it y
  declaration (Array y n at) = it y
  declaration (StackOf y) = it y

  declarations : (ds : List Declaration) → list_any (in_declaration x) ds ≡ list_any names_declaration (map plain_declaration ds)
  declarations [] = refl
  declarations (d ∷ ds) = λ k. declaration d k || declarations ds k

  cell : (c : Cell) → in_cell x c ≡ names_cell (plain_cell c)
  cell (cell_of ds b ps) = λ k. declarations ds k || block b k

pub same_names : (x : meaning.Name) (c d : Cell) → plain_cell c ≡ plain_cell d → in_cell x c ≡ in_cell x d
same_names x c d same = cell x c ∙ ap (names_cell x) same ∙ sym (cell x d)
