-- The print of a closed tree is that of the procedure without places.
use Rattle.std.proofs.Common.{◌≡◌, ℕ, ◌-◌, List, [], ◌∷◌, ◌++◌, map, nat_lt, refl, ap, ◌∙◌, sym}
use Rattle.janus_syntax.specs.declared.token.Sign.{Sign}
use Rattle.janus_syntax.specs.declared.token.Sign.TheVariants as sign
use Rattle.janus_syntax.specs.declared.token.Keyword.{Keyword}
use Rattle.janus_syntax.specs.declared.token.Keyword.TheVariants as keyword
use Rattle.janus_syntax.specs.declared.tree.Operator.{Operator}
use Rattle.janus_syntax.specs.declared.tree.Operator.TheVariants as operator
use Rattle.janus_syntax.specs.declared.tree.Update.{Update}
use Rattle.janus_syntax.specs.declared.tree.Update.TheVariants as update
use Rattle.janus_syntax.specs.Tree.{Name, named, Exp, Num, Var, Element, EmptyOf, TopOf, Neg, Bin, And, Or, Stm, Skip, Assign, AssignElement, Push, Pop, Swap}
use Rattle.janus_syntax.specs.Tree.{If, Loop, LocalInt, LocalStack, Call, Uncall, Block, Empty, More, Parameter, IntParameter, ArrayParameter, StackParameter}
use Rattle.janus_syntax.specs.Tree.{Procedure, procedure_of}
use Rattle.janus_syntax.specs.View.{text_of, operator_of, update_of, plain_exp, plain_stm, plain_block, plain_parameter, plain_procedure}
use Rattle.janus_syntax.specs.Operators.{weakest}
use Rattle.janus_syntax.specs.Printing.{Piece, A_name, A_sign, A_keyword, A_minus, An_opening, with_pieces, no_text, operator_sign, sign_level, if_needed}
use Rattle.janus_syntax.specs.Printing.{infix_pieces, binding_pieces, more_names_pieces, names_pieces, call_pieces, exp_pieces, update_sign, whole_pieces}
use Rattle.janus_syntax.specs.Printing.{stm_pieces, block_pieces, parameter_pieces, more_parameters_pieces, parameters_pieces, procedure_pieces}
use Rattle.janus_syntax.specs.Printing.{printed_procedure}
use Rattle.janus_code.specs.Closed.{closed_stm, closed_block, closed_procedure}
use Rattle.janus_code.specs.ProcedureTrees.{name_tree, operator_tree, update_tree, exp_tree, stm_tree, block_tree, parameter_tree, procedure_tree}

-- ---- expressions

same_operator : (o : Operator) → o ≡ operator_tree (operator_of o)
same_operator operator.Add = refl
same_operator operator.Subtract = refl
same_operator operator.Multiply = refl
same_operator operator.Divide = refl
same_operator operator.Remainder = refl
same_operator operator.BitAnd = refl
same_operator operator.BitOr = refl
same_operator operator.Xor = refl
same_operator operator.Less = refl
same_operator operator.Greater = refl
same_operator operator.AtMost = refl
same_operator operator.AtLeast = refl
same_operator operator.Equal = refl
same_operator operator.Differ = refl

same_update : (u : Update) → u ≡ update_tree (update_of u)
same_update update.Add = refl
same_update update.Subtract = refl
same_update update.Xor = refl

-- what is printed of an expression without its places
abbrev told_exp : Exp → ℕ → List Piece
told_exp e = exp_pieces (exp_tree (plain_exp e))

infix_same : (level : ℕ) (s : Sign) (f g h k : ℕ → List Piece) → ((n : ℕ) → f n ≡ g n) → ((n : ℕ) → h n ≡ k n) →
    infix_pieces level s f h ≡ infix_pieces level s g k
infix_same level s f g h k e d =
    let weaker = nat_lt level (sign_level s) in
    ap (λ (ps : List Piece). if_needed weaker sign.Open ++ (ps ++ A_sign s ∷ (h (sign_level s - 1) ++ if_needed weaker sign.Close))) (e (sign_level s))
    ∙ ap (λ (ps : List Piece). if_needed weaker sign.Open ++ (g (sign_level s) ++ A_sign s ∷ (ps ++ if_needed weaker sign.Close))) (d (sign_level s - 1))

exp_same : (e : Exp) (level : ℕ) → exp_pieces e level ≡ told_exp e level
exp_same (Num n at) level = refl
exp_same (Var (named x at)) level = refl
exp_same (Element (named x at) i) level = ap (λ (ps : List Piece). A_name x ∷ A_sign sign.OpenIndex ∷ (ps ++ A_sign sign.CloseIndex ∷ [])) (exp_same i weakest)
exp_same (EmptyOf (named x at)) level = refl
exp_same (TopOf (named x at)) level = refl
exp_same (Neg e) level = ap (λ (ps : List Piece). A_minus ∷ ps) (exp_same e 0)
exp_same (Bin o l r) level =
    infix_same level (operator_sign o) (exp_pieces l) (told_exp l) (exp_pieces r) (told_exp r) (exp_same l) (exp_same r)
    ∙ ap (λ (p : Operator). infix_pieces level (operator_sign p) (told_exp l) (told_exp r)) (same_operator o)
exp_same (And l r) level = infix_same level sign.And (exp_pieces l) (told_exp l) (exp_pieces r) (told_exp r) (exp_same l) (exp_same r)
exp_same (Or l r) level = infix_same level sign.Or (exp_pieces l) (told_exp l) (exp_pieces r) (told_exp r) (exp_same l) (exp_same r)

-- ---- names

more_names_same : (xs : List Name) → more_names_pieces xs ≡ more_names_pieces (map name_tree (map text_of xs))
more_names_same [] = refl
more_names_same (named x at ∷ xs) = ap (λ (ps : List Piece). A_sign sign.Comma ∷ A_name x ∷ ps) (more_names_same xs)

names_same : (xs : List Name) → names_pieces xs ≡ names_pieces (map name_tree (map text_of xs))
names_same [] = refl
names_same (named x at ∷ xs) = ap (λ (ps : List Piece). A_name x ∷ ps) (more_names_same xs)

call_same : (w : Keyword) (f : List ℕ) (xs : List Name) → call_pieces w f xs ≡ call_pieces w f (map name_tree (map text_of xs))
call_same w f xs = ap (λ (ps : List Piece). A_keyword w ∷ A_name f ∷ An_opening ∷ (ps ++ A_sign sign.Close ∷ [])) (names_same xs)

-- ---- statements

-- what is printed of a whole expression and of a block without their places
abbrev told_whole : Exp → List Piece
told_whole e = told_exp e weakest

abbrev told_block : Block → List Piece
told_block b = block_pieces (block_tree (plain_block b))

-- four parts, each behind a keyword
abbrev four : Keyword → Keyword → Keyword → Keyword → List Piece → List Piece → List Piece → List Piece → List Piece
four v w x y a b c d = A_keyword v ∷ (a ++ A_keyword w ∷ (b ++ A_keyword x ∷ (c ++ A_keyword y ∷ d)))

four_same : (v w x y : Keyword) (a b c d e f g h : List Piece) → a ≡ e → b ≡ f → c ≡ g → d ≡ h → four v w x y a b c d ≡ four v w x y e f g h
four_same v w x y a b c d e f g h i j k l =
    ap (λ (ps : List Piece). four v w x y ps b c d) i ∙ ap (λ (ps : List Piece). four v w x y e ps c d) j
    ∙ ap (λ (ps : List Piece). four v w x y e f ps d) k ∙ ap (λ (ps : List Piece). four v w x y e f g ps) l

mutual
  stm_same : (s : Stm) → stm_pieces (closed_stm s) ≡ stm_pieces (stm_tree (plain_stm s))
  stm_same Skip = refl
  stm_same (Assign (named x at) u e) =
      ap (λ (o : Update). A_name x ∷ A_sign (update_sign o) ∷ whole_pieces e) (same_update u)
      ∙ ap (λ (ps : List Piece). A_name x ∷ A_sign (update_sign (update_tree (update_of u))) ∷ ps) (exp_same e weakest)
  stm_same (AssignElement (named x at) i u e) =
      ap (λ (o : Update). A_name x ∷ A_sign sign.OpenIndex ∷ (whole_pieces i ++ A_sign sign.CloseIndex ∷ A_sign (update_sign o) ∷ whole_pieces e))
      (same_update u)
      ∙ ap (λ (ps : List Piece). A_name x ∷ A_sign
      sign.OpenIndex ∷ (ps ++ A_sign sign.CloseIndex ∷ A_sign (update_sign (update_tree (update_of u))) ∷ whole_pieces e)) (exp_same i weakest)
      ∙ ap (λ (ps : List Piece). A_name x ∷ A_sign
      sign.OpenIndex ∷ (told_whole i ++ A_sign sign.CloseIndex ∷ A_sign (update_sign (update_tree (update_of u))) ∷ ps)) (exp_same e weakest)
  stm_same (Push (named x at) (named y to)) = refl
  stm_same (Pop (named x at) (named y to)) = refl
  stm_same (Swap (named x at) (named y to)) = refl
  stm_same (If e s t f) =
      four_same keyword.If keyword.Then keyword.Else keyword.Fi (whole_pieces e) (block_pieces (closed_block s)) (block_pieces (closed_block t))
      (whole_pieces f) (told_whole e) (told_block s) (told_block t) (told_whole f)
      (exp_same e weakest) (block_same s) (block_same t) (exp_same f weakest)
  stm_same (Loop e s t f) =
      four_same keyword.From keyword.Do keyword.Loop keyword.Until (whole_pieces e) (block_pieces (closed_block s)) (block_pieces (closed_block t))
      (whole_pieces f) (told_whole e) (told_block s) (told_block t) (told_whole f)
      (exp_same e weakest) (block_same s) (block_same t) (exp_same f weakest)
  stm_same (LocalInt (named x at) e s y f) =
      ap (λ (ps : List Piece). binding_pieces keyword.Local keyword.Int
      x ++ (ps ++ (block_pieces (closed_block s) ++ (binding_pieces keyword.Delocal keyword.Int x ++ whole_pieces f)))) (exp_same e weakest)
      ∙ ap (λ (ps : List Piece). binding_pieces keyword.Local keyword.Int
      x ++ (told_whole e ++ (ps ++ (binding_pieces keyword.Delocal keyword.Int x ++ whole_pieces f)))) (block_same s)
      ∙ ap (λ (ps : List Piece). binding_pieces keyword.Local keyword.Int
      x ++ (told_whole e ++ (told_block s ++ (binding_pieces keyword.Delocal keyword.Int x ++ ps)))) (exp_same f weakest)
  stm_same (LocalStack (named x at) s y) =
      ap (λ (ps : List Piece). binding_pieces keyword.Local keyword.Stack x ++ A_keyword
      keyword.Nil ∷ (ps ++ (binding_pieces keyword.Delocal keyword.Stack x ++ A_keyword keyword.Nil ∷ []))) (block_same s)
  stm_same (Call (named f at) xs) = call_same keyword.Call f xs
  stm_same (Uncall (named f at) xs) = call_same keyword.Uncall f xs

  block_same : (b : Block) → block_pieces (closed_block b) ≡ told_block b
  block_same Empty = refl
  block_same (More s b) = ap (λ (ps : List Piece). ps ++ block_pieces (closed_block b)) (stm_same s)
      ∙ ap (λ (ps : List Piece). stm_pieces (stm_tree (plain_stm s)) ++ ps) (block_same b)

-- ---- procedures

parameter_same : (x : Parameter) → parameter_pieces x ≡ parameter_pieces (parameter_tree (plain_parameter x))
parameter_same (IntParameter (named x at)) = refl
parameter_same (ArrayParameter (named x at)) = refl
parameter_same (StackParameter (named x at)) = refl

abbrev told_parameters : List Parameter → List Parameter
told_parameters xs = map parameter_tree (map plain_parameter xs)

more_parameters_same : (xs : List Parameter) → more_parameters_pieces xs ≡ more_parameters_pieces (told_parameters xs)
more_parameters_same [] = refl
more_parameters_same (x ∷ xs) =
    ap (λ (ps : List Piece). A_sign sign.Comma ∷ (ps ++ more_parameters_pieces xs)) (parameter_same x)
    ∙ ap (λ (ps : List Piece). A_sign sign.Comma ∷ (parameter_pieces (parameter_tree (plain_parameter x)) ++ ps)) (more_parameters_same xs)

parameters_same : (xs : List Parameter) → parameters_pieces xs ≡ parameters_pieces (told_parameters xs)
parameters_same [] = refl
parameters_same (x ∷ xs) =
    ap (λ (ps : List Piece). ps ++ more_parameters_pieces xs) (parameter_same x)
    ∙ ap (λ (ps : List Piece). parameter_pieces (parameter_tree (plain_parameter x)) ++ ps) (more_parameters_same xs)

procedure_same : (q : Procedure) → procedure_pieces (closed_procedure q) ≡ procedure_pieces (procedure_tree (plain_procedure q))
procedure_same (procedure_of (named f at) xs b) =
    ap (λ (ps : List Piece). A_keyword keyword.Procedure ∷ A_name f ∷ An_opening ∷ (ps ++ A_sign sign.Close ∷ block_pieces (closed_block b)))
    (parameters_same xs)
    ∙ ap (λ (ps : List Piece). A_keyword keyword.Procedure ∷ A_name f ∷ An_opening ∷ (parameters_pieces (told_parameters xs) ++ A_sign sign.Close ∷ ps))
    (block_same b)

-- a closed tree has the print of the tree of its procedure
pub one_print : (q : Procedure) → printed_procedure (procedure_tree (plain_procedure q)) ≡ printed_procedure (closed_procedure q)
one_print q = ap (λ (ps : List Piece). (with_pieces no_text ps).text) (sym (procedure_same q))
