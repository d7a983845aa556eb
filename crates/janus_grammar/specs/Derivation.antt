-- The grammar as books print it, a rule a line: which tokens are which tree.
use Rattle.std.specs.Prelude.{◌≡◌, ℕ, suc, ◌-◌, List, [], ◌∷◌, ◌++◌, Some}
use Rattle.janus_syntax.specs.declared.token.Span.{Span}
use Rattle.janus_syntax.specs.declared.token.Sign.TheVariants as sign
use Rattle.janus_syntax.specs.declared.token.Keyword.{Keyword}
use Rattle.janus_syntax.specs.declared.token.Keyword.TheVariants as keyword
use Rattle.janus_syntax.specs.declared.operator.Infix.{Infix}
use Rattle.janus_syntax.specs.declared.tree.Update.{Update}
use Rattle.janus_syntax.specs.Tokens.{Token, Name, Number, Sign_of, Keyword_of}
use Rattle.janus_syntax.specs.Tree.{Name as Named, named, Exp, Num, Var, Element, EmptyOf, TopOf, Neg, Stm, Skip, Assign, AssignElement, Push, Pop, Swap, If}
use Rattle.janus_syntax.specs.Tree.{Loop, LocalInt, LocalStack, Call, Uncall, Block, Empty, More, Declaration, Int, Array, StackOf, Parameter, IntParameter}
use Rattle.janus_syntax.specs.Tree.{ArrayParameter, StackParameter, Procedure, procedure_of, Cell, cell_of}
use Rattle.janus_syntax.specs.Operators.{weakest, joined, operator_at, update_at}
use Rattle.janus_syntax.specs.Table.{skip_block}

-- ---- expressions

-- `IsExpression n e from rest`: the tokens of from up to rest are e, an expression of level n. Level 0 are the operands; an
-- expression of any other level is one of the level below, or joins two by an operator of the level, where the left one
-- may have operators of that level too: they go from left to right.
pub data IsExpression : ℕ → Exp → List Token → List Token → Type 0 where
  number : {n : ℕ} {at : Span} {rest : List Token} → IsExpression 0 (Num n at) (Number n at ∷ rest) rest
  variable : {x : List ℕ} {at : Span} {rest : List Token} → IsExpression 0 (Var (named x at)) (Name x at ∷ rest) rest
  element : {x : List ℕ} {at opening closing : Span} {i : Exp} {from rest : List Token} →
      IsExpression weakest i from (Sign_of sign.CloseIndex closing ∷ rest) →
      IsExpression 0 (Element (named x at) i) (Name x at ∷ Sign_of sign.OpenIndex opening ∷ from) rest
  emptiness : {at_empty opening at closing : Span} {s : List ℕ} {rest : List Token} →
      IsExpression 0 (EmptyOf (named s at)) (Keyword_of keyword.Empty at_empty ∷ Sign_of sign.Open opening ∷ Name s at ∷ Sign_of sign.Close closing ∷ rest) rest
  top : {at_top opening at closing : Span} {s : List ℕ} {rest : List Token} →
      IsExpression 0 (TopOf (named s at)) (Keyword_of keyword.Top at_top ∷ Sign_of sign.Open opening ∷ Name s at ∷ Sign_of sign.Close closing ∷ rest) rest
  minus : {at : Span} {e : Exp} {from rest : List Token} → IsExpression 0 e from rest → IsExpression 0 (Neg e) (Sign_of sign.Minus at ∷ from) rest
  parentheses : {opening closing : Span} {e : Exp} {from rest : List Token} →
      IsExpression weakest e from (Sign_of sign.Close closing ∷ rest) → IsExpression 0 e (Sign_of sign.Open opening ∷ from) rest
  stronger : {n : ℕ} {e : Exp} {from rest : List Token} → IsExpression n e from rest → IsExpression (suc n) e from rest
  operation : {o : Infix} {t : Token} {a b : Exp} {from behind rest : List Token} → operator_at t ≡ Some o →
      IsExpression o.level a from (t ∷ behind) → IsExpression (o.level - 1) b behind rest → IsExpression o.level (joined o.joint a b) from rest

-- ---- statements

-- behind a name: a comma and a name, none or more times
pub data AreMoreNames : List Named → List Token → List Token → Type 0 where
  none : {rest : List Token} → AreMoreNames [] rest rest
  more : {comma at : Span} {x : List ℕ} {xs : List Named} {from rest : List Token} →
      AreMoreNames xs from rest → AreMoreNames (named x at ∷ xs) (Sign_of sign.Comma comma ∷ Name x at ∷ from) rest

-- names parted by commas, or none
pub data AreNames : List Named → List Token → List Token → Type 0 where
  no_names : {rest : List Token} → AreNames [] rest rest
  names : {at : Span} {x : List ℕ} {xs : List Named} {from rest : List Token} → AreMoreNames xs from rest → AreNames (named x at ∷ xs) (Name x at ∷ from) rest

mutual
  -- a statement
  pub data IsStatement : Stm → List Token → List Token → Type 0 where
    skip : {at : Span} {rest : List Token} → IsStatement Skip (Keyword_of keyword.Skip at ∷ rest) rest
    assignment : {x : List ℕ} {at : Span} {t : Token} {u : Update} {e : Exp} {from rest : List Token} → update_at t ≡ Some u →
        IsExpression weakest e from rest → IsStatement (Assign (named x at) u e) (Name x at ∷ t ∷ from) rest
    element_assignment : {x : List ℕ} {at opening closing : Span} {t : Token} {u : Update} {i e : Exp} {from behind rest : List Token} → update_at t ≡ Some u →
        IsExpression weakest i from (Sign_of sign.CloseIndex closing ∷ t ∷ behind) → IsExpression weakest e behind rest →
        IsStatement (AssignElement (named x at) i u e) (Name x at ∷ Sign_of sign.OpenIndex opening ∷ from) rest
    swap : {x y : List ℕ} {at on place : Span} {rest : List Token} →
        IsStatement (Swap (named x at) (named y place)) (Name x at ∷ Sign_of sign.Swap on ∷ Name y place ∷ rest) rest
    push : {at_push opening at comma place closing : Span} {x s : List ℕ} {rest : List Token} →
        IsStatement (Push (named x at) (named s place))
        (Keyword_of keyword.Push at_push ∷ Sign_of sign.Open opening ∷ Name x at ∷ Sign_of sign.Comma comma ∷ Name s place ∷ Sign_of sign.Close closing
        ∷ rest) rest
    pop : {at_pop opening at comma place closing : Span} {x s : List ℕ} {rest : List Token} →
        IsStatement (Pop (named x at) (named s place))
        (Keyword_of keyword.Pop at_pop ∷ Sign_of sign.Open opening ∷ Name x at ∷ Sign_of sign.Comma comma ∷ Name s place ∷ Sign_of sign.Close closing
        ∷ rest) rest
    branch : {at_if at_then at_fi : Span} {test assertion : Exp} {a b : Block} {from then others last rest : List Token} →
        IsExpression weakest test from (Keyword_of keyword.Then at_then ∷ then) → IsBody a then others →
        IsOptional keyword.Else b others (Keyword_of keyword.Fi at_fi ∷ last) → IsExpression weakest assertion last rest →
        IsStatement (If test a b assertion) (Keyword_of keyword.If at_if ∷ from) rest
    repetition : {at_from at_until : Span} {assertion test : Exp} {a b : Block} {from first second last rest : List Token} →
        IsExpression weakest assertion from first → IsOptional keyword.Do a first second →
        IsOptional keyword.Loop b second (Keyword_of keyword.Until at_until ∷ last) → IsExpression weakest test last rest →
        IsStatement (Loop assertion a b test) (Keyword_of keyword.From at_from ∷ from) rest
    local_number : {at_local at_int at equals at_delocal at_kind place equals_again : Span} {x : List ℕ} {first test : Exp} {b : Block}
        {from behind last rest : List Token} →
        IsExpression weakest first from behind →
        IsBody b behind (Keyword_of keyword.Delocal at_delocal ∷ Keyword_of keyword.Int at_kind ∷ Name x place ∷ Sign_of sign.Equals equals_again ∷ last) →
        IsExpression weakest test last rest →
        IsStatement (LocalInt (named x at) first b (named x place) test)
        (Keyword_of keyword.Local at_local ∷ Keyword_of keyword.Int at_int ∷ Name x at ∷ Sign_of sign.Equals equals ∷ from) rest
    local_stack : {at_local at_stack at equals at_nil at_delocal at_kind place equals_again nil_again : Span} {x : List ℕ} {b : Block}
        {from rest : List Token} →
        IsBody b from
        (Keyword_of keyword.Delocal at_delocal ∷ Keyword_of keyword.Stack at_kind ∷ Name x place ∷ Sign_of sign.Equals equals_again
        ∷ Keyword_of keyword.Nil nil_again ∷ rest) →
        IsStatement (LocalStack (named x at) b (named x place))
        (Keyword_of keyword.Local at_local ∷ Keyword_of keyword.Stack at_stack ∷ Name x at ∷ Sign_of sign.Equals equals
        ∷ Keyword_of keyword.Nil at_nil ∷ from) rest
    call : {at_call at opening closing : Span} {f : List ℕ} {xs : List Named} {from rest : List Token} →
        AreNames xs from (Sign_of sign.Close closing ∷ rest) →
        IsStatement (Call (named f at) xs) (Keyword_of keyword.Call at_call ∷ Name f at ∷ Sign_of sign.Open opening ∷ from) rest
    inverse_call : {at_uncall at opening closing : Span} {f : List ℕ} {xs : List Named} {from rest : List Token} →
        AreNames xs from (Sign_of sign.Close closing ∷ rest) →
        IsStatement (Uncall (named f at) xs) (Keyword_of keyword.Uncall at_uncall ∷ Name f at ∷ Sign_of sign.Open opening ∷ from) rest

  -- none or more
  pub data AreStatements : Block → List Token → List Token → Type 0 where
    none : {rest : List Token} → AreStatements Empty rest rest
    more : {s : Stm} {b : Block} {from behind rest : List Token} → IsStatement s from behind → AreStatements b behind rest → AreStatements (More s b) from rest

  -- one or more
  pub data IsBody : Block → List Token → List Token → Type 0 where
    body : {s : Stm} {b : Block} {from behind rest : List Token} → IsStatement s from behind → AreStatements b behind rest → IsBody (More s b) from rest

  -- a keyword and its body; where it is left out, the body is one `skip`
  pub data IsOptional : Keyword → Block → List Token → List Token → Type 0 where
    there : {w : Keyword} {at : Span} {b : Block} {from rest : List Token} → IsBody b from rest → IsOptional w b (Keyword_of w at ∷ from) rest
    left_out : {w : Keyword} {rest : List Token} → IsOptional w skip_block rest rest

-- ---- declarations

-- a declaration
pub data IsDeclaration : Declaration → List Token → List Token → Type 0 where
  number : {at_int at : Span} {x : List ℕ} {rest : List Token} → IsDeclaration (Int (named x at)) (Keyword_of keyword.Int at_int ∷ Name x at ∷ rest) rest
  array : {at_int at opening place closing : Span} {x : List ℕ} {n : ℕ} {rest : List Token} →
      IsDeclaration (Array (named x at) n place)
      (Keyword_of keyword.Int at_int ∷ Name x at ∷ Sign_of sign.OpenIndex opening ∷ Number n place ∷ Sign_of sign.CloseIndex closing ∷ rest) rest
  stack : {at_stack at : Span} {s : List ℕ} {rest : List Token} →
      IsDeclaration (StackOf (named s at)) (Keyword_of keyword.Stack at_stack ∷ Name s at ∷ rest) rest

-- none or more
pub data AreDeclarations : List Declaration → List Token → List Token → Type 0 where
  none : {rest : List Token} → AreDeclarations [] rest rest
  more : {d : Declaration} {ds : List Declaration} {from behind rest : List Token} → IsDeclaration d from behind → AreDeclarations ds behind rest →
      AreDeclarations (d ∷ ds) from rest

-- ---- procedures

-- a parameter: a number, an array, or a stack
pub data IsParameter : Parameter → List Token → List Token → Type 0 where
  number : {at_int at : Span} {x : List ℕ} {rest : List Token} → IsParameter (IntParameter (named x at)) (Keyword_of keyword.Int at_int ∷ Name x at ∷ rest) rest
  array : {at_int at opening closing : Span} {x : List ℕ} {rest : List Token} →
      IsParameter (ArrayParameter (named x at))
      (Keyword_of keyword.Int at_int ∷ Name x at ∷ Sign_of sign.OpenIndex opening ∷ Sign_of sign.CloseIndex closing ∷ rest) rest
  stack : {at_stack at : Span} {s : List ℕ} {rest : List Token} →
      IsParameter (StackParameter (named s at)) (Keyword_of keyword.Stack at_stack ∷ Name s at ∷ rest) rest

-- behind a parameter: a comma and a parameter, none or more times
pub data AreMoreParameters : List Parameter → List Token → List Token → Type 0 where
  none : {rest : List Token} → AreMoreParameters [] rest rest
  more : {comma : Span} {x : Parameter} {xs : List Parameter} {from behind rest : List Token} →
      IsParameter x from behind → AreMoreParameters xs behind rest → AreMoreParameters (x ∷ xs) (Sign_of sign.Comma comma ∷ from) rest

-- parameters parted by commas, or none
pub data AreParameters : List Parameter → List Token → List Token → Type 0 where
  no_parameters : {rest : List Token} → AreParameters [] rest rest
  parameters : {x : Parameter} {xs : List Parameter} {from behind rest : List Token} → IsParameter x from behind → AreMoreParameters xs behind rest →
      AreParameters (x ∷ xs) from rest

-- a procedure: its name, its parameters in parentheses, and its body
pub data IsProcedure : Procedure → List Token → List Token → Type 0 where
  procedure : {at_procedure at opening closing : Span} {f : List ℕ} {xs : List Parameter} {b : Block} {from behind rest : List Token} →
      AreParameters xs from (Sign_of sign.Close closing ∷ behind) → IsBody b behind rest →
      IsProcedure (procedure_of (named f at) xs b) (Keyword_of keyword.Procedure at_procedure ∷ Name f at ∷ Sign_of sign.Open opening ∷ from) rest

-- none or more
pub data AreProcedures : List Procedure → List Token → List Token → Type 0 where
  none : {rest : List Token} → AreProcedures [] rest rest
  more : {p : Procedure} {ps : List Procedure} {from behind rest : List Token} → IsProcedure p from behind → AreProcedures ps behind rest →
      AreProcedures (p ∷ ps) from rest

-- ---- cells

-- `main`: its declarations and its statements
pub data IsMain : List Declaration → Block → List Token → List Token → Type 0 where
  main : {at_procedure at opening closing : Span} {ds : List Declaration} {b : Block} {from middle rest : List Token} →
      AreDeclarations ds from middle → AreStatements b middle rest →
      IsMain ds b (Keyword_of keyword.Procedure at_procedure ∷ Keyword_of keyword.Main at ∷ Sign_of sign.Open opening ∷ Sign_of sign.Close closing ∷ from) rest

-- declarations, then statements, then procedures; or procedures of which one is `main`, which gives the declarations and the statements
pub data IsCell : Cell → List Token → List Token → Type 0 where
  cell : {ds : List Declaration} {b : Block} {ps : List Procedure} {from middle behind rest : List Token} →
      AreDeclarations ds from middle → AreStatements b middle behind → AreProcedures ps behind rest → IsCell (cell_of ds b ps) from rest
  program : {ds : List Declaration} {b : Block} {ps qs : List Procedure} {from middle behind rest : List Token} →
      AreProcedures ps from middle → IsMain ds b middle behind → AreProcedures qs behind rest → IsCell (cell_of ds b (ps ++ qs)) from rest
