-- What of a tree the limits and the lexer ask, where it is printed: how deep its constructs lie, how many operators
-- a whole expression has, and that its names and numbers are ones.
use Rattle.std.proofs.Common.{◌≡◌, ℕ, suc, ◌+◌, ◌-◌, ◌≤◌, List, [], ◌∷◌, Bool, true, false, refl, arith}
use Rattle.std.specs.Prelude.{nat_lt}
use Rattle.std.proofs.lemmas.Bool.{ltb-true, lt-ltb}
use Rattle.janus_syntax.specs.declared.token.Sign.{Sign}
use Rattle.janus_syntax.specs.declared.token.Sign.TheVariants as sign
use Rattle.janus_syntax.specs.Tree.{Name, named, Exp, Num, Var, Element, EmptyOf, TopOf, Neg, Bin, And, Or, Stm, Skip, Assign, AssignElement, Push, Pop, Swap}
use Rattle.janus_syntax.specs.Tree.{If, Loop, LocalInt, LocalStack, Call, Uncall, Block, Empty, More, Declaration, Int, Array, StackOf, Parameter, IntParameter}
use Rattle.janus_syntax.specs.Tree.{ArrayParameter, StackParameter, Procedure, procedure_of, Cell, cell_of}
use Rattle.janus_syntax.specs.Operators.{weakest}
use Rattle.janus_syntax.specs.Forms.{same_named}
use Rattle.janus_syntax.specs.Lexical.{IsNameText, IsNoKeyword, largest_number}
use Rattle.janus_syntax.specs.Grammar.{depth_limit, operator_limit}
use Rattle.janus_syntax.specs.Printing.{operator_sign, sign_level}

abbrev pub IsName : Name → Type 0
IsName (named x at) = IsNameText x × IsNoKeyword x

abbrev pub AreNames : List Name → Type 0
AreNames [] = Unit {0}
AreNames (x ∷ xs) = IsName x × AreNames xs

-- the name x again
abbrev pub IsAgain : Name → Name → Type 0
IsAgain x y = IsName y × (same_named x y ≡ true)

-- the operators of an expression
abbrev pub operators : Exp → ℕ
operators (Num n at) = 0
operators (Var x) = 0
operators (Element x i) = operators i
operators (EmptyOf x) = 0
operators (TopOf x) = 0
operators (Neg e) = suc (operators e)
operators (Bin op l r) = suc (operators l + operators r)
operators (And l r) = suc (operators l + operators r)
operators (Or l r) = suc (operators l + operators r)

-- at this depth, or one deeper in parentheses
abbrev pub Parenthesized : Bool → (ℕ → Type 0) → ℕ → Type 0
Parenthesized true P d = (suc d ≤ depth_limit) × P (suc d)
Parenthesized false P d = P d

-- two operands of a sign's operator, in a place of a level
abbrev pub FitsInfix : Sign → (ℕ → ℕ → Type 0) → (ℕ → ℕ → Type 0) → ℕ → ℕ → Type 0
FitsInfix s left right level d = Parenthesized (nat_lt level (sign_level s)) (λ n. left (sign_level s) n × right (sign_level s - 1) n) d

-- an expression in a place of a level, with d constructs round it
abbrev pub FitsExp : Exp → ℕ → ℕ → Type 0
FitsExp (Num n at) level d = n ≤ largest_number
FitsExp (Var x) level d = IsName x
FitsExp (Element x i) level d = IsName x × (suc d ≤ depth_limit) × FitsExp i weakest (suc d)
FitsExp (EmptyOf x) level d = IsName x
FitsExp (TopOf x) level d = IsName x
FitsExp (Neg e) level d = (suc d ≤ depth_limit) × FitsExp e 0 (suc d)
FitsExp (Bin op l r) level d = FitsInfix (operator_sign op) (FitsExp l) (FitsExp r) level d
FitsExp (And l r) level d = FitsInfix sign.And (FitsExp l) (FitsExp r) level d
FitsExp (Or l r) level d = FitsInfix sign.Or (FitsExp l) (FitsExp r) level d

-- a whole expression
abbrev pub FitsWhole : Exp → ℕ → Type 0
FitsWhole e d = FitsExp e weakest d × (operators e ≤ operator_limit)

abbrev pub IsBody : Block → Type 0
IsBody Empty = ⊥
IsBody (More s b) = Unit {0}

abbrev mutual
  pub FitsStm : Stm → ℕ → Type 0
  FitsStm Skip d = Unit {0}
  FitsStm (Assign x u e) d = IsName x × FitsWhole e d
  FitsStm (AssignElement x i u e) d = IsName x × (suc d ≤ depth_limit) × FitsWhole i (suc d) × FitsWhole e d
  FitsStm (Push x s) d = IsName x × IsName s
  FitsStm (Pop x s) d = IsName x × IsName s
  FitsStm (Swap x y) d = IsName x × IsName y
  FitsStm (If e s t f) d = (suc d ≤ depth_limit) × FitsWhole e (suc d) × (IsBody s × FitsBlock s (suc d)) × (IsBody t × FitsBlock t (suc d)) ×
      FitsWhole f (suc d)
  FitsStm (Loop e s t f) d = (suc d ≤ depth_limit) × FitsWhole e (suc d) × (IsBody s × FitsBlock s (suc d)) × (IsBody t × FitsBlock t (suc d)) ×
      FitsWhole f (suc d)
  FitsStm (LocalInt x e s y f) d = (suc d ≤ depth_limit) × IsName x × FitsWhole e (suc d) × (IsBody s × FitsBlock s (suc d)) × IsAgain x y × FitsWhole f (suc d)
  FitsStm (LocalStack x s y) d = (suc d ≤ depth_limit) × IsName x × (IsBody s × FitsBlock s (suc d)) × IsAgain x y
  FitsStm (Call f xs) d = IsName f × AreNames xs
  FitsStm (Uncall f xs) d = IsName f × AreNames xs

  pub FitsBlock : Block → ℕ → Type 0
  FitsBlock Empty d = Unit {0}
  FitsBlock (More s b) d = FitsStm s d × FitsBlock b d

abbrev pub FitsDeclaration : Declaration → Type 0
FitsDeclaration (Int x) = IsName x
FitsDeclaration (Array x n at) = IsName x × (n ≤ largest_number)
FitsDeclaration (StackOf x) = IsName x

abbrev pub FitsDeclarations : List Declaration → Type 0
FitsDeclarations [] = Unit {0}
FitsDeclarations (d ∷ ds) = FitsDeclaration d × FitsDeclarations ds

abbrev pub FitsParameter : Parameter → Type 0
FitsParameter (IntParameter x) = IsName x
FitsParameter (ArrayParameter x) = IsName x
FitsParameter (StackParameter x) = IsName x

abbrev pub FitsParameters : List Parameter → Type 0
FitsParameters [] = Unit {0}
FitsParameters (x ∷ xs) = FitsParameter x × FitsParameters xs

abbrev pub FitsProcedure : Procedure → Type 0
FitsProcedure (procedure_of f xs b) = IsName f × FitsParameters xs × (IsBody b × FitsBlock b 0)

abbrev pub FitsProcedures : List Procedure → Type 0
FitsProcedures [] = Unit {0}
FitsProcedures (p ∷ ps) = FitsProcedure p × FitsProcedures ps

abbrev pub FitsCell : Cell → Type 0
FitsCell (cell_of ds b ps) = FitsDeclarations ds × FitsBlock b 0 × FitsProcedures ps

-- ---- less deep, and in a place of a weaker level

parenthesized_less : (a b : Bool) (P Q : ℕ → Type 0) (d d' : ℕ) → ((m n : ℕ) → m ≤ n → P n → Q m) → d' ≤ d → (b ≡ true → a ≡ true) → Parenthesized a P d →
    Parenthesized b Q d'
parenthesized_less true true P Q d d' less h only f = let few = f.0 in (omega (arith, few, h), less (suc d') (suc d) (omega (arith, h)) f.1)
parenthesized_less true false P Q d d' less h only f = less d' (suc d) (omega (arith, h)) f.1
parenthesized_less false true P Q d d' less h only f = let no = only refl in absurd cc
parenthesized_less false false P Q d d' less h only f = less d' d h f

still_weaker : (own level level' : ℕ) → level ≤ level' → nat_lt level' own ≡ true → nat_lt level own ≡ true
still_weaker own level level' h e = let l = ltb-true level' own e in lt-ltb level own (omega (arith, l, h))

infix_less : (s : Sign) (left right : ℕ → ℕ → Type 0) (level level' d d' : ℕ) → ((m n : ℕ) → m ≤ n → left (sign_level s) n → left (sign_level s) m) →
    ((m n : ℕ) → m ≤ n → right (sign_level s - 1) n → right (sign_level s - 1) m) →
    level ≤ level' → d' ≤ d → FitsInfix s left right level d → FitsInfix s left right level' d'
infix_less s left right level level' d d' l r h k f =
    parenthesized_less (nat_lt level (sign_level s)) (nat_lt level' (sign_level s)) _ _ d d' (λ m n e p. (l m n e p.0, r m n e p.1)) k
    (still_weaker (sign_level s) level level' h) f

pub fits_less : (e : Exp) (level level' d d' : ℕ) → level ≤ level' → d' ≤ d → FitsExp e level d → FitsExp e level' d'
fits_less (Num n at) level level' d d' h k f = f
fits_less (Var x) level level' d d' h k f = f
fits_less (Element x i) level level' d d' h k (name, few, f) =
    (name, omega (arith, few, k), fits_less i weakest weakest (suc d) (suc d') (omega arith) (omega (arith, k)) f)
fits_less (EmptyOf x) level level' d d' h k f = f
fits_less (TopOf x) level level' d d' h k f = f
fits_less (Neg e) level level' d d' h k (few, f) = (omega (arith, few, k), fits_less e 0 0 (suc d) (suc d') (omega arith) (omega (arith, k)) f)
fits_less (Bin op l r) level level' d d' h k f =
    infix_less (operator_sign op) (FitsExp l) (FitsExp r) level level' d d' (λ m n i. fits_less l _ _ n m (omega arith) i)
    (λ m n i. fits_less r _ _ n m (omega arith) i) h k f
fits_less (And l r) level level' d d' h k f = infix_less sign.And (FitsExp l) (FitsExp r) level level' d d' (λ m n i. fits_less l _ _ n m (omega arith) i)
    (λ m n i. fits_less r _ _ n m (omega arith) i) h k f
fits_less (Or l r) level level' d d' h k f = infix_less sign.Or (FitsExp l) (FitsExp r) level level' d d' (λ m n i. fits_less l _ _ n m (omega arith) i)
    (λ m n i. fits_less r _ _ n m (omega arith) i) h k f

-- ---- in parentheses any expression is an operand

infix_operand : (a b : Bool) (P : ℕ → Type 0) (d : ℕ) → ((m n : ℕ) → m ≤ n → P n → P m) → suc d ≤ depth_limit → Parenthesized a P (suc d) → Parenthesized b P d
infix_operand true true P d less h f = (h, less (suc d) (suc (suc d)) (omega arith) f.1)
infix_operand true false P d less h f = less d (suc (suc d)) (omega arith) f.1
infix_operand false true P d less h f = (h, f)
infix_operand false false P d less h f = less d (suc d) (omega arith) f

both_less : (l r : Exp) (x y : ℕ) (m n : ℕ) → m ≤ n → FitsExp l x n × FitsExp r y n → FitsExp l x m × FitsExp r y m
both_less l r x y m n h p = (fits_less l x x n m (omega arith) h p.0, fits_less r y y n m (omega arith) h p.1)

pub fits_operand : (e : Exp) (d : ℕ) → suc d ≤ depth_limit → FitsExp e weakest (suc d) → FitsExp e 0 d
fits_operand (Num n at) d h f = f
fits_operand (Var x) d h f = f
fits_operand (Element x i) d h f = fits_less (Element x i) 0 0 (suc d) d (omega arith) (omega arith) f
fits_operand (EmptyOf x) d h f = f
fits_operand (TopOf x) d h f = f
fits_operand (Neg e) d h f = fits_less (Neg e) 0 0 (suc d) d (omega arith) (omega arith) f
fits_operand (Bin op l r) d h f = infix_operand (nat_lt weakest (sign_level (operator_sign op))) (nat_lt 0 (sign_level (operator_sign op))) _ d
    (both_less l r _ _) h f
fits_operand (And l r) d h f = infix_operand (nat_lt weakest (sign_level sign.And)) (nat_lt 0 (sign_level sign.And)) _ d (both_less l r _ _) h f
fits_operand (Or l r) d h f = infix_operand (nat_lt weakest (sign_level sign.Or)) (nat_lt 0 (sign_level sign.Or)) _ d (both_less l r _ _) h f
