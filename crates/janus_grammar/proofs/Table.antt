-- What the table spells is derived by the rules.
use Rattle.std.proofs.Common.{◌≡◌, ℕ, zero, suc, ◌+◌, ◌-◌, List, [], ◌∷◌, ◌++◌, Option, Some, None, Bool, true, false, cond, refl, ap, sym, subst, ◌∙◌, arith}
use Rattle.std.specs.Prelude.{nat_eq}
use Rattle.std.proofs.lemmas.Bool.{eqb-true}
use Rattle.std.proofs.lemmas.List.{append-nil}
use Rattle.janus_syntax.specs.declared.token.Span.{Span}
use Rattle.janus_syntax.specs.declared.token.Sign.TheVariants as sign
use Rattle.janus_syntax.specs.declared.token.Keyword.TheVariants as keyword
use Rattle.janus_syntax.specs.declared.operator.Infix.{Infix}
use Rattle.janus_syntax.specs.declared.tree.Update.{Update}
use Rattle.janus_syntax.specs.declared.tree.LocalKind.{LocalKind}
use Rattle.janus_syntax.specs.declared.tree.LocalKind.TheVariants as kind
use Rattle.janus_syntax.specs.Tokens.{Token, Name, Number, Sign_of, Keyword_of}
use Rattle.janus_syntax.specs.Tree.{Name as Named, named, Exp, Num, EmptyOf, TopOf, Neg, Stm, Skip, Push, Pop, Swap, If, Loop, LocalInt, LocalStack, Call}
use Rattle.janus_syntax.specs.Tree.{Uncall, Block, Empty, More, Declaration, StackOf, Procedure, Cell, cell_of}
use Rattle.janus_syntax.specs.Operators.{weakest, joined, operator_at, update_at}
use Rattle.janus_syntax.specs.Forms.{Part, A_cell, Declarations, Bound, Procedures, A_procedure, Parameters, More_parameters, A_parameter, Brackets, Body}
use Rattle.janus_syntax.specs.Forms.{Statements, Else_part, Do_part, Loop_part, Local, Names, More_names, Swap_partner, Target_index, Whole, Level, Chain}
use Rattle.janus_syntax.specs.Forms.{Index, Tree, Seen, seen, The_sign, A_name, A_number, An_update, Form, done, take, part, close, Rule}
use Rattle.janus_syntax.specs.Table.{rule, left_out, variable, assignment, behind_target, declared, with_main, nothing, skip_block, keyword_then, sign_then}
use Rattle.janus_syntax.specs.Table.{stack_then, variable_and_stack_then, call_then, delocal_then, local_int, local_stack, whole, operand, chains, chain_rule}
use Rattle.janus_syntax.specs.Table.{statement, declaration}
use Rattle.janus_grammar.specs.Derivation
use Rattle.janus_grammar.specs.Derivation.{IsExpression, AreNames, AreMoreNames, IsStatement, AreStatements, IsBody, IsOptional, IsDeclaration, AreDeclarations}
use Rattle.janus_grammar.specs.Derivation.{IsParameter, AreMoreParameters, AreParameters, AreProcedures, IsMain, IsCell, there, left_out as no_keyword, cell}
use Rattle.janus_grammar.specs.Derivation.{body}
use Rattle.janus_syntax.proofs.Agreed.{agreed, kind_keyword}
use Rattle.janus_grammar.proofs.Tokens.{delocal_is, equals_is, nil_is, same_kind_is, same_name_is, then_is, fi_is, until_is, open_is, comma_is, close_is}
use Rattle.janus_grammar.proofs.Tokens.{close_index_is}

-- behind a name: an index, if there is one
pub data IsIndexed : Option Exp → List Token → List Token → Type 0 where
  without : {rest : List Token} → IsIndexed None rest rest
  indexed : {opening closing : Span} {i : Exp} {from rest : List Token} →
      IsExpression weakest i from (Sign_of sign.CloseIndex closing ∷ rest) → IsIndexed (Some i) (Sign_of sign.OpenIndex opening ∷ from) rest

-- behind the name that a statement begins with: `<=>` and a name, or nothing
pub data HasPartner : Option Named → List Token → List Token → Type 0 where
  no_partner : {rest : List Token} → HasPartner None rest rest
  partner : {on at : Span} {y : List ℕ} {rest : List Token} → HasPartner (Some (named y at)) (Sign_of sign.Swap on ∷ Name y at ∷ rest) rest

-- behind a declared name: a length, if there is one
pub data IsBounded : Option (ℕ × Span) → List Token → List Token → Type 0 where
  unbounded : {rest : List Token} → IsBounded None rest rest
  bounded : {opening place closing : Span} {n : ℕ} {rest : List Token} →
      IsBounded (Some (n, place)) (Sign_of sign.OpenIndex opening ∷ Number n place ∷ Sign_of sign.CloseIndex closing ∷ rest) rest

-- behind the name of an `int` parameter: brackets, or none
pub data AreBrackets : Bool → List Token → List Token → Type 0 where
  no_brackets : {rest : List Token} → AreBrackets false rest rest
  brackets : {opening closing : Span} {rest : List Token} → AreBrackets true (Sign_of sign.OpenIndex opening ∷ Sign_of sign.CloseIndex closing ∷ rest) rest

-- a cell with these procedures behind its own
abbrev pub grown : Cell → List Procedure → Cell
grown (cell_of ds b ps) qs = cell_of ds b (ps ++ qs)

-- what procedures, of which one may be `main` or not, make of the cell that is read so far
pub data Grows : Bool → Cell → Cell → List Token → List Token → Type 0 where
  by_procedures : {main : Bool} {c : Cell} {qs : List Procedure} {from rest : List Token} → AreProcedures qs from rest → Grows main c (grown c qs) from rest
  by_program : {c : Cell} {ds : List Declaration} {b : Block} {ps qs : List Procedure} {from middle behind rest : List Token} →
      AreProcedures ps from middle → IsMain ds b middle behind → AreProcedures qs behind rest → Grows true c (with_main ds b (grown (grown c ps) qs)) from rest

-- what the rules say of a part
abbrev pub Derived : (q : Part) → Tree q → List Token → List Token → Type 0
Derived A_cell c from rest = IsCell c from rest
Derived Declarations ds from rest = AreDeclarations ds from rest
Derived Bound n from rest = IsBounded n from rest
Derived (Procedures main c) d from rest = Grows main c d from rest
Derived (A_procedure main c) d from rest = (at : Span) → Grows main c d (Keyword_of keyword.Procedure at ∷ from) rest
Derived Parameters xs from rest = AreParameters xs from rest
Derived More_parameters xs from rest = AreMoreParameters xs from rest
Derived A_parameter x from rest = IsParameter x from rest
Derived Brackets b from rest = AreBrackets b from rest
Derived Body b from rest = IsBody b from rest
Derived Statements b from rest = AreStatements b from rest
Derived Else_part b from rest = IsOptional keyword.Else b from rest
Derived Do_part b from rest = IsOptional keyword.Do b from rest
Derived Loop_part b from rest = IsOptional keyword.Loop b from rest
Derived Local s from rest = (at : Span) → IsStatement s (Keyword_of keyword.Local at ∷ from) rest
Derived Names xs from rest = AreNames xs from rest
Derived More_names xs from rest = AreMoreNames xs from rest
Derived Swap_partner y from rest = HasPartner y from rest
Derived Target_index i from rest = IsIndexed i from rest
Derived Whole e from rest = IsExpression weakest e from rest
Derived (Level n) e from rest = IsExpression n e from rest
Derived (Chain n e) f from rest = (start : List Token) → IsExpression n e start from → IsExpression n f start rest
Derived Index i from rest = IsIndexed i from rest

-- what they say of a form
abbrev pub Means : {p : Part} → Form p → Tree p → List Token → List Token → Type 0
Means (done u) v from rest = (v ≡ u) × (rest ≡ from)
Means (take c k) v from rest = (t : Token) × (s : Seen c) × (behind : List Token) × (from ≡ t ∷ behind) × (agreed c t ≡ Some s) × Means (k s) v behind rest
Means (part q k) v from rest = (u : Tree q) × (middle : List Token) × Derived q u from middle × Means (k u) v middle rest
Means (close f) v from rest = Means f v from rest

pub form_as : {q : Part} (a r : Rule q) (u : Tree q) (from rest : List Token) → Some a ≡ Some r → Means r.form u from rest → Means a.form u from rest
form_as a r u from rest e h = let same : a ≡ r = cc in subst (λ (x : Rule _). Means x.form u from rest) (sym same) h

-- ---- parts that are left out

none_grown : (main : Bool) (c : Cell) (ts : List Token) → Grows main c c ts ts
none_grown main (cell_of ds b ps) ts = subst (λ qs. Grows main (cell_of ds b ps) (cell_of ds b qs) ts ts) (append-nil ps) (by_procedures AreProcedures.none)

pub left_out_derived : (q : Part) (u : Tree q) (ts : List Token) → left_out q ≡ Some u → Derived q u ts ts
left_out_derived A_cell u ts e = let same : nothing ≡ u =
    cc in subst (λ c. IsCell c ts ts) same (cell AreDeclarations.none AreStatements.none AreProcedures.none)
left_out_derived Declarations u ts e = let same : [] ≡ u = cc in subst (λ ds. AreDeclarations ds ts ts) same AreDeclarations.none
left_out_derived Bound u ts e = let same : None ≡ u = cc in subst (λ n. IsBounded n ts ts) same unbounded
left_out_derived (Procedures main c) u ts e = let same : c ≡ u = cc in subst (λ d. Grows main c d ts ts) same (none_grown main c ts)
left_out_derived (A_procedure main c) u ts e = absurd cc
left_out_derived Parameters u ts e = let same : [] ≡ u = cc in subst (λ xs. AreParameters xs ts ts) same AreParameters.no_parameters
left_out_derived More_parameters u ts e = let same : [] ≡ u = cc in subst (λ xs. AreMoreParameters xs ts ts) same AreMoreParameters.none
left_out_derived A_parameter u ts e = absurd cc
left_out_derived Brackets u ts e = let same : false ≡ u = cc in subst (λ b. AreBrackets b ts ts) same no_brackets
left_out_derived Body u ts e = absurd cc
left_out_derived Statements u ts e = let same : Empty ≡ u = cc in subst (λ b. AreStatements b ts ts) same AreStatements.none
left_out_derived Else_part u ts e = let same : skip_block ≡ u = cc in subst (λ b. IsOptional keyword.Else b ts ts) same no_keyword
left_out_derived Do_part u ts e = let same : skip_block ≡ u = cc in subst (λ b. IsOptional keyword.Do b ts ts) same no_keyword
left_out_derived Loop_part u ts e = let same : skip_block ≡ u = cc in subst (λ b. IsOptional keyword.Loop b ts ts) same no_keyword
left_out_derived Local u ts e = absurd cc
left_out_derived Names u ts e = let same : [] ≡ u = cc in subst (λ xs. AreNames xs ts ts) same AreNames.no_names
left_out_derived More_names u ts e = let same : [] ≡ u = cc in subst (λ xs. AreMoreNames xs ts ts) same AreMoreNames.none
left_out_derived Swap_partner u ts e = let same : None ≡ u = cc in subst (λ y. HasPartner y ts ts) same no_partner
left_out_derived Target_index u ts e = let same : None ≡ u = cc in subst (λ i. IsIndexed i ts ts) same without
left_out_derived Whole u ts e = absurd cc
left_out_derived (Level n) u ts e = absurd cc
left_out_derived (Chain n x) u ts e = let same : x ≡ u = cc in λ start h. subst (λ y. IsExpression n y start ts) same h
left_out_derived Index u ts e = let same : None ≡ u = cc in subst (λ i. IsIndexed i ts ts) same without

-- ---- names in parentheses

pub name_is : (t : Token) (s : Named) → seen A_name t ≡ Some s → (x : List ℕ) × (at : Span) × (t ≡ Name x at) × (named x at ≡ s)
name_is (Name x at) s e = (x, at, refl, cc)
name_is (Number n at) s e = absurd cc
name_is (Sign_of r at) s e = absurd cc
name_is (Keyword_of w at) s e = absurd cc

-- a stack, and what the form behind it means
stack_derived : {p : Part} (k : Named → Form p) (v : Tree p) (from rest : List Token) → Means (stack_then k) v from rest →
    (opening : Span) × (x : List ℕ) × (at : Span) × (closing : Span) × (behind : List Token) ×
    (from ≡ Sign_of sign.Open opening ∷ Name x at ∷ Sign_of sign.Close closing ∷ behind) × Means (k (named x at)) v behind rest
stack_derived k v from rest h =
    let (t1, u1, b1, w1, is1, h1) = h in
    let (t2, s, b2, w2, is2, h2) = h1 in
    let (t3, u3, b3, w3, is3, more) = h2 in
    let o = open_is from t1 u1 b1 w1 is1 in
    let n = name_is t2 s is2 in
    let c = close_is b2 t3 u3 b3 w3 is3 in (
      o.0,
      n.0,
      n.1,
      c.0,
      b3,
      o.1 ∙ ap (λ ts. Sign_of sign.Open o.0 ∷ ts) (w2 ∙ ap (λ t. t ∷ b2) n.2 ∙ ap (λ ts. Name n.0 n.1 ∷ ts) c.1),
      subst (λ y. Means (k y) v b3 rest) (sym n.3) more,
    )

-- a variable and a stack, and what the form behind them means
pair_derived : {p : Part} (k : Named → Named → Form p) (v : Tree p) (from rest : List Token) → Means (variable_and_stack_then k) v from rest →
    (opening : Span) × (x : List ℕ) × (at : Span) × (comma : Span) × (y : List ℕ) × (place : Span) × (closing : Span) × (behind : List Token)
    × (from ≡ Sign_of sign.Open opening ∷ Name x at ∷ Sign_of sign.Comma comma ∷ Name y place ∷ Sign_of sign.Close closing ∷ behind) ×
    Means (k (named x at) (named y place)) v behind rest
pair_derived k v from rest h =
    let (t1, u1, b1, w1, is1, h1) = h in
    let (t2, s, b2, w2, is2, h2) = h1 in
    let (t3, u3, b3, w3, is3, h3) = h2 in
    let (t4, r, b4, w4, is4, h4) = h3 in
    let (t5, u5, b5, w5, is5, more) = h4 in
    let o = open_is from t1 u1 b1 w1 is1 in
    let n = name_is t2 s is2 in
    let m = comma_is b2 t3 u3 b3 w3 is3 in
    let l = name_is t4 r is4 in
    let c = close_is b4 t5 u5 b5 w5 is5 in
    let behind_comma : b3 ≡ Name l.0 l.1 ∷ Sign_of sign.Close c.0 ∷ b5 = w4 ∙ ap (λ t. t ∷ b4) l.2 ∙ ap (λ ts. Name l.0 l.1 ∷ ts) c.1 in
    let behind_open : b1 ≡ Name n.0 n.1 ∷ Sign_of sign.Comma m.0 ∷ Name l.0 l.1 ∷ Sign_of sign.Close c.0 ∷ b5 = w2 ∙ ap (λ t. t ∷ b2) n.2
    ∙ ap (λ ts. Name n.0 n.1 ∷ ts) (m.1 ∙ ap (λ ts. Sign_of sign.Comma m.0 ∷ ts) behind_comma) in (
      o.0,
      n.0,
      n.1,
      m.0,
      l.0,
      l.1,
      c.0,
      b5,
      o.1 ∙ ap (λ ts. Sign_of sign.Open o.0 ∷ ts) behind_open,
      subst (λ y. Means (k y (named l.0 l.1)) v b5 rest) (sym n.3) (subst (λ y. Means (k s y) v b5 rest) (sym l.3) more),
    )

-- a name, and names in parentheses, and what the form behind them means
call_derived : {p : Part} (k : Named → List Named → Form p) (v : Tree p) (from rest : List Token) → Means (call_then k) v from rest →
    (f : List ℕ) × (at : Span) × (opening : Span) × (xs : List Named) × (closing : Span) × (inner : List Token) × (behind : List Token)
    × (from ≡ Name f at ∷ Sign_of sign.Open opening ∷ inner) × AreNames xs inner (Sign_of sign.Close closing ∷ behind) × Means (k (named f at) xs) v behind rest
call_derived k v from rest h =
    let (t1, s, b1, w1, is1, h1) = h in
    let (t2, u2, b2, w2, is2, h2) = h1 in
    let (xs, m1, d1, h3) = h2 in
    let (t3, u3, b3, w3, is3, more) = h3 in
    let n = name_is t1 s is1 in
    let o = open_is b1 t2 u2 b2 w2 is2 in
    let c = close_is m1 t3 u3 b3 w3 is3 in (
      n.0,
      n.1,
      o.0,
      xs,
      c.0,
      b2,
      b3,
      w1 ∙ ap (λ t. t ∷ b1) n.2 ∙ ap (λ ts. Name n.0 n.1 ∷ ts) o.1,
      subst (λ ts. AreNames xs b2 ts) c.1 d1,
      subst (λ y. Means (k y xs) v b3 rest) (sym n.3) more,
    )

-- ---- expressions

-- an expression, and what the form behind it means
abbrev Front : {p : Part} → ℕ → (Exp → Form p) → Tree p → List Token → List Token → Type 0
Front n k v from rest = (e : Exp) × (middle : List Token) × IsExpression n e from middle × Means (k e) v middle rest

named_derived : (x : List ℕ) (at : Span) (i : Option Exp) (from rest : List Token) → IsIndexed i from rest →
    IsExpression 0 (variable (named x at) i) (Name x at ∷ from) rest
named_derived x at i from rest without = Derivation.variable
named_derived x at i from rest (indexed d) = Derivation.element d

operand_derived : {p : Part} (t : Token) (k : Exp → Form p) (r : Rule p) (v : Tree p) (from rest : List Token) → operand t k ≡ Some r →
    Means r.form v from rest → Front 0 k v (t ∷ from) rest
operand_derived {p} (Number n at) k r v from rest is h =
    let a : Rule p = record { opens = 0; counts = 0; is_whole = false; form = k (Num n at) } in
    (Num n at, from, Derivation.number, form_as a r v from rest is h)
operand_derived {p} (Name x at) k r v from rest is h =
    let a : Rule p = record { opens = 0; counts = 0; is_whole = false; form = part Index (λ i. k (variable (named x at) i)) } in
    let (i, middle, d, more) = form_as a r v from rest is h in
    (variable (named x at) i, middle, named_derived x at i from middle d, more)
operand_derived {p} (Sign_of sign.Open at) k r v from rest is h =
    let a : Rule p = record { opens = 1; counts = 0; is_whole = false; form = part (Level weakest) (λ e. sign_then sign.Close (close (k e))) } in
    let (e, middle, d, last) = form_as a r v from rest is h in
    let (t, s, behind, whole, closes, more) = last in
    let c = close_is middle t s behind whole closes in
    (e, behind, Derivation.parentheses (subst (λ ts. IsExpression weakest e from ts) c.1 d), more)
operand_derived {p} (Sign_of sign.Minus at) k r v from rest is h =
    let a : Rule p = record { opens = 1; counts = 1; is_whole = false; form = part (Level 0) (λ e. close (k (Neg e))) } in
    let (e, middle, d, more) = form_as a r v from rest is h in
    (Neg e, middle, Derivation.minus d, more)
operand_derived (Sign_of _ at) k r v from rest is h = absurd cc
operand_derived {p} (Keyword_of keyword.Empty at) k r v from rest is h =
    let a : Rule p = record { opens = 0; counts = 0; is_whole = false; form = stack_then (λ s. k (EmptyOf s)) } in
    let (opening, x, place, closing, behind, whole, more) = stack_derived (λ s. k (EmptyOf s)) v from rest (form_as a r v from rest is h) in (
      EmptyOf (named x place),
      behind,
      subst (λ ts. IsExpression 0 (EmptyOf (named x place)) (Keyword_of keyword.Empty at ∷ ts) behind)
          (sym whole) Derivation.emptiness,
      more,
    )
operand_derived {p} (Keyword_of keyword.Top at) k r v from rest is h =
    let a : Rule p = record { opens = 0; counts = 0; is_whole = false; form = stack_then (λ s. k (TopOf s)) } in
    let (opening, x, place, closing, behind, whole, more) = stack_derived (λ s. k (TopOf s)) v from rest (form_as a r v from rest is h) in (
      TopOf (named x place),
      behind,
      subst (λ ts. IsExpression 0 (TopOf (named x place)) (Keyword_of keyword.Top at ∷ ts) behind) (sym whole) Derivation.top,
      more,
    )
operand_derived (Keyword_of _ at) k r v from rest is h = absurd cc

chains_derived : {p : Part} (l n : ℕ) (e : Exp) (k : Exp → Form p) (v : Tree p) (start from rest : List Token) → IsExpression l e start from →
    Means (chains l n e k) v from rest → Front (l + n) k v start rest
chains_derived l zero e k v start from rest d h = (e, from, subst (λ (i : ℕ). IsExpression i e start from) (omega arith) d, h)
chains_derived l (suc n) e k v start from rest d h =
    let (f, middle, goes_on, more) = h in
    let (g, behind, last, end) = chains_derived (suc l) n f k v start middle rest (goes_on start (Derivation.stronger d)) more in
    (g, behind, subst (λ (i : ℕ). IsExpression i g start behind) (omega arith) last, end)

pub level_derived : (n : ℕ) (t : Token) (r : Rule (Level n)) (v : Exp) (from rest : List Token) → operand t (λ e. chains 0 n e done) ≡ Some r →
    Means r.form v from rest → IsExpression n v (t ∷ from) rest
level_derived n t r v from rest is h =
    let (e, middle, d, more) = operand_derived t (λ e. chains 0 n e done) r v from rest is h in
    let (f, last, g, end) = chains_derived 0 n e done v (t ∷ from) middle rest d more in
    subst (λ (i : ℕ). IsExpression i v (t ∷ from) rest) (omega arith)
    (subst (λ x. IsExpression (0 + n) x (t ∷ from) rest) (sym end.0) (subst (λ ts. IsExpression (0 + n) f (t ∷ from) ts) (sym end.1) g))

pub whole_derived : (t : Token) (o : Option (Rule Whole)) (r : Rule Whole) (v : Exp) (from rest : List Token) → operand t (λ e. chains 0 weakest e done) ≡ o →
    whole o ≡ Some r → Means r.form v from rest → IsExpression weakest v (t ∷ from) rest
whole_derived t None r v from rest operands is h = absurd cc
whole_derived t (Some x) r v from rest operands is h =
    let a : Rule Whole = record { opens = x.opens; counts = x.counts; is_whole = true; form = x.form } in
    let (e, middle, d, more) = operand_derived t (λ e. chains 0 weakest e done) x v from rest operands (form_as a r v from rest is h) in
    let (f, last, g, end) = chains_derived {p = Whole} 0 weakest e done v (t ∷ from) middle rest d more in
    subst (λ y. IsExpression weakest y (t ∷ from) rest) (sym end.0) (subst (λ ts. IsExpression weakest f (t ∷ from) ts) (sym end.1) g)

operator_derived : (n : ℕ) (o : Infix) (t : Token) (a b : Exp) (start from rest : List Token) → o.level ≡ n → operator_at t ≡ Some o →
    IsExpression n a start (t ∷ from) → IsExpression (n - 1) b from rest → IsExpression n (joined o.joint a b) start rest
operator_derived n o t a b start from rest level is x y =
    subst (λ (i : ℕ). IsExpression i (joined o.joint a b) start rest) level
    (Derivation.operation is (subst (λ (i : ℕ). IsExpression i a start (t ∷ from)) (sym level) x)
    (subst (λ (i : ℕ). IsExpression (i - 1) b from rest) (sym level) y))

abbrev chain_form : (o : Infix) (n : ℕ) (e : Exp) → Rule (Chain n e)
chain_form o n e = record { opens = 0; counts = 1; is_whole = false; form = part (Level (n - 1)) (λ r. part (Chain n (joined o.joint e r)) done) }

of_level : (b : Bool) {n : ℕ} {e : Exp} (a r : Rule (Chain n e)) → cond b (Some a) None ≡ Some r → (b ≡ true) × (Some a ≡ Some r)
of_level true a r e = (refl, e)
of_level false a r e = absurd cc

pub chain_derived : (n : ℕ) (e : Exp) (t : Token) (o : Option Infix) (r : Rule (Chain n e)) (v : Exp) (from rest : List Token) → operator_at t ≡ o →
    chain_rule o n e ≡ Some r → Means r.form v from rest → Derived (Chain n e) v (t ∷ from) rest
chain_derived n e t None r v from rest is rules h = absurd cc
chain_derived n e t (Some o) r v from rest is rules h =
    let b = of_level (nat_eq o.level n) (chain_form o n e) r rules in
    let (x, middle, d, more) = form_as (chain_form o n e) r v from rest b.1 h in
    let (f, last, goes_on, end) = more in
    λ start before.
    subst (λ y. IsExpression n y start rest) (sym end.0) (subst (λ ts. IsExpression n f start ts) (sym end.1)
    (goes_on start (operator_derived n o t e x start from middle (eqb-true o.level n b.0) is before d)))

-- ---- statements

assignment_derived : (x : List ℕ) (at : Span) (i : Option Exp) (t : Token) (u : Update) (e : Exp) (from middle behind rest : List Token) →
    IsIndexed i from middle → middle ≡ t ∷ behind → update_at t ≡ Some u → IsExpression weakest e behind rest →
    IsStatement (assignment (named x at) i u e) (Name x at ∷ from) rest
assignment_derived x at i t u e from middle behind rest without whole is d =
    subst (λ ts. IsStatement (assignment (named x at) None u e) (Name x at ∷ ts) rest) (sym whole) (IsStatement.assignment is d)
assignment_derived x at i t u e from middle behind rest (indexed {closing = closing} {i = j} {from = start} j_is) whole is d =
    IsStatement.element_assignment is (subst (λ ts. IsExpression weakest j start (Sign_of sign.CloseIndex closing ∷ ts)) whole j_is) d

-- a statement, and what the form behind it means
abbrev Stated : {p : Part} → (Stm → Form p) → Tree p → List Token → List Token → Type 0
Stated k v from rest = (s : Stm) × (middle : List Token) × IsStatement s from middle × Means (k s) v middle rest

if_derived : {p : Part} (at : Span) (k : Stm → Form p) (v : Tree p) (from rest : List Token) →
    Means (part Whole
    (λ e. keyword_then keyword.Then (part Body (λ s. part Else_part (λ t. keyword_then keyword.Fi (part Whole (λ f. close (k (If e s t f)))))))))
    v from rest → Stated k v (Keyword_of keyword.If at ∷ from) rest
if_derived at k v from rest h =
    let (e, m1, d1, h1) = h in
    let (t1, u1, b1, w1, is1, h2) = h1 in
    let (s, m2, d2, h3) = h2 in
    let (t, m3, d3, h4) = h3 in
    let (t2, u2, b2, w2, is2, h5) = h4 in
    let (f, m4, d4, h6) = h5 in
    let then = then_is m1 t1 u1 b1 w1 is1 in
    let fi = fi_is m3 t2 u2 b2 w2 is2 in (
      If e s t f,
      m4,
      IsStatement.branch (subst (λ ts. IsExpression weakest e from ts) then.1 d1) d2 (subst (λ ts. IsOptional keyword.Else t m2 ts) fi.1 d3) d4,
      h6,
    )

loop_derived : {p : Part} (at : Span) (k : Stm → Form p) (v : Tree p) (from rest : List Token) →
    Means (part Whole (λ e. part Do_part (λ s. part Loop_part (λ t. keyword_then keyword.Until (part Whole (λ f. close (k (Loop e s t f)))))))) v from rest →
    Stated k v (Keyword_of keyword.From at ∷ from) rest
loop_derived at k v from rest h =
    let (e, m1, d1, h1) = h in
    let (s, m2, d2, h2) = h1 in
    let (t, m3, d3, h3) = h2 in
    let (t1, u1, b1, w1, is1, h4) = h3 in
    let (f, m4, d4, h5) = h4 in
    let until = until_is m3 t1 u1 b1 w1 is1 in
    (Loop e s t f, m4, IsStatement.repetition d1 d2 (subst (λ ts. IsOptional keyword.Loop t m2 ts) until.1 d3) d4, h5)

named_statement_derived : {p : Part} (x : List ℕ) (at : Span) (other : Option Named) (k : Stm → Form p) (v : Tree p) (from middle rest : List Token) →
    HasPartner other from middle → Means (behind_target (named x at) other k) v middle rest → Stated k v (Name x at ∷ from) rest
named_statement_derived x at other k v from middle rest no_partner h =
    let (i, m1, d1, h1) = h in
    let (t, u, behind, whole, updates, h2) = h1 in
    let (e, m2, d2, h3) = h2 in
    (assignment (named x at) i u e, m2, assignment_derived x at i t u e middle m1 behind m2 d1 whole updates d2, h3)
named_statement_derived x at other k v from middle rest (partner {at = place} {y = y}) h = (Swap (named x at) (named y place), middle, IsStatement.swap, h)

pub statement_derived : {p : Part} (t : Token) (k : Stm → Form p) (r : Rule p) (v : Tree p) (from rest : List Token) → statement t k ≡ Some r →
    Means r.form v from rest → Stated k v (t ∷ from) rest
statement_derived {p} (Name x at) k r v from rest is h =
    let a : Rule p = record { opens = 0; counts = 0; is_whole = false; form = part Swap_partner (λ other. behind_target (named x at) other k) } in
    let (other, middle, d, more) = form_as a r v from rest is h in
    named_statement_derived x at other k v from middle rest d more
statement_derived {p} (Keyword_of keyword.If at) k r v from rest is h =
    let a : Rule p =
    record {
      opens = 1;
      counts = 0;
      is_whole = false;
      form = part Whole
          (λ e. keyword_then keyword.Then (part Body (λ s. part Else_part (λ t. keyword_then keyword.Fi (part Whole (λ f. close (k (If e s t f))))))));
    } in
    if_derived at k v from rest (form_as a r v from rest is h)
statement_derived {p} (Keyword_of keyword.From at) k r v from rest is h =
    let a : Rule p =
    record {
      opens = 1;
      counts = 0;
      is_whole = false;
      form = part Whole
          (λ e. part Do_part (λ s. part Loop_part (λ t. keyword_then keyword.Until (part Whole (λ f. close (k (Loop e s t f)))))));
    } in
    loop_derived at k v from rest (form_as a r v from rest is h)
statement_derived {p} (Keyword_of keyword.Local at) k r v from rest is h =
    let a : Rule p = record { opens = 1; counts = 0; is_whole = false; form = part Local (λ s. close (k s)) } in
    let (s, middle, d, more) = form_as a r v from rest is h in
    (s, middle, d at, more)
statement_derived {p} (Keyword_of keyword.Skip at) k r v from rest is h =
    let a : Rule p = record { opens = 0; counts = 0; is_whole = false; form = k Skip } in
    (Skip, from, IsStatement.skip, form_as a r v from rest is h)
statement_derived {p} (Keyword_of keyword.Push at) k r v from rest is h =
    let a : Rule p = record { opens = 0; counts = 0; is_whole = false; form = variable_and_stack_then (λ x s. k (Push x s)) } in
    let (opening, x, on, comma, y, place, closing, behind, whole, more) = pair_derived (λ x s. k (Push x s)) v from rest (form_as a r v from rest is h) in (
      Push (named x on) (named y place),
      behind,
      subst (λ ts. IsStatement (Push (named x on) (named y place)) (Keyword_of keyword.Push at ∷ ts) behind)
          (sym whole) IsStatement.push,
      more,
    )
statement_derived {p} (Keyword_of keyword.Pop at) k r v from rest is h =
    let a : Rule p = record { opens = 0; counts = 0; is_whole = false; form = variable_and_stack_then (λ x s. k (Pop x s)) } in
    let (opening, x, on, comma, y, place, closing, behind, whole, more) = pair_derived (λ x s. k (Pop x s)) v from rest (form_as a r v from rest is h) in (
      Pop (named x on) (named y place),
      behind,
      subst (λ ts. IsStatement (Pop (named x on) (named y place)) (Keyword_of keyword.Pop at ∷ ts) behind)
          (sym whole) IsStatement.pop,
      more,
    )
statement_derived {p} (Keyword_of keyword.Call at) k r v from rest is h =
    let a : Rule p = record { opens = 0; counts = 0; is_whole = false; form = call_then (λ f xs. k (Call f xs)) } in
    let (f, on, opening, xs, closing, inner, behind, whole, d, more) = call_derived (λ f xs. k (Call f xs)) v from rest (form_as a r v from rest is h) in (
      Call (named f on) xs,
      behind,
      subst (λ ts. IsStatement (Call (named f on) xs) (Keyword_of keyword.Call at ∷ ts) behind) (sym whole) (IsStatement.call d),
      more,
    )
statement_derived {p} (Keyword_of keyword.Uncall at) k r v from rest is h =
    let a : Rule p = record { opens = 0; counts = 0; is_whole = false; form = call_then (λ f xs. k (Uncall f xs)) } in
    let (f, on, opening, xs, closing, inner, behind, whole, d, more) = call_derived (λ f xs. k (Uncall f xs)) v from rest (form_as a r v from rest is h) in (
      Uncall (named f on) xs,
      behind,
      subst (λ ts. IsStatement (Uncall (named f on) xs) (Keyword_of keyword.Uncall at ∷ ts) behind) (sym whole)
          (IsStatement.inverse_call d),
      more,
    )
statement_derived (Keyword_of _ at) k r v from rest is h = absurd cc
statement_derived (Sign_of s at) k r v from rest is h = absurd cc
statement_derived (Number n at) k r v from rest is h = absurd cc

-- statements in a row
pub row_derived : (s : Stm) (b : Block) (v : Block) (from middle last rest : List Token) → IsStatement s from middle → AreStatements b middle last →
    v ≡ More s b → rest ≡ last → IsBody v from rest
row_derived s b v from middle last rest d ds e f = subst (λ x. IsBody x from rest) (sym e) (subst (λ ts. IsBody (More s b) from ts) (sym f) (body d ds))

pub none_or_more : {b : Block} {from rest : List Token} → IsBody b from rest → AreStatements b from rest
none_or_more (body d ds) = AreStatements.more d ds

-- ---- declarations

bounded_as : (at : Span) (t : Token) (i : ℕ × Span) (n : Option (ℕ × Span)) (from behind last rest : List Token) → seen A_number t ≡ Some i →
    from ≡ t ∷ behind → (closing : Span) → behind ≡ Sign_of sign.CloseIndex closing ∷ last → n ≡ Some i → rest ≡ last →
    IsBounded n (Sign_of sign.OpenIndex at ∷ from) rest
bounded_as at (Number m place) i n from behind last rest is w closing c e f =
    let same : (m, place) ≡ i = cc in
    let whole : from ≡ Number m place ∷ Sign_of sign.CloseIndex closing ∷ last = w ∙ ap (λ ts. Number m place ∷ ts) c in
    subst (λ x. IsBounded x (Sign_of sign.OpenIndex at ∷ from) rest) (ap (λ x. Some x) same ∙ sym e)
    (subst (λ ts. IsBounded (Some (m, place)) (Sign_of sign.OpenIndex at ∷ ts) rest) (sym whole)
    (subst (λ ts. IsBounded (Some (m, place)) (Sign_of sign.OpenIndex at ∷ Number m place ∷ Sign_of sign.CloseIndex closing ∷ last) ts) (sym f) bounded))
bounded_as at (Name x place) i n from behind last rest is w closing c e f = absurd cc
bounded_as at (Sign_of s place) i n from behind last rest is w closing c e f = absurd cc
bounded_as at (Keyword_of w' place) i n from behind last rest is w closing c e f = absurd cc

pub bound_derived : (t : Token) (r : Rule Bound) (n : Option (ℕ × Span)) (from rest : List Token) → rule Bound t ≡ Some r → Means r.form n from rest →
    IsBounded n (t ∷ from) rest
bound_derived (Sign_of sign.OpenIndex at) r n from rest is h =
    let a : Rule Bound = record { opens = 0; counts = 0; is_whole = false; form = take A_number (λ n. sign_then sign.CloseIndex (done (Some n))) } in
    let (t1, i, b1, w1, is1, h1) = form_as a r n from rest is h in
    let (t2, u, b2, w2, is2, h2) = h1 in
    let closes = close_index_is b1 t2 u b2 w2 is2 in
    bounded_as at t1 i n from b1 b2 rest is1 w1 closes.0 closes.1 h2.0 h2.1
bound_derived (Sign_of _ at) r n from rest is h = absurd cc
bound_derived (Name x at) r n from rest is h = absurd cc
bound_derived (Number i at) r n from rest is h = absurd cc
bound_derived (Keyword_of w at) r n from rest is h = absurd cc

declares : (at : Span) (x : List ℕ) (place : Span) (n : Option (ℕ × Span)) (behind rest : List Token) → IsBounded n behind rest →
    IsDeclaration (declared (named x place) n) (Keyword_of keyword.Int at ∷ Name x place ∷ behind) rest
declares at x place n behind rest unbounded = IsDeclaration.number
declares at x place n behind rest bounded = IsDeclaration.array

declared_derived : (at : Span) (t : Token) (x : Named) (n : Option (ℕ × Span)) (from behind rest : List Token) → seen A_name t ≡ Some x → from ≡ t ∷ behind →
    IsBounded n behind rest → IsDeclaration (declared x n) (Keyword_of keyword.Int at ∷ from) rest
declared_derived at (Name y place) x n from behind rest is w b =
    let same : named y place ≡ x = cc in
    subst (λ z. IsDeclaration (declared z n) (Keyword_of keyword.Int at ∷ from) rest) same
    (subst (λ ts. IsDeclaration (declared (named y place) n) (Keyword_of keyword.Int at ∷ ts) rest) (sym w) (declares at y place n behind rest b))
declared_derived at (Number i place) x n from behind rest is w b = absurd cc
declared_derived at (Sign_of s place) x n from behind rest is w b = absurd cc
declared_derived at (Keyword_of w' place) x n from behind rest is w b = absurd cc

stack_declared : (at : Span) (t : Token) (s : Named) (from behind : List Token) → seen A_name t ≡ Some s → from ≡ t ∷ behind →
    IsDeclaration (StackOf s) (Keyword_of keyword.Stack at ∷ from) behind
stack_declared at t s from behind is w =
    let n = name_is t s is in
    subst (λ y. IsDeclaration (StackOf y) (Keyword_of keyword.Stack at ∷ from) behind) n.3
    (subst (λ ts. IsDeclaration (StackOf (named n.0 n.1)) (Keyword_of keyword.Stack at ∷ ts) behind) (sym (w ∙ ap (λ x. x ∷ behind) n.2)) IsDeclaration.stack)

pub declaration_derived : {p : Part} (t : Token) (k : Declaration → Form p) (r : Rule p) (v : Tree p) (from rest : List Token) → declaration t k ≡ Some r →
    Means r.form v from rest →
    (d : Declaration) × (middle : List Token) × IsDeclaration d (t ∷ from) middle × Means (k d) v middle rest
declaration_derived {p} (Keyword_of keyword.Int at) k r v from rest is h =
    let a : Rule p = record { opens = 0; counts = 0; is_whole = false; form = take A_name (λ x. part Bound (λ n. k (declared x n))) } in
    let (t, x, behind, whole, names, h1) = form_as a r v from rest is h in
    let (n, middle, b, more) = h1 in
    (declared x n, middle, declared_derived at t x n from behind middle names whole b, more)
declaration_derived {p} (Keyword_of keyword.Stack at) k r v from rest is h =
    let a : Rule p = record { opens = 0; counts = 0; is_whole = false; form = take A_name (λ s. k (StackOf s)) } in
    let (t, s, behind, whole, names, more) = form_as a r v from rest is h in
    (StackOf s, behind, stack_declared at t s from behind names whole, more)
declaration_derived (Keyword_of _ at) k r v from rest is h = absurd cc
declaration_derived (Name x at) k r v from rest is h = absurd cc
declaration_derived (Sign_of s at) k r v from rest is h = absurd cc
declaration_derived (Number n at) k r v from rest is h = absurd cc

-- ---- each part

indexed_as : (at : Span) (e : Exp) (i : Option Exp) (t : Token) (u : Unit {0}) (from middle behind rest : List Token) → IsExpression weakest e from middle →
    middle ≡ t ∷ behind → seen (The_sign sign.CloseIndex) t ≡ Some u → i ≡ Some e → rest ≡ behind → IsIndexed i (Sign_of sign.OpenIndex at ∷ from) rest
indexed_as at e i t u from middle behind rest d whole closes same last =
    let c = close_index_is middle t u behind whole closes in
    subst (λ x. IsIndexed x (Sign_of sign.OpenIndex at ∷ from) rest) (sym same)
    (subst (λ ts. IsIndexed (Some e) (Sign_of sign.OpenIndex at ∷ from) ts) (sym last) (indexed (subst (λ ts. IsExpression weakest e from ts) c.1 d)))

pub partner_derived : (t : Token) (r : Rule Swap_partner) (y : Option Named) (from rest : List Token) → rule Swap_partner t ≡ Some r →
    Means r.form y from rest → HasPartner y (t ∷ from) rest
partner_derived (Sign_of sign.Swap at) r y from rest is h =
    let a : Rule Swap_partner = record { opens = 0; counts = 0; is_whole = false; form = take A_name (λ z. done (Some z)) } in
    let (t, s, b, w, seen_is, end) = form_as a r y from rest is h in
    let n = name_is t s seen_is in
    let same : y ≡ Some (named n.0 n.1) = end.0 ∙ ap (λ z. Some z) (sym n.3) in
    let whole : from ≡ Name n.0 n.1 ∷ b = w ∙ ap (λ t. t ∷ b) n.2 in
    subst (λ z. HasPartner z (Sign_of sign.Swap at ∷ from) rest) (sym same)
    (subst (λ ts. HasPartner (Some (named n.0 n.1)) (Sign_of sign.Swap at ∷ ts) rest) (sym whole)
    (subst (λ ts. HasPartner (Some (named n.0 n.1)) (Sign_of sign.Swap at ∷ Name n.0 n.1 ∷ b) ts) (sym end.1) partner))
partner_derived (Sign_of _ at) r y from rest is h = absurd cc
partner_derived (Name x at) r y from rest is h = absurd cc
partner_derived (Number n at) r y from rest is h = absurd cc
partner_derived (Keyword_of w at) r y from rest is h = absurd cc

pub target_derived : (t : Token) (r : Rule Target_index) (i : Option Exp) (from rest : List Token) → rule Target_index t ≡ Some r → Means r.form i from rest →
    IsIndexed i (t ∷ from) rest
target_derived (Sign_of sign.OpenIndex at) r i from rest is h =
    let a : Rule Target_index =
    record { opens = 1; counts = 0; is_whole = false; form = part Whole (λ e. sign_then sign.CloseIndex (close (done (Some e)))) } in
    let (e, middle, d, h1) = form_as a r i from rest is h in
    let (t, u, behind, whole, closes, h2) = h1 in
    indexed_as at e i t u from middle behind rest d whole closes h2.0 h2.1
target_derived (Sign_of _ at) r i from rest is h = absurd cc
target_derived (Name x at) r i from rest is h = absurd cc
target_derived (Number n at) r i from rest is h = absurd cc
target_derived (Keyword_of w at) r i from rest is h = absurd cc

pub index_derived : (t : Token) (r : Rule Index) (i : Option Exp) (from rest : List Token) → rule Index t ≡ Some r → Means r.form i from rest →
    IsIndexed i (t ∷ from) rest
index_derived (Sign_of sign.OpenIndex at) r i from rest is h =
    let a : Rule Index =
    record { opens = 1; counts = 0; is_whole = false; form = part (Level weakest) (λ e. sign_then sign.CloseIndex (close (done (Some e)))) } in
    let (e, middle, d, h1) = form_as a r i from rest is h in
    let (t, u, behind, whole, closes, h2) = h1 in
    indexed_as at e i t u from middle behind rest d whole closes h2.0 h2.1
index_derived (Sign_of _ at) r i from rest is h = absurd cc
index_derived (Name x at) r i from rest is h = absurd cc
index_derived (Number n at) r i from rest is h = absurd cc
index_derived (Keyword_of w at) r i from rest is h = absurd cc

pub else_derived : (t : Token) (r : Rule Else_part) (b : Block) (from rest : List Token) → rule Else_part t ≡ Some r → Means r.form b from rest →
    IsOptional keyword.Else b (t ∷ from) rest
else_derived (Keyword_of keyword.Else at) r b from rest is h =
    let a : Rule Else_part = record { opens = 0; counts = 0; is_whole = false; form = part Body done } in
    let (s, last, d, h1) = form_as a r b from rest is h in
    let (e, f) = h1 in
    subst (λ x. IsOptional keyword.Else x (Keyword_of keyword.Else at ∷ from) rest) (sym e)
    (subst (λ ts. IsOptional keyword.Else s (Keyword_of keyword.Else at ∷ from) ts) (sym f) (there d))
else_derived (Keyword_of _ at) r b from rest is h = absurd cc
else_derived (Sign_of s at) r b from rest is h = absurd cc
else_derived (Name x at) r b from rest is h = absurd cc
else_derived (Number n at) r b from rest is h = absurd cc

pub do_derived : (t : Token) (r : Rule Do_part) (b : Block) (from rest : List Token) → rule Do_part t ≡ Some r → Means r.form b from rest →
    IsOptional keyword.Do b (t ∷ from) rest
do_derived (Keyword_of keyword.Do at) r b from rest is h =
    let a : Rule Do_part = record { opens = 0; counts = 0; is_whole = false; form = part Body done } in
    let (s, last, d, h1) = form_as a r b from rest is h in
    let (e, f) = h1 in
    subst (λ x. IsOptional keyword.Do x (Keyword_of keyword.Do at ∷ from) rest) (sym e)
    (subst (λ ts. IsOptional keyword.Do s (Keyword_of keyword.Do at ∷ from) ts) (sym f) (there d))
do_derived (Keyword_of _ at) r b from rest is h = absurd cc
do_derived (Sign_of s at) r b from rest is h = absurd cc
do_derived (Name x at) r b from rest is h = absurd cc
do_derived (Number n at) r b from rest is h = absurd cc

pub loop_part_derived : (t : Token) (r : Rule Loop_part) (b : Block) (from rest : List Token) → rule Loop_part t ≡ Some r → Means r.form b from rest →
    IsOptional keyword.Loop b (t ∷ from) rest
loop_part_derived (Keyword_of keyword.Loop at) r b from rest is h =
    let a : Rule Loop_part = record { opens = 0; counts = 0; is_whole = false; form = part Body done } in
    let (s, last, d, h1) = form_as a r b from rest is h in
    let (e, f) = h1 in
    subst (λ x. IsOptional keyword.Loop x (Keyword_of keyword.Loop at ∷ from) rest) (sym e)
    (subst (λ ts. IsOptional keyword.Loop s (Keyword_of keyword.Loop at ∷ from) ts) (sym f) (there d))
loop_part_derived (Keyword_of _ at) r b from rest is h = absurd cc
loop_part_derived (Sign_of s at) r b from rest is h = absurd cc
loop_part_derived (Name x at) r b from rest is h = absurd cc
loop_part_derived (Number n at) r b from rest is h = absurd cc

-- ---- locals

-- the name of a local and `=`, and what the form behind them means
head_derived : {p : Part} (k : Named → Form p) (v : Tree p) (from rest : List Token) → Means (take A_name (λ x. sign_then sign.Equals (k x))) v from rest →
    (x : List ℕ) × (at : Span) × (equals : Span) × (behind : List Token) × (from ≡ Name x at ∷ Sign_of sign.Equals equals ∷ behind) ×
    Means (k (named x at)) v behind rest
head_derived k v from rest h =
    let (t1, x, b1, w1, is1, h1) = h in
    let (t2, u2, b2, w2, is2, more) = h1 in
    let n = name_is t1 x is1 in
    let q = equals_is b1 t2 u2 b2 w2 is2 in (
      n.0,
      n.1,
      q.0,
      b2,
      w1 ∙ ap (λ t. t ∷ b1) n.2 ∙ ap (λ ts. Name n.0 n.1 ∷ ts) q.1,
      subst (λ y. Means (k y) v b2 rest) (sym n.3) more,
    )

-- `delocal`, the same kind, the same name and `=`, and what the form behind them means
delocal_derived : {p : Part} (j : LocalKind) (x : List ℕ) (on : Span) (k : Named → Form p) (v : Tree p) (from rest : List Token) →
    Means (delocal_then j (named x on) k) v from rest →
    (at_delocal : Span) × (at_kind : Span) × (place : Span) × (equals : Span) × (behind : List Token)
    × (from ≡ Keyword_of keyword.Delocal at_delocal ∷ Keyword_of (kind_keyword j) at_kind ∷ Name x place ∷ Sign_of sign.Equals equals ∷ behind) ×
    Means (k (named x place)) v behind rest
delocal_derived j x on k v from rest h =
    let (t1, u1, b1, w1, is1, h1) = h in
    let (t2, i, b2, w2, is2, h2) = h1 in
    let (t3, y, b3, w3, is3, h3) = h2 in
    let (t4, u4, b4, w4, is4, more) = h3 in
    let d = delocal_is from t1 u1 b1 w1 is1 in
    let l = same_kind_is j b1 t2 i b2 w2 is2 in
    let n = same_name_is x on t3 y is3 in
    let q = equals_is b3 t4 u4 b4 w4 is4 in
    let behind_kind : b2 ≡ Name x n.0 ∷ Sign_of sign.Equals q.0 ∷ b4 = w3 ∙ ap (λ t. t ∷ b3) n.1 ∙ ap (λ ts. Name x n.0 ∷ ts) q.1 in (
      d.0,
      l.0,
      n.0,
      q.0,
      b4,
      d.1 ∙ ap (λ ts. Keyword_of keyword.Delocal d.0 ∷ ts) (l.1 ∙ ap (λ ts. Keyword_of (kind_keyword j) l.0 ∷ ts) behind_kind),
      subst (λ z. Means (k z) v b4 rest) (sym n.2) more,
    )

int_derived : (at_int : Span) (s : Stm) (from rest : List Token) → Means (local_int {p = Local} done) s from rest → (at : Span) →
    IsStatement s (Keyword_of keyword.Local at ∷ Keyword_of keyword.Int at_int ∷ from) rest
int_derived at_int s from rest h at =
    let (x, on, equals, b1, w1, h1) =
    head_derived {p = Local} (λ x. part Whole (λ e. part Body (λ b. delocal_then kind.Int x (λ y. part Whole (λ f. done (LocalInt x e b y f))))))
    s from rest h in
    let (e, m1, d1, h2) = h1 in
    let (b, m2, d2, h3) = h2 in
    let (at_delocal, at_kind, place, again, b2, w2, h4) =
    delocal_derived {p = Local} kind.Int x on (λ y. part Whole (λ f. done (LocalInt (named x on) e b y f))) s m2 rest h3 in
    let (f, m3, d3, h5) = h4 in
    subst (λ ts. IsStatement s (Keyword_of keyword.Local at ∷ Keyword_of keyword.Int at_int ∷ ts) rest) (sym w1)
    (subst (λ z. IsStatement z (Keyword_of keyword.Local at ∷ Keyword_of keyword.Int at_int ∷ Name x on ∷ Sign_of sign.Equals equals ∷ b1) rest) (sym h5.0)
    (subst (λ ts. IsStatement (LocalInt (named x on) e b (named x place) f)
    (Keyword_of keyword.Local at ∷ Keyword_of keyword.Int at_int ∷ Name x on ∷ Sign_of sign.Equals equals ∷ b1) ts) (sym h5.1)
    (IsStatement.local_number d1 (subst (λ ts. IsBody b m1 ts) w2 d2) d3)))

stack_local_derived : (at_stack : Span) (s : Stm) (from rest : List Token) → Means (local_stack {p = Local} done) s from rest → (at : Span) →
    IsStatement s (Keyword_of keyword.Local at ∷ Keyword_of keyword.Stack at_stack ∷ from) rest
stack_local_derived at_stack s from rest h at =
    let (x, on, equals, b1, w1, h1) =
    head_derived {p = Local}
    (λ x. keyword_then keyword.Nil (part Body (λ b. delocal_then kind.Stack x (λ y. keyword_then keyword.Nil (done (LocalStack x b y)))))) s from rest h in
    let (t1, u1, b2, w2, is1, h2) = h1 in
    let (b, m1, d1, h3) = h2 in
    let (at_delocal, at_kind, place, again, b3, w3, h4) =
    delocal_derived {p = Local} kind.Stack x on (λ y. keyword_then keyword.Nil (done (LocalStack (named x on) b y))) s m1 rest h3 in
    let (t2, u2, b4, w4, is2, h5) = h4 in
    let n = nil_is b1 t1 u1 b2 w2 is1 in
    let o = nil_is b3 t2 u2 b4 w4 is2 in
    let front : from ≡ Name x on ∷ Sign_of sign.Equals equals ∷ Keyword_of keyword.Nil n.0 ∷ b2 =
    w1 ∙ ap (λ ts. Name x on ∷ Sign_of sign.Equals equals ∷ ts) n.1 in
    let back : m1 ≡ Keyword_of keyword.Delocal at_delocal ∷ Keyword_of keyword.Stack at_kind ∷ Name x place ∷ Sign_of sign.Equals again ∷ Keyword_of keyword.Nil
    o.0 ∷ b4 = w3 ∙ ap (λ ts. Keyword_of keyword.Delocal at_delocal ∷ Keyword_of keyword.Stack at_kind ∷ Name x place ∷ Sign_of sign.Equals again ∷ ts)
    o.1 in
    subst (λ ts. IsStatement s (Keyword_of keyword.Local at ∷ Keyword_of keyword.Stack at_stack ∷ ts) rest) (sym front)
    (subst (λ z. IsStatement z
    (Keyword_of keyword.Local at ∷ Keyword_of keyword.Stack at_stack ∷ Name x on ∷ Sign_of sign.Equals equals ∷ Keyword_of keyword.Nil n.0 ∷ b2) rest)
    (sym h5.0)
    (subst (λ ts. IsStatement (LocalStack (named x on) b (named x place))
    (Keyword_of keyword.Local at ∷ Keyword_of keyword.Stack at_stack ∷ Name x on ∷ Sign_of sign.Equals equals ∷ Keyword_of keyword.Nil n.0 ∷ b2) ts)
    (sym h5.1)
    (IsStatement.local_stack (subst (λ ts. IsBody b b2 ts) back d1))))

pub local_derived : (t : Token) (r : Rule Local) (s : Stm) (from rest : List Token) → rule Local t ≡ Some r → Means r.form s from rest → (at : Span) →
    IsStatement s (Keyword_of keyword.Local at ∷ t ∷ from) rest
local_derived (Keyword_of keyword.Int at_int) r s from rest is h =
    let a : Rule Local = record { opens = 0; counts = 0; is_whole = false; form = local_int done } in
    int_derived at_int s from rest (form_as a r s from rest is h)
local_derived (Keyword_of keyword.Stack at_stack) r s from rest is h =
    let a : Rule Local = record { opens = 0; counts = 0; is_whole = false; form = local_stack done } in
    stack_local_derived at_stack s from rest (form_as a r s from rest is h)
local_derived (Keyword_of _ at) r s from rest is h = absurd cc
local_derived (Sign_of o at) r s from rest is h = absurd cc
local_derived (Name x at) r s from rest is h = absurd cc
local_derived (Number n at) r s from rest is h = absurd cc

pub names_derived : (t : Token) (r : Rule Names) (xs : List Named) (from rest : List Token) → rule Names t ≡ Some r → Means r.form xs from rest →
    AreNames xs (t ∷ from) rest
names_derived (Name x at) r xs from rest is h =
    let a : Rule Names = record { opens = 0; counts = 0; is_whole = false; form = part More_names (λ ys. done (named x at ∷ ys)) } in
    let (ys, m, d, end) = form_as a r xs from rest is h in
    subst (λ zs. AreNames zs (Name x at ∷ from) rest) (sym end.0)
    (subst (λ ts. AreNames (named x at ∷ ys) (Name x at ∷ from) ts) (sym end.1) (AreNames.names d))
names_derived (Keyword_of w at) r xs from rest is h = absurd cc
names_derived (Sign_of s at) r xs from rest is h = absurd cc
names_derived (Number n at) r xs from rest is h = absurd cc

pub more_names_derived : (t : Token) (r : Rule More_names) (xs : List Named) (from rest : List Token) → rule More_names t ≡ Some r → Means r.form xs from rest →
    AreMoreNames xs (t ∷ from) rest
more_names_derived (Sign_of sign.Comma at) r xs from rest is h =
    let a : Rule More_names = record { opens = 0; counts = 0; is_whole = false; form = take A_name (λ x. part More_names (λ ys. done (x ∷ ys))) } in
    let (t, s, b, w, seen_is, h1) = form_as a r xs from rest is h in
    let (ys, m, d, end) = h1 in
    let n = name_is t s seen_is in
    let list : xs ≡ named n.0 n.1 ∷ ys = end.0 ∙ ap (λ y. y ∷ ys) (sym n.3) in
    let whole : from ≡ Name n.0 n.1 ∷ b = w ∙ ap (λ t. t ∷ b) n.2 in
    subst (λ zs. AreMoreNames zs (Sign_of sign.Comma at ∷ from) rest) (sym list)
    (subst (λ ts. AreMoreNames (named n.0 n.1 ∷ ys) (Sign_of sign.Comma at ∷ ts) rest) (sym whole)
    (subst (λ ts. AreMoreNames (named n.0 n.1 ∷ ys) (Sign_of sign.Comma at ∷ Name n.0 n.1 ∷ b) ts) (sym end.1) (AreMoreNames.more d)))
more_names_derived (Sign_of _ at) r xs from rest is h = absurd cc
more_names_derived (Keyword_of w at) r xs from rest is h = absurd cc
more_names_derived (Name x at) r xs from rest is h = absurd cc
more_names_derived (Number n at) r xs from rest is h = absurd cc
