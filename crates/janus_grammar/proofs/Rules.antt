-- What is derived by the rules is spelled by the table.
use Rattle.std.proofs.Common.{◌≡◌, ℕ, zero, suc, ◌+◌, ◌-◌, ◌<◌, List, [], ◌∷◌, Option, Some, None, Bool, true, false, cond, refl, ap, sym, subst, ◌∙◌, arith}
use Rattle.std.specs.Prelude.{nat_lt}
use Rattle.std.proofs.lemmas.Bool.{eq-eqb, ltb-true}
use Rattle.janus_syntax.specs.declared.token.Span.{Span}
use Rattle.janus_syntax.specs.declared.token.Sign.{Sign}
use Rattle.janus_syntax.specs.declared.token.Sign.TheVariants as sign
use Rattle.janus_syntax.specs.declared.token.Keyword.{Keyword}
use Rattle.janus_syntax.specs.declared.token.Keyword.TheVariants as keyword
use Rattle.janus_syntax.specs.declared.operator.Infix.{Infix}
use Rattle.janus_syntax.specs.declared.tree.LocalKind.{LocalKind}
use Rattle.janus_syntax.specs.declared.tree.LocalKind.TheVariants as kind
use Rattle.janus_meaning.proofs.Stores.{same_name_self}
use Rattle.janus_syntax.specs.Tokens.{Token, Name, Number, Sign_of, Keyword_of}
use Rattle.janus_syntax.specs.Tree.{Name as Named, named, Exp, Num, EmptyOf, TopOf, Neg, Stm, Skip, Push, Pop, Swap, If, Loop, LocalInt, LocalStack, Call}
use Rattle.janus_syntax.specs.Tree.{Uncall, Block, Empty, More, Declaration, StackOf}
use Rattle.janus_syntax.specs.Operators.{weakest, joined, sign_infix, operator_at}
use Rattle.janus_syntax.specs.Forms.{Part, Declarations, Bound, Body, Statements, Else_part, Do_part, Loop_part, Local, Names, More_names, Swap_partner}
use Rattle.janus_syntax.specs.Forms.{Target_index, Whole, Level, Chain, Index, Tree, Class, Seen, seen, The_keyword, The_sign, A_name, A_number, An_update}
use Rattle.janus_syntax.specs.Forms.{Same_kind, Same_name, Form, done, take, part, close, Rule}
use Rattle.janus_syntax.specs.Table.{rule, left_out, variable, assignment, behind_target, declared, skip_block, sign_then, keyword_then, stack_then}
use Rattle.janus_syntax.specs.Table.{variable_and_stack_then, call_then, delocal_then, local_int, local_stack, whole, operand, chains, chain_rule, statement}
use Rattle.janus_syntax.specs.Table.{declaration}
use Rattle.janus_syntax.specs.Grammar
use Rattle.janus_syntax.specs.Grammar.{Count, but_limits, entered, closed, Spells}
use Rattle.janus_syntax.proofs.Agreed.{agreed, agreed_is, is_agreed, kind_keyword, kind_agreed}
use Rattle.janus_grammar.specs.Derivation
use Rattle.janus_grammar.specs.Derivation.{IsExpression, AreNames, AreMoreNames, IsStatement, AreStatements, IsBody, IsOptional, IsDeclaration, AreDeclarations}

-- ---- forms that are spelled, whatever the counts are

abbrev pub Spelled : (p : Part) → Form p → Tree p → List Token → List Token → Type 0
Spelled p f v from rest = (m : Count) → (m' : Count) × Spells but_limits p f v m from m' rest

pub nothing_more : (p : Part) (v : Tree p) (rest : List Token) → Spelled p (done v) v rest rest
nothing_more p v rest m = (m, Grammar.nothing_more)

pub taken : {p : Part} {c : Class} (k : Seen c → Form p) (s : Seen c) (v : Tree p) (t : Token) (from rest : List Token) → agreed c t ≡ Some s →
    Spelled p (k s) v from rest → Spelled p (take c k) v (t ∷ from) rest
taken {c = c} k s v t from rest is h m = let x = h m in let y = agreed_is c t s is in (x.0, Grammar.token y.0 y.1 x.1)

closes : {p : Part} (f : Form p) (v : Tree p) (from rest : List Token) → Spelled p f v from rest → Spelled p (close f) v from rest
closes f v from rest h m = let x = h (closed m) in (x.0, Grammar.end_of_construct x.1)

-- the tokens are the part q, as the tree u, in whatever form it stands
abbrev pub IsPart : (q : Part) → Tree q → List Token → List Token → Type 0
IsPart q u from rest = (p : Part) (k : Tree q → Form p) (v : Tree p) (last : List Token) → Spelled p (k u) v rest last → Spelled p (part q k) v from last

pub begun : (q : Part) (t : Token) (r : Rule q) (u : Tree q) (from rest : List Token) → rule q t ≡ Some r → Spelled q r.form u from rest →
    IsPart q u (t ∷ from) rest
begun q t r u from rest is h p k v last more m = let x = h (entered r m) in let y = more x.0 in (y.0, Grammar.a_part is refl x.1 y.1)

pub absent : (q : Part) (u : Tree q) (ts : List Token) → left_out q ≡ Some u → IsPart q u ts ts
absent q u ts is p k v last more m = let y = more m in (y.0, Grammar.no_part is y.1)

-- ---- expressions

-- behind the operand e: operators of level n, with which it is f
abbrev Continued : ℕ → Exp → Exp → List Token → List Token → Type 0
Continued zero e f from rest = (e ≡ f) × (rest ≡ from)
Continued (suc n) e f from rest = IsPart (Chain (suc n) e) f from rest

-- a first token with its rule, and what is behind it
abbrev Starts : (p : Part) → ℕ → (Exp → Form p) → Tree p → List Token → List Token → Type 0
Starts p n k v from last = (t : Token) × (behind : List Token) × (r : Rule p) × (from ≡ t ∷ behind) × (operand t (λ e. chains 0 n e k) ≡ Some r) ×
    Spelled p r.form v behind last

-- an expression begins each form that goes on with operators of weaker levels
abbrev Leads : ℕ → Exp → List Token → List Token → Type 0
Leads n e from middle = (f : Exp) (rest : List Token) → Continued n e f middle rest → (l : ℕ) (p : Part) (k : Exp → Form p) (v : Tree p) (last : List Token) →
    Spelled p (chains n l f k) v rest last → Starts p (n + l) k v from last

idle : (n : ℕ) (e : Exp) (ts : List Token) → Continued n e e ts ts
idle zero e ts = (refl, refl)
idle (suc n) e ts = absent (Chain (suc n) e) e ts refl

-- where nothing of its own level goes on, it is an operand
operand_leads : {e : Exp} {from middle : List Token} →
    ((l : ℕ) (p : Part) (k : Exp → Form p) (v : Tree p) (last : List Token) → Spelled p (chains 0 l e k) v middle last → Starts p l k v from last) →
    Leads 0 e from middle
operand_leads {e} {from} {middle} h f rest c l p k v last more =
    let y = h l p k v last (subst (λ x. Spelled p (chains 0 l x k) v middle last) (sym c.0) (subst (λ ts. Spelled p (chains 0 l f k) v ts last) c.1 more)) in
    (y.0, y.1, y.2, y.3, subst (λ (i : ℕ). operand y.0 (λ e. chains 0 i e k) ≡ Some y.2) (omega arith) y.4, y.5)

level_is : {n : ℕ} {e : Exp} {from rest : List Token} → Leads n e from rest → IsPart (Level n) e from rest
level_is {n} {e} {from} {rest} h =
    let y = h e rest (idle n e rest) 0 (Level n) done e rest (nothing_more (Level n) e rest) in
    subst (λ ts. IsPart (Level n) e ts rest) (sym y.3)
    (begun (Level n) y.0 y.2 e y.1 rest (subst (λ (i : ℕ). operand y.0 (λ e. chains 0 i e done) ≡ Some y.2) (omega arith) y.4) y.5)

whole_of : (o : Option (Rule Whole)) (r : Rule Whole) → o ≡ Some r →
    whole o ≡ Some (record { opens = r.opens; counts = r.counts; is_whole = true; form = r.form })
whole_of o r e = ap (λ x. whole x) e

pub whole_is : {e : Exp} {from rest : List Token} → Leads weakest e from rest → IsPart Whole e from rest
whole_is {e} {from} {rest} h =
    let y = h e rest (idle weakest e rest) 0 Whole done e rest (nothing_more Whole e rest) in
    let r = y.2 in
    subst (λ ts. IsPart Whole e ts rest) (sym y.3)
    (begun Whole y.0 (record { opens = r.opens; counts = r.counts; is_whole = true; form = r.form }) e y.1 rest
    (whole_of (operand y.0 (λ e. chains 0 weakest e done)) r y.4) y.5)

pub sign_behind : {p : Part} (s : Sign) (at : Span) (f : Form p) (v : Tree p) (from rest : List Token) → seen (The_sign s) (Sign_of s at) ≡ Some tt →
    Spelled p f v from rest → Spelled p (sign_then s f) v (Sign_of s at ∷ from) rest
sign_behind s at f v from rest is h = taken (λ x. f) tt v (Sign_of s at) from rest is h

pub keyword_behind : {p : Part} (w : Keyword) (at : Span) (f : Form p) (v : Tree p) (from rest : List Token) →
    seen (The_keyword w) (Keyword_of w at) ≡ Some tt → Spelled p f v from rest → Spelled p (keyword_then w f) v (Keyword_of w at ∷ from) rest
keyword_behind w at f v from rest is h = taken (λ x. f) tt v (Keyword_of w at) from rest is h

-- names in parentheses

stack_behind : {p : Part} (opening at closing : Span) (x : List ℕ) (f : Named → Form p) (v : Tree p) (from rest : List Token) →
    Spelled p (f (named x at)) v from rest → Spelled p (stack_then f) v (Sign_of sign.Open opening ∷ Name x at ∷ Sign_of sign.Close closing ∷ from) rest
stack_behind opening at closing x f v from rest h =
    sign_behind sign.Open opening (take A_name (λ s. sign_then sign.Close (f s))) v (Name x at ∷ Sign_of sign.Close closing ∷ from) rest refl
    (taken {c = A_name} (λ s. sign_then sign.Close (f s)) (named x at) v (Name x at) (Sign_of sign.Close closing ∷ from) rest refl
    (sign_behind sign.Close closing (f (named x at)) v from rest refl h))

pair_behind : {p : Part} (opening at comma place closing : Span) (x y : List ℕ) (f : Named → Named → Form p) (v : Tree p) (from rest : List Token) →
    Spelled p (f (named x at) (named y place)) v from rest →
    Spelled p (variable_and_stack_then f) v
    (Sign_of sign.Open opening ∷ Name x at ∷ Sign_of sign.Comma comma ∷ Name y place ∷ Sign_of sign.Close closing ∷ from) rest
pair_behind opening at comma place closing x y f v from rest h =
    let behind : List Token = Name y place ∷ Sign_of sign.Close closing ∷ from in
    sign_behind sign.Open opening (take A_name (λ z. sign_then sign.Comma (take A_name (λ s. sign_then sign.Close (f z s))))) v
    (Name x at ∷ Sign_of sign.Comma comma ∷ behind) rest refl
    (taken {c = A_name} (λ z. sign_then sign.Comma (take A_name (λ s. sign_then sign.Close (f z s)))) (named x at) v (Name x at)
    (Sign_of sign.Comma comma ∷ behind) rest refl
    (sign_behind sign.Comma comma (take A_name (λ s. sign_then sign.Close (f (named x at) s))) v behind rest refl
    (taken {c = A_name} (λ s. sign_then sign.Close (f (named x at) s)) (named y place) v (Name y place) (Sign_of sign.Close closing ∷ from) rest refl
    (sign_behind sign.Close closing (f (named x at) (named y place)) v from rest refl h))))

-- names parted by commas
more_names_are : {xs : List Named} {from rest : List Token} → AreMoreNames xs from rest → IsPart More_names xs from rest
more_names_are (AreMoreNames.none {rest = rest}) = absent More_names [] rest refl
more_names_are (AreMoreNames.more {comma = comma} {at = at} {x = x} {xs = xs} {from = from} {rest = rest} d) =
    begun More_names (Sign_of sign.Comma comma)
    (record { opens = 0; counts = 0; is_whole = false; form = take A_name (λ y. part More_names (λ ys. done (y ∷ ys))) }) (named x at ∷ xs)
    (Name x at ∷ from) rest refl
    (taken {c = A_name} (λ y. part More_names (λ ys. done (y ∷ ys))) (named x at) (named x at ∷ xs) (Name x at) from rest refl
    (more_names_are d More_names (λ ys. done (named x at ∷ ys)) (named x at ∷ xs) rest (nothing_more More_names (named x at ∷ xs) rest)))

names_are : {xs : List Named} {from rest : List Token} → AreNames xs from rest → IsPart Names xs from rest
names_are (AreNames.no_names {rest = rest}) = absent Names [] rest refl
names_are (AreNames.names {at = at} {x = x} {xs = xs} {from = from} {rest = rest} d) =
    begun Names (Name x at) (record { opens = 0; counts = 0; is_whole = false; form = part More_names (λ ys. done (named x at ∷ ys)) }) (named x at ∷ xs)
    from rest refl
    (more_names_are d Names (λ ys. done (named x at ∷ ys)) (named x at ∷ xs) rest (nothing_more Names (named x at ∷ xs) rest))

-- a name, and names in parentheses
call_behind : {p : Part} (at opening closing : Span) (f : List ℕ) (xs : List Named) (k : Named → List Named → Form p) (v : Tree p)
    (inner from rest : List Token) → AreNames xs inner (Sign_of sign.Close closing ∷ from) → Spelled p (k (named f at) xs) v from rest →
    Spelled p (call_then k) v (Name f at ∷ Sign_of sign.Open opening ∷ inner) rest
call_behind {p} at opening closing f xs k v inner from rest d h =
    taken {c = A_name} (λ g. sign_then sign.Open (part Names (λ ys. sign_then sign.Close (k g ys)))) (named f at) v (Name f at)
    (Sign_of sign.Open opening ∷ inner) rest refl
    (sign_behind sign.Open opening (part Names (λ ys. sign_then sign.Close (k (named f at) ys))) v inner rest refl
    (names_are d p (λ ys. sign_then sign.Close (k (named f at) ys)) v rest (sign_behind sign.Close closing (k (named f at) xs) v from rest refl h)))

-- `delocal`, a kind, a name and `=`
delocal_behind : {p : Part} (j : LocalKind) (x : List ℕ) (there at_delocal at_kind place equals : Span) (f : Named → Form p) (v : Tree p)
    (from rest : List Token) → Spelled p (f (named x place)) v from rest →
    Spelled p (delocal_then j (named x there) f) v
    (Keyword_of keyword.Delocal at_delocal ∷ Keyword_of (kind_keyword j) at_kind ∷ Name x place ∷ Sign_of sign.Equals equals ∷ from) rest
delocal_behind j x there at_delocal at_kind place equals f v from rest h =
    let behind : List Token = Sign_of sign.Equals equals ∷ from in
    keyword_behind keyword.Delocal at_delocal (take (Same_kind j) (λ i. take (Same_name (named x there)) (λ y. sign_then sign.Equals (f y)))) v
    (Keyword_of (kind_keyword j) at_kind ∷ Name x place ∷ behind) rest refl
    (taken {c = Same_kind j} (λ i. take (Same_name (named x there)) (λ y. sign_then sign.Equals (f y))) j v (Keyword_of (kind_keyword j) at_kind)
    (Name x place ∷ behind) rest (kind_agreed j at_kind)
    (taken {c = Same_name (named x there)} (λ y. sign_then sign.Equals (f y)) (named x place) v (Name x place) behind rest
    (is_agreed (Same_name (named x there)) (Name x place) (named x place) refl (same_name_self x))
    (sign_behind sign.Equals equals (f (named x place)) v from rest refl h)))

-- the name of a local and `=`
head_behind : {p : Part} (x : List ℕ) (at equals : Span) (f : Named → Form p) (v : Tree p) (from rest : List Token) → Spelled p (f (named x at)) v from rest →
    Spelled p (take A_name (λ y. sign_then sign.Equals (f y))) v (Name x at ∷ Sign_of sign.Equals equals ∷ from) rest
head_behind x at equals f v from rest h = taken {c = A_name} (λ y. sign_then sign.Equals (f y)) (named x at) v (Name x at) (Sign_of sign.Equals equals ∷ from)
    rest refl (sign_behind sign.Equals equals (f (named x at)) v from rest refl h)

-- levels of operators are not 0

abbrev has_level : Option Infix → Bool
has_level None = true
has_level (Some o) = nat_lt 0 o.level

signs_have : (s : Sign) → has_level (sign_infix s) ≡ true
signs_have sign.Times = refl
signs_have _ = refl

tokens_have : (t : Token) → has_level (operator_at t) ≡ true
tokens_have (Sign_of s at) = signs_have s
tokens_have (Name x at) = refl
tokens_have (Number n at) = refl
tokens_have (Keyword_of w at) = refl

not_zero : (t : Token) (o : Infix) → operator_at t ≡ Some o → 0 < o.level
not_zero t o is = ltb-true 0 o.level (subst (λ x. has_level x ≡ true) is (tokens_have t))

-- an operator of the level, with its right side
abbrev rule_of : (n : ℕ) (o : Infix) (e : Exp) → Rule (Chain n e)
rule_of n o e = record { opens = 0; counts = 1; is_whole = false; form = part (Level (n - 1)) (λ r. part (Chain n (joined o.joint e r)) done) }

rule_is : (n : ℕ) (o : Infix) (e : Exp) (t : Token) → operator_at t ≡ Some o → o.level ≡ n → rule (Chain n e) t ≡ Some (rule_of n o e)
rule_is n o e t is level = ap (λ x. chain_rule x n e) is ∙ ap (λ b. cond b (Some (rule_of n o e)) None) (eq-eqb o.level n level)

operation_leads : (n : ℕ) (o : Infix) (t : Token) (a b : Exp) (from behind middle : List Token) → o.level ≡ n → 0 < n → operator_at t ≡ Some o →
    Leads n a from (t ∷ behind) → Leads (n - 1) b behind middle → Leads n (joined o.joint a b) from middle
operation_leads zero o t a b from behind middle level h is x y = absurd (omega (arith, h))
operation_leads (suc n) o t a b from behind middle level h is x y =
    λ f rest c. x f rest (begun (Chain (suc n) a) t (rule_of (suc n) o a) f behind rest (rule_is (suc n) o a t is level)
    (level_is y (Chain (suc n) a) (λ r. part (Chain (suc n) (joined o.joint a r)) done) f rest
    (c (Chain (suc n) a) done f rest (nothing_more (Chain (suc n) a) f rest))))

pub leads : {n : ℕ} {e : Exp} {from rest : List Token} → IsExpression n e from rest → Leads n e from rest
leads (Derivation.number {n = n} {at = at} {rest = rest}) =
    operand_leads (λ l p k v last h. (Number n at, rest, record { opens = 0; counts = 0; is_whole = false; form = chains 0 l (Num n at) k }, refl, refl, h))
leads (Derivation.variable {x = x} {at = at} {rest = rest}) =
    operand_leads
    (λ l p k v last h. (
      Name x at,
      rest,
      record { opens = 0; counts = 0; is_whole = false; form = part Index (λ i. chains 0 l (variable (named x at) i) k) },
      refl,
      refl,
      absent Index None rest refl p (λ i. chains 0 l (variable (named x at) i) k) v last h,
    ))
leads (Derivation.element {x = x} {at = at} {opening = opening} {closing = closing} {i = i} {from = from} {rest = rest} d) =
    let inner = level_is (leads d) Index (λ e. sign_then sign.CloseIndex (close (done (Some e)))) (Some i) rest
    (sign_behind sign.CloseIndex closing (close (done (Some i))) (Some i) rest rest refl
    (closes (done (Some i)) (Some i) rest rest (nothing_more Index (Some i) rest))) in
    let index = begun Index (Sign_of sign.OpenIndex opening)
    (record { opens = 1; counts = 0; is_whole = false; form = part (Level weakest) (λ e. sign_then sign.CloseIndex (close (done (Some e)))) })
    (Some i) from rest refl inner in
    operand_leads
    (λ l p k v last h. (
      Name x at,
      Sign_of sign.OpenIndex opening ∷ from,
      record { opens = 0; counts = 0; is_whole = false; form = part Index (λ i. chains 0 l (variable (named x at) i) k) },
      refl,
      refl,
      index p (λ i. chains 0 l (variable (named x at) i) k) v last h,
    ))
leads (Derivation.emptiness {at_empty = at_empty} {opening = opening} {at = at} {closing = closing} {s = x} {rest = rest}) =
    operand_leads (λ l p k v last h. (
      Keyword_of keyword.Empty at_empty,
      Sign_of sign.Open opening ∷ Name x at ∷ Sign_of sign.Close closing ∷ rest,
      record { opens = 0; counts = 0; is_whole = false; form = stack_then (λ s. chains 0 l (EmptyOf s) k) },
      refl,
      refl,
      stack_behind opening at closing x (λ s. chains 0 l (EmptyOf s) k) v rest last h,
    ))
leads (Derivation.top {at_top = at_top} {opening = opening} {at = at} {closing = closing} {s = x} {rest = rest}) =
    operand_leads (λ l p k v last h. (
      Keyword_of keyword.Top at_top,
      Sign_of sign.Open opening ∷ Name x at ∷ Sign_of sign.Close closing ∷ rest,
      record { opens = 0; counts = 0; is_whole = false; form = stack_then (λ s. chains 0 l (TopOf s) k) },
      refl,
      refl,
      stack_behind opening at closing x (λ s. chains 0 l (TopOf s) k) v rest last h,
    ))
leads (Derivation.minus {at = at} {e = e} {from = from} {rest = rest} d) =
    operand_leads
    (λ l p k v last h. (
      Sign_of sign.Minus at,
      from,
      record { opens = 1; counts = 1; is_whole = false; form = part (Level 0) (λ e. close (chains 0 l (Neg e) k)) },
      refl,
      refl,
      level_is (leads d) p (λ e. close (chains 0 l (Neg e) k)) v last (closes (chains 0 l (Neg e) k) v rest last h),
    ))
leads (Derivation.parentheses {opening = opening} {closing = closing} {e = e} {from = from} {rest = rest} d) =
    operand_leads (λ l p k v last h. (
      Sign_of sign.Open opening,
      from,
      record { opens = 1; counts = 0; is_whole = false; form = part (Level weakest) (λ e. sign_then sign.Close (close (chains 0 l e k))) },
      refl,
      refl,
      level_is (leads d) p (λ e. sign_then sign.Close (close (chains 0 l e k))) v last
          (sign_behind sign.Close closing (close (chains 0 l e k)) v rest last refl (closes (chains 0 l e k) v rest last h)),
    ))
leads (Derivation.stronger {n = n} {e = e} {from = from} {rest = middle} d) = λ f rest c l p k v last h.
    let y = leads d e middle (idle n e middle) (suc l) p k v last (c p (λ g. chains (suc n) l g k) v last h) in
    (y.0, y.1, y.2, y.3, subst (λ (i : ℕ). operand y.0 (λ e. chains 0 i e k) ≡ Some y.2) (omega arith) y.4, y.5)
leads (Derivation.operation {o = o} {t = t} {a = a} {b = b} {from = from} {behind = behind} {rest = rest} is x y) =
    operation_leads o.level o t a b from behind rest refl (not_zero t o is) is (leads x) (leads y)

-- ---- statements

-- a statement begins each form that starts with one
abbrev Begins : Stm → List Token → List Token → Type 0
Begins s from middle = (p : Part) (k : Stm → Form p) (v : Tree p) (last : List Token) → Spelled p (k s) v middle last →
    (t : Token) × (behind : List Token) × (r : Rule p) × (from ≡ t ∷ behind) × (statement t k ≡ Some r) × Spelled p r.form v behind last

-- which part a body behind this keyword is
abbrev Behind_keyword : Keyword → Block → List Token → List Token → Type 0
Behind_keyword keyword.Else b from rest = IsPart Else_part b from rest
Behind_keyword keyword.Do b from rest = IsPart Do_part b from rest
Behind_keyword keyword.Loop b from rest = IsPart Loop_part b from rest
Behind_keyword _ b from rest = Unit {0}

mutual
  pub begins : {s : Stm} {from rest : List Token} → IsStatement s from rest → Begins s from rest
  begins (IsStatement.skip {at = at} {rest = rest}) =
      λ p k v last h. (Keyword_of keyword.Skip at, rest, record { opens = 0; counts = 0; is_whole = false; form = k Skip }, refl, refl, h)
  begins (IsStatement.assignment {x = x} {at = at} {t = t} {u = u} {e = e} {from = from} {rest = rest} is d) = λ p k v last h. (
    Name x at,
    t ∷ from,
    record { opens = 0; counts = 0; is_whole = false; form = part Swap_partner (λ other. behind_target (named x at) other k) },
    refl,
    refl,
    absent Swap_partner None (t ∷ from) refl p (λ other. behind_target (named x at) other k) v last
        (absent Target_index None (t ∷ from) refl p (λ i. take An_update (λ u. part Whole (λ e. k (assignment (named x at) i u e)))) v last
        (taken (λ u. part Whole (λ e. k (assignment (named x at) None u e))) u v t from last is
        (whole_is (leads d) p (λ e. k (assignment (named x at) None u e)) v last h))),
  )
  begins (IsStatement.element_assignment {x = x} {at = at} {opening = opening} {closing = closing} {t = t} {u = u} {i = i} {e = e} {from = from}
      {behind = behind} {rest = rest} is c d) = λ p k v last h.
      let inner = whole_is (leads c) Target_index (λ e. sign_then sign.CloseIndex (close (done (Some e)))) (Some i) (t ∷ behind)
      (sign_behind sign.CloseIndex closing (close (done (Some i))) (Some i) (t ∷ behind) (t ∷ behind) refl
      (closes (done (Some i)) (Some i) (t ∷ behind) (t ∷ behind) (nothing_more Target_index (Some i) (t ∷ behind)))) in (
        Name x at,
        Sign_of sign.OpenIndex opening ∷ from,
        record { opens = 0; counts = 0; is_whole = false; form = part Swap_partner (λ other. behind_target (named x at) other k) },
        refl,
        refl,
        absent Swap_partner None (Sign_of sign.OpenIndex opening ∷ from) refl p (λ other. behind_target (named x at) other k) v last
            (begun Target_index (Sign_of sign.OpenIndex opening)
            (record { opens = 1; counts = 0; is_whole = false; form = part Whole (λ e. sign_then sign.CloseIndex (close (done (Some e)))) }) (Some i) from
            (t ∷ behind) refl inner p (λ i. take An_update (λ u. part Whole (λ e. k (assignment (named x at) i u e)))) v last
            (taken (λ u. part Whole (λ e. k (assignment (named x at) (Some i) u e))) u v t behind last is
            (whole_is (leads d) p (λ e. k (assignment (named x at) (Some i) u e)) v last h))),
      )
  begins (IsStatement.swap {x = x} {y = y} {at = at} {on = on} {place = place} {rest = rest}) = λ p k v last h. (
    Name x at,
    Sign_of sign.Swap on ∷ Name y place ∷ rest,
    record { opens = 0; counts = 0; is_whole = false; form = part Swap_partner (λ other. behind_target (named x at) other k) },
    refl,
    refl,
    begun Swap_partner (Sign_of sign.Swap on) (record { opens = 0; counts = 0; is_whole = false; form = take A_name (λ z. done (Some z)) })
        (Some (named y place)) (Name y place ∷ rest) rest refl
        (taken {c = A_name} (λ z. done (Some z)) (named y place) (Some (named y place)) (Name y place) rest rest refl
        (nothing_more Swap_partner (Some (named y place)) rest))
        p (λ other. behind_target (named x at) other k) v last h,
  )
  begins (IsStatement.push {at_push = at_push} {opening = opening} {at = at} {comma = comma} {place = place} {closing = closing} {x = x} {s = y}
      {rest = rest}) = λ p k v last h. (
        Keyword_of keyword.Push at_push,
        Sign_of sign.Open opening ∷ Name x at ∷ Sign_of sign.Comma comma ∷ Name y place ∷ Sign_of sign.Close closing ∷ rest,
        record { opens = 0; counts = 0; is_whole = false; form = variable_and_stack_then (λ z s. k (Push z s)) },
        refl,
        refl,
        pair_behind opening at comma place closing x y (λ z s. k (Push z s)) v rest last h,
      )
  begins (IsStatement.call {at_call = at_call} {at = at} {opening = opening} {closing = closing} {f = f} {xs = xs} {from = from} {rest = rest} d) =
      λ p k v last h. (
        Keyword_of keyword.Call at_call,
        Name f at ∷ Sign_of sign.Open opening ∷ from,
        record { opens = 0; counts = 0; is_whole = false; form = call_then (λ g ys. k (Call g ys)) },
        refl,
        refl,
        call_behind at opening closing f xs (λ g ys. k (Call g ys)) v from rest last d h,
      )
  begins (IsStatement.inverse_call {at_uncall = at_uncall} {at = at} {opening = opening} {closing = closing} {f = f} {xs = xs} {from = from} {rest = rest} d) =
      λ p k v last h. (
        Keyword_of keyword.Uncall at_uncall,
        Name f at ∷ Sign_of sign.Open opening ∷ from,
        record { opens = 0; counts = 0; is_whole = false; form = call_then (λ g ys. k (Uncall g ys)) },
        refl,
        refl,
        call_behind at opening closing f xs (λ g ys. k (Uncall g ys)) v from rest last d h,
      )
  begins (IsStatement.pop {at_pop = at_pop} {opening = opening} {at = at} {comma = comma} {place = place} {closing = closing} {x = x} {s = y} {rest = rest}) =
      λ p k v last h. (
        Keyword_of keyword.Pop at_pop,
        Sign_of sign.Open opening ∷ Name x at ∷ Sign_of sign.Comma comma ∷ Name y place ∷ Sign_of sign.Close closing ∷ rest,
        record { opens = 0; counts = 0; is_whole = false; form = variable_and_stack_then (λ z s. k (Pop z s)) },
        refl,
        refl,
        pair_behind opening at comma place closing x y (λ z s. k (Pop z s)) v rest last h,
      )
  begins (IsStatement.branch {at_if = at_if} {at_then = at_then} {at_fi = at_fi} {test = e} {assertion = f} {a = s} {b = t} {from = from} {then = then}
      {others = others} {last = end} {rest = rest} d a b g) = λ p k v last h. (
        Keyword_of keyword.If at_if,
        from,
        record {
          opens = 1;
          counts = 0;
          is_whole = false;
          form = part Whole
              (λ e. keyword_then keyword.Then (part Body (λ s. part Else_part (λ t. keyword_then keyword.Fi (part Whole (λ f. close (k (If e s t f))))))));
        },
        refl,
        refl,
        whole_is (leads d) p
            (λ e. keyword_then keyword.Then (part Body (λ s. part Else_part (λ t. keyword_then keyword.Fi (part Whole (λ f. close (k (If e s t f)))))))) v last
            (keyword_behind keyword.Then at_then (part Body (λ s. part Else_part (λ t. keyword_then keyword.Fi (part Whole (λ f. close (k (If e s t f)))))))
            v then last refl
            (body_is a p (λ s. part Else_part (λ t. keyword_then keyword.Fi (part Whole (λ f. close (k (If e s t f)))))) v last
            (optional_is keyword.Else b p (λ t. keyword_then keyword.Fi (part Whole (λ f. close (k (If e s t f))))) v last
            (keyword_behind keyword.Fi at_fi (part Whole (λ f. close (k (If e s t f)))) v end last refl
            (whole_is (leads g) p (λ f. close (k (If e s t f))) v last (closes (k (If e s t f)) v rest last h)))))),
      )
  begins (IsStatement.repetition {at_from = at_from} {at_until = at_until} {assertion = e} {test = f} {a = s} {b = t} {from = from} {first = first}
      {second = second} {last = end} {rest = rest} d a b g) = λ p k v last h. (
        Keyword_of keyword.From at_from,
        from,
        record {
          opens = 1;
          counts = 0;
          is_whole = false;
          form = part Whole
              (λ e. part Do_part (λ s. part Loop_part (λ t. keyword_then keyword.Until (part Whole (λ f. close (k (Loop e s t f)))))));
        },
        refl,
        refl,
        whole_is (leads d) p (λ e. part Do_part (λ s. part Loop_part (λ t. keyword_then keyword.Until (part Whole (λ f. close (k (Loop e s t f))))))) v last
            (optional_is keyword.Do a p (λ s. part Loop_part (λ t. keyword_then keyword.Until (part Whole (λ f. close (k (Loop e s t f)))))) v last
            (optional_is keyword.Loop b p (λ t. keyword_then keyword.Until (part Whole (λ f. close (k (Loop e s t f))))) v last
            (keyword_behind keyword.Until at_until (part Whole (λ f. close (k (Loop e s t f)))) v end last refl
            (whole_is (leads g) p (λ f. close (k (Loop e s t f))) v last (closes (k (Loop e s t f)) v rest last h))))),
      )
  begins (IsStatement.local_number {at_local = at_local} {at_int = at_int} {at = at} {equals = equals} {at_delocal = at_delocal} {at_kind = at_kind}
      {place = place} {equals_again = again} {x = x} {first = e} {test = f} {b = b} {from = from} {behind = behind} {last = end} {rest = rest} d a g) = λ p k v
      last h.
      let s : Stm = LocalInt (named x at) e b (named x place) f in
      let form : Named → Form Local = λ y. part Whole (λ e. part Body (λ b. delocal_then kind.Int y (λ z. part Whole (λ f. done (LocalInt y e b z f))))) in
      let inner : Spelled Local (local_int done) s (Name x at ∷ Sign_of sign.Equals equals ∷ from) rest =
      head_behind x at equals form s from rest
      (whole_is (leads d) Local (λ e. part Body (λ b. delocal_then kind.Int (named x at) (λ z. part Whole (λ f. done (LocalInt (named x at) e b z f))))) s rest
      (body_is a Local (λ b. delocal_then kind.Int (named x at) (λ z. part Whole (λ f. done (LocalInt (named x at) e b z f)))) s rest
      (delocal_behind kind.Int x at at_delocal at_kind place again (λ z. part Whole (λ f. done (LocalInt (named x at) e b z f))) s end rest
      (whole_is (leads g) Local (λ f. done (LocalInt (named x at) e b (named x place) f)) s rest (nothing_more Local s rest))))) in (
        Keyword_of keyword.Local at_local,
        Keyword_of keyword.Int at_int ∷ Name x at ∷ Sign_of sign.Equals equals ∷ from,
        record { opens = 1; counts = 0; is_whole = false; form = part Local (λ s. close (k s)) },
        refl,
        refl,
        begun Local (Keyword_of keyword.Int at_int) (record { opens = 0; counts = 0; is_whole = false; form = local_int done }) s
            (Name x at ∷ Sign_of sign.Equals equals ∷ from) rest refl inner p (λ s. close (k s)) v last (closes (k s) v rest last h),
      )
  begins (IsStatement.local_stack {at_local = at_local} {at_stack = at_stack} {at = at} {equals = equals} {at_nil = at_nil} {at_delocal = at_delocal}
      {at_kind = at_kind} {place = place} {equals_again = again} {nil_again = nil_again} {x = x} {b = b} {from = from} {rest = rest} a) = λ p k v last h.
      let s : Stm = LocalStack (named x at) b (named x place) in
      let form : Named → Form Local =
      λ y. keyword_then keyword.Nil (part Body (λ b. delocal_then kind.Stack y (λ z. keyword_then keyword.Nil (done (LocalStack y b z))))) in
      let inner : Spelled Local (local_stack done) s (Name x at ∷ Sign_of sign.Equals equals ∷ Keyword_of keyword.Nil at_nil ∷ from) rest =
      head_behind x at equals form s (Keyword_of keyword.Nil at_nil ∷ from) rest
      (keyword_behind keyword.Nil at_nil
      (part Body (λ b. delocal_then kind.Stack (named x at) (λ z. keyword_then keyword.Nil (done (LocalStack (named x at) b z))))) s from rest refl
      (body_is a Local (λ b. delocal_then kind.Stack (named x at) (λ z. keyword_then keyword.Nil (done (LocalStack (named x at) b z)))) s rest
      (delocal_behind kind.Stack x at at_delocal at_kind place again (λ z. keyword_then keyword.Nil (done (LocalStack (named x at) b z))) s
      (Keyword_of keyword.Nil nil_again ∷ rest) rest
      (keyword_behind keyword.Nil nil_again (done s) s rest rest refl (nothing_more Local s rest))))) in (
        Keyword_of keyword.Local at_local,
        Keyword_of keyword.Stack at_stack ∷ Name x at ∷ Sign_of sign.Equals equals ∷ Keyword_of keyword.Nil at_nil ∷ from,
        record { opens = 1; counts = 0; is_whole = false; form = part Local (λ s. close (k s)) },
        refl,
        refl,
        begun Local (Keyword_of keyword.Stack at_stack) (record { opens = 0; counts = 0; is_whole = false; form = local_stack done }) s
            (Name x at ∷ Sign_of sign.Equals equals ∷ Keyword_of keyword.Nil at_nil ∷ from) rest refl inner p (λ s. close (k s)) v last
            (closes (k s) v rest last h),
      )

  pub statements_are : {b : Block} {from rest : List Token} → AreStatements b from rest → IsPart Statements b from rest
  statements_are (AreStatements.none {rest = rest}) = absent Statements Empty rest refl
  statements_are (AreStatements.more {s = s} {b = b} {from = from} {behind = middle} {rest = rest} d ds) =
      let y = begins d Statements (λ s. part Statements (λ b. done (More s b))) (More s b) rest
      (statements_are ds Statements (λ b. done (More s b)) (More s b) rest (nothing_more Statements (More s b) rest)) in
      subst (λ ts. IsPart Statements (More s b) ts rest) (sym y.3) (begun Statements y.0 y.2 (More s b) y.1 rest y.4 y.5)

  pub body_is : {b : Block} {from rest : List Token} → IsBody b from rest → IsPart Body b from rest
  body_is (IsBody.body {s = s} {b = b} {from = from} {behind = middle} {rest = rest} d ds) =
      let y = begins d Body (λ s. part Statements (λ b. done (More s b))) (More s b) rest
      (statements_are ds Body (λ b. done (More s b)) (More s b) rest (nothing_more Body (More s b) rest)) in
      subst (λ ts. IsPart Body (More s b) ts rest) (sym y.3) (begun Body y.0 y.2 (More s b) y.1 rest y.4 y.5)

  optional_is : (w : Keyword) {b : Block} {from rest : List Token} → IsOptional w b from rest → Behind_keyword w b from rest
  optional_is keyword.Else (IsOptional.there {at = at} {b = b} {from = from} {rest = rest} d) =
      begun Else_part (Keyword_of keyword.Else at) (record { opens = 0; counts = 0; is_whole = false; form = part Body done }) b from rest refl
      (body_is d Else_part done b rest (nothing_more Else_part b rest))
  optional_is keyword.Else (IsOptional.left_out {rest = rest}) = absent Else_part skip_block rest refl
  optional_is keyword.Do (IsOptional.there {at = at} {b = b} {from = from} {rest = rest} d) =
      begun Do_part (Keyword_of keyword.Do at) (record { opens = 0; counts = 0; is_whole = false; form = part Body done }) b from rest refl
      (body_is d Do_part done b rest (nothing_more Do_part b rest))
  optional_is keyword.Do (IsOptional.left_out {rest = rest}) = absent Do_part skip_block rest refl
  optional_is keyword.Loop (IsOptional.there {at = at} {b = b} {from = from} {rest = rest} d) =
      begun Loop_part (Keyword_of keyword.Loop at) (record { opens = 0; counts = 0; is_whole = false; form = part Body done }) b from rest refl
      (body_is d Loop_part done b rest (nothing_more Loop_part b rest))
  optional_is keyword.Loop (IsOptional.left_out {rest = rest}) = absent Loop_part skip_block rest refl
  optional_is _ d = tt

-- ---- declarations

-- a declaration begins each form that starts with one
pub declares : {d : Declaration} {from middle : List Token} → IsDeclaration d from middle →
    (p : Part) (k : Declaration → Form p) (v : Tree p) (last : List Token) → Spelled p (k d) v middle last →
    (t : Token) × (behind : List Token) × (r : Rule p) × (from ≡ t ∷ behind) × (declaration t k ≡ Some r) × Spelled p r.form v behind last
declares (IsDeclaration.number {at_int = at_int} {at = at} {x = x} {rest = rest}) = λ p k v last h. (
  Keyword_of keyword.Int at_int,
  Name x at ∷ rest,
  record { opens = 0; counts = 0; is_whole = false; form = take A_name (λ x. part Bound (λ n. k (declared x n))) },
  refl,
  refl,
  taken {c = A_name} (λ x. part Bound (λ n. k (declared x n))) (named x at) v (Name x at) rest last refl
      (absent Bound None rest refl p (λ n. k (declared (named x at) n)) v last h),
)
declares (IsDeclaration.array {at_int = at_int} {at = at} {opening = opening} {place = place} {closing = closing} {x = x} {n = n} {rest = rest}) =
    λ p k v last h. (
      Keyword_of keyword.Int at_int,
      Name x at ∷ Sign_of sign.OpenIndex opening ∷ Number n place ∷ Sign_of sign.CloseIndex closing ∷ rest,
      record { opens = 0; counts = 0; is_whole = false; form = take A_name (λ x. part Bound (λ n. k (declared x n))) },
      refl,
      refl,
      taken {c = A_name} (λ x. part Bound (λ n. k (declared x n))) (named x at) v (Name x at)
          (Sign_of sign.OpenIndex opening ∷ Number n place ∷ Sign_of sign.CloseIndex closing ∷ rest) last refl
          (begun Bound (Sign_of sign.OpenIndex opening)
          (record { opens = 0; counts = 0; is_whole = false; form = take A_number (λ n. sign_then sign.CloseIndex (done (Some n))) }) (Some (n, place))
          (Number n place ∷ Sign_of sign.CloseIndex closing ∷ rest) rest refl
          (taken {c = A_number} (λ n. sign_then sign.CloseIndex (done (Some n))) (n, place) (Some (n, place)) (Number n place)
          (Sign_of sign.CloseIndex closing ∷ rest) rest refl
          (sign_behind sign.CloseIndex closing (done (Some (n, place))) (Some (n, place)) rest rest refl (nothing_more Bound (Some (n, place)) rest)))
          p (λ n. k (declared (named x at) n)) v last h),
    )
declares (IsDeclaration.stack {at_stack = at_stack} {at = at} {s = x} {rest = rest}) = λ p k v last h. (
  Keyword_of keyword.Stack at_stack,
  Name x at ∷ rest,
  record { opens = 0; counts = 0; is_whole = false; form = take A_name (λ s. k (StackOf s)) },
  refl,
  refl,
  taken {c = A_name} (λ s. k (StackOf s)) (named x at) v (Name x at) rest last refl h,
)

pub declarations_are : {ds : List Declaration} {from rest : List Token} → AreDeclarations ds from rest → IsPart Declarations ds from rest
declarations_are (AreDeclarations.none {rest = rest}) = absent Declarations [] rest refl
declarations_are (AreDeclarations.more {d = d} {ds = ds} {from = from} {behind = middle} {rest = rest} a b) =
    let y = declares a Declarations (λ d. part Declarations (λ ds. done (d ∷ ds))) (d ∷ ds) rest
    (declarations_are b Declarations (λ ds. done (d ∷ ds)) (d ∷ ds) rest (nothing_more Declarations (d ∷ ds) rest)) in
    subst (λ ts. IsPart Declarations (d ∷ ds) ts rest) (sym y.3) (begun Declarations y.0 y.2 (d ∷ ds) y.1 rest y.4 y.5)
