-- Each rule of the grammar keeps to the table of what may follow.
use Rattle.std.proofs.Common.{◌≡◌, ℕ, zero, suc, ◌+◌, ◌<◌, ◌≤◌, Option, Some, None, Bool, true, false, cond, refl, ap, ◌∙◌, arith, inl, inr}
use Rattle.std.specs.Prelude.{nat_lt, nat_eq}
use Rattle.std.proofs.lemmas.Bool.{lt-ltb, ltb-true, eqb-true, and_parts, and_from}
use Rattle.janus_syntax.specs.declared.token.Sign.{Sign}
use Rattle.janus_syntax.specs.declared.token.Sign.TheVariants as sign
use Rattle.janus_syntax.specs.declared.token.Keyword.{Keyword}
use Rattle.janus_syntax.specs.declared.operator.Infix.{Infix}
use Rattle.janus_syntax.specs.Tokens.{Token, Name, Number, Sign_of, Keyword_of}
use Rattle.janus_syntax.specs.Tree.{Exp}
use Rattle.janus_syntax.specs.Operators.{weakest, sign_infix, operator_at}
use Rattle.janus_syntax.specs.Forms.{Part, Chain, The_keyword, The_sign, seen, keyword_number, sign_number, Form, Rule}
use Rattle.janus_syntax.specs.Table.{rule, chains, chain_rule}
use Rattle.janus_syntax.proofs.Follow.{is_keyword, is_sign, no_index, weaker_than, ends_at, after_statement, May, Proper}

-- From a fixed token's class to the token's test.

pub cond_some : {A : Type 0} (b : Bool) (u s : A) → cond b (Some u) None ≡ Some s → b ≡ true
cond_some true u s e = refl
cond_some false u s e = absurd cc

pub seen_keyword : (w : Keyword) (t : Token) (s : Unit {0}) → seen (The_keyword w) t ≡ Some s → is_keyword w t ≡ true
seen_keyword w (Keyword_of v at) s e = cond_some (nat_eq (keyword_number w) (keyword_number v)) tt s e
seen_keyword w (Name x at) s e = absurd cc
seen_keyword w (Number n at) s e = absurd cc
seen_keyword w (Sign_of r at) s e = absurd cc

pub seen_sign : (r : Sign) (t : Token) (s : Unit {0}) → seen (The_sign r) t ≡ Some s → is_sign r t ≡ true
seen_sign r (Sign_of v at) s e = cond_some (nat_eq (sign_number r) (sign_number v)) tt s e
seen_sign r (Name x at) s e = absurd cc
seen_sign r (Number n at) s e = absurd cc
seen_sign r (Keyword_of w at) s e = absurd cc

-- What may stand behind a whole expression, for the tokens that do.

pub ends_statement : (t : Token) → after_statement t ≡ true → ends_at weakest t ≡ true
ends_statement (Name x at) e = refl
ends_statement (Keyword_of w at) e = refl
ends_statement (Number n at) e = absurd cc
ends_statement (Sign_of s at) e = absurd cc

pub keyword_after : (w : Keyword) (t : Token) → is_keyword w t ≡ true → after_statement t ≡ true
keyword_after w (Keyword_of v at) e = refl
keyword_after w (Name x at) e = absurd cc
keyword_after w (Number n at) e = absurd cc
keyword_after w (Sign_of s at) e = absurd cc

pub ends_close : (t : Token) → is_sign sign.Close t ≡ true → ends_at weakest t ≡ true
ends_close (Sign_of sign.Close at) e = refl
ends_close (Sign_of _ at) e = absurd cc
ends_close (Name x at) e = absurd cc
ends_close (Number n at) e = absurd cc
ends_close (Keyword_of w at) e = absurd cc

pub ends_close_index : (t : Token) → is_sign sign.CloseIndex t ≡ true → ends_at weakest t ≡ true
ends_close_index (Sign_of sign.CloseIndex at) e = refl
ends_close_index (Sign_of _ at) e = absurd cc
ends_close_index (Name x at) e = absurd cc
ends_close_index (Number n at) e = absurd cc
ends_close_index (Keyword_of w at) e = absurd cc

-- Expressions.

pub weaker_still : (m n : ℕ) (o : Option Infix) → m ≤ n → weaker_than n o ≡ true → weaker_than m o ≡ true
weaker_still m n None h e = refl
weaker_still m n (Some op) h e = let k = ltb-true n op.level e in lt-ltb m op.level (omega (arith, k))

pub ends_weaker : (m n : ℕ) (t : Token) → m ≤ n → ends_at n t ≡ true → ends_at m t ≡ true
ends_weaker m n t h e =
    let p = and_parts (no_index t) (weaker_than n (operator_at t)) e in
    and_from (no_index t) (weaker_than m (operator_at t)) p.0 (weaker_still m n (operator_at t) h p.1)

pub chain_level : (o : Option Infix) (n : ℕ) (e : Exp) (r : Rule (Chain n e)) → chain_rule o n e ≡ Some r → (op : Infix) × (o ≡ Some op) × (op.level ≡ n)
chain_level None n e r h = absurd cc
chain_level (Some op) n e r h = (op, refl, eqb-true op.level n (cond_some (nat_eq op.level n) _ r h))

pub operator_no_index : (t : Token) (op : Infix) → operator_at t ≡ Some op → no_index t ≡ true
operator_no_index (Name x at) op e = refl
operator_no_index (Number n at) op e = refl
operator_no_index (Keyword_of w at) op e = refl
operator_no_index (Sign_of sign.OpenIndex at) op e = absurd cc
operator_no_index (Sign_of _ at) op e = refl

-- an operator of a level ends an expression of each stronger level
pub ends_chain : (m n : ℕ) (e : Exp) (t : Token) (r : Rule (Chain n e)) → m < n → rule (Chain n e) t ≡ Some r → ends_at m t ≡ true
ends_chain m n e t r h is =
    let c = chain_level (operator_at t) n e r is in
    and_from (no_index t) (weaker_than m (operator_at t)) (operator_no_index t c.0 c.1)
    (ap (weaker_than m) c.1 ∙ lt-ltb m (c.0.level) (let k = c.2 in omega (arith, k, h)))

pub may_chains : {p : Part} (l n : ℕ) (e : Exp) (k : Exp → Form p) → ((f : Exp) (t : Token) → May (k f) t → ends_at (l + n) t ≡ true) → (t : Token) →
    May (chains l n e k) t → ends_at l t ≡ true
may_chains l zero e k ends t m = ends_weaker l (l + zero) t (omega arith) (ends e t m)
may_chains l (suc n) e k ends t m =
    elim m [
      | inl (r, is) ↦ ends_chain l (suc l) e t r (omega arith) is
      | inr (u, is, m) ↦ ends_weaker l (suc l) t (omega arith)
          (may_chains (suc l) n u k (λ f t m. ends_weaker (suc l + n) (l + suc n) t (omega arith) (ends f t m)) t m)
    ]

pub proper_chains : {p : Part} (l n : ℕ) (e : Exp) (k : Exp → Form p) → ((f : Exp) → Proper (k f)) →
    ((f : Exp) (t : Token) → May (k f) t → ends_at (l + n) t ≡ true) → Proper (chains l n e k)
proper_chains l zero e k h ends = h e
proper_chains l (suc n) e k h ends =
    let later : (f : Exp) (t : Token) → May (k f) t → ends_at (suc l + n) t ≡ true =
    λ f t m. ends_weaker (suc l + n) (l + suc n) t (omega arith) (ends f t m) in
    λ f. (proper_chains (suc l) n f k h later, λ t m. may_chains (suc l) n f k later t m)

abbrev pub positive : Option Infix → Bool
positive None = true
positive (Some op) = nat_lt 0 op.level

sign_positive : (s : Sign) → positive (sign_infix s) ≡ true
sign_positive sign.Times = refl
sign_positive _ = refl

-- each level is 1 or weaker
pub operator_positive : (t : Token) → positive (operator_at t) ≡ true
operator_positive (Name x at) = refl
operator_positive (Number n at) = refl
operator_positive (Keyword_of w at) = refl
operator_positive (Sign_of s at) = sign_positive s
