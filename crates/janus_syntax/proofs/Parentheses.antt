-- Names in parentheses, over plain lists: a token behind the other.
use Rattle.std.proofs.Common.{List, ◌∙◌, arith}
use Rattle.janus_syntax.specs.declared.token.Sign.TheVariants as sign
use Rattle.janus_syntax.specs.Tokens.{Token}
use Rattle.janus_syntax.specs.Tree.{Name as Named}
use Rattle.janus_syntax.specs.Forms.{Form, The_sign, A_name, take}
use Rattle.janus_syntax.specs.Table.{sign_then}
use Rattle.janus_syntax.specs.Grammar.{Refusal}
use Rattle.janus_syntax.specs.Reading.{TokenGoes, TokenFails, IsStack, FailsStack, IsVariableAndStack, FailsVariableAndStack}

-- ---- a stack

pub stack_is : {s : Named} {from r1 r2 rest : List Token} → TokenGoes (The_sign sign.Open) tt from r1 → TokenGoes A_name s r1 r2 →
    TokenGoes (The_sign sign.Close) tt r2 rest → IsStack s from rest
stack_is {s} o i c =
    record {
      goes = λ g p k S m.
          o.goes g p (λ v. take A_name (λ y. sign_then sign.Close (k y))) S m
          ∙ i.goes g p (λ y. sign_then sign.Close (k y)) S m
          ∙ c.goes g p (λ v. k s) S m;
      shorter = let s1 = o.shorter in let s2 = i.shorter in let s3 = c.shorter in omega (arith, s1, s2, s3);
    }

pub stack_stops_open : (from : List Token) (e : Refusal) → TokenFails (The_sign sign.Open) from e → FailsStack from e
stack_stops_open from e f g p k S m = f g p (λ v. take A_name (λ y. sign_then sign.Close (k y))) S m

pub stack_stops_name : {from r1 : List Token} (e : Refusal) → TokenGoes (The_sign sign.Open) tt from r1 → TokenFails A_name r1 e → FailsStack from e
stack_stops_name e o f g p k S m = o.goes g p (λ v. take A_name (λ y. sign_then sign.Close (k y))) S m ∙ f g p (λ y. sign_then sign.Close (k y)) S m

pub stack_stops_close : {s : Named} {from r1 r2 : List Token} (e : Refusal) → TokenGoes (The_sign sign.Open) tt from r1 → TokenGoes A_name s r1 r2 →
    TokenFails (The_sign sign.Close) r2 e → FailsStack from e
stack_stops_close {s} e o i f g p k S m =
    o.goes g p (λ v. take A_name (λ y. sign_then sign.Close (k y))) S m
    ∙ i.goes g p (λ y. sign_then sign.Close (k y)) S m
    ∙ f g p (λ v. k s) S m

-- ---- a variable and a stack

-- the forms on the way
abbrev behind_open : {p : _} → (Named → Named → Form p) → Form p
behind_open k = take A_name (λ x. sign_then sign.Comma (take A_name (λ s. sign_then sign.Close (k x s))))

abbrev behind_variable : {p : _} → (Named → Named → Form p) → Named → Form p
behind_variable k x = sign_then sign.Comma (take A_name (λ s. sign_then sign.Close (k x s)))

abbrev behind_comma : {p : _} → (Named → Named → Form p) → Named → Form p
behind_comma k x = take A_name (λ s. sign_then sign.Close (k x s))

abbrev behind_stack : {p : _} → (Named → Named → Form p) → Named → Named → Form p
behind_stack k x s = sign_then sign.Close (k x s)

pub pair_is : {x s : Named} {from r1 r2 r3 r4 rest : List Token} → TokenGoes (The_sign sign.Open) tt from r1 → TokenGoes A_name x r1 r2 →
    TokenGoes (The_sign sign.Comma) tt r2 r3 → TokenGoes A_name s r3 r4 → TokenGoes (The_sign sign.Close) tt r4 rest →
    IsVariableAndStack x s from rest
pair_is {x} {s} o i m j c =
    record {
      goes = λ g p k S n.
          o.goes g p (λ v. behind_open k) S n
          ∙ i.goes g p (behind_variable k) S n
          ∙ m.goes g p (λ v. behind_comma k x) S n
          ∙ j.goes g p (behind_stack k x) S n
          ∙ c.goes g p (λ v. k x s) S n;
      shorter = let s1 = o.shorter in let s2 = i.shorter in let s3 = m.shorter in let s4 = j.shorter in let s5 = c.shorter in omega (arith, s1, s2, s3, s4, s5);
    }

pub pair_stops_open : (from : List Token) (e : Refusal) → TokenFails (The_sign sign.Open) from e → FailsVariableAndStack from e
pair_stops_open from e f g p k S n = f g p (λ v. behind_open k) S n

pub pair_stops_variable : {from r1 : List Token} (e : Refusal) → TokenGoes (The_sign sign.Open) tt from r1 → TokenFails A_name r1 e →
    FailsVariableAndStack from e
pair_stops_variable e o f g p k S n = o.goes g p (λ v. behind_open k) S n ∙ f g p (behind_variable k) S n

pub pair_stops_comma : {x : Named} {from r1 r2 : List Token} (e : Refusal) → TokenGoes (The_sign sign.Open) tt from r1 → TokenGoes A_name x r1 r2 →
    TokenFails (The_sign sign.Comma) r2 e → FailsVariableAndStack from e
pair_stops_comma {x} e o i f g p k S n = o.goes g p (λ v. behind_open k) S n ∙ i.goes g p (behind_variable k) S n ∙ f g p (λ v. behind_comma k x) S n

pub pair_stops_stack : {x : Named} {from r1 r2 r3 : List Token} (e : Refusal) → TokenGoes (The_sign sign.Open) tt from r1 → TokenGoes A_name x r1 r2 →
    TokenGoes (The_sign sign.Comma) tt r2 r3 → TokenFails A_name r3 e → FailsVariableAndStack from e
pair_stops_stack {x} e o i m f g p k S n =
    o.goes g p (λ v. behind_open k) S n
    ∙ i.goes g p (behind_variable k) S n
    ∙ m.goes g p (λ v. behind_comma k x) S n
    ∙ f g p (behind_stack k x) S n

pub pair_stops_close : {x s : Named} {from r1 r2 r3 r4 : List Token} (e : Refusal) → TokenGoes (The_sign sign.Open) tt from r1 → TokenGoes A_name x r1 r2 →
    TokenGoes (The_sign sign.Comma) tt r2 r3 → TokenGoes A_name s r3 r4 → TokenFails (The_sign sign.Close) r4 e →
    FailsVariableAndStack from e
pair_stops_close {x} {s} e o i m j f g p k S n =
    o.goes g p (λ v. behind_open k) S n
    ∙ i.goes g p (behind_variable k) S n
    ∙ m.goes g p (λ v. behind_comma k x) S n
    ∙ j.goes g p (behind_stack k x) S n
    ∙ f g p (λ v. k x s) S n
