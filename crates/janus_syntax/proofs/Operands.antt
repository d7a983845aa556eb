-- The parser's operands, over plain lists.
use Rattle.std.proofs.Common.{◌≡◌, ℕ, suc, ◌+◌, ◌<◌, ◌≤◌, List, ◌∷◌, length, Some, None, cond, refl, ap, ◌∙◌, arith}
use Rattle.std.specs.Prelude.{nat_le}
use Rattle.std.proofs.lemmas.Bool.{lt-leb, and_right, and_left}
use Rattle.janus_syntax.specs.declared.token.Span.{Span}
use Rattle.janus_syntax.specs.declared.token.Sign.TheVariants as sign
use Rattle.janus_syntax.specs.declared.token.Keyword.TheVariants as keyword
use Rattle.janus_syntax.specs.declared.fault.What.TheVariants as what
use Rattle.janus_syntax.specs.Tokens.{Token, Name, Number, Sign_of, Keyword_of}
use Rattle.janus_syntax.specs.Tree.{Name as Named, named, Exp, Num, Var, Element, EmptyOf, TopOf, Neg}
use Rattle.janus_syntax.specs.Operators.{weakest}
use Rattle.janus_syntax.specs.Forms.{Part, Level, Index, The_sign, Form, done, part, close}
use Rattle.janus_syntax.specs.Table.{marked, begins, opens, sign_then, stack_then, variable}
use Rattle.janus_syntax.specs.Grammar.{all, fits, depth_limit, operator_limit, Refusal}
use Rattle.janus_syntax.specs.Reader.{Stack, waits, at, run, wanted, Nested, outcome_of}
use Rattle.janus_syntax.specs.Reading.{TokenGoes, TokenFails, IsStack, FailsStack, begun, count, IsExp, FailsExp, IsIndexed, FailsIndexed, BeginsWithSign}
use Rattle.janus_syntax.proofs.Agrees.{run_hands, left_behind}
use Rattle.janus_syntax.proofs.LeftOut.{not_index}
use Rattle.std.specs.Prelude.{Result, Ok, Err}
use Rattle.std.specs.Borrow.{Bor}
use Rattle.janus_syntax.specs.declared.text_token.TextToken as code_token
use Rattle.janus_syntax.specs.declared.tree.Exp.{Exp as code_exp}
use Rattle.janus_syntax.specs.declared.problem.Problem.{Problem}
use Rattle.janus_syntax.specs.TextTokens.{views}
use Rattle.janus_syntax.specs.Tree.{exp_view}
use Rattle.janus_syntax.specs.Reading.{Reads}
use Rattle.janus_syntax.proofs.Steps.{passes_on, no_opening}
use Rattle.janus_syntax.proofs.Parts.{ends_construct}
use Rattle.janus_syntax.proofs.Chains.{go_if_runs, begin_level, fits_count}

-- an operand's rule, within the limits and past them
pub begun_within : {goal p : Part} (o c : ℕ) (f : Form p) (S : Stack goal p) (d u : ℕ) (rest : List Token) → d + o ≤ depth_limit → u + c ≤ operator_limit →
    begun what.Expression (marked o c f) rest S (count d u) ≡ run all rest (at f S (count (d + o) (u + c)))
begun_within o c f S d u rest h k =
    ap (λ b. cond b (run all rest (at f S (count (d + o) (u + c)))) (Nested (suc (length rest)))) (fits_count (d + o) (u + c) h k)

pub begun_deep : {goal p : Part} (c : ℕ) (f : Form p) (S : Stack goal p) (d u : ℕ) (rest : List Token) → d ≡ depth_limit →
    begun what.Expression (marked 1 c f) rest S (count d u) ≡ Nested (suc (length rest))
begun_deep c f S d u rest h =
    ap (λ b. cond b (run all rest (at f S (count (d + 1) (u + c)))) (Nested (suc (length rest))))
    (and_left (nat_le (d + 1) depth_limit) (nat_le (u + c) operator_limit) (lt-leb (d + 1) depth_limit (omega (arith, h))))

pub begun_many : {goal p : Part} (o : ℕ) (f : Form p) (S : Stack goal p) (d u : ℕ) (rest : List Token) → u ≡ operator_limit →
    begun what.Expression (marked o 1 f) rest S (count d u) ≡ Nested (suc (length rest))
begun_many o f S d u rest h =
    ap (λ b. cond b (run all rest (at f S (count (d + o) (u + 1)))) (Nested (suc (length rest))))
    (and_right (nat_le (d + o) depth_limit) (nat_le (u + 1) operator_limit) (lt-leb (u + 1) operator_limit (omega (arith, h))))

pub begun_plain : {goal p : Part} (f : Form p) (S : Stack goal p) (d u : ℕ) (rest : List Token) → d ≤ depth_limit → u ≤ operator_limit →
    begun what.Expression (begins f) rest S (count d u) ≡ run all rest (at f S (count d u))
begun_plain f S d u rest h k =
    begun_within 0 0 f S d u rest (omega (arith, h)) (omega (arith, k))
    ∙ ap (λ x. run all rest (at f S (count x (u + 0)))) (omega arith) ∙ ap (λ x. run all rest (at f S (count d x))) (omega arith)

pub begun_opens : {goal p : Part} (f : Form p) (S : Stack goal p) (d u : ℕ) (rest : List Token) → d < depth_limit → u ≤ operator_limit →
    begun what.Expression (opens f) rest S (count d u) ≡ run all rest (at f S (count (d + 1) u))
begun_opens f S d u rest h k =
    begun_within 1 0 f S d u rest (omega (arith, h)) (omega (arith, k)) ∙ ap (λ x. run all rest (at f S (count (d + 1) x))) (omega arith)

pub number_is : (n : ℕ) (place : Span) (d u : ℕ) (rest : List Token) → d ≤ depth_limit → u ≤ operator_limit →
    IsExp 0 d u (Num n place) u (Number n place ∷ rest) rest
number_is n place d u rest h k = record { goes = λ g p j S. begun_plain (j (Num n place)) S d u rest h k; within = k; shorter = omega arith }

pub empty_is : (place : Span) (d u : ℕ) {s : Named} {rest after : List Token} → d ≤ depth_limit → u ≤ operator_limit → IsStack s rest after →
    IsExp 0 d u (EmptyOf s) u (Keyword_of keyword.Empty place ∷ rest) after
empty_is place d u {rest = rest} h k i =
    record {
      goes = λ g p j S. begun_plain (stack_then (λ y. j (EmptyOf y))) S d u rest h k
          ∙ i.goes g p (λ y. j (EmptyOf y)) S (count d u);
      within = k;
      shorter = let y = i.shorter in omega (arith, y);
    }

pub empty_fails : (place : Span) (d u : ℕ) (rest : List Token) (out : Refusal) → d ≤ depth_limit → u ≤ operator_limit → FailsStack rest out →
    FailsExp 0 d u (Keyword_of keyword.Empty place ∷ rest) out
empty_fails place d u rest out h k f g p j S = begun_plain (stack_then (λ y. j (EmptyOf y))) S d u rest h k ∙ f g p (λ y. j (EmptyOf y)) S (count d u)

pub top_is : (place : Span) (d u : ℕ) {s : Named} {rest after : List Token} → d ≤ depth_limit → u ≤ operator_limit → IsStack s rest after →
    IsExp 0 d u (TopOf s) u (Keyword_of keyword.Top place ∷ rest) after
top_is place d u {rest = rest} h k i =
    record {
      goes = λ g p j S. begun_plain (stack_then (λ y. j (TopOf y))) S d u rest h k
          ∙ i.goes g p (λ y. j (TopOf y)) S (count d u);
      within = k;
      shorter = let y = i.shorter in omega (arith, y);
    }

pub top_fails : (place : Span) (d u : ℕ) (rest : List Token) (out : Refusal) → d ≤ depth_limit → u ≤ operator_limit → FailsStack rest out →
    FailsExp 0 d u (Keyword_of keyword.Top place ∷ rest) out
top_fails place d u rest out h k f g p j S = begun_plain (stack_then (λ y. j (TopOf y))) S d u rest h k ∙ f g p (λ y. j (TopOf y)) S (count d u)

pub name_is : (x : List ℕ) (place : Span) (d u : ℕ) {e : Exp} {total : ℕ} {rest after : List Token} → d ≤ depth_limit → u ≤ operator_limit →
    IsIndexed d u (named x place) e total rest after → IsExp 0 d u e total (Name x place ∷ rest) after
name_is x place d u {rest = rest} h k i =
    record {
      goes = λ g p j S. begun_plain (part Index (λ y. j (variable (named x place) y))) S d u rest h k
          ∙ i.goes g p j S;
      within = i.within;
      shorter = let y = i.shorter in omega (arith, y);
    }

pub name_fails : (x : List ℕ) (place : Span) (d u : ℕ) (rest : List Token) (out : Refusal) → d ≤ depth_limit → u ≤ operator_limit →
    FailsIndexed d u (named x place) rest out → FailsExp 0 d u (Name x place ∷ rest) out
name_fails x place d u rest out h k f g p j S = begun_plain (part Index (λ y. j (variable (named x place) y))) S d u rest h k ∙ f g p j S

-- an expression in brackets, up to the closing one and behind it
inner_goes : {goal p : Part} (J : Exp → Form p) (S : Stack goal p) (level d u : ℕ) {e : Exp} {total : ℕ} {from rest : List Token} →
    IsExp level d u e total from rest → run all from (at (part (Level level) J) S (count d u)) ≡ run all rest (at (J e) S (count d total))
inner_goes {goal} J S level d u {e} {total} {from} {rest} i = begin_level level J S (count d u) from ∙ i.goes goal (Level level) done (waits J S)
    ∙ run_hands all (Level level) J S (count d total) e rest

inner_fails : {goal p : Part} (J : Exp → Form p) (S : Stack goal p) (level d u : ℕ) (from : List Token) (out : Refusal) → FailsExp level d u from out →
    run all from (at (part (Level level) J) S (count d u)) ≡ outcome_of out
inner_fails {goal} J S level d u from out f = begin_level level J S (count d u) from ∙ f goal (Level level) done (waits J S)

pub group_is : (place : Span) (d u : ℕ) {e : Exp} {total : ℕ} {from middle rest : List Token} → d < depth_limit → u ≤ operator_limit →
    IsExp weakest (d + 1) u e total from middle → TokenGoes (The_sign sign.Close) tt middle rest →
    IsExp 0 d u e total (Sign_of sign.Open place ∷ from) rest
group_is place d u {e} {total} {from} {middle} {rest} h k i c =
    record {
      goes = λ g p j S.
          begun_opens (part (Level weakest) (λ x. sign_then sign.Close (close (j x)))) S d u from h k
          ∙ inner_goes (λ x. sign_then sign.Close (close (j x))) S weakest (d + 1) u i
          ∙ c.goes g p (λ v. close (j e)) S (count (d + 1) total)
          ∙ ends_construct (j e) S d total rest;
      within = i.within;
      shorter = let x = i.shorter in let y = c.shorter in omega (arith, x, y);
    }

pub group_fails : (place : Span) (d u : ℕ) (from : List Token) (out : Refusal) → d < depth_limit → u ≤ operator_limit → FailsExp weakest (d + 1) u from out →
    FailsExp 0 d u (Sign_of sign.Open place ∷ from) out
group_fails place d u from out h k f g p j S =
    begun_opens (part (Level weakest) (λ x. sign_then sign.Close (close (j x)))) S d u from h k
    ∙ inner_fails (λ x. sign_then sign.Close (close (j x))) S weakest (d + 1) u from out f

pub group_open : (place : Span) (d u : ℕ) {e : Exp} {total : ℕ} {from middle : List Token} (out : Refusal) → d < depth_limit → u ≤ operator_limit →
    IsExp weakest (d + 1) u e total from middle → TokenFails (The_sign sign.Close) middle out →
    FailsExp 0 d u (Sign_of sign.Open place ∷ from) out
group_open place d u {e} {total} {from} {middle} out h k i f g p j S =
    begun_opens (part (Level weakest) (λ x. sign_then sign.Close (close (j x)))) S d u from h k
    ∙ inner_goes (λ x. sign_then sign.Close (close (j x))) S weakest (d + 1) u i
    ∙ f g p (λ v. close (j e)) S (count (d + 1) total)

pub minus_is : (place : Span) (d u : ℕ) {e : Exp} {total : ℕ} {from rest : List Token} → d < depth_limit → u < operator_limit →
    IsExp 0 (d + 1) (u + 1) e total from rest → IsExp 0 d u (Neg e) total (Sign_of sign.Minus place ∷ from) rest
minus_is place d u {e} {total} {from} {rest} h k i =
    record {
      goes = λ g p j S.
          begun_within 1 1 (part (Level 0) (λ x. close (j (Neg x)))) S d u from (omega (arith, h)) (omega (arith, k))
          ∙ inner_goes (λ x. close (j (Neg x))) S 0 (d + 1) (u + 1) i
          ∙ ends_construct (j (Neg e)) S d total rest;
      within = i.within;
      shorter = let x = i.shorter in omega (arith, x);
    }

pub minus_fails : (place : Span) (d u : ℕ) (from : List Token) (out : Refusal) → d < depth_limit → u < operator_limit → FailsExp 0 (d + 1) (u + 1) from out →
    FailsExp 0 d u (Sign_of sign.Minus place ∷ from) out
minus_fails place d u from out h k f g p j S =
    begun_within 1 1 (part (Level 0) (λ x. close (j (Neg x)))) S d u from (omega (arith, h)) (omega (arith, k))
    ∙ inner_fails (λ x. close (j (Neg x))) S 0 (d + 1) (u + 1) from out f

-- an index

index_begun : {goal p : Part} (place : Span) (x : Named) (j : Exp → Form p) (S : Stack goal p) (d u : ℕ) (from : List Token) → d < depth_limit →
    u ≤ operator_limit →
    run all (Sign_of sign.OpenIndex place ∷ from) (at (part Index (λ i. j (variable x i))) S (count d u))
    ≡ run all from
    (at (part (Level weakest) (λ e. sign_then sign.CloseIndex (close (done (Some e))))) (waits {q = Index} (λ i. j (variable x i)) S) (count (d + 1) u))
index_begun {goal} place x j S d u from h k =
    let f : Form Index = part (Level weakest) (λ e. sign_then sign.CloseIndex (close (done (Some e)))) in
    let T : Stack goal Index = waits {q = Index} (λ i. j (variable x i)) S in
    go_if_runs (fits (count (d + 1) (u + 0))) (at f T (count (d + 1) (u + 0))) from (wanted (at (part Index (λ i. j (variable x i))) S (count d u)))
    ∙ ap (λ b. cond b (run all from (at f T (count (d + 1) (u + 0)))) (Nested (suc (length from))))
    (fits_count (d + 1) (u + 0) (omega (arith, h)) (omega (arith, k)))
    ∙ ap (λ y. run all from (at f T (count (d + 1) y))) (omega arith)

pub index_is : (place : Span) (x : Named) (d u : ℕ) {e : Exp} {total : ℕ} {from middle rest : List Token} → d < depth_limit → u ≤ operator_limit →
    IsExp weakest (d + 1) u e total from middle → TokenGoes (The_sign sign.CloseIndex) tt middle rest →
    IsIndexed d u x (Element x e) total (Sign_of sign.OpenIndex place ∷ from) rest
index_is place x d u {e} {total} {from} {middle} {rest} h k i c =
    record {
      goes = λ g p j S.
          let T : Stack g Index = waits {q = Index} (λ i. j (variable x i)) S in
          index_begun place x j S d u from h k
          ∙ inner_goes (λ e. sign_then sign.CloseIndex (close (done (Some e)))) T weakest (d + 1) u i
          ∙ c.goes g Index (λ v. close (done (Some e))) T (count (d + 1) total)
          ∙ ends_construct (done (Some e)) T d total rest
          ∙ run_hands all Index (λ i. j (variable x i)) S (count d total) (Some e) rest;
      within = i.within;
      shorter = let y = i.shorter in let z = c.shorter in omega (arith, y, z);
    }

pub index_fails : (place : Span) (x : Named) (d u : ℕ) (from : List Token) (out : Refusal) → d < depth_limit → u ≤ operator_limit →
    FailsExp weakest (d + 1) u from out → FailsIndexed d u x (Sign_of sign.OpenIndex place ∷ from) out
index_fails place x d u from out h k f g p j S =
    index_begun place x j S d u from h k
    ∙ inner_fails (λ e. sign_then sign.CloseIndex (close (done (Some e)))) (waits {q = Index} (λ i. j (variable x i)) S) weakest (d + 1) u from out f

pub index_open : (place : Span) (x : Named) (d u : ℕ) {e : Exp} {total : ℕ} {from middle : List Token} (out : Refusal) → d < depth_limit → u ≤ operator_limit →
    IsExp weakest (d + 1) u e total from middle → TokenFails (The_sign sign.CloseIndex) middle out →
    FailsIndexed d u x (Sign_of sign.OpenIndex place ∷ from) out
index_open place x d u {e} {total} {from} {middle} out h k i f g p j S =
    let T : Stack g Index = waits {q = Index} (λ i. j (variable x i)) S in
    index_begun place x j S d u from h k
    ∙ inner_goes (λ e. sign_then sign.CloseIndex (close (done (Some e)))) T weakest (d + 1) u i
    ∙ f g Index (λ v. close (done (Some e))) T (count (d + 1) total)

-- no index stands here
pub no_index_is : (x : Named) (d u : ℕ) (from : List Token) → u ≤ operator_limit → ((behind : List Token) → BeginsWithSign sign.OpenIndex from behind → ⊥) →
    IsIndexed d u x (Var x) u from from
no_index_is x d u from k h =
    record {
      goes = λ g p j S. left_behind Index (λ i. j (variable x i)) S (count d u) None from refl (λ t e. not_index t (no_opening from h t e));
      within = k;
      shorter = omega arith;
    }

-- a name with what stands behind it, read or failed
pub name_result : (x : List ℕ) (place : Span) (d u : ℕ) (rest : List Token) (r : Result (code_exp × ℕ × Bor (List code_token.TextToken)) Problem) →
    d ≤ depth_limit → u ≤ operator_limit →
    Reads (λ y. IsIndexed d u (named x place) (exp_view y.0) y.1 rest (views y.2.now)) (FailsIndexed d u (named x place) rest) r →
    Reads (λ y. IsExp 0 d u (exp_view y.0) y.1 (Name x place ∷ rest) (views y.2.now)) (FailsExp 0 d u (Name x place ∷ rest)) r
name_result x place d u rest (Ok y) h k i = name_is x place d u h k i
name_result x place d u rest (Err e) h k f =
    passes_on (FailsIndexed d u (named x place) rest) (FailsExp 0 d u (Name x place ∷ rest)) e f (λ out g. name_fails x place d u rest out h k g)
