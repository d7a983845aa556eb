-- The parser's procedures, over plain lists.
use Rattle.std.proofs.Common.{◌≡◌, ℕ, ◌≤◌, List, [], ◌∷◌, ◌++◌, length, Some, None, Bool, true, false, refl, ap, sym, subst, ◌∙◌, arith}
use Rattle.std.proofs.lemmas.List.{map-append}
use Rattle.janus_syntax.specs.declared.token.Span.{Span}
use Rattle.janus_syntax.specs.declared.token.Sign.TheVariants as sign
use Rattle.janus_syntax.specs.declared.token.Keyword.TheVariants as keyword
use Rattle.janus_syntax.specs.declared.fault.What.TheVariants as what
use Rattle.janus_syntax.specs.declared.tree.Procedure as code_procedure
use Rattle.janus_syntax.specs.Tokens.{Token, Name, Number, Sign_of, Keyword_of}
use Rattle.janus_syntax.specs.Tree.{Name as Named, named, Parameter, Procedure, procedure_of, Declaration, Block, Cell, procedure_view, procedures_view}
use Rattle.janus_syntax.specs.Forms.{Part, Procedures, A_procedure, Parameters, Declarations, Statements, Body, The_sign, Form, done, part}
use Rattle.janus_syntax.specs.Table.{rule, sign_then, behind_name, behind_main, with_procedure, with_main}
use Rattle.janus_syntax.specs.Grammar.{all, operator_limit, Refusal, Expected}
use Rattle.janus_syntax.specs.Reader.{Stack, waits, at, run, next}
use Rattle.janus_syntax.specs.Reading.{TokenGoes, TokenFails, count, Moves, IsPart, FailsPart, BeginsWith}
use Rattle.janus_syntax.specs.Statements.{is_name}
use Rattle.janus_syntax.specs.Procedures.{IsBehindName, FailsBehindName, IsBehindMain, FailsBehindMain, IsMain, IsNext}
use Rattle.janus_syntax.proofs.SoFar.{AreProcedures}
use Rattle.janus_syntax.proofs.Agrees.{run_hands, left_behind}
use Rattle.janus_syntax.proofs.Parts.{moves_on, moves_stop, token_moves, token_stops, begins_part}

-- ---- a procedure behind its name

module _ (f : Named) where
  abbrev to_parameters : {p : Part} → (Procedure → Form p) → Form p
  to_parameters k = part Parameters (λ xs. sign_then sign.Close (part Body (λ b. k (procedure_of f xs b))))

  abbrev to_close : {p : Part} → (Procedure → Form p) → List Parameter → Form p
  to_close k xs = sign_then sign.Close (part Body (λ b. k (procedure_of f xs b)))

  abbrev to_body : {p : Part} → (Procedure → Form p) → List Parameter → Form p
  to_body k xs = part Body (λ b. k (procedure_of f xs b))

  at_parameters : {from r1 : List Token} → TokenGoes (The_sign sign.Open) tt from r1 → (p : Part) (k : Procedure → Form p) →
      Moves 0 (behind_name f k) from (to_parameters k) r1
  at_parameters {from} {r1} o p k = token_moves 0 (The_sign sign.Open) (λ v. to_parameters k) tt from r1 o

  at_close : {xs : List Parameter} {from r1 r2 : List Token} → TokenGoes (The_sign sign.Open) tt from r1 → IsPart Parameters 0 xs r1 r2 →
      (p : Part) (k : Procedure → Form p) → Moves 0 (behind_name f k) from (to_close k xs) r2
  at_close {xs} {from} {r1} {r2} o i p k =
      moves_on 0 (behind_name f k) (to_parameters k) (to_close k xs) from r1 r2 (at_parameters o p k) (i.goes p (to_close k))

  at_body : {xs : List Parameter} {from r1 r2 r3 : List Token} → TokenGoes (The_sign sign.Open) tt from r1 → IsPart Parameters 0 xs r1 r2 →
      TokenGoes (The_sign sign.Close) tt r2 r3 → (p : Part) (k : Procedure → Form p) → Moves 0 (behind_name f k) from (to_body k xs) r3
  at_body {xs} {from} {r1} {r2} {r3} o i c p k =
      moves_on 0 (behind_name f k) (to_close k xs) (to_body k xs) from r2 r3 (at_close o i p k)
      (token_moves 0 (The_sign sign.Close) (λ v. to_body k xs) tt r2 r3 c)

  pub name_is : {xs : List Parameter} {b : Block} {from r1 r2 r3 rest : List Token} → TokenGoes (The_sign sign.Open) tt from r1 → IsPart Parameters 0 xs r1 r2 →
      TokenGoes (The_sign sign.Close) tt r2 r3 → IsPart Body 0 b r3 rest →
      IsBehindName f (procedure_of f xs b) from rest
  name_is {xs} {b} {from} {r1} {r2} {r3} {rest} o i c j =
      record {
        goes = λ p k. moves_on 0 (behind_name f k) (to_body k xs) (k (procedure_of f xs b)) from r3 rest (at_body o i c p k)
            (j.goes p (λ y. k (procedure_of f xs y)));
        shorter = let s0 = o.shorter in let s1 = i.shorter in let s2 = c.shorter in let s3 = j.shorter in omega (arith, s0, s1, s2, s3);
      }

  pub name_stops_open : (from : List Token) (e : Refusal) → TokenFails (The_sign sign.Open) from e → FailsBehindName f from e
  name_stops_open from e x p k = token_stops 0 (The_sign sign.Open) (λ v. to_parameters k) from e x

  pub name_stops_parameters : {from r1 : List Token} (e : Refusal) → TokenGoes (The_sign sign.Open) tt from r1 → FailsPart Parameters 0 r1 e →
      FailsBehindName f from e
  name_stops_parameters {from} {r1} e o x p k = moves_stop 0 (behind_name f k) (to_parameters k) from r1 e (at_parameters o p k) (x p (to_close k))

  pub name_stops_close : {xs : List Parameter} {from r1 r2 : List Token} (e : Refusal) → TokenGoes (The_sign sign.Open) tt from r1 →
      IsPart Parameters 0 xs r1 r2 → TokenFails (The_sign sign.Close) r2 e → FailsBehindName f from e
  name_stops_close {xs} {from} {r1} {r2} e o i x p k =
      moves_stop 0 (behind_name f k) (to_close k xs) from r2 e (at_close o i p k) (token_stops 0 (The_sign sign.Close) (λ v. to_body k xs) r2 e x)

  pub name_stops_body : {xs : List Parameter} {from r1 r2 r3 : List Token} (e : Refusal) → TokenGoes (The_sign sign.Open) tt from r1 →
      IsPart Parameters 0 xs r1 r2 → TokenGoes (The_sign sign.Close) tt r2 r3 → FailsPart Body 0 r3 e → FailsBehindName f from e
  name_stops_body {xs} {from} {r1} {r2} {r3} e o i c x p k =
      moves_stop 0 (behind_name f k) (to_body k xs) from r3 e (at_body o i c p k) (x p (λ y. k (procedure_of f xs y)))

-- ---- `main` behind its name

abbrev main_close : {p : Part} → (List Declaration → Block → Form p) → Form p
main_close k = sign_then sign.Close (part Declarations (λ ds. part Statements (λ b. k ds b)))

abbrev main_declarations : {p : Part} → (List Declaration → Block → Form p) → Form p
main_declarations k = part Declarations (λ ds. part Statements (λ b. k ds b))

abbrev main_statements : {p : Part} → (List Declaration → Block → Form p) → List Declaration → Form p
main_statements k ds = part Statements (λ b. k ds b)

at_main_close : {from r1 : List Token} → TokenGoes (The_sign sign.Open) tt from r1 → (p : Part) (k : List Declaration → Block → Form p) →
    Moves 0 (behind_main k) from (main_close k) r1
at_main_close {from} {r1} o p k = token_moves 0 (The_sign sign.Open) (λ v. main_close k) tt from r1 o

at_main_declarations : {from r1 r2 : List Token} → TokenGoes (The_sign sign.Open) tt from r1 → TokenGoes (The_sign sign.Close) tt r1 r2 →
    (p : Part) (k : List Declaration → Block → Form p) → Moves 0 (behind_main k) from (main_declarations k) r2
at_main_declarations {from} {r1} {r2} o c p k =
    moves_on 0 (behind_main k) (main_close k) (main_declarations k) from r1 r2 (at_main_close o p k)
    (token_moves 0 (The_sign sign.Close) (λ v. main_declarations k) tt r1 r2 c)

at_main_statements : {ds : List Declaration} {from r1 r2 r3 : List Token} → TokenGoes (The_sign sign.Open) tt from r1 →
    TokenGoes (The_sign sign.Close) tt r1 r2 → IsPart Declarations 0 ds r2 r3 →
    (p : Part) (k : List Declaration → Block → Form p) → Moves 0 (behind_main k) from (main_statements k ds) r3
at_main_statements {ds} {from} {r1} {r2} {r3} o c i p k =
    moves_on 0 (behind_main k) (main_declarations k) (main_statements k ds) from r2 r3 (at_main_declarations o c p k) (i.goes p (main_statements k))

pub main_is : {ds : List Declaration} {b : Block} {from r1 r2 r3 rest : List Token} → TokenGoes (The_sign sign.Open) tt from r1 →
    TokenGoes (The_sign sign.Close) tt r1 r2 → IsPart Declarations 0 ds r2 r3 → IsPart Statements 0 b r3 rest → IsBehindMain ds b from rest
main_is {ds} {b} {from} {r1} {r2} {r3} {rest} o c i j =
    record {
      goes = λ p k. moves_on 0 (behind_main k) (main_statements k ds) (k ds b) from r3 rest (at_main_statements o c i p k) (j.goes p (λ y. k ds y));
      shorter = let s0 = o.shorter in let s1 = c.shorter in let s2 = i.shorter in let s3 = j.shorter in omega (arith, s0, s1, s2, s3);
    }

pub main_stops_open : (from : List Token) (e : Refusal) → TokenFails (The_sign sign.Open) from e → FailsBehindMain from e
main_stops_open from e x p k = token_stops 0 (The_sign sign.Open) (λ v. main_close k) from e x

pub main_stops_close : {from r1 : List Token} (e : Refusal) → TokenGoes (The_sign sign.Open) tt from r1 → TokenFails (The_sign sign.Close) r1 e →
    FailsBehindMain from e
main_stops_close {from} {r1} e o x p k =
    moves_stop 0 (behind_main k) (main_close k) from r1 e (at_main_close o p k) (token_stops 0 (The_sign sign.Close) (λ v. main_declarations k) r1 e x)

pub main_stops_declarations : {from r1 r2 : List Token} (e : Refusal) → TokenGoes (The_sign sign.Open) tt from r1 → TokenGoes (The_sign sign.Close) tt r1 r2 →
    FailsPart Declarations 0 r2 e → FailsBehindMain from e
main_stops_declarations {from} {r1} {r2} e o c x p k =
    moves_stop 0 (behind_main k) (main_declarations k) from r2 e (at_main_declarations o c p k) (x p (main_statements k))

pub main_stops_statements : {ds : List Declaration} {from r1 r2 r3 : List Token} (e : Refusal) → TokenGoes (The_sign sign.Open) tt from r1 →
    TokenGoes (The_sign sign.Close) tt r1 r2 → IsPart Declarations 0 ds r2 r3 → FailsPart Statements 0 r3 e → FailsBehindMain from e
main_stops_statements {ds} {from} {r1} {r2} {r3} e o c i x p k =
    moves_stop 0 (behind_main k) (main_statements k ds) from r3 e (at_main_statements o c i p k) (x p (λ y. k ds y))

-- ---- behind `procedure`

abbrev more_named : (main : Bool) (c : Cell) → Procedure → Form (A_procedure main c)
more_named main c q = part (Procedures main (with_procedure c q)) done

abbrev more_main : (c : Cell) → List Declaration → Block → Form (A_procedure true c)
more_main c ds b = part (Procedures false (with_main ds b c)) done

name_begins : {goal p : Part} (main : Bool) (c : Cell) (f : List ℕ) (place : Span) (behind : List Token) (k : Cell → Form p) (S : Stack goal p) (u : ℕ) →
    u ≤ operator_limit →
    run all (Name f place ∷ behind) (at (part (A_procedure main c) k) S (count 0 u)) ≡ run all behind
    (at (behind_name (named f place) (more_named main c)) (waits {q = A_procedure main c} k S) (count 0 u))
name_begins main c f place behind k S u h = begins_part (A_procedure main c) k S 0 u (Name f place) behind (behind_name (named f place) (more_named main c))
    refl (omega arith) h

pub named_is : (main : Bool) (c : Cell) {f : List ℕ} {place : Span} {q : Procedure} {from behind rest : List Token} → from ≡ Name f place ∷ behind →
    IsBehindName (named f place) q behind rest → IsNext main c main (with_procedure c q) from rest
named_is main c {f} {place} {q} {from} {behind} {rest} e i =
    subst (λ ts. IsNext main c main (with_procedure c q) ts rest) (sym e)
    (record {
      goes = λ p k goal S u h.
          let T : Stack goal (A_procedure main c) = waits {q = A_procedure main c} k S in
          let a = i.goes (A_procedure main c) (more_named main c) goal T u h in
          record {
            other = A_procedure main c;
            form = done;
            stack = T;
            stands = (a.0, a.1, name_begins main c f place behind k S u h ∙ a.2);
            onward = λ d ts v. run_hands all (A_procedure main c) k S (count 0 v) d ts;
          };
      shorter = let s = i.shorter in omega (arith, s);
    })

pub named_stops : (main : Bool) (c : Cell) {f : List ℕ} {place : Span} {from behind : List Token} (e : Refusal) → from ≡ Name f place ∷ behind →
    FailsBehindName (named f place) behind e → FailsPart (A_procedure main c) 0 from e
named_stops main c {f} {place} {from} {behind} e w x =
    subst (λ ts. FailsPart (A_procedure main c) 0 ts e) (sym w)
    (λ p k g S u h. name_begins main c f place behind k S u h ∙ x (A_procedure main c) (more_named main c) g (waits {q = A_procedure main c} k S) u h)

main_begins : {goal p : Part} (c : Cell) (place : Span) (behind : List Token) (k : Cell → Form p) (S : Stack goal p) (u : ℕ) → u ≤ operator_limit →
    run all (Keyword_of keyword.Main place ∷ behind) (at (part (A_procedure true c) k) S (count 0 u)) ≡ run all behind
    (at (behind_main (more_main c)) (waits {q = A_procedure true c} k S) (count 0 u))
main_begins c place behind k S u h = begins_part (A_procedure true c) k S 0 u (Keyword_of keyword.Main place) behind (behind_main (more_main c)) refl
    (omega arith) h

pub main_next : (main : Bool) (c : Cell) {ds : List Declaration} {b : Block} (from behind : List Token) {rest : List Token} → IsMain main from behind →
    IsBehindMain ds b behind rest → IsNext main c false (with_main ds b c) from rest
main_next true c {ds} {b} from behind {rest} m i =
    subst (λ ts. IsNext true c false (with_main ds b c) ts rest) (sym m.is)
    (record {
      goes = λ p k goal S u h.
          let T : Stack goal (A_procedure true c) = waits {q = A_procedure true c} k S in
          let a = i.goes (A_procedure true c) (more_main c) goal T u h in
          record {
            other = A_procedure true c;
            form = done;
            stack = T;
            stands = (a.0, a.1, main_begins c m.at behind k S u h ∙ a.2);
            onward = λ d ts v. run_hands all (A_procedure true c) k S (count 0 v) d ts;
          };
      shorter = let s = i.shorter in omega (arith, s);
    })
main_next false c from behind m i = absurd m

pub main_stops : (main : Bool) (c : Cell) (from behind : List Token) (e : Refusal) → IsMain main from behind → FailsBehindMain behind e →
    FailsPart (A_procedure main c) 0 from e
main_stops true c from behind e m x =
    subst (λ ts. FailsPart (A_procedure true c) 0 ts e) (sym m.is)
    (λ p k g S u h. main_begins c m.at behind k S u h ∙ x (A_procedure true c) (more_main c) g (waits {q = A_procedure true c} k S) u h)
main_stops false c from behind e m x = absurd m

-- neither a name nor `main`
pub name_is_wanted : (main : Bool) (c : Cell) (from : List Token) → ((behind : List Token) → IsMain main from behind → ⊥) → is_name (next from) ≡ false →
    FailsPart (A_procedure main c) 0 from (Expected what.Name (length from))
name_is_wanted main c [] m n p k g S u h = refl
name_is_wanted main c (Name x place ∷ rest) m n p k g S u h = absurd cc
name_is_wanted main c (Number i place ∷ rest) m n p k g S u h = refl
name_is_wanted main c (Sign_of s place ∷ rest) m n p k g S u h = refl
name_is_wanted true c (Keyword_of keyword.Main place ∷ rest) m n p k g S u h = absurd (m rest (record { at = place; is = refl }))
name_is_wanted true c (Keyword_of _ place ∷ rest) m n p k g S u h = refl
name_is_wanted false c (Keyword_of w place ∷ rest) m n p k g S u h = refl

-- ---- procedures

pub view_push : (ps : List code_procedure.Procedure) (p : code_procedure.Procedure) →
    procedures_view (ps ++ p ∷ []) ≡ procedures_view ps ++ procedure_view p ∷ []
view_push ps p = map-append procedure_view ps (p ∷ [])

keyword_begins : {goal p : Part} (main : Bool) (c : Cell) (k : Cell → Form p) (S : Stack goal p) (u : ℕ) {rest behind : List Token} → u ≤ operator_limit →
    BeginsWith keyword.Procedure rest behind →
    run all rest (at (part (Procedures main c) k) S (count 0 u)) ≡ run all behind
    (at (part (A_procedure main c) done) (waits {q = Procedures main c} k S) (count 0 u))
keyword_begins main c k S u {rest} {behind} h b =
    subst (λ ts. run all ts (at (part (Procedures main c) k) S (count 0 u)) ≡ run all behind
    (at (part (A_procedure main c) done) (waits {q = Procedures main c} k S) (count 0 u))) (sym b.is)
    (begins_part (Procedures main c) k S 0 u (Keyword_of keyword.Procedure b.at) behind (part (A_procedure main c) done) refl (omega arith) h)

pub procedures_begin : (main : Bool) (c : Cell) (from : List Token) → AreProcedures main c main c from from
procedures_begin main c from =
    record { goes = λ p k goal S u h. record { other = p; form = k; stack = S; stands = (u, h, refl); onward = λ d ts v. refl }; shorter = omega arith }

pub procedures_go_on : {main more after : Bool} {c d e : Cell} {from rest behind last : List Token} → AreProcedures main c more d from rest →
    BeginsWith keyword.Procedure rest behind → IsNext more d after e behind last → AreProcedures main c after e from last
procedures_go_on {main} {more} {after} {c} {d} {e} a b i =
    record {
      goes = λ p k goal S u h.
          let x = a.goes p k goal S u h in
          let T : Stack goal (Procedures more d) = waits {q = Procedures more d} x.form x.stack in
          let y = i.goes (Procedures more d) done goal T x.stands.0 x.stands.1 in
          record {
            other = y.other;
            form = y.form;
            stack = y.stack;
            stands = (y.stands.0, y.stands.1, x.stands.2 ∙ keyword_begins more d x.form x.stack x.stands.0 x.stands.1 b ∙ y.stands.2);
            onward = λ f ts v. y.onward f ts v ∙ run_hands all (Procedures more d) x.form x.stack (count 0 v) f ts ∙ x.onward f ts v;
          };
      shorter = let s0 = a.shorter in let s1 = ap length b.is in let s2 = i.shorter in omega (arith, s0, s1, s2);
    }

pub procedures_fail : {main more : Bool} {c d : Cell} {from rest behind : List Token} (e : Refusal) → AreProcedures main c more d from rest →
    BeginsWith keyword.Procedure rest behind → FailsPart (A_procedure more d) 0 behind e → FailsPart (Procedures main c) 0 from e
procedures_fail {main} {more} {c} {d} e a b f p k goal S u h =
    let x = a.goes p k goal S u h in
    x.stands.2 ∙ keyword_begins more d x.form x.stack x.stands.0 x.stands.1 b
    ∙ f (Procedures more d) done goal (waits {q = Procedures more d} x.form x.stack) x.stands.0 x.stands.1

no_procedure : (main : Bool) (c : Cell) (from : List Token) → ((behind : List Token) → BeginsWith keyword.Procedure from behind → ⊥) → (t : Token) →
    next from ≡ Some t → rule (Procedures main c) t ≡ None
no_procedure main c [] h t e = absurd cc
no_procedure main c (Keyword_of keyword.Procedure place ∷ rest) h t e = absurd (h rest (record { at = place; is = refl }))
no_procedure main c (Keyword_of w place ∷ rest) h t e = let same : Keyword_of w place ≡ t = cc in subst (λ x. rule (Procedures main c) x ≡ None) same refl
no_procedure main c (Name x place ∷ rest) h t e = let same : Name x place ≡ t = cc in subst (λ x. rule (Procedures main c) x ≡ None) same refl
no_procedure main c (Number n place ∷ rest) h t e = let same : Number n place ≡ t = cc in subst (λ x. rule (Procedures main c) x ≡ None) same refl
no_procedure main c (Sign_of s place ∷ rest) h t e = let same : Sign_of s place ≡ t = cc in subst (λ x. rule (Procedures main c) x ≡ None) same refl

pub procedures_end : {main more : Bool} {c d : Cell} {from rest : List Token} → AreProcedures main c more d from rest →
    ((behind : List Token) → BeginsWith keyword.Procedure rest behind → ⊥) → IsPart (Procedures main c) 0 d from rest
procedures_end {main} {more} {c} {d} {from} {rest} a n =
    record {
      goes = λ p k goal S u h.
          let x = a.goes p k goal S u h in
          let v = x.stands.0 in
          (v, x.stands.1, x.stands.2 ∙ left_behind (Procedures more d) x.form x.stack (count 0 v) d rest refl (no_procedure more d rest n) ∙ x.onward d rest v);
      shorter = a.shorter;
    }
