-- The parser's loop over statements, over plain lists.
use Rattle.std.proofs.Common.{◌≡◌, ℕ, suc, List, [], ◌∷◌, ◌++◌, length, Option, Some, None, true, false, Result, Ok, Err, refl, ap, sym, subst, ◌∙◌, arith}
use Rattle.janus_syntax.specs.declared.fault.What.{What}
use Rattle.janus_syntax.specs.declared.fault.What.TheVariants as what
use Rattle.janus_syntax.specs.declared.token.Keyword.TheVariants as keyword
use Rattle.janus_syntax.specs.declared.tree.Stm as code_stm
use Rattle.janus_syntax.specs.Tokens.{Token, Name, Number, Sign_of, Keyword_of}
use Rattle.janus_syntax.specs.Tree.{Stm, Block, Empty, More, stm_view, block_view}
use Rattle.janus_syntax.specs.Forms.{Part, Body, Statements, Tree, Form, done, part, Rule}
use Rattle.janus_syntax.specs.Table.{rule, statement}
use Rattle.janus_syntax.specs.Grammar.{all, entered, fits, Refusal, Expected}
use Rattle.janus_syntax.specs.Reader.{Stack, waits, at, Step, Stuck, enter, skip, at_form, hand, follow, run, next}
use Rattle.janus_syntax.specs.declared.problem.Problem.{Problem}
use Rattle.janus_syntax.specs.declared.token.Keyword.{Keyword}
use Rattle.janus_syntax.specs.Reading.{Reads, BeginsWith, begun, count, IsPart, FailsPart}
use Rattle.janus_syntax.specs.Statements.{is_statement, begin_statement, IsStm, FailsStm, followed_by, AreStatements, IsOptional, there, FailsOptional}
use Rattle.janus_syntax.proofs.SoFar.{AtStatements, AreSoFar}
use Rattle.janus_syntax.proofs.Agrees.{run_hands, left_behind}
use Rattle.janus_syntax.proofs.Chains.{go_if_runs}
use Rattle.janus_syntax.proofs.Steps.{passes_on}

-- ---- blocks

pub followed_by_more : (a b c : Block) → followed_by (followed_by a b) c ≡ followed_by a (followed_by b c)
followed_by_more Empty b c = refl
followed_by_more (More s a) b c = ap (More s) (followed_by_more a b c)

pub followed_by_nothing : (a : Block) → followed_by a Empty ≡ a
followed_by_nothing Empty = refl
followed_by_nothing (More s a) = ap (More s) (followed_by_nothing a)

pub view_push : (ss : List code_stm.Stm) (s : code_stm.Stm) → block_view (ss ++ s ∷ []) ≡ followed_by (block_view ss) (More (stm_view s) Empty)
view_push [] s = refl
view_push (t ∷ ss) s = ap (More (stm_view t)) (view_push ss s)

-- ---- where a statement begins

a_statement : {p : Part} (t : Token) (k : Stm → Form p) → is_statement (Some t) ≡ true → (r : Rule p) × (statement t k ≡ Some r)
a_statement (Name x place) k h = (_, refl)
a_statement (Number n place) k h = absurd cc
a_statement (Sign_of s place) k h = absurd cc
a_statement (Keyword_of keyword.If place) k h = (_, refl)
a_statement (Keyword_of keyword.From place) k h = (_, refl)
a_statement (Keyword_of keyword.Local place) k h = (_, refl)
a_statement (Keyword_of keyword.Skip place) k h = (_, refl)
a_statement (Keyword_of keyword.Push place) k h = (_, refl)
a_statement (Keyword_of keyword.Pop place) k h = (_, refl)
a_statement (Keyword_of keyword.Call place) k h = (_, refl)
a_statement (Keyword_of keyword.Uncall place) k h = (_, refl)
a_statement (Keyword_of _ place) k h = absurd cc

no_statement : {p : Part} (t : Token) (k : Stm → Form p) → is_statement (Some t) ≡ false → statement t k ≡ None
no_statement (Name x place) k h = absurd cc
no_statement (Number n place) k h = refl
no_statement (Sign_of s place) k h = refl
no_statement (Keyword_of keyword.If place) k h = absurd cc
no_statement (Keyword_of keyword.From place) k h = absurd cc
no_statement (Keyword_of keyword.Local place) k h = absurd cc
no_statement (Keyword_of keyword.Skip place) k h = absurd cc
no_statement (Keyword_of keyword.Push place) k h = absurd cc
no_statement (Keyword_of keyword.Pop place) k h = absurd cc
no_statement (Keyword_of keyword.Call place) k h = absurd cc
no_statement (Keyword_of keyword.Uncall place) k h = absurd cc
no_statement (Keyword_of _ place) k h = refl

no_statements : (rest : List Token) → is_statement (next rest) ≡ false → (t : Token) → next rest ≡ Some t → rule Statements t ≡ None
no_statements [] h t e = absurd cc
no_statements (u ∷ rest) h t e = let same : u ≡ t =
    cc in subst (λ x. rule Statements x ≡ None) same (no_statement u (λ s. part Statements (λ b. done (More s b))) h)

no_body : (t : Token) → is_statement (Some t) ≡ false → rule Body t ≡ None
no_body t h = no_statement t (λ s. part Statements (λ b. done (More s b))) h

-- a part that begins here
pub part_begun : {goal p : Part} (q : Part) (k : Tree q → Form p) (S : Stack goal p) (d u : ℕ) (rest : List Token) (w v : What) (other : Step goal)
    (o : Option (Rule q)) → (r : Rule q) × (o ≡ Some r) →
    follow (λ n. run all rest n) w (suc (length rest)) (enter all o k S (count d u) other) ≡ begun v o rest (waits k S) (count d u)
part_begun q k S d u rest w v other o (r, is) =
    ap (λ x. follow (λ n. run all rest n) w (suc (length rest)) (enter all x k S (count d u) other)) is
    ∙ go_if_runs (fits (entered r (count d u))) (at r.form (waits k S) (entered r (count d u))) rest w
    ∙ ap (λ x. begun v x rest (waits k S) (count d u)) (sym is)

abbrev then_more : {p : Part} → (Block → Tree p) → Stm → Form p
then_more g s = part Statements (λ b. done (g (More s b)))

statements_begin : {goal p : Part} (k : Block → Form p) (S : Stack goal p) (d u : ℕ) (from : List Token) → is_statement (next from) ≡ true →
    run all from (at (part Statements k) S (count d u)) ≡ begin_statement from (then_more {p = Statements} (λ b. b)) (waits {q = Statements} k S) d u
statements_begin k S d u [] h = absurd cc
statements_begin {goal} k S d u (t ∷ rest) h =
    part_begun Statements k S d u rest _ what.Statement (skip (Some Empty) (λ v. at_form all (k v) S (count d u) (Some t) (hand all S (Some t))))
    (rule Statements t) (a_statement t (then_more {p = Statements} (λ b. b)) h)

body_begins : {goal p : Part} (k : Block → Form p) (S : Stack goal p) (d u : ℕ) (from : List Token) → is_statement (next from) ≡ true →
    run all from (at (part Body k) S (count d u)) ≡ begin_statement from (then_more {p = Body} (λ b. b)) (waits {q = Body} k S) d u
body_begins k S d u [] h = absurd cc
body_begins k S d u (t ∷ rest) h =
    part_begun Body k S d u rest _ what.Statement Stuck (rule Body t) (a_statement t (then_more {p = Body} (λ b. b)) h)

-- ---- the loop

pub so_far_begins : (d : ℕ) (before : Block) (from : List Token) → AreSoFar d before before from from
so_far_begins d before from =
    record {
      block = Empty;
      is = sym (followed_by_nothing before);
      goes = λ p k goal S u h. record { other = p; form = k; stack = S; stands = (u, h, refl); onward = λ a ts v. refl };
      shorter = omega arith;
    }

one_more : {d : ℕ} {b : Block} {s : Stm} {goal : Part} {out : _} {rest after : List Token} {p : Part} {k : Block → Form p} {S : Stack goal p} →
    AtStatements d b goal out rest p k S → IsStm d s rest after → AtStatements d (followed_by b (More s Empty)) goal out after p k S
one_more {d} {b} {s} {goal} {out} {rest} {after} {p} {k} {S} a i =
    let T : Stack goal Statements = waits {q = Statements} a.form a.stack in
    let u = a.stands.0 in
    let x = i.goes goal Statements (then_more {p = Statements} (λ c. c)) T u a.stands.1 in
    record {
      other = Statements;
      form = λ c. done (More s c);
      stack = T;
      stands = (x.0, x.1, a.stands.2 ∙ statements_begin a.form a.stack d u rest i.begins ∙ x.2);
      onward = λ c ts v.
          run_hands all Statements a.form a.stack (count d v) (More s c) ts
          ∙ a.onward (More s c) ts v
          ∙ ap (λ y. run all ts (at (k y) S (count d v))) (sym (followed_by_more b (More s Empty) c));
    }

pub so_far_goes_on : {d : ℕ} {before now : Block} {s : Stm} {from rest after : List Token} → AreSoFar d before now from rest → IsStm d s rest after →
    AreSoFar d before (followed_by now (More s Empty)) from after
so_far_goes_on {d} {before} {now} {s} a i =
    record {
      block = followed_by a.block (More s Empty);
      is = ap (λ b. followed_by b (More s Empty)) a.is ∙ followed_by_more before a.block (More s Empty);
      goes = λ p k goal S u h. one_more (a.goes p k goal S u h) i;
      shorter = let x = a.shorter in let y = i.shorter in omega (arith, x, y);
    }

pub so_far_fails : {d : ℕ} {before now : Block} {from rest : List Token} (e : Refusal) → AreSoFar d before now from rest → FailsStm d rest e →
    FailsPart Statements d from e
so_far_fails {d} {from = from} {rest = rest} e a f p k goal S u h =
    let x = a.goes p k goal S u h in
    x.stands.2 ∙ statements_begin x.form x.stack d x.stands.0 rest f.begins
    ∙ f.stops goal Statements (then_more {p = Statements} (λ c. c)) (waits {q = Statements} x.form x.stack) x.stands.0 x.stands.1

pub so_far_ends : {d : ℕ} {before now : Block} {from rest : List Token} → AreSoFar d before now from rest → is_statement (next rest) ≡ false →
    AreStatements d before now from rest
so_far_ends {d} {before} {now} {from} {rest} a n =
    record {
      block = a.block;
      is = a.is;
      part = record {
        goes = λ p k goal S u h.
            let x = a.goes p k goal S u h in
            let v = x.stands.0 in (
              v,
              x.stands.1,
              x.stands.2
                  ∙ left_behind Statements x.form x.stack (count d v) Empty rest refl (no_statements rest n)
                  ∙ x.onward Empty rest v
                  ∙ ap (λ b. run all rest (at (k b) S (count d v))) (followed_by_nothing a.block),
            );
        shorter = a.shorter;
      };
    }

-- ---- bodies

pub body_is : {d : ℕ} {s : Stm} {now : Block} {from middle rest : List Token} → IsStm d s from middle → AreStatements d (More s Empty) now middle rest →
    IsPart Body d now from rest
body_is {d} {s} {now} {from} {middle} {rest} i a =
    subst (λ b. IsPart Body d b from rest) (sym a.is)
    (record {
      goes = λ p k goal S u h.
          let T : Stack goal Body = waits {q = Body} k S in
          let x = i.goes goal Body (then_more {p = Body} (λ c. c)) T u h in
          let y = a.part.goes Body (λ b. done (More s b)) goal T x.0 x.1 in
          (y.0, y.1, body_begins k S d u from i.begins ∙ x.2 ∙ y.2 ∙ run_hands all Body k S (count d y.0) (More s a.block) rest);
      shorter = let x = i.shorter in let y = a.part.shorter in omega (arith, x, y);
    })

pub body_stops_first : (d : ℕ) (from : List Token) (e : Refusal) → FailsStm d from e → FailsPart Body d from e
body_stops_first d from e f p k goal S u h = body_begins k S d u from f.begins ∙ f.stops goal Body (then_more {p = Body} (λ c. c)) (waits {q = Body} k S) u h

pub body_stops_others : {d : ℕ} {s : Stm} {from middle : List Token} (e : Refusal) → IsStm d s from middle → FailsPart Statements d middle e →
    FailsPart Body d from e
body_stops_others {d} {s} {from} {middle} e i f p k goal S u h =
    let T : Stack goal Body = waits {q = Body} k S in
    let x = i.goes goal Body (then_more {p = Body} (λ c. c)) T u h in
    body_begins k S d u from i.begins ∙ x.2 ∙ f Body (λ b. done (More s b)) goal T x.0 x.1

pub body_is_wanted : (d : ℕ) (from : List Token) → is_statement (next from) ≡ false → FailsPart Body d from (Expected what.Statement (length from))
body_is_wanted d [] n p k goal S u h = refl
body_is_wanted d (t ∷ rest) n p k goal S u h = ap (λ o. follow (λ s. run all rest s) what.Statement (suc (length rest)) (enter all o k S (count d u) Stuck))
    (no_body t n)

-- ---- results of calls

pub optional_result : {X : Type 0} (w : Keyword) (d : ℕ) (from behind : List Token) (block : X → Block) (rest : X → List Token) (r : Result X Problem) →
    BeginsWith w from behind →
    Reads (λ x. IsPart Body d (block x) behind (rest x)) (FailsPart Body d behind) r →
    Reads (λ x. IsOptional w d (block x) from (rest x)) (FailsOptional w d from) r
optional_result w d from behind block rest (Ok x) b h = there b h
optional_result w d from behind block rest (Err e) b h = passes_on (FailsPart Body d behind) (FailsOptional w d from) e h (λ out f. (behind, b, f))

pub body_result : {X : Type 0} (d : ℕ) (s : Stm) (before : Block) (from middle : List Token) (block : X → Block) (rest : X → List Token)
    (r : Result X Problem) → IsStm d s from middle → before ≡ More s Empty →
    Reads (λ x. AreStatements d before (block x) middle (rest x)) (FailsPart Statements d middle) r →
    Reads (λ x. IsPart Body d (block x) from (rest x)) (FailsPart Body d from) r
body_result d s before from middle block rest (Ok x) i e h = body_is i (subst (λ b. AreStatements d b (block x) middle (rest x)) e h)
body_result d s before from middle block rest (Err x) i e h =
    passes_on (FailsPart Statements d middle) (FailsPart Body d from) x h (λ out f. body_stops_others {d = d} out i f)

pub statements_result : {X : Type 0} (d : ℕ) (before : Block) (from : List Token) (block : X → Block) (rest : X → List Token) (r : Result X Problem) →
    before ≡ Empty →
    Reads (λ x. AreStatements d before (block x) from (rest x)) (FailsPart Statements d from) r →
    Reads (λ x. IsPart Statements d (block x) from (rest x)) (FailsPart Statements d from) r
statements_result d before from block rest (Ok x) e h =
    let a = subst (λ b. AreStatements d b (block x) from (rest x)) e h in
    subst (λ b. IsPart Statements d b from (rest x)) (sym a.is) a.part
statements_result d before from block rest (Err x) e h = h
