-- The parser's parts, over plain lists: how they are put together, and whole expressions.
use Rattle.std.proofs.Common.{◌≡◌, ℕ, suc, ◌+◌, ◌<◌, ◌≤◌, List, [], ◌∷◌, length, Option, Some, None, Bool, true, false, cond, refl, ap, ◌∙◌, arith}
use Rattle.std.specs.Prelude.{nat_le}
use Rattle.std.proofs.lemmas.Bool.{lt-leb, and_left}
use Rattle.janus_syntax.specs.declared.fault.What.TheVariants as what
use Rattle.janus_syntax.specs.Tokens.{Token}
use Rattle.janus_syntax.specs.Tree.{Exp}
use Rattle.janus_syntax.specs.Operators.{weakest}
use Rattle.janus_syntax.specs.Forms.{Part, Whole, Tree, Class, Seen, Form, done, take, part, close, Rule}
use Rattle.janus_syntax.specs.Table.{rule, left_out, begins, opens, whole, operand, chains}
use Rattle.janus_syntax.specs.Grammar.{all, fits, depth_limit, operator_limit, Refusal}
use Rattle.janus_syntax.specs.Reader.{Stack, waits, at, Step, Stuck, enter, skip, at_form, hand, follow, run, wanted, Nested}
use Rattle.janus_syntax.specs.Reading.{TokenGoes, TokenFails, count, Moves, Stops, IsPart, FailsPart, begun, begin, IsExp, FailsExp}
use Rattle.janus_syntax.proofs.Agrees.{run_goes, run_hands, run_closes, steps_part}
use Rattle.janus_syntax.proofs.Chains.{go_if_runs, fits_count}

-- ---- one behind the other

pub moves_on : {p : Part} (d : ℕ) (f f1 f2 : Form p) (from middle rest : List Token) → Moves d f from f1 middle → Moves d f1 middle f2 rest →
    Moves d f from f2 rest
moves_on d f f1 f2 from middle rest x y g S u h =
    let a = x g S u h in
    let b = y g S a.0 a.1 in
    (b.0, b.1, a.2 ∙ b.2)

pub moves_stop : {p : Part} (d : ℕ) (f f1 : Form p) (from middle : List Token) (e : Refusal) → Moves d f from f1 middle → Stops d f1 middle e → Stops d f from e
moves_stop d f f1 from middle e x y g S u h =
    let a = x g S u h in
    a.2 ∙ y g S a.0 a.1

pub token_moves : {p : Part} (d : ℕ) (c : Class) (k : Seen c → Form p) (v : Seen c) (from rest : List Token) → TokenGoes c v from rest →
    Moves d (take c k) from (k v) rest
token_moves {p} d c k v from rest t g S u h = (u, h, t.goes g p k S (count d u))

pub token_stops : {p : Part} (d : ℕ) (c : Class) (k : Seen c → Form p) (from : List Token) (e : Refusal) → TokenFails c from e → Stops d (take c k) from e
token_stops {p} d c k from e t g S u h = t g p k S (count d u)

-- ---- a part by its first token

-- the counts, with nothing added
same_count : (d u : ℕ) → count (d + 0) (u + 0) ≡ count d u
same_count d u = ap (λ x. count x (u + 0)) (omega arith) ∙ ap (λ x. count d x) (omega arith)

one_deeper : (d u : ℕ) → count (d + 1) (u + 0) ≡ count (d + 1) u
one_deeper d u = ap (λ x. count (d + 1) x) (omega arith)

pub begins_part : {goal p : Part} (q : Part) (k : Tree q → Form p) (S : Stack goal p) (d u : ℕ) (t : Token) (rest : List Token) (f : Form q) →
    rule q t ≡ begins f → d ≤ depth_limit → u ≤ operator_limit →
    run all (t ∷ rest) (at (part q k) S (count d u)) ≡ run all rest (at f (waits k S) (count d u))
begins_part q k S d u t rest f is h i =
    run_goes all t rest (at (part q k) S (count d u)) (at f (waits k S) (count (d + 0) (u + 0)))
    (steps_part all k S (count d u) t (record { opens = 0; counts = 0; is_whole = false; form = f }) is
    (fits_count (d + 0) (u + 0) (omega (arith, h)) (omega (arith, i))))
    ∙ ap (λ c. run all rest (at f (waits k S) c)) (same_count d u)

pub opens_part : {goal p : Part} (q : Part) (k : Tree q → Form p) (S : Stack goal p) (d u : ℕ) (t : Token) (rest : List Token) (f : Form q) →
    rule q t ≡ opens f → d < depth_limit → u ≤ operator_limit →
    run all (t ∷ rest) (at (part q k) S (count d u)) ≡ run all rest (at f (waits k S) (count (d + 1) u))
opens_part q k S d u t rest f is h i =
    run_goes all t rest (at (part q k) S (count d u)) (at f (waits k S) (count (d + 1) (u + 0)))
    (steps_part all k S (count d u) t (record { opens = 1; counts = 0; is_whole = false; form = f }) is
    (fits_count (d + 1) (u + 0) (omega (arith, h)) (omega (arith, i))))
    ∙ ap (λ c. run all rest (at f (waits k S) c)) (one_deeper d u)

-- a 65th construct
pub part_too_deep : {goal p : Part} (q : Part) (k : Tree q → Form p) (S : Stack goal p) (d u : ℕ) (t : Token) (rest : List Token) (f : Form q) →
    rule q t ≡ opens f → d ≡ depth_limit →
    run all (t ∷ rest) (at (part q k) S (count d u)) ≡ Nested (suc (length rest))
part_too_deep {goal} q k S d u t rest f is h =
    let w = wanted (at (part q k) S (count d u)) in
    let other : Step goal = skip (left_out q) (λ v. at_form all (k v) S (count d u) (Some t) (hand all S (Some t))) in
    ap (λ o. follow (λ n. run all rest n) w (suc (length rest)) (enter all o k S (count d u) other)) is
    ∙ go_if_runs (fits (count (d + 1) (u + 0))) (at f (waits k S) (count (d + 1) (u + 0))) rest w
    ∙ ap (λ b. cond b (run all rest (at f (waits k S) (count (d + 1) (u + 0)))) (Nested (suc (length rest))))
    (and_left (nat_le (d + 1) depth_limit) (nat_le (u + 0) operator_limit) (lt-leb (d + 1) depth_limit (omega (arith, h))))

-- behind the end of a construct
pub ends_construct : {goal p : Part} (f : Form p) (S : Stack goal p) (d u : ℕ) (rest : List Token) →
    run all rest (at (close f) S (count (d + 1) u)) ≡ run all rest (at f S (count d u))
ends_construct f S d u rest = run_closes all f S (count (d + 1) u) rest ∙ ap (λ x. run all rest (at f S (count x u))) (omega arith)

-- ---- whole expressions

nothing_used : (b : Bool) → let n : ℕ = 0 in n ≡ cond b n n
nothing_used true = refl
nothing_used false = refl

whole_begun : {goal p : Part} (k : Exp → Form p) (S : Stack goal p) (d u : ℕ) (rest : List Token) (o : Option (Rule Whole)) →
    follow (λ s. run all rest s) what.Expression (suc (length rest)) (enter all (whole o) k S (count d u) Stuck) ≡ begun what.Expression o rest
    (waits {q = Whole} k S) (count d 0)
whole_begun k S d u rest None = refl
whole_begun k S d u rest (Some r) =
    go_if_runs (fits (count (d + r.opens) (0 + r.counts))) (at r.form (waits {q = Whole} k S) (count (d + r.opens) (0 + r.counts))) rest what.Expression
    ∙ ap (λ n. cond (fits (count (d + r.opens) (n + r.counts))) (run all rest (at r.form (waits {q = Whole} k S) (count (d + r.opens) (n + r.counts))))
    (Nested (suc (length rest)))) (nothing_used r.is_whole)

begin_whole : {goal p : Part} (k : Exp → Form p) (S : Stack goal p) (d u : ℕ) (ts : List Token) →
    run all ts (at (part Whole k) S (count d u)) ≡ begin ts (λ x. chains 0 weakest x done) (waits {q = Whole} k S) (count d 0)
begin_whole k S d u [] = refl
begin_whole k S d u (t ∷ rest) = whole_begun k S d u rest (operand t (λ x. chains 0 weakest x done))

pub whole_is : {d : ℕ} {e : Exp} {total : ℕ} {from rest : List Token} → IsExp weakest d 0 e total from rest → IsPart Whole d e from rest
whole_is {d} {e} {total} {from} {rest} i =
    record {
      goes = λ p k g S u h.
          (total, i.within, begin_whole k S d u from ∙ i.goes g Whole done (waits {q = Whole} k S) ∙ run_hands all Whole k S (count d total) e rest);
      shorter = let s = i.shorter in omega (arith, s);
    }

pub whole_fails : (d : ℕ) (from : List Token) (e : Refusal) → FailsExp weakest d 0 from e → FailsPart Whole d from e
whole_fails d from e f p k g S u h = begin_whole k S d u from ∙ f g Whole done (waits {q = Whole} k S)
