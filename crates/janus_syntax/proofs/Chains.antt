-- The parser's loops over operators, over plain lists.
use Rattle.std.proofs.Common.{◌≡◌, ◌≢◌, ℕ, zero, suc, ◌+◌, ◌-◌, ◌<◌, ◌≤◌, List, [], ◌∷◌, length, Option, Some, None, Bool, true, false, cond, refl, ap, sym}
use Rattle.std.proofs.Common.{subst, ◌∙◌, arith}
use Rattle.std.specs.Prelude.{nat_le}
use Rattle.std.proofs.lemmas.Bool.{eq-eqb, ne_eqb, le-leb, lt-leb, and_from, and_right}
use Rattle.janus_syntax.specs.declared.fault.What.{What}
use Rattle.janus_syntax.specs.declared.fault.What.TheVariants as what
use Rattle.janus_syntax.specs.declared.operator.Infix.{Infix}
use Rattle.janus_syntax.specs.Tokens.{Token}
use Rattle.janus_syntax.specs.Tree.{Exp}
use Rattle.janus_syntax.specs.Operators.{joined, operator_at}
use Rattle.janus_syntax.specs.Forms.{Part, Level, Chain, Form, done, part, Rule}
use Rattle.janus_syntax.specs.Table.{rule, operand, chains, chain_rule}
use Rattle.janus_syntax.specs.Grammar.{Count, all, entered, fits, depth_limit, operator_limit, Refusal, TooNested}
use Rattle.janus_syntax.specs.Reader.{Stack, waits, State, at, Stuck, TooMany, go_if, enter, at_form, hand, follow, run, wanted, next, Nested}
use Rattle.janus_syntax.specs.Reading.{begun, begin, count, IsExp, FailsExp, IsSeen, seen_operator, IsOperator}
use Rattle.janus_syntax.proofs.SoFar.{IsSoFar, IsChain}
use Rattle.janus_syntax.proofs.Agrees.{run_hands, run_alike, steps_over, wants_behind}

pub go_if_runs : {goal : Part} (b : Bool) (s : State goal) (rest : List Token) (w : What) →
    follow (λ n. run all rest n) w (suc (length rest)) (go_if b s TooMany) ≡ cond b (run all rest s) (Nested (suc (length rest)))
go_if_runs true s rest w = refl
go_if_runs false s rest w = refl

level_begun : {goal p : Part} (n : ℕ) (j : Exp → Form p) (T : Stack goal p) (m : Count) (rest : List Token) (o : Option (Rule (Level n))) →
    follow (λ s. run all rest s) what.Expression (suc (length rest)) (enter all o j T m Stuck) ≡ begun what.Expression o rest (waits {q = Level n} j T) m
level_begun n j T m rest None = refl
level_begun n j T m rest (Some r) = go_if_runs (fits (entered r m)) (at r.form (waits j T) (entered r m)) rest what.Expression

-- an expression of a level is begun
pub begin_level : {goal p : Part} (n : ℕ) (j : Exp → Form p) (T : Stack goal p) (m : Count) (ts : List Token) →
    run all ts (at (part (Level n) j) T m) ≡ begin ts (λ x. chains 0 n x done) (waits {q = Level n} j T) m
begin_level n j T m [] = refl
begin_level n j T m (t ∷ rest) = level_begun n j T m rest (operand t (λ x. chains 0 n x done))

pub so_far_begins : {weakest depth used : ℕ} {e : Exp} {total : ℕ} {from rest : List Token} → IsExp 0 depth used e total from rest →
    IsSoFar 0 weakest depth used e total from rest
so_far_begins {weakest} i =
    record { to_come = weakest; levels = omega arith; goes = λ g p k S. i.goes g p (λ x. chains 0 weakest x k) S; within = i.within; shorter = i.shorter }

pub so_far_fails : (weakest depth used : ℕ) (from : List Token) (out : Refusal) → FailsExp 0 depth used from out → FailsExp weakest depth used from out
so_far_fails weakest depth used from out f g p k S = f g p (λ x. chains 0 weakest x k) S

pub so_far_ends : {level weakest depth used : ℕ} {e : Exp} {total : ℕ} {from rest : List Token} → weakest ≤ level →
    IsSoFar level weakest depth used e total from rest → IsExp weakest depth used e total from rest
so_far_ends {level} {weakest} {depth} {used} {e} {total} {from} {rest} h s =
    let none : s.to_come ≡ 0 = omega (arith, h, s.levels) in
    record {
      goes = λ g p k S. s.goes g p k S
          ∙ ap (λ n. run all rest (at (chains level n e k) S (count depth total))) none;
      within = s.within;
      shorter = s.shorter;
    }

-- a level's operators begin
chain_begins_with : {level weakest depth used : ℕ} {e : Exp} {total : ℕ} {from rest : List Token} (s : IsSoFar level weakest depth used e total from rest)
    (n : ℕ) → s.to_come ≡ suc n → IsChain level weakest depth used e total from rest
chain_begins_with {level} {weakest} {depth} {used} {e} {total} {from} {rest} s n is =
    record {
      to_come = n;
      levels = ap (λ i. level + i) (sym is) ∙ s.levels;
      goes = λ g p k S. record {
        other = p;
        form = λ f. chains (suc level) n f k;
        stack = S;
        stands = s.goes g p k S ∙ ap (λ i. run all rest (at (chains level i e k) S (count depth total))) is;
        onward = λ f ts m. refl;
      };
      within = s.within;
      shorter = s.shorter;
    }

pub chain_begins : {level weakest depth used : ℕ} {e : Exp} {total : ℕ} {from rest : List Token} → level < weakest →
    IsSoFar level weakest depth used e total from rest → IsChain level weakest depth used e total from rest
chain_begins {level} {weakest} {depth} {used} {e} {total} {from} {rest} h s =
    elim (s.to_come) as (λ n. s.to_come ≡ n → IsChain level weakest depth used e total from rest) [
      | zero ↦ λ is. let k = s.levels in absurd (omega (arith, h, is, k))
      | suc n ↦ λ is. chain_begins_with s n is
    ] refl

-- an operator of the level is taken

abbrev the_rule : (op : Infix) (level : ℕ) (e : Exp) → Rule (Chain (suc level) e)
the_rule op level e =
    record { opens = 0; counts = 1; is_whole = false; form = part (Level (suc level - 1)) (λ r. part (Chain (suc level) (joined op.joint e r)) done) }

rule_is : (level : ℕ) (e : Exp) (t : Token) (op : Infix) → operator_at t ≡ Some op → op.level ≡ suc level →
    rule (Chain (suc level) e) t ≡ Some (the_rule op level e)
rule_is level e t op is l =
    ap (λ o. chain_rule o (suc level) e) is
    ∙ ap (λ b. cond b (Some (the_rule op level e)) None) (eq-eqb op.level (suc level) l)

entered_is : (op : Infix) (level : ℕ) (e : Exp) (depth total : ℕ) → entered (the_rule op level e) (count depth total) ≡ count depth (total + 1)
entered_is op level e depth total = ap (λ d. count d (total + 1)) (omega arith)

takes_operator : {goal p : Part} (level : ℕ) (e : Exp) (j : Exp → Form p) (T : Stack goal p) (depth total : ℕ) (t : Token) (op : Infix) (behind : List Token) →
    operator_at t ≡ Some op → op.level ≡ suc level →
    run all (t ∷ behind) (at (part (Chain (suc level) e) j) T (count depth total))
    ≡ cond (fits (count depth (total + 1)))
    (begin behind (λ x. chains 0 level x done)
    (waits {q = Level level} (λ r. part (Chain (suc level) (joined op.joint e r)) done) (waits {q = Chain (suc level) e} j T)) (count depth (total + 1)))
    (Nested (suc (length behind)))
takes_operator {p} level e j T depth total t op behind is l =
    let r = the_rule op level e in
    let c = count depth total in
    ap (λ o. follow (λ n. run all behind n) (wanted (at (part (Chain (suc level) e) j) T c)) (suc (length behind))
    (enter all o j T c (at_form all (j e) T c (Some t) (hand all T (Some t))))) (rule_is level e t op is l)
    ∙ go_if_runs (fits (entered r c)) (at r.form (waits {q = Chain (suc level) e} j T) (entered r c)) behind (wanted (at (part (Chain (suc level) e) j) T c))
    ∙ ap (λ m. cond (fits m) (run all behind (at r.form (waits {q = Chain (suc level) e} j T) m)) (Nested (suc (length behind))))
    (entered_is op level e depth total)
    ∙ ap (λ i. cond (fits (count depth (total + 1)))
    (run all behind
    (at (part (Level i) (λ r. part (Chain (suc level) (joined op.joint e r)) done)) (waits {q = Chain (suc level) e} j T) (count depth (total + 1))))
    (Nested (suc (length behind)))) (omega arith)
    ∙ ap (λ o. cond (fits (count depth (total + 1))) o (Nested (suc (length behind))))
    (begin_level level (λ r. part (Chain (suc level) (joined op.joint e r)) done) (waits {q = Chain (suc level) e} j T) (count depth (total + 1)) behind)

pub fits_count : (d u : ℕ) → d ≤ depth_limit → u ≤ operator_limit → fits (count d u) ≡ true
fits_count d u h k = and_from (nat_le d depth_limit) (nat_le u operator_limit) (le-leb d depth_limit h) (le-leb u operator_limit k)

pub chain_goes_on : {level weakest depth used : ℕ} {e r : Exp} {total now : ℕ} {op : Infix} {from rest behind after : List Token} → depth ≤ depth_limit →
    total < operator_limit →
    IsChain level weakest depth used e total from rest → IsOperator (suc level) op rest behind → IsExp level depth (total + 1) r now behind after →
    IsChain level weakest depth used (joined op.joint e r) now from after
chain_goes_on {level} {weakest} {depth} {used} {e} {r} {total} {now} {op} {from} {rest} {behind} {after} h few s o i =
    record {
      to_come = s.to_come;
      levels = s.levels;
      goes = λ g p k S.
          let a = s.goes g p k S in
          let j = a.form in
          let T = a.stack in
          let J : Exp → Form (Chain (suc level) e) = λ x. part (Chain (suc level) (joined op.joint e x)) done in
          record {
            other = Chain (suc level) e;
            form = done;
            stack = waits j T;
            stands =
                a.stands
                ∙ ap (λ ts. run all ts (at (part (Chain (suc level) e) j) T (count depth total))) o.is
                ∙ takes_operator level e j T depth total o.token op behind o.operator o.level_is
                ∙ ap (λ b. cond b
                (begin behind (λ x. chains 0 level x done) (waits {q = Level level} J (waits {q = Chain (suc level) e} j T)) (count depth (total + 1)))
                (Nested (suc (length behind)))) (fits_count depth (total + 1) h (omega (arith, few)))
                ∙ i.goes g (Level level) done (waits J (waits j T))
                ∙ run_hands all (Level level) J (waits {q = Chain (suc level) e} j T) (count depth now) r after;
            onward = λ f ts m. run_hands all (Chain (suc level) e) j T m f ts ∙ a.onward f ts m;
          };
      within = i.within;
      shorter = let x = s.shorter in let y = i.shorter in let z = ap length o.is in omega (arith, x, y, z);
    }

pub chain_fails : {level weakest depth used : ℕ} {e : Exp} {total : ℕ} {op : Infix} {from rest behind : List Token} (out : Refusal) → depth ≤ depth_limit →
    total < operator_limit →
    IsChain level weakest depth used e total from rest → IsOperator (suc level) op rest behind → FailsExp level depth (total + 1) behind out →
    FailsExp weakest depth used from out
chain_fails {level} {weakest} {depth} {used} {e} {total} {op} {from} {rest} {behind} out h few s o f g p k S =
    let a = s.goes g p k S in
    let j = a.form in
    let T = a.stack in
    let J : Exp → Form (Chain (suc level) e) = λ x. part (Chain (suc level) (joined op.joint e x)) done in
    a.stands
    ∙ ap (λ ts. run all ts (at (part (Chain (suc level) e) j) T (count depth total))) o.is
    ∙ takes_operator level e j T depth total o.token op behind o.operator o.level_is
    ∙ ap (λ b. cond b (begin behind (λ x. chains 0 level x done) (waits {q = Level level} J (waits {q = Chain (suc level) e} j T)) (count depth (total + 1)))
    (Nested (suc (length behind)))) (fits_count depth (total + 1) h (omega (arith, few)))
    ∙ f g (Level level) done (waits J (waits j T))

pub chain_too_long : {level weakest depth used : ℕ} {e : Exp} {total : ℕ} {op : Infix} {from rest behind : List Token} → total ≡ operator_limit →
    IsChain level weakest depth used e total from rest → IsOperator (suc level) op rest behind → FailsExp weakest depth used from (TooNested (length rest))
chain_too_long {level} {weakest} {depth} {used} {e} {total} {op} {from} {rest} {behind} full s o g p k S =
    let a = s.goes g p k S in
    let j = a.form in
    let T = a.stack in
    let J : Exp → Form (Chain (suc level) e) = λ x. part (Chain (suc level) (joined op.joint e x)) done in
    let many = and_right (nat_le depth depth_limit) (nat_le (total + 1) operator_limit) (lt-leb (total + 1) operator_limit (omega (arith, full))) in
    a.stands
    ∙ ap (λ ts. run all ts (at (part (Chain (suc level) e) j) T (count depth total))) o.is
    ∙ takes_operator level e j T depth total o.token op behind o.operator o.level_is
    ∙ ap (λ b. cond b (begin behind (λ x. chains 0 level x done) (waits {q = Level level} J (waits {q = Chain (suc level) e} j T)) (count depth (total + 1)))
    (Nested (suc (length behind)))) many
    ∙ ap Nested (sym (ap length o.is))

no_chain : (level : ℕ) (e : Exp) (o : Option Infix) → ((op : Infix) → o ≡ Some op → op.level ≢ suc level) → chain_rule o (suc level) e ≡ None
no_chain level e None h = refl
no_chain level e (Some op) h = ap (λ b. cond b (Some (the_rule op level e)) None) (ne_eqb op.level (suc level) (h op refl))

no_chain_at : (level : ℕ) (e : Exp) (rest : List Token) → ((op : Infix) → seen_operator (next rest) ≡ Some op → op.level ≢ suc level) → (t : Token) →
    next rest ≡ Some t → rule (Chain (suc level) e) t ≡ None
no_chain_at level e [] h t is = absurd cc
no_chain_at level e (u ∷ rest) h t is = let same : u ≡ t = cc in subst (λ x. rule (Chain (suc level) e) x ≡ None) same (no_chain level e (operator_at u) h)

-- no operator of the level stands here: the next level
pub chain_ends : {level weakest depth used : ℕ} {e : Exp} {total : ℕ} {from rest : List Token} →
    ((op : Infix) → seen_operator (next rest) ≡ Some op → op.level ≢ suc level) →
    IsChain level weakest depth used e total from rest → IsSoFar (suc level) weakest depth used e total from rest
chain_ends {level} {weakest} {depth} {used} {e} {total} {from} {rest} n s =
    record {
      to_come = s.to_come;
      levels = let k = s.levels in omega (arith, k);
      goes = λ g p k S.
          let a = s.goes g p k S in
          let j = a.form in
          let T = a.stack in
          a.stands
          ∙ run_alike all rest (at (part (Chain (suc level) e) j) T (count depth total)) (at (j e) T (count depth total))
          (wants_behind (Chain (suc level) e) j T (count depth total) e refl)
          (steps_over all (Chain (suc level) e) j T (count depth total) e (next rest) refl (no_chain_at level e rest n))
          ∙ a.onward e rest (count depth total);
      within = s.within;
      shorter = s.shorter;
    }

-- the same, with the level as the code counts it

pub next_level : {level : ℕ} {op : Infix} {rest behind : List Token} → IsOperator (level + 1) op rest behind → IsOperator (suc level) op rest behind
next_level {level} o = record { token = o.token; is = o.is; operator = o.operator; level_is = let k = o.level_is in omega (arith, k) }

pub shorter_operator : {level : ℕ} {op : Infix} {rest behind : List Token} → IsOperator level op rest behind → suc (length behind) ≡ length rest
shorter_operator o = sym (ap length o.is)

pub chain_ends_there : {level weakest depth used : ℕ} {e : Exp} {total : ℕ} {from rest : List Token} →
    ((op : Infix) → seen_operator (next rest) ≡ Some op → op.level ≢ level + 1) →
    IsChain level weakest depth used e total from rest → IsSoFar (level + 1) weakest depth used e total from rest
chain_ends_there {level} {weakest} {depth} {used} {e} {total} {from} {rest} n s =
    let same : suc level ≡ level + 1 = omega arith in
    subst (λ l. IsSoFar l weakest depth used e total from rest) same (chain_ends (λ op is k. n op is (k ∙ same)) s)

-- levels are passed over

some_same : {a b : Infix} → Some a ≡ Some b → a ≡ b
some_same e = cc

-- no operator of the levels behind `level` up to `to` stands here
passed : (n : ℕ) {level to weakest depth used : ℕ} {e : Exp} {total : ℕ} {from rest : List Token} → level + n ≡ to → to ≤ weakest →
    ((op : Infix) → seen_operator (next rest) ≡ Some op → level < op.level → op.level ≤ to → ⊥) → IsSoFar level weakest depth used e total from rest →
    IsSoFar to weakest depth used e total from rest
passed zero {level} {to} {weakest} {depth} {used} {e} {total} {from} {rest} is h none s =
    let same : level ≡ to = omega (arith, is) in
    subst (λ l. IsSoFar l weakest depth used e total from rest) same s
passed (suc n) {level} {to} is h none s =
    let ended = chain_ends (λ op seen is_next. none op seen (omega (arith, is_next)) (omega (arith, is_next, is))) (chain_begins (omega (arith, is, h)) s) in
    passed n (omega (arith, is)) h (λ op seen low high. none op seen (omega (arith, low)) high) ended

-- the next operator's level begins
pub level_begins : {level stronger weakest depth used : ℕ} {e : Exp} {total : ℕ} {from rest : List Token} → IsSeen level rest → stronger < level →
    level ≤ weakest →
    IsSoFar stronger weakest depth used e total from rest → IsChain (level - 1) weakest depth used e total from rest
level_begins {level} {stronger} {weakest} seen low high s =
    chain_begins (omega (arith, low, high)) (passed (level - 1 - stronger) (omega (arith, low)) (omega (arith, high))
    (λ op is above below. let same = ap (λ o. o.level) (some_same (sym is ∙ seen.is)) in let k = seen.level_is in absurd (omega (arith, same, k, below, low)))
    s)

pub levels_end : {stronger weakest depth used : ℕ} {e : Exp} {total : ℕ} {from rest : List Token} →
    ((op : Infix) → seen_operator (next rest) ≡ Some op → stronger < op.level → op.level ≤ weakest → ⊥) →
    IsSoFar stronger weakest depth used e total from rest → IsExp weakest depth used e total from rest
levels_end {stronger} {weakest} none s =
    let k = s.levels in
    so_far_ends (omega arith) (passed (weakest - stronger) (omega (arith, k)) (omega arith) none s)
