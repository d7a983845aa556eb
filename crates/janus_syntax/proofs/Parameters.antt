-- The parser's parameters, over plain lists.
use Rattle.std.proofs.Common.{◌≡◌, ℕ, ◌≤◌, List, [], ◌∷◌, ◌++◌, length, Some, None, true, false, refl, ap, sym, subst, ◌∙◌, arith, append_assoc}
use Rattle.std.proofs.lemmas.List.{append-nil, map-append}
use Rattle.janus_syntax.specs.declared.token.Span.{Span}
use Rattle.janus_syntax.specs.declared.token.Sign.TheVariants as sign
use Rattle.janus_syntax.specs.declared.token.Keyword.TheVariants as keyword
use Rattle.janus_syntax.specs.declared.fault.What.TheVariants as what
use Rattle.janus_syntax.specs.declared.tree.Parameter as code_parameter
use Rattle.janus_syntax.specs.Tokens.{Token, Name, Number, Sign_of, Keyword_of}
use Rattle.janus_syntax.specs.Tree.{Name as Named, Parameter, IntParameter, ArrayParameter, StackParameter, parameter_view, parameters_view}
use Rattle.janus_syntax.specs.Forms.{Part, Parameters, More_parameters, A_parameter, Brackets, The_sign, A_name, Form, done, take, part}
use Rattle.janus_syntax.specs.Table.{rule, sign_then, parameter}
use Rattle.janus_syntax.specs.Grammar.{all, operator_limit, Refusal, Expected}
use Rattle.janus_syntax.specs.Reader.{Stack, waits, at, run, next, outcome_of, Outcome}
use Rattle.janus_syntax.specs.Reading.{TokenGoes, TokenFails, count, Moves, Stops, IsPart, FailsPart, BeginsWith, BeginsWithSign}
use Rattle.janus_syntax.specs.Procedures.{is_parameter, begin_parameter, IsParameter, FailsParameter, IsBracketed, FailsBracketed}
use Rattle.janus_syntax.proofs.SoFar.{AtParameters, AreParameters}
use Rattle.janus_syntax.proofs.Agrees.{run_hands, left_behind}
use Rattle.janus_syntax.proofs.Steps.{no_opening}
use Rattle.janus_syntax.proofs.LeftOut.{unbracketed}
use Rattle.janus_syntax.proofs.Parts.{begins_part}
use Rattle.janus_syntax.proofs.Operands.{begun_plain}

-- ---- brackets

abbrev the_closing : Form Brackets
the_closing = sign_then sign.CloseIndex (done true)

pub int_is : (x : Named) (from : List Token) → ((behind : List Token) → BeginsWithSign sign.OpenIndex from behind → ⊥) →
    IsBracketed x (IntParameter x) from from
int_is x from n =
    record {
      goes = λ p k g S u h.
          (u, h, left_behind Brackets (λ b. k (parameter x b)) S (count 0 u) false from refl (λ t e. unbracketed t (no_opening from n t e)));
      shorter =
          omega arith;
    }

brackets_begin : {goal p : Part} (x : Named) (k : Parameter → Form p) (S : Stack goal p) (u : ℕ) (place : Span) (behind : List Token) → u ≤ operator_limit →
    run all (Sign_of sign.OpenIndex place ∷ behind) (at (part Brackets (λ b. k (parameter x b))) S (count 0 u)) ≡ run all behind
    (at the_closing (waits {q = Brackets} (λ b. k (parameter x b)) S) (count 0 u))
brackets_begin x k S u place behind h = begins_part Brackets (λ b. k (parameter x b)) S 0 u (Sign_of sign.OpenIndex place) behind the_closing refl (omega arith)
    h

pub array_is : (x : Named) {from behind rest : List Token} → BeginsWithSign sign.OpenIndex from behind → TokenGoes (The_sign sign.CloseIndex) tt behind rest →
    IsBracketed x (ArrayParameter x) from rest
array_is x {from} {behind} {rest} b c =
    record {
      goes = λ p k.
          subst (λ ts. Moves 0 (part Brackets (λ b. k (parameter x b))) ts (k (ArrayParameter x)) rest) (sym b.is)
          (λ g S u h.
          let T : Stack g Brackets = waits {q = Brackets} (λ b. k (parameter x b)) S in (
            u,
            h,
            brackets_begin x k S u b.at behind h ∙ c.goes g Brackets (λ v. done true) T (count 0 u)
                ∙ run_hands all Brackets (λ b. k (parameter x b)) S (count 0 u) true rest,
          ));
      shorter = let s0 = ap length b.is in let s1 = c.shorter in omega (arith, s0, s1);
    }

pub array_stops : (x : Named) {from behind : List Token} (e : Refusal) → BeginsWithSign sign.OpenIndex from behind →
    TokenFails (The_sign sign.CloseIndex) behind e → FailsBracketed x from e
array_stops x {from} {behind} e b f p k =
    subst (λ ts. Stops 0 (part Brackets (λ b. k (parameter x b))) ts e) (sym b.is)
    (λ g S u h. brackets_begin x k S u b.at behind h ∙ f g Brackets (λ v. done true) (waits {q = Brackets} (λ b. k (parameter x b)) S) (count 0 u))

-- ---- a parameter

abbrev int_form : {p : Part} → (Parameter → Form p) → Form p
int_form k = take A_name (λ x. part Brackets (λ b. k (parameter x b)))

abbrev stack_form : {p : Part} → (Parameter → Form p) → Form p
stack_form k = take A_name (λ s. k (StackParameter s))

int_begins : {goal p : Part} (k : Parameter → Form p) (S : Stack goal p) (u : ℕ) (place : Span) (behind : List Token) → u ≤ operator_limit →
    begin_parameter (Keyword_of keyword.Int place ∷ behind) k S u ≡ run all behind (at (int_form k) S (count 0 u))
int_begins k S u place behind h = begun_plain (int_form k) S 0 u behind (omega arith) h

stack_begins : {goal p : Part} (k : Parameter → Form p) (S : Stack goal p) (u : ℕ) (place : Span) (behind : List Token) → u ≤ operator_limit →
    begin_parameter (Keyword_of keyword.Stack place ∷ behind) k S u ≡ run all behind (at (stack_form k) S (count 0 u))
stack_begins k S u place behind h = begun_plain (stack_form k) S 0 u behind (omega arith) h

pub parameter_is : {x : Named} {y : Parameter} {from behind middle rest : List Token} → BeginsWith keyword.Int from behind → TokenGoes A_name x behind middle →
    IsBracketed x y middle rest → IsParameter y from rest
parameter_is {x} {y} {from} {behind} {middle} {rest} b i j =
    subst (λ ts. IsParameter y ts rest) (sym b.is)
    (record {
      begins = refl;
      goes = λ g p k S u h.
          let a = j.goes p k g S u h in
          (a.0, a.1, int_begins k S u b.at behind h ∙ i.goes g p (λ z. part Brackets (λ n. k (parameter z n))) S (count 0 u) ∙ a.2);
      shorter = let s1 = i.shorter in let s2 = j.shorter in omega (arith, s1, s2);
    })

pub parameter_stops_name : {from behind : List Token} (e : Refusal) → BeginsWith keyword.Int from behind → TokenFails A_name behind e → FailsParameter from e
parameter_stops_name {from} {behind} e b f =
    subst (λ ts. FailsParameter ts e) (sym b.is)
    (record { begins = refl; stops = λ g p k S u h. int_begins k S u b.at behind h ∙ f g p (λ z. part Brackets (λ n. k (parameter z n))) S (count 0 u) })

pub parameter_stops_brackets : {x : Named} {from behind middle : List Token} (e : Refusal) → BeginsWith keyword.Int from behind →
    TokenGoes A_name x behind middle → FailsBracketed x middle e → FailsParameter from e
parameter_stops_brackets {x} {from} {behind} e b i f =
    subst (λ ts. FailsParameter ts e) (sym b.is)
    (record {
      begins = refl;
      stops = λ g p k S u h. int_begins k S u b.at behind h ∙ i.goes g p (λ z. part Brackets (λ n. k (parameter z n))) S (count 0 u)
          ∙ f p k g S u h;
    })

pub stack_is : {s : Named} {from behind rest : List Token} → BeginsWith keyword.Stack from behind → TokenGoes A_name s behind rest →
    IsParameter (StackParameter s) from rest
stack_is {s} {from} {behind} {rest} b i =
    subst (λ ts. IsParameter (StackParameter s) ts rest) (sym b.is)
    (record {
      begins = refl;
      goes = λ g p k S u h. (u, h, stack_begins k S u b.at behind h ∙ i.goes g p (λ y. k (StackParameter y)) S (count 0 u));
      shorter = let l = i.shorter in omega (arith, l);
    })

pub stack_stops : {from behind : List Token} (e : Refusal) → BeginsWith keyword.Stack from behind → TokenFails A_name behind e → FailsParameter from e
stack_stops {from} {behind} e b f =
    subst (λ ts. FailsParameter ts e) (sym b.is)
    (record { begins = refl; stops = λ g p k S u h. stack_begins k S u b.at behind h ∙ f g p (λ y. k (StackParameter y)) S (count 0 u) })

pub other_begins : (from : List Token) → ((behind : List Token) → BeginsWith keyword.Int from behind → ⊥) →
    ((behind : List Token) → BeginsWith keyword.Stack from behind → ⊥) → is_parameter (next from) ≡ false
other_begins [] h i = refl
other_begins (Name x place ∷ rest) h i = refl
other_begins (Number n place ∷ rest) h i = refl
other_begins (Sign_of s place ∷ rest) h i = refl
other_begins (Keyword_of keyword.Int place ∷ rest) h i = absurd (h rest (record { at = place; is = refl }))
other_begins (Keyword_of keyword.Stack place ∷ rest) h i = absurd (i rest (record { at = place; is = refl }))
other_begins (Keyword_of _ place ∷ rest) h i = refl

-- ---- parameters parted by commas

pub view_push : (xs : List code_parameter.Parameter) (x : code_parameter.Parameter) →
    parameters_view (xs ++ x ∷ []) ≡ parameters_view xs ++ parameter_view x ∷ []
view_push xs x = map-append parameter_view xs (x ∷ [])

abbrev first_form : Parameter → Form Parameters
first_form x = part More_parameters (λ xs. done (x ∷ xs))

abbrev next_form : Parameter → Form More_parameters
next_form x = part More_parameters (λ xs. done (x ∷ xs))

parameters_begin : {goal p : Part} (k : List Parameter → Form p) (S : Stack goal p) (u : ℕ) (from : List Token) → u ≤ operator_limit →
    is_parameter (next from) ≡ true →
    run all from (at (part Parameters k) S (count 0 u)) ≡ begin_parameter from first_form (waits {q = Parameters} k S) u
parameters_begin k S u [] i h = absurd cc
parameters_begin k S u (Name x place ∷ rest) i h = absurd cc
parameters_begin k S u (Number n place ∷ rest) i h = absurd cc
parameters_begin k S u (Sign_of s place ∷ rest) i h = absurd cc
parameters_begin k S u (Keyword_of keyword.Int place ∷ rest) i h =
    begins_part Parameters k S 0 u (Keyword_of keyword.Int place) rest (int_form first_form) refl (omega arith) i
    ∙ sym (int_begins first_form (waits {q = Parameters} k S) u place rest i)
parameters_begin k S u (Keyword_of keyword.Stack place ∷ rest) i h =
    begins_part Parameters k S 0 u (Keyword_of keyword.Stack place) rest (stack_form first_form) refl (omega arith) i
    ∙ sym (stack_begins first_form (waits {q = Parameters} k S) u place rest i)
parameters_begin k S u (Keyword_of _ place ∷ rest) i h = absurd cc

one_begins : {goal p : Part} (k : Parameter → Form p) (S : Stack goal p) (u : ℕ) (from : List Token) → u ≤ operator_limit → is_parameter (next from) ≡ true →
    run all from (at (part A_parameter k) S (count 0 u)) ≡ begin_parameter from done (waits {q = A_parameter} k S) u
one_begins k S u [] i h = absurd cc
one_begins k S u (Name x place ∷ rest) i h = absurd cc
one_begins k S u (Number n place ∷ rest) i h = absurd cc
one_begins k S u (Sign_of s place ∷ rest) i h = absurd cc
one_begins k S u (Keyword_of keyword.Int place ∷ rest) i h =
    begins_part A_parameter k S 0 u (Keyword_of keyword.Int place) rest (int_form done) refl (omega arith) i
    ∙ sym (int_begins {p = A_parameter} done (waits {q = A_parameter} k S) u place rest i)
one_begins k S u (Keyword_of keyword.Stack place ∷ rest) i h =
    begins_part A_parameter k S 0 u (Keyword_of keyword.Stack place) rest (stack_form done) refl (omega arith) i
    ∙ sym (stack_begins {p = A_parameter} done (waits {q = A_parameter} k S) u place rest i)
one_begins k S u (Keyword_of _ place ∷ rest) i h = absurd cc

-- no parameter behind a comma
one_is_wanted : {goal p : Part} (k : Parameter → Form p) (S : Stack goal p) (u : ℕ) (from : List Token) → is_parameter (next from) ≡ false →
    run all from (at (part A_parameter k) S (count 0 u)) ≡ outcome_of (Expected what.Kind (length from))
one_is_wanted k S u [] h = refl
one_is_wanted k S u (Name x place ∷ rest) h = refl
one_is_wanted k S u (Number n place ∷ rest) h = refl
one_is_wanted k S u (Sign_of s place ∷ rest) h = refl
one_is_wanted k S u (Keyword_of keyword.Int place ∷ rest) h = absurd cc
one_is_wanted k S u (Keyword_of keyword.Stack place ∷ rest) h = absurd cc
one_is_wanted k S u (Keyword_of _ place ∷ rest) h = refl

no_parameters : (from : List Token) → is_parameter (next from) ≡ false → (t : Token) → next from ≡ Some t → rule Parameters t ≡ None
no_parameters [] h t e = absurd cc
no_parameters (Name x place ∷ rest) h t e = let same : Name x place ≡ t = cc in subst (λ x. rule Parameters x ≡ None) same refl
no_parameters (Number n place ∷ rest) h t e = let same : Number n place ≡ t = cc in subst (λ x. rule Parameters x ≡ None) same refl
no_parameters (Sign_of s place ∷ rest) h t e = let same : Sign_of s place ≡ t = cc in subst (λ x. rule Parameters x ≡ None) same refl
no_parameters (Keyword_of keyword.Int place ∷ rest) h t e = absurd cc
no_parameters (Keyword_of keyword.Stack place ∷ rest) h t e = absurd cc
no_parameters (Keyword_of w place ∷ rest) h t e = let same : Keyword_of w place ≡ t = cc in subst (λ x. rule Parameters x ≡ None) same refl

abbrev NoComma : List Token → Type 0
NoComma from = (behind : List Token) → BeginsWithSign sign.Comma from behind → ⊥

no_comma : (from : List Token) → NoComma from → (t : Token) → next from ≡ Some t → rule More_parameters t ≡ None
no_comma [] h t e = absurd cc
no_comma (Sign_of sign.Comma place ∷ rest) h t e = absurd (h rest (record { at = place; is = refl }))
no_comma (Sign_of s place ∷ rest) h t e = let same : Sign_of s place ≡ t = cc in subst (λ x. rule More_parameters x ≡ None) same refl
no_comma (Name x place ∷ rest) h t e = let same : Name x place ≡ t = cc in subst (λ x. rule More_parameters x ≡ None) same refl
no_comma (Number n place ∷ rest) h t e = let same : Number n place ≡ t = cc in subst (λ x. rule More_parameters x ≡ None) same refl
no_comma (Keyword_of w place ∷ rest) h t e = let same : Keyword_of w place ≡ t = cc in subst (λ x. rule More_parameters x ≡ None) same refl

pub none_is : (from : List Token) → is_parameter (next from) ≡ false → IsPart Parameters 0 [] from from
none_is from n = record { goes = λ p k g S u h. (u, h, left_behind Parameters k S (count 0 u) [] from refl (no_parameters from n)); shorter = omega arith }

pub first_fails : (from : List Token) (e : Refusal) → FailsParameter from e → FailsPart Parameters 0 from e
first_fails from e f p k g S u h = parameters_begin k S u from h f.begins ∙ f.stops g Parameters first_form (waits {q = Parameters} k S) u h

pub first_is : {x : Parameter} {from rest : List Token} → IsParameter x from rest → AreParameters (x ∷ []) from rest
first_is {x} {from} {rest} i =
    record {
      goes = λ p k goal S u h.
          let a = i.goes goal Parameters first_form (waits {q = Parameters} k S) u h in
          record {
            other = Parameters;
            form = λ xs. done (x ∷ xs);
            stack = waits {q = Parameters} k S;
            stands = (a.0, a.1, parameters_begin k S u from h i.begins ∙ a.2);
            onward = λ ys ts v. run_hands all Parameters k S (count 0 v) (x ∷ ys) ts;
          };
      shorter = let s = i.shorter in omega (arith, s);
    }

abbrev one_more : Form More_parameters
one_more = part A_parameter next_form

comma_begins : {goal p : Part} (k : List Parameter → Form p) (S : Stack goal p) (u : ℕ) {rest behind : List Token} → u ≤ operator_limit →
    BeginsWithSign sign.Comma rest behind →
    run all rest (at (part More_parameters k) S (count 0 u)) ≡ run all behind (at one_more (waits {q = More_parameters} k S) (count 0 u))
comma_begins k S u {rest} {behind} h b =
    subst (λ ts. run all ts (at (part More_parameters k) S (count 0 u)) ≡ run all behind (at one_more (waits {q = More_parameters} k S) (count 0 u))) (sym b.is)
    (begins_part More_parameters k S 0 u (Sign_of sign.Comma b.at) behind one_more refl (omega arith) h)

next_is : {xs : List Parameter} {y : Parameter} {goal p : Part} {k : List Parameter → Form p} {S : Stack goal p} {out : Outcome goal}
    {rest behind after : List Token} →
    AtParameters xs goal out rest p k S → BeginsWithSign sign.Comma rest behind → IsParameter y behind after → AtParameters (xs ++ y ∷ []) goal out after p k S
next_is {xs} {y} {goal} {p} {k} {S} {out} {rest} {behind} {after} x b i =
    let T : Stack goal More_parameters = waits {q = More_parameters} x.form x.stack in
    let u = x.stands.0 in
    let a = i.goes goal A_parameter done (waits {q = A_parameter} next_form T) u x.stands.1 in
    record {
      other = More_parameters;
      form = λ ys. done (y ∷ ys);
      stack = T;
      stands = (
        a.0,
        a.1,
        x.stands.2 ∙ comma_begins x.form x.stack u x.stands.1 b ∙ one_begins next_form T u behind x.stands.1 i.begins ∙ a.2
            ∙ run_hands all A_parameter next_form T (count 0 a.0) y after,
      );
      onward = λ ys ts v. run_hands all More_parameters x.form x.stack (count 0 v) (y ∷ ys) ts ∙ x.onward (y ∷ ys) ts v
          ∙ ap (λ l. run all ts (at (k l) S (count 0 v))) (sym (append_assoc xs (y ∷ []) ys));
    }

pub parameters_go_on : {xs : List Parameter} {y : Parameter} {from rest behind after : List Token} → AreParameters xs from rest →
    BeginsWithSign sign.Comma rest behind → IsParameter y behind after → AreParameters (xs ++ y ∷ []) from after
parameters_go_on a b i =
    record {
      goes = λ p k goal S u h. next_is (a.goes p k goal S u h) b i;
      shorter = let s0 = a.shorter in let s1 = ap length b.is in let s2 = i.shorter in omega (arith, s0, s1, s2);
    }

pub parameters_fail : {xs : List Parameter} {from rest behind : List Token} (e : Refusal) → AreParameters xs from rest → BeginsWithSign sign.Comma rest behind →
    FailsParameter behind e → FailsPart Parameters 0 from e
parameters_fail {behind = behind} e a b f p k goal S u h =
    let x = a.goes p k goal S u h in
    let v = x.stands.0 in
    let T : Stack goal More_parameters = waits {q = More_parameters} x.form x.stack in
    x.stands.2 ∙ comma_begins x.form x.stack v x.stands.1 b ∙ one_begins next_form T v behind x.stands.1 f.begins
    ∙ f.stops goal A_parameter done (waits {q = A_parameter} next_form T) v x.stands.1

pub parameter_wanted : {xs : List Parameter} {from rest behind : List Token} → AreParameters xs from rest → BeginsWithSign sign.Comma rest behind →
    is_parameter (next behind) ≡ false → FailsPart Parameters 0 from (Expected what.Kind (length behind))
parameter_wanted {behind = behind} a b n p k goal S u h =
    let x = a.goes p k goal S u h in
    let v = x.stands.0 in
    x.stands.2 ∙ comma_begins x.form x.stack v x.stands.1 b ∙ one_is_wanted next_form (waits {q = More_parameters} x.form x.stack) v behind n

pub parameters_end : {xs : List Parameter} {from rest : List Token} → AreParameters xs from rest → NoComma rest → IsPart Parameters 0 xs from rest
parameters_end {xs} {from} {rest} a n =
    record {
      goes = λ p k goal S u h.
          let x = a.goes p k goal S u h in
          let v = x.stands.0 in (
            v,
            x.stands.1,
            x.stands.2
                ∙ left_behind More_parameters x.form x.stack (count 0 v) [] rest refl (no_comma rest n)
                ∙ x.onward [] rest v
                ∙ ap (λ l. run all rest (at (k l) S (count 0 v))) (append-nil xs),
          );
      shorter = a.shorter;
    }
