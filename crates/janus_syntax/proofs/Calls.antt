-- The parser's calls, over plain lists.
use Rattle.std.proofs.Common.{◌≡◌, ℕ, ◌≤◌, List, [], ◌∷◌, ◌++◌, length, Some, None, false, refl, ap, sym, subst, ◌∙◌, arith, append_assoc}
use Rattle.std.proofs.lemmas.List.{append-nil, map-append}
use Rattle.janus_syntax.specs.declared.token.Span.{Span}
use Rattle.janus_syntax.specs.declared.token.Sign.TheVariants as sign
use Rattle.janus_syntax.specs.declared.token.Keyword.TheVariants as keyword
use Rattle.janus_syntax.specs.declared.tree.Name as code_name
use Rattle.janus_syntax.specs.Tokens.{Token, Name, Number, Sign_of, Keyword_of}
use Rattle.janus_syntax.specs.Tree.{Name as Named, named, Call, Uncall, name_view, names_view}
use Rattle.janus_syntax.specs.Forms.{Part, Names, More_names, The_sign, A_name, Form, done, take, part}
use Rattle.janus_syntax.specs.Table.{rule, sign_then, call_then}
use Rattle.janus_syntax.specs.Grammar.{all, depth_limit, operator_limit, Refusal}
use Rattle.janus_syntax.specs.Reader.{Stack, waits, at, run, next}
use Rattle.janus_syntax.specs.Reading.{TokenGoes, TokenFails, count, Moves, BeginsWithSign}
use Rattle.janus_syntax.specs.Statements.{is_name, IsStm, FailsStm, AreNames, FailNames, IsCall, FailsCall}
use Rattle.janus_syntax.proofs.SoFar.{AtNames, AreNamed}
use Rattle.janus_syntax.proofs.Agrees.{run_hands, left_behind}
use Rattle.janus_syntax.proofs.Parts.{moves_on, moves_stop, token_moves, token_stops, begins_part}
use Rattle.janus_syntax.proofs.Operands.{begun_plain}

-- ---- names

pub view_push : (xs : List code_name.Name) (x : code_name.Name) → names_view (xs ++ x ∷ []) ≡ names_view xs ++ name_view x ∷ []
view_push xs x = map-append name_view xs (x ∷ [])

no_names : (from : List Token) → is_name (next from) ≡ false → (t : Token) → next from ≡ Some t → rule Names t ≡ None
no_names [] h t e = absurd cc
no_names (Name x place ∷ rest) h t e = absurd cc
no_names (Number n place ∷ rest) h t e = let same : Number n place ≡ t = cc in subst (λ x. rule Names x ≡ None) same refl
no_names (Sign_of s place ∷ rest) h t e = let same : Sign_of s place ≡ t = cc in subst (λ x. rule Names x ≡ None) same refl
no_names (Keyword_of w place ∷ rest) h t e = let same : Keyword_of w place ≡ t = cc in subst (λ x. rule Names x ≡ None) same refl

abbrev NoComma : List Token → Type 0
NoComma from = (behind : List Token) → BeginsWithSign sign.Comma from behind → ⊥

no_comma : (from : List Token) → NoComma from → (t : Token) → next from ≡ Some t → rule More_names t ≡ None
no_comma [] h t e = absurd cc
no_comma (Sign_of sign.Comma place ∷ rest) h t e = absurd (h rest (record { at = place; is = refl }))
no_comma (Sign_of s place ∷ rest) h t e = let same : Sign_of s place ≡ t = cc in subst (λ x. rule More_names x ≡ None) same refl
no_comma (Name x place ∷ rest) h t e = let same : Name x place ≡ t = cc in subst (λ x. rule More_names x ≡ None) same refl
no_comma (Number n place ∷ rest) h t e = let same : Number n place ≡ t = cc in subst (λ x. rule More_names x ≡ None) same refl
no_comma (Keyword_of w place ∷ rest) h t e = let same : Keyword_of w place ≡ t = cc in subst (λ x. rule More_names x ≡ None) same refl

pub no_name : (from : List Token) → is_name (next from) ≡ false → AreNames [] from from
no_name from n = record { goes = λ d room p k g S u h. (u, h, left_behind Names k S (count d u) [] from refl (no_names from n)); shorter = omega arith }

pub first_name : (x : List ℕ) (place : Span) (rest : List Token) → AreNamed (named x place ∷ []) (Name x place ∷ rest) rest
first_name x place rest =
    record {
      goes = λ d room p k goal S u h.
          record {
            other = Names;
            form = λ xs. done (named x place ∷ xs);
            stack = waits {q = Names} k S;
            stands = (u, h, begins_part Names k S d u (Name x place) rest (part More_names (λ xs. done (named x place ∷ xs))) refl room h);
            onward = λ ys ts v. run_hands all Names k S (count d v) (named x place ∷ ys) ts;
          };
      shorter = omega arith;
    }

abbrev one_more : Form More_names
one_more = take A_name (λ x. part More_names (λ xs. done (x ∷ xs)))

comma_begins : {goal p : Part} (k : List Named → Form p) (S : Stack goal p) (d u : ℕ) {rest behind : List Token} → d ≤ depth_limit → u ≤ operator_limit →
    BeginsWithSign sign.Comma rest behind →
    run all rest (at (part More_names k) S (count d u)) ≡ run all behind (at one_more (waits {q = More_names} k S) (count d u))
comma_begins k S d u {rest} {behind} room h b =
    subst (λ ts. run all ts (at (part More_names k) S (count d u)) ≡ run all behind (at one_more (waits {q = More_names} k S) (count d u))) (sym b.is)
    (begins_part More_names k S d u (Sign_of sign.Comma b.at) behind one_more refl room h)

next_name : {d : ℕ} {xs : List Named} {y : Named} {goal p : Part} {k : List Named → Form p} {S : Stack goal p} {out : _} {rest behind after : List Token} →
    d ≤ depth_limit →
    AtNames d xs goal out rest p k S → BeginsWithSign sign.Comma rest behind → TokenGoes A_name y behind after → AtNames d (xs ++ y ∷ []) goal out after p k S
next_name {d} {xs} {y} {goal} {p} {k} {S} room x b t =
    record {
      other = More_names;
      form = λ ys. done (y ∷ ys);
      stack = waits {q = More_names} x.form x.stack;
      stands = (
        x.stands.0,
        x.stands.1,
        x.stands.2 ∙ comma_begins x.form x.stack d x.stands.0 room x.stands.1 b
            ∙ t.goes goal More_names (λ y. part More_names (λ ys. done (y ∷ ys))) (waits {q = More_names} x.form x.stack) (count d x.stands.0),
      );
      onward = λ ys ts v. run_hands all More_names x.form x.stack (count d v) (y ∷ ys) ts ∙ x.onward (y ∷ ys) ts v
          ∙ ap (λ l. run all ts (at (k l) S (count d v))) (sym (append_assoc xs (y ∷ []) ys));
    }

pub named_goes_on : {xs : List Named} {y : Named} {from rest behind after : List Token} → AreNamed xs from rest → BeginsWithSign sign.Comma rest behind →
    TokenGoes A_name y behind after → AreNamed (xs ++ y ∷ []) from after
named_goes_on a b t =
    record {
      goes = λ d room p k goal S u h. next_name room (a.goes d room p k goal S u h) b t;
      shorter = let s0 = a.shorter in let s1 = ap length b.is in let s2 = t.shorter in omega (arith, s0, s1, s2);
    }

pub named_fails : {xs : List Named} {from rest behind : List Token} (e : Refusal) → AreNamed xs from rest → BeginsWithSign sign.Comma rest behind →
    TokenFails A_name behind e → FailNames from e
named_fails e a b f d room p k goal S u h =
    let x = a.goes d room p k goal S u h in
    x.stands.2 ∙ comma_begins x.form x.stack d x.stands.0 room x.stands.1 b
    ∙ f goal More_names (λ y. part More_names (λ ys. done (y ∷ ys))) (waits {q = More_names} x.form x.stack) (count d x.stands.0)

pub named_ends : {xs : List Named} {from rest : List Token} → AreNamed xs from rest → NoComma rest → AreNames xs from rest
named_ends {xs} {from} {rest} a n =
    record {
      goes = λ d room p k goal S u h.
          let x = a.goes d room p k goal S u h in
          let v = x.stands.0 in (
            v,
            x.stands.1,
            x.stands.2
                ∙ left_behind More_names x.form x.stack (count d v) [] rest refl (no_comma rest n)
                ∙ x.onward [] rest v
                ∙ ap (λ l. run all rest (at (k l) S (count d v))) (append-nil xs),
          );
      shorter = a.shorter;
    }

-- ---- a call, behind its keyword

abbrev to_open : {p : Part} → (Named → List Named → Form p) → Named → Form p
to_open k f = sign_then sign.Open (part Names (λ xs. sign_then sign.Close (k f xs)))

abbrev to_names : {p : Part} → (Named → List Named → Form p) → Named → Form p
to_names k f = part Names (λ xs. sign_then sign.Close (k f xs))

module _ {f : Named} {from r1 : List Token} (i : TokenGoes A_name f from r1) where
  at_open : (d : ℕ) (p : Part) (k : Named → List Named → Form p) → Moves d (call_then k) from (to_open k f) r1
  at_open d p k = token_moves d A_name (to_open k) f from r1 i

  at_names : {r2 : List Token} → TokenGoes (The_sign sign.Open) tt r1 r2 → (d : ℕ) (p : Part) (k : Named → List Named → Form p) →
      Moves d (call_then k) from (to_names k f) r2
  at_names {r2} o d p k =
      moves_on d (call_then k) (to_open k f) (to_names k f) from r1 r2 (at_open d p k) (token_moves d (The_sign sign.Open) (λ v. to_names k f) tt r1 r2 o)

  at_close : {xs : List Named} {r2 r3 : List Token} → TokenGoes (The_sign sign.Open) tt r1 r2 → AreNames xs r2 r3 → (d : ℕ) → d ≤ depth_limit →
      (p : Part) (k : Named → List Named → Form p) → Moves d (call_then k) from (sign_then sign.Close (k f xs)) r3
  at_close {xs} {r2} {r3} o n d room p k = moves_on d (call_then k) (to_names k f) (sign_then sign.Close (k f xs)) from r2 r3 (at_names o d p k)
      (n.goes d room p (λ ys. sign_then sign.Close (k f ys)))

  pub call_is : {xs : List Named} {r2 r3 rest : List Token} → TokenGoes (The_sign sign.Open) tt r1 r2 → AreNames xs r2 r3 →
      TokenGoes (The_sign sign.Close) tt r3 rest → IsCall f xs from rest
  call_is {xs} {r2} {r3} {rest} o n c =
      record {
        goes = λ d room p k. moves_on d (call_then k) (sign_then sign.Close (k f xs)) (k f xs) from r3 rest (at_close o n d room p k)
            (token_moves d (The_sign sign.Close) (λ v. k f xs) tt r3 rest c);
        shorter = let s0 = i.shorter in let s1 = o.shorter in let s2 = n.shorter in let s3 = c.shorter in omega (arith, s0, s1, s2, s3);
      }

  pub call_stops_open : (e : Refusal) → TokenFails (The_sign sign.Open) r1 e → FailsCall from e
  call_stops_open e x d room p k =
      moves_stop d (call_then k) (to_open k f) from r1 e (at_open d p k) (token_stops d (The_sign sign.Open) (λ v. to_names k f) r1 e x)

  pub call_stops_names : {r2 : List Token} (e : Refusal) → TokenGoes (The_sign sign.Open) tt r1 r2 → FailNames r2 e → FailsCall from e
  call_stops_names {r2} e o x d room p k =
      moves_stop d (call_then k) (to_names k f) from r2 e (at_names o d p k) (x d room p (λ ys. sign_then sign.Close (k f ys)))

  pub call_stops_close : {xs : List Named} {r2 r3 : List Token} (e : Refusal) → TokenGoes (The_sign sign.Open) tt r1 r2 → AreNames xs r2 r3 →
      TokenFails (The_sign sign.Close) r3 e → FailsCall from e
  call_stops_close {xs} {r2} {r3} e o n x d room p k =
      moves_stop d (call_then k) (sign_then sign.Close (k f xs)) from r3 e (at_close o n d room p k) (token_stops d (The_sign sign.Close) (λ v. k f xs) r3 e x)

pub call_stops_name : (from : List Token) (e : Refusal) → TokenFails A_name from e → FailsCall from e
call_stops_name from e x d room p k = token_stops d A_name (to_open k) from e x

-- ---- calls as statements

pub call_begins : (place : Span) (d : ℕ) {f : Named} {xs : List Named} {rest after : List Token} → d ≤ depth_limit → IsCall f xs rest after →
    IsStm d (Call f xs) (Keyword_of keyword.Call place ∷ rest) after
call_begins place d {rest = rest} room i =
    record {
      begins = refl;
      goes = λ g p k S u h. let a = i.goes d room p (λ f xs. k (Call f xs)) g S u h in
          (a.0, a.1, begun_plain (call_then (λ f xs. k (Call f xs))) S d u rest room h ∙ a.2);
      shorter = let y = i.shorter in omega (arith, y);
    }

pub call_stops : (place : Span) (d : ℕ) (rest : List Token) (e : Refusal) → d ≤ depth_limit → FailsCall rest e →
    FailsStm d (Keyword_of keyword.Call place ∷ rest) e
call_stops place d rest e room x =
    record {
      begins = refl;
      stops = λ g p k S u h. begun_plain (call_then (λ f xs. k (Call f xs))) S d u rest room h
          ∙ x d room p (λ f xs. k (Call f xs)) g S u h;
    }

pub uncall_begins : (place : Span) (d : ℕ) {f : Named} {xs : List Named} {rest after : List Token} → d ≤ depth_limit → IsCall f xs rest after →
    IsStm d (Uncall f xs) (Keyword_of keyword.Uncall place ∷ rest) after
uncall_begins place d {rest = rest} room i =
    record {
      begins = refl;
      goes = λ g p k S u h. let a = i.goes d room p (λ f xs. k (Uncall f xs)) g S u h in
          (a.0, a.1, begun_plain (call_then (λ f xs. k (Uncall f xs))) S d u rest room h ∙ a.2);
      shorter = let y = i.shorter in omega (arith, y);
    }

pub uncall_stops : (place : Span) (d : ℕ) (rest : List Token) (e : Refusal) → d ≤ depth_limit → FailsCall rest e →
    FailsStm d (Keyword_of keyword.Uncall place ∷ rest) e
uncall_stops place d rest e room x =
    record {
      begins = refl;
      stops = λ g p k S u h. begun_plain (call_then (λ f xs. k (Uncall f xs))) S d u rest room h
          ∙ x d room p (λ f xs. k (Uncall f xs)) g S u h;
    }
