-- The parser's locals, over plain lists.
use Rattle.std.proofs.Common.{◌≡◌, ℕ, suc, ◌+◌, ◌<◌, ◌≤◌, List, [], ◌∷◌, length, Some, None, true, false, refl, ap, sym, subst, ◌∙◌, arith}
use Rattle.std.specs.Str.{bytes_eq}
use Rattle.std.specs.Prelude.{nat_eq, ◌&&◌}
use Rattle.janus_meaning.specs.Store.{same_name}
use Rattle.janus_syntax.specs.declared.fault.What.TheVariants as what
use Rattle.janus_syntax.specs.declared.token.Span.{Span}
use Rattle.janus_syntax.specs.declared.token.Sign.TheVariants as sign
use Rattle.janus_syntax.specs.declared.token.Keyword.{Keyword}
use Rattle.janus_syntax.specs.declared.token.Keyword.TheVariants as keyword
use Rattle.janus_syntax.specs.declared.tree.LocalKind.{LocalKind}
use Rattle.janus_syntax.specs.declared.tree.LocalKind.TheVariants as kind
use Rattle.janus_syntax.specs.Tokens.{Token, Name, Number, Sign_of, Keyword_of}
use Rattle.janus_syntax.specs.Tree.{Name as Named, named, Exp, Stm, LocalInt, LocalStack, Block}
use Rattle.janus_syntax.specs.Forms.{Part, Body, Local, Whole, The_keyword, The_sign, A_name, Same_kind, Same_name, Class, Seen, seen, agrees, same_kind}
use Rattle.janus_syntax.specs.Forms.{keyword_kind, what_of, Form, done, take, part, close}
use Rattle.janus_syntax.specs.Table.{rule, keyword_then, sign_then, delocal_then, local_int, local_stack}
use Rattle.janus_syntax.specs.Grammar.{all, depth_limit, Refusal, Expected, TooNested, DelocalName}
use Rattle.janus_syntax.specs.Reader.{waits, at, Stuck, Differs, go_if, enter, taken, follow, run}
use Rattle.janus_syntax.specs.Reading.{TokenGoes, TokenFails, count, Moves, Stops, IsPart, FailsPart, BeginsWith}
use Rattle.janus_syntax.specs.Statements.{IsStm, FailsStm, IsDelocal, FailsDelocal, IsLocalInt, FailsLocalInt, IsLocalStack, FailsLocalStack}
use Rattle.janus_syntax.proofs.Agrees.{run_hands}
use Rattle.janus_syntax.proofs.Steps.{token_goes, token_fails}
use Rattle.janus_syntax.proofs.Parts.{moves_on, moves_stop, token_moves, token_stops, begins_part, ends_construct}
use Rattle.janus_syntax.proofs.Operands.{begun_opens, begun_deep}

-- ---- tokens that have to be the same

-- a token of the class that is another one
pub token_differs : (c : Class) (v : Seen c) (t : Token) (rest : List Token) → seen c t ≡ Some v → agrees c v ≡ false →
    TokenFails c (t ∷ rest) (DelocalName (suc (length rest)))
token_differs c v t rest is other g p k S m =
    ap (λ o. follow (λ n. run all rest n) (what_of c) (suc (length rest)) (taken c all o k S m)) is
    ∙ ap (λ b. follow (λ n. run all rest n) (what_of c) (suc (length rest)) (go_if b (at (k v) S m) Differs)) other

pub kind_goes : (j : LocalKind) (w : Keyword) (place : Span) (rest : List Token) → keyword_kind w ≡ Some j →
    TokenGoes (Same_kind j) j (Keyword_of w place ∷ rest) rest
kind_goes j w place rest e = token_goes (Same_kind j) j (Keyword_of w place) rest e (same_itself j)
  where
    same_itself : (j : LocalKind) → same_kind j j ≡ true
    same_itself kind.Int = refl
    same_itself kind.Stack = refl

pub kind_differs : (j i : LocalKind) (w : Keyword) (place : Span) (rest : List Token) → keyword_kind w ≡ Some i → (i ≡ j → ⊥) →
    TokenFails (Same_kind j) (Keyword_of w place ∷ rest) (DelocalName (suc (length rest)))
kind_differs j i w place rest e n = token_differs (Same_kind j) i (Keyword_of w place) rest e (other j i n)
  where
    other : (j i : LocalKind) → (i ≡ j → ⊥) → same_kind j i ≡ false
    other kind.Int kind.Int n = absurd (n refl)
    other kind.Int kind.Stack n = refl
    other kind.Stack kind.Int n = refl
    other kind.Stack kind.Stack n = absurd (n refl)

pub no_kind : (j : LocalKind) (w : Keyword) (place : Span) (rest : List Token) → keyword_kind w ≡ None →
    TokenFails (Same_kind j) (Keyword_of w place ∷ rest) (Expected what.Kind (suc (length rest)))
no_kind j w place rest e = token_fails (Same_kind j) (Keyword_of w place) rest e

-- names are the same where their octets are
pub same_octets : (x y : List ℕ) → same_name x y ≡ bytes_eq x y
same_octets [] [] = refl
same_octets [] (d ∷ y) = refl
same_octets (c ∷ x) [] = refl
same_octets (c ∷ x) (d ∷ y) = ap (λ b. nat_eq c d && b) (same_octets x y)

pub name_goes : (x y : List ℕ) (there place : Span) (rest : List Token) → same_name x y ≡ true →
    TokenGoes (Same_name (named x there)) (named y place) (Name y place ∷ rest) rest
name_goes x y there place rest e = token_goes (Same_name (named x there)) (named y place) (Name y place) rest refl e

pub name_differs : (x y : List ℕ) (there place : Span) (rest : List Token) → same_name x y ≡ false →
    TokenFails (Same_name (named x there)) (Name y place ∷ rest) (DelocalName (suc (length rest)))
name_differs x y there place rest e = token_differs (Same_name (named x there)) (named y place) (Name y place) rest refl e

-- ---- `delocal`, a kind, a name and `=`

module _ (j : LocalKind) (x : Named) where
  -- the forms on the way
  abbrev delocal_kind : {p : Part} → (Named → Form p) → Form p
  delocal_kind k = take (Same_kind j) (λ i. take (Same_name x) (λ y. sign_then sign.Equals (k y)))

  abbrev delocal_name : {p : Part} → (Named → Form p) → Form p
  delocal_name k = take (Same_name x) (λ y. sign_then sign.Equals (k y))

  pub delocal_is : {i : LocalKind} {y : Named} {from r1 r2 r3 rest : List Token} → TokenGoes (The_keyword keyword.Delocal) tt from r1 →
      TokenGoes (Same_kind j) i r1 r2 → TokenGoes (Same_name x) y r2 r3 → TokenGoes (The_sign sign.Equals) tt r3 rest →
      IsDelocal j x y from rest
  delocal_is {i} {y} w n m e =
      record {
        goes = λ g p k S c.
            w.goes g p (λ v. delocal_kind k) S c
            ∙ n.goes g p (λ v. delocal_name k) S c
            ∙ m.goes g p (λ z. sign_then sign.Equals (k z)) S c
            ∙ e.goes g p (λ v. k y) S c;
        shorter = let s1 = w.shorter in let s2 = n.shorter in let s3 = m.shorter in let s4 = e.shorter in omega (arith, s1, s2, s3, s4);
      }

  pub delocal_stops_keyword : (from : List Token) (e : Refusal) → TokenFails (The_keyword keyword.Delocal) from e → FailsDelocal j x from e
  delocal_stops_keyword from e f g p k S c = f g p (λ v. delocal_kind k) S c

  pub delocal_stops_kind : {from r1 : List Token} (e : Refusal) → TokenGoes (The_keyword keyword.Delocal) tt from r1 → TokenFails (Same_kind j) r1 e →
      FailsDelocal j x from e
  delocal_stops_kind e w f g p k S c = w.goes g p (λ v. delocal_kind k) S c ∙ f g p (λ v. delocal_name k) S c

  pub delocal_stops_name : {i : LocalKind} {from r1 r2 : List Token} (e : Refusal) → TokenGoes (The_keyword keyword.Delocal) tt from r1 →
      TokenGoes (Same_kind j) i r1 r2 → TokenFails (Same_name x) r2 e → FailsDelocal j x from e
  delocal_stops_name e w n f g p k S c = w.goes g p (λ v. delocal_kind k) S c ∙ n.goes g p (λ v. delocal_name k) S c
      ∙ f g p (λ z. sign_then sign.Equals (k z)) S c

  pub delocal_stops_equals : {i : LocalKind} {y : Named} {from r1 r2 r3 : List Token} (e : Refusal) → TokenGoes (The_keyword keyword.Delocal) tt from r1 →
      TokenGoes (Same_kind j) i r1 r2 → TokenGoes (Same_name x) y r2 r3 → TokenFails (The_sign sign.Equals) r3 e →
      FailsDelocal j x from e
  delocal_stops_equals {i} {y} e w n m f g p k S c =
      w.goes g p (λ v. delocal_kind k) S c
      ∙ n.goes g p (λ v. delocal_name k) S c
      ∙ m.goes g p (λ z. sign_then sign.Equals (k z)) S c
      ∙ f g p (λ v. k y) S c

delocal_moves : {p : Part} (d : ℕ) (j : LocalKind) (x y : Named) (k : Named → Form p) (from rest : List Token) → IsDelocal j x y from rest →
    Moves d (delocal_then j x k) from (k y) rest
delocal_moves {p} d j x y k from rest i g S u h = (u, h, i.goes g p k S (count d u))

delocal_stops : {p : Part} (d : ℕ) (j : LocalKind) (x : Named) (k : Named → Form p) (from : List Token) (e : Refusal) → FailsDelocal j x from e →
    Stops d (delocal_then j x k) from e
delocal_stops {p} d j x k from e f g S u h = f g p k S (count d u)

-- ---- a local number, behind `local int`

module _ (d : ℕ) where
  -- the forms on the way
  abbrev int_equals : {p : Part} → (Stm → Form p) → Named → Form p
  int_equals k x = sign_then sign.Equals (part Whole (λ e. part Body (λ s. delocal_then kind.Int x (λ y. part Whole (λ f. k (LocalInt x e s y f))))))

  abbrev int_first : {p : Part} → (Stm → Form p) → Named → Form p
  int_first k x = part Whole (λ e. part Body (λ s. delocal_then kind.Int x (λ y. part Whole (λ f. k (LocalInt x e s y f)))))

  abbrev int_body : {p : Part} → (Stm → Form p) → Named → Exp → Form p
  int_body k x e = part Body (λ s. delocal_then kind.Int x (λ y. part Whole (λ f. k (LocalInt x e s y f))))

  abbrev int_delocal : {p : Part} → (Stm → Form p) → Named → Exp → Block → Form p
  int_delocal k x e s = delocal_then kind.Int x (λ y. part Whole (λ f. k (LocalInt x e s y f)))

  abbrev int_last : {p : Part} → (Stm → Form p) → Named → Exp → Block → Named → Form p
  int_last k x e s y = part Whole (λ f. k (LocalInt x e s y f))

  int_to_equals : {x : Named} {from r1 : List Token} → TokenGoes A_name x from r1 → (p : Part) (k : Stm → Form p) →
      Moves d (local_int k) from (int_equals k x) r1
  int_to_equals {x} {from} {r1} n p k = token_moves d A_name (int_equals k) x from r1 n

  int_to_first : {x : Named} {from r1 r2 : List Token} → TokenGoes A_name x from r1 → TokenGoes (The_sign sign.Equals) tt r1 r2 →
      (p : Part) (k : Stm → Form p) → Moves d (local_int k) from (int_first k x) r2
  int_to_first {x} {from} {r1} {r2} n q p k =
      moves_on d (local_int k) (int_equals k x) (int_first k x) from r1 r2 (int_to_equals n p k)
      (token_moves d (The_sign sign.Equals) (λ v. int_first k x) tt r1 r2 q)

  int_to_body : {x : Named} {e : Exp} {from r1 r2 r3 : List Token} → TokenGoes A_name x from r1 → TokenGoes (The_sign sign.Equals) tt r1 r2 →
      IsPart Whole d e r2 r3 → (p : Part) (k : Stm → Form p) → Moves d (local_int k) from (int_body k x e) r3
  int_to_body {x} {e} {from} {r2 = r2} {r3 = r3} n q i p k =
      moves_on d (local_int k) (int_first k x) (int_body k x e) from r2 r3 (int_to_first n q p k) (i.goes p (int_body k x))

  int_to_delocal : {x : Named} {e : Exp} {s : Block} {from r1 r2 r3 r4 : List Token} → TokenGoes A_name x from r1 → TokenGoes (The_sign sign.Equals) tt r1 r2 →
      IsPart Whole d e r2 r3 → IsPart Body d s r3 r4 →
      (p : Part) (k : Stm → Form p) → Moves d (local_int k) from (int_delocal k x e s) r4
  int_to_delocal {x} {e} {s} {from} {r3 = r3} {r4 = r4} n q i b p k =
      moves_on d (local_int k) (int_body k x e) (int_delocal k x e s) from r3 r4 (int_to_body n q i p k) (b.goes p (int_delocal k x e))

  int_to_last : {x y : Named} {e : Exp} {s : Block} {from r1 r2 r3 r4 r5 : List Token} → TokenGoes A_name x from r1 →
      TokenGoes (The_sign sign.Equals) tt r1 r2 → IsPart Whole d e r2 r3 → IsPart Body d s r3 r4 → IsDelocal kind.Int x y r4 r5 →
      (p : Part) (k : Stm → Form p) → Moves d (local_int k) from (int_last k x e s y) r5
  int_to_last {x} {y} {e} {s} {from} {r4 = r4} {r5 = r5} n q i b o p k =
      moves_on d (local_int k) (int_delocal k x e s) (int_last k x e s y) from r4 r5 (int_to_delocal n q i b p k)
      (delocal_moves d kind.Int x y (int_last k x e s) r4 r5 o)

  pub int_is : {x y : Named} {e f : Exp} {s : Block} {from r1 r2 r3 r4 r5 rest : List Token} → TokenGoes A_name x from r1 →
      TokenGoes (The_sign sign.Equals) tt r1 r2 → IsPart Whole d e r2 r3 → IsPart Body d s r3 r4 → IsDelocal kind.Int x y r4 r5 →
      IsPart Whole d f r5 rest → IsLocalInt d (LocalInt x e s y f) from rest
  int_is {x} {y} {e} {f} {s} {from} {r5 = r5} {rest = rest} n q i b o l =
      record {
        goes = λ p k. moves_on d (local_int k) (int_last k x e s y) (k (LocalInt x e s y f)) from r5 rest (int_to_last n q i b o p k)
            (l.goes p (λ z. k (LocalInt x e s y z)));
        shorter = let s1 = n.shorter in let s2 = q.shorter in let s3 = i.shorter in let s4 = b.shorter in let s5 = o.shorter in let s6 = l.shorter in
            omega (arith, s1, s2, s3, s4, s5, s6);
      }

  pub int_stops_name : (from : List Token) (r : Refusal) → TokenFails A_name from r → FailsLocalInt d from r
  int_stops_name from r f p k = token_stops d A_name (int_equals k) from r f

  pub int_stops_equals : {x : Named} {from r1 : List Token} (r : Refusal) → TokenGoes A_name x from r1 → TokenFails (The_sign sign.Equals) r1 r →
      FailsLocalInt d from r
  int_stops_equals {x} {from} {r1} r n f p k =
      moves_stop d (local_int k) (int_equals k x) from r1 r (int_to_equals n p k) (token_stops d (The_sign sign.Equals) (λ v. int_first k x) r1 r f)

  pub int_stops_first : {x : Named} {from r1 r2 : List Token} (r : Refusal) → TokenGoes A_name x from r1 → TokenGoes (The_sign sign.Equals) tt r1 r2 →
      FailsPart Whole d r2 r → FailsLocalInt d from r
  int_stops_first {x} {from} {r2 = r2} r n q f p k = moves_stop d (local_int k) (int_first k x) from r2 r (int_to_first n q p k) (f p (int_body k x))

  pub int_stops_body : {x : Named} {e : Exp} {from r1 r2 r3 : List Token} (r : Refusal) → TokenGoes A_name x from r1 →
      TokenGoes (The_sign sign.Equals) tt r1 r2 → IsPart Whole d e r2 r3 → FailsPart Body d r3 r → FailsLocalInt d from r
  int_stops_body {x} {e} {from} {r3 = r3} r n q i f p k =
      moves_stop d (local_int k) (int_body k x e) from r3 r (int_to_body n q i p k) (f p (int_delocal k x e))

  pub int_stops_delocal : {x : Named} {e : Exp} {s : Block} {from r1 r2 r3 r4 : List Token} (r : Refusal) → TokenGoes A_name x from r1 →
      TokenGoes (The_sign sign.Equals) tt r1 r2 → IsPart Whole d e r2 r3 → IsPart Body d s r3 r4 → FailsDelocal kind.Int x r4 r →
      FailsLocalInt d from r
  int_stops_delocal {x} {e} {s} {from} {r4 = r4} r n q i b f p k =
      moves_stop d (local_int k) (int_delocal k x e s) from r4 r (int_to_delocal n q i b p k) (delocal_stops d kind.Int x (int_last k x e s) r4 r f)

  pub int_stops_last : {x y : Named} {e : Exp} {s : Block} {from r1 r2 r3 r4 r5 : List Token} (r : Refusal) → TokenGoes A_name x from r1 →
      TokenGoes (The_sign sign.Equals) tt r1 r2 → IsPart Whole d e r2 r3 → IsPart Body d s r3 r4 → IsDelocal kind.Int x y r4 r5 →
      FailsPart Whole d r5 r → FailsLocalInt d from r
  int_stops_last {x} {y} {e} {s} {from} {r5 = r5} r n q i b o f p k =
      moves_stop d (local_int k) (int_last k x e s y) from r5 r (int_to_last n q i b o p k) (f p (λ z. k (LocalInt x e s y z)))

-- ---- a local stack, behind `local stack`

module _ (d : ℕ) where
  -- the forms on the way
  abbrev stack_equals : {p : Part} → (Stm → Form p) → Named → Form p
  stack_equals k x =
      sign_then sign.Equals (keyword_then keyword.Nil (part Body (λ s. delocal_then kind.Stack x (λ y. keyword_then keyword.Nil (k (LocalStack x s y))))))

  abbrev stack_nil : {p : Part} → (Stm → Form p) → Named → Form p
  stack_nil k x = keyword_then keyword.Nil (part Body (λ s. delocal_then kind.Stack x (λ y. keyword_then keyword.Nil (k (LocalStack x s y)))))

  abbrev stack_body : {p : Part} → (Stm → Form p) → Named → Form p
  stack_body k x = part Body (λ s. delocal_then kind.Stack x (λ y. keyword_then keyword.Nil (k (LocalStack x s y))))

  abbrev stack_delocal : {p : Part} → (Stm → Form p) → Named → Block → Form p
  stack_delocal k x s = delocal_then kind.Stack x (λ y. keyword_then keyword.Nil (k (LocalStack x s y)))

  abbrev stack_last : {p : Part} → (Stm → Form p) → Named → Block → Named → Form p
  stack_last k x s y = keyword_then keyword.Nil (k (LocalStack x s y))

  stack_to_equals : {x : Named} {from r1 : List Token} → TokenGoes A_name x from r1 → (p : Part) (k : Stm → Form p) →
      Moves d (local_stack k) from (stack_equals k x) r1
  stack_to_equals {x} {from} {r1} n p k = token_moves d A_name (stack_equals k) x from r1 n

  stack_to_nil : {x : Named} {from r1 r2 : List Token} → TokenGoes A_name x from r1 → TokenGoes (The_sign sign.Equals) tt r1 r2 →
      (p : Part) (k : Stm → Form p) → Moves d (local_stack k) from (stack_nil k x) r2
  stack_to_nil {x} {from} {r1} {r2} n q p k =
      moves_on d (local_stack k) (stack_equals k x) (stack_nil k x) from r1 r2 (stack_to_equals n p k)
      (token_moves d (The_sign sign.Equals) (λ v. stack_nil k x) tt r1 r2 q)

  stack_to_body : {x : Named} {from r1 r2 r3 : List Token} → TokenGoes A_name x from r1 → TokenGoes (The_sign sign.Equals) tt r1 r2 →
      TokenGoes (The_keyword keyword.Nil) tt r2 r3 → (p : Part) (k : Stm → Form p) → Moves d (local_stack k) from (stack_body k x) r3
  stack_to_body {x} {from} {r2 = r2} {r3 = r3} n q w p k =
      moves_on d (local_stack k) (stack_nil k x) (stack_body k x) from r2 r3 (stack_to_nil n q p k)
      (token_moves d (The_keyword keyword.Nil) (λ v. stack_body k x) tt r2 r3 w)

  stack_to_delocal : {x : Named} {s : Block} {from r1 r2 r3 r4 : List Token} → TokenGoes A_name x from r1 → TokenGoes (The_sign sign.Equals) tt r1 r2 →
      TokenGoes (The_keyword keyword.Nil) tt r2 r3 → IsPart Body d s r3 r4 →
      (p : Part) (k : Stm → Form p) → Moves d (local_stack k) from (stack_delocal k x s) r4
  stack_to_delocal {x} {s} {from} {r3 = r3} {r4 = r4} n q w b p k =
      moves_on d (local_stack k) (stack_body k x) (stack_delocal k x s) from r3 r4 (stack_to_body n q w p k) (b.goes p (stack_delocal k x))

  stack_to_last : {x y : Named} {s : Block} {from r1 r2 r3 r4 r5 : List Token} → TokenGoes A_name x from r1 → TokenGoes (The_sign sign.Equals) tt r1 r2 →
      TokenGoes (The_keyword keyword.Nil) tt r2 r3 → IsPart Body d s r3 r4 → IsDelocal kind.Stack x y r4 r5 →
      (p : Part) (k : Stm → Form p) → Moves d (local_stack k) from (stack_last k x s y) r5
  stack_to_last {x} {y} {s} {from} {r4 = r4} {r5 = r5} n q w b o p k =
      moves_on d (local_stack k) (stack_delocal k x s) (stack_last k x s y) from r4 r5 (stack_to_delocal n q w b p k)
      (delocal_moves d kind.Stack x y (stack_last k x s) r4 r5 o)

  pub stack_is : {x y : Named} {s : Block} {from r1 r2 r3 r4 r5 rest : List Token} → TokenGoes A_name x from r1 → TokenGoes (The_sign sign.Equals) tt r1 r2 →
      TokenGoes (The_keyword keyword.Nil) tt r2 r3 → IsPart Body d s r3 r4 → IsDelocal kind.Stack x y r4 r5 →
      TokenGoes (The_keyword keyword.Nil) tt r5 rest → IsLocalStack d (LocalStack x s y) from rest
  stack_is {x} {y} {s} {from} {r5 = r5} {rest = rest} n q w b o l =
      record {
        goes = λ p k. moves_on d (local_stack k) (stack_last k x s y) (k (LocalStack x s y)) from r5 rest (stack_to_last n q w b o p k)
            (token_moves d (The_keyword keyword.Nil) (λ v. k (LocalStack x s y)) tt r5 rest l);
        shorter = let s1 = n.shorter in let s2 = q.shorter in let s3 = w.shorter in let s4 = b.shorter in let s5 = o.shorter in let s6 = l.shorter in
            omega (arith, s1, s2, s3, s4, s5, s6);
      }

  pub stack_stops_name : (from : List Token) (r : Refusal) → TokenFails A_name from r → FailsLocalStack d from r
  stack_stops_name from r f p k = token_stops d A_name (stack_equals k) from r f

  pub stack_stops_equals : {x : Named} {from r1 : List Token} (r : Refusal) → TokenGoes A_name x from r1 → TokenFails (The_sign sign.Equals) r1 r →
      FailsLocalStack d from r
  stack_stops_equals {x} {from} {r1} r n f p k =
      moves_stop d (local_stack k) (stack_equals k x) from r1 r (stack_to_equals n p k) (token_stops d (The_sign sign.Equals) (λ v. stack_nil k x) r1 r f)

  pub stack_stops_nil : {x : Named} {from r1 r2 : List Token} (r : Refusal) → TokenGoes A_name x from r1 → TokenGoes (The_sign sign.Equals) tt r1 r2 →
      TokenFails (The_keyword keyword.Nil) r2 r → FailsLocalStack d from r
  stack_stops_nil {x} {from} {r2 = r2} r n q f p k =
      moves_stop d (local_stack k) (stack_nil k x) from r2 r (stack_to_nil n q p k) (token_stops d (The_keyword keyword.Nil) (λ v. stack_body k x) r2 r f)

  pub stack_stops_body : {x : Named} {from r1 r2 r3 : List Token} (r : Refusal) → TokenGoes A_name x from r1 → TokenGoes (The_sign sign.Equals) tt r1 r2 →
      TokenGoes (The_keyword keyword.Nil) tt r2 r3 → FailsPart Body d r3 r → FailsLocalStack d from r
  stack_stops_body {x} {from} {r3 = r3} r n q w f p k =
      moves_stop d (local_stack k) (stack_body k x) from r3 r (stack_to_body n q w p k) (f p (stack_delocal k x))

  pub stack_stops_delocal : {x : Named} {s : Block} {from r1 r2 r3 r4 : List Token} (r : Refusal) → TokenGoes A_name x from r1 →
      TokenGoes (The_sign sign.Equals) tt r1 r2 → TokenGoes (The_keyword keyword.Nil) tt r2 r3 → IsPart Body d s r3 r4 →
      FailsDelocal kind.Stack x r4 r → FailsLocalStack d from r
  stack_stops_delocal {x} {s} {from} {r4 = r4} r n q w b f p k =
      moves_stop d (local_stack k) (stack_delocal k x s) from r4 r (stack_to_delocal n q w b p k) (delocal_stops d kind.Stack x (stack_last k x s) r4 r f)

  pub stack_stops_last : {x y : Named} {s : Block} {from r1 r2 r3 r4 r5 : List Token} (r : Refusal) → TokenGoes A_name x from r1 →
      TokenGoes (The_sign sign.Equals) tt r1 r2 → TokenGoes (The_keyword keyword.Nil) tt r2 r3 → IsPart Body d s r3 r4 → IsDelocal kind.Stack x y r4 r5 →
      TokenFails (The_keyword keyword.Nil) r5 r → FailsLocalStack d from r
  stack_stops_last {x} {y} {s} {from} {r5 = r5} r n q w b o f p k =
      moves_stop d (local_stack k) (stack_last k x s y) from r5 r (stack_to_last n q w b o p k)
      (token_stops d (The_keyword keyword.Nil) (λ v. k (LocalStack x s y)) r5 r f)

-- ---- the part behind `local`

pub local_int_is : {d : ℕ} {s : Stm} {from behind rest : List Token} → d ≤ depth_limit → BeginsWith keyword.Int from behind → IsLocalInt d s behind rest →
    IsPart Local d s from rest
local_int_is {d} {s} {from} {behind} {rest} room b i =
    subst (λ ts. IsPart Local d s ts rest) (sym b.is)
    (record {
      goes = λ p k g S u h.
          let a = i.goes Local done g (waits {q = Local} k S) u h in (
            a.0,
            a.1,
            begins_part Local k S d u (Keyword_of keyword.Int b.at) behind (local_int done) refl room h ∙ a.2
                ∙ run_hands all Local k S (count d a.0) s rest,
          );
      shorter = let y = i.shorter in omega (arith, y);
    })

pub local_int_stops : {d : ℕ} {from behind : List Token} (e : Refusal) → d ≤ depth_limit → BeginsWith keyword.Int from behind → FailsLocalInt d behind e →
    FailsPart Local d from e
local_int_stops {d} {from} {behind} e room b f =
    subst (λ ts. FailsPart Local d ts e) (sym b.is)
    (λ p k g S u h. begins_part Local k S d u (Keyword_of keyword.Int b.at) behind (local_int done) refl room h ∙ f Local done g (waits {q = Local} k S) u h)

pub local_stack_is : {d : ℕ} {s : Stm} {from behind rest : List Token} → d ≤ depth_limit → BeginsWith keyword.Stack from behind → IsLocalStack d s behind rest →
    IsPart Local d s from rest
local_stack_is {d} {s} {from} {behind} {rest} room b i =
    subst (λ ts. IsPart Local d s ts rest) (sym b.is)
    (record {
      goes = λ p k g S u h.
          let a = i.goes Local done g (waits {q = Local} k S) u h in (
            a.0,
            a.1,
            begins_part Local k S d u (Keyword_of keyword.Stack b.at) behind (local_stack done) refl room h ∙ a.2
                ∙ run_hands all Local k S (count d a.0) s rest,
          );
      shorter = let y = i.shorter in omega (arith, y);
    })

pub local_stack_stops : {d : ℕ} {from behind : List Token} (e : Refusal) → d ≤ depth_limit → BeginsWith keyword.Stack from behind → FailsLocalStack d behind e →
    FailsPart Local d from e
local_stack_stops {d} {from} {behind} e room b f =
    subst (λ ts. FailsPart Local d ts e) (sym b.is)
    (λ p k g S u h. begins_part Local k S d u (Keyword_of keyword.Stack b.at) behind (local_stack done) refl room h
    ∙ f Local done g (waits {q = Local} k S) u h)

no_local : (t : Token) (rest : List Token) → ((behind : List Token) → BeginsWith keyword.Int (t ∷ rest) behind → ⊥) →
    ((behind : List Token) → BeginsWith keyword.Stack (t ∷ rest) behind → ⊥) → rule Local t ≡ None
no_local (Keyword_of keyword.Int place) rest h k = absurd (h rest (record { at = place; is = refl }))
no_local (Keyword_of keyword.Stack place) rest h k = absurd (k rest (record { at = place; is = refl }))
no_local (Keyword_of _ place) rest h k = refl
no_local (Name x place) rest h k = refl
no_local (Number n place) rest h k = refl
no_local (Sign_of s place) rest h k = refl

pub kind_is_wanted : (d : ℕ) (from : List Token) → ((behind : List Token) → BeginsWith keyword.Int from behind → ⊥) →
    ((behind : List Token) → BeginsWith keyword.Stack from behind → ⊥) → FailsPart Local d from (Expected what.Kind (length from))
kind_is_wanted d [] n m p k goal S u h = refl
kind_is_wanted d (t ∷ rest) n m p k goal S u h = ap (λ o. follow (λ s. run all rest s) what.Kind (suc (length rest)) (enter all o k S (count d u) Stuck))
    (no_local t rest n m)

-- ---- the statement

pub local_begins : (place : Span) {d : ℕ} {s : Stm} {rest after : List Token} → d < depth_limit → IsPart Local (d + 1) s rest after →
    IsStm d s (Keyword_of keyword.Local place ∷ rest) after
local_begins place {d} {s} {rest} {after} room i =
    record {
      begins = refl;
      goes = λ g p k S u h.
          let a = i.goes p (λ x. close (k x)) g S u h in
          (a.0, a.1, begun_opens (part Local (λ x. close (k x))) S d u rest room h ∙ a.2 ∙ ends_construct (k s) S d a.0 after);
      shorter = let y = i.shorter in omega (arith, y);
    }

pub local_stops : (place : Span) (d : ℕ) (rest : List Token) (r : Refusal) → d < depth_limit → FailsPart Local (d + 1) rest r →
    FailsStm d (Keyword_of keyword.Local place ∷ rest) r
local_stops place d rest r room f =
    record { begins = refl; stops = λ g p k S u h. begun_opens (part Local (λ x. close (k x))) S d u rest room h ∙ f p (λ x. close (k x)) g S u h }

pub local_too_deep : (place : Span) (d : ℕ) (rest : List Token) → d ≡ depth_limit →
    FailsStm d (Keyword_of keyword.Local place ∷ rest) (TooNested (suc (length rest)))
local_too_deep place d rest deep = record { begins = refl; stops = λ g p k S u h. begun_deep 0 (part Local (λ x. close (k x))) S d u rest deep }
