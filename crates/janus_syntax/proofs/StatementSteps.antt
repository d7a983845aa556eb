-- The parser's statements, over plain lists.
use Rattle.std.proofs.Common.{◌≡◌, ℕ, ◌≤◌, List, [], ◌∷◌, Some, None, refl, sym, subst, ◌∙◌, arith}
use Rattle.janus_syntax.specs.declared.token.Span.{Span}
use Rattle.janus_syntax.specs.declared.token.Keyword.{Keyword}
use Rattle.janus_syntax.specs.declared.token.Keyword.TheVariants as keyword
use Rattle.janus_syntax.specs.Tokens.{Token, Name, Number, Sign_of, Keyword_of}
use Rattle.janus_syntax.specs.Tree.{Exp, Stm, If, Loop, Block}
use Rattle.janus_syntax.specs.Forms.{Part, Body, Else_part, Do_part, Loop_part, Whole, Tree, The_keyword, Form, done, part, close}
use Rattle.janus_syntax.specs.Table.{rule, left_out, begins, keyword_then, skip_block}
use Rattle.janus_syntax.specs.Grammar.{all, depth_limit, Refusal}
use Rattle.janus_syntax.specs.Reader.{waits, next}
use Rattle.janus_syntax.specs.Reading.{TokenGoes, TokenFails, count, Moves, IsPart, FailsPart, BeginsWith}
use Rattle.janus_syntax.specs.Statements.{if_form, from_form, IsIf, FailsIf, IsLoop, FailsLoop, IsOptional, there, left, FailsOptional}
use Rattle.janus_syntax.proofs.Agrees.{run_hands, left_behind}
use Rattle.janus_syntax.proofs.Parts.{moves_on, moves_stop, token_moves, token_stops, begins_part}

-- ---- parts that begin with a keyword and may be left out

other_than : (w : Keyword) (q : Part) → ((t : Token) (rest : List Token) → ((behind : List Token) → BeginsWith w (t ∷ rest) behind → ⊥) → rule q t ≡ None) →
    (from : List Token) → ((behind : List Token) → BeginsWith w from behind → ⊥) → (t : Token) → next from ≡ Some t → rule q t ≡ None
other_than w q f [] h t e = absurd cc
other_than w q f (u ∷ rest) h t e = let same : u ≡ t = cc in subst (λ x. rule q x ≡ None) same (f u rest h)

no_else : (t : Token) (rest : List Token) → ((behind : List Token) → BeginsWith keyword.Else (t ∷ rest) behind → ⊥) → rule Else_part t ≡ None
no_else (Keyword_of keyword.Else place) rest h = absurd (h rest (record { at = place; is = refl }))
no_else (Keyword_of _ place) rest h = refl
no_else (Name x place) rest h = refl
no_else (Number n place) rest h = refl
no_else (Sign_of s place) rest h = refl

no_do : (t : Token) (rest : List Token) → ((behind : List Token) → BeginsWith keyword.Do (t ∷ rest) behind → ⊥) → rule Do_part t ≡ None
no_do (Keyword_of keyword.Do place) rest h = absurd (h rest (record { at = place; is = refl }))
no_do (Keyword_of _ place) rest h = refl
no_do (Name x place) rest h = refl
no_do (Number n place) rest h = refl
no_do (Sign_of s place) rest h = refl

no_loop : (t : Token) (rest : List Token) → ((behind : List Token) → BeginsWith keyword.Loop (t ∷ rest) behind → ⊥) → rule Loop_part t ≡ None
no_loop (Keyword_of keyword.Loop place) rest h = absurd (h rest (record { at = place; is = refl }))
no_loop (Keyword_of _ place) rest h = refl
no_loop (Name x place) rest h = refl
no_loop (Number n place) rest h = refl
no_loop (Sign_of s place) rest h = refl

-- one of them, and its tree
module _ (w : Keyword) (q : Part) (v : Block → Tree q) (is : (place : Span) → rule q (Keyword_of w place) ≡ begins (part Body (λ b. done (v b)))) where
  keyword_and_body : (d : ℕ) (b : Block) (from behind rest : List Token) → d ≤ depth_limit → BeginsWith w from behind → IsPart Body d b behind rest →
      IsPart q d (v b) from rest
  keyword_and_body d b from behind rest room begins i =
      subst (λ ts. IsPart q d (v b) ts rest) (sym begins.is)
      (record {
        goes = λ p k g S u h.
            let a = i.goes q (λ x. done (v x)) g (waits k S) u h in (
              a.0,
              a.1,
              begins_part q k S d u (Keyword_of w begins.at) behind (part Body (λ x. done (v x))) (is begins.at) room h ∙ a.2
                  ∙ run_hands all q k S (count d a.0) (v b) rest,
            );
        shorter = let s = i.shorter in omega (arith, s);
      })

  keyword_and_failure : (d : ℕ) (from : List Token) (e : Refusal) → d ≤ depth_limit → FailsOptional w d from e → FailsPart q d from e
  keyword_and_failure d from e room (behind, begins, f) =
      subst (λ ts. FailsPart q d ts e) (sym begins.is)
      (λ p k g S u h. begins_part q k S d u (Keyword_of w begins.at) behind (part Body (λ x. done (v x))) (is begins.at) room h
      ∙ f q (λ x. done (v x)) g (waits k S) u h)

  optional_is : (d : ℕ) (b : Block) (from rest : List Token) → d ≤ depth_limit → left_out q ≡ Some (v skip_block) →
      ((t : Token) (ts : List Token) → ((behind : List Token) → BeginsWith w (t ∷ ts) behind → ⊥) → rule q t ≡ None) →
      IsOptional w d b from rest → IsPart q d (v b) from rest
  optional_is d b from rest room out other (there {behind = behind} begins i) = keyword_and_body d b from behind rest room begins i
  optional_is d b from rest room out other (left h) =
      record { goes = λ p k g S u few. (u, few, left_behind q k S (count d u) (v skip_block) from out (other_than w q other from h)); shorter = omega arith }

pub else_is : {d : ℕ} {b : Block} {from rest : List Token} → d ≤ depth_limit → IsOptional keyword.Else d b from rest → IsPart Else_part d b from rest
else_is {d} {b} {from} {rest} room o = optional_is keyword.Else Else_part (λ x. x) (λ place. refl) d b from rest room refl no_else o

pub do_is : {d : ℕ} {b : Block} {from rest : List Token} → d ≤ depth_limit → IsOptional keyword.Do d b from rest → IsPart Do_part d b from rest
do_is {d} {b} {from} {rest} room o = optional_is keyword.Do Do_part (λ x. x) (λ place. refl) d b from rest room refl no_do o

pub loop_is : {d : ℕ} {b : Block} {from rest : List Token} → d ≤ depth_limit → IsOptional keyword.Loop d b from rest → IsPart Loop_part d b from rest
loop_is {d} {b} {from} {rest} room o = optional_is keyword.Loop Loop_part (λ x. x) (λ place. refl) d b from rest room refl no_loop o

-- ---- `if`, behind the keyword

module _ (d : ℕ) (room : d ≤ depth_limit) where
  abbrev if_then : {p : Part} → (Stm → Form p) → Exp → Form p
  if_then k e = keyword_then keyword.Then (part Body (λ s. part Else_part (λ t. keyword_then keyword.Fi (part Whole (λ f. close (k (If e s t f)))))))

  abbrev if_body : {p : Part} → (Stm → Form p) → Exp → Form p
  if_body k e = part Body (λ s. part Else_part (λ t. keyword_then keyword.Fi (part Whole (λ f. close (k (If e s t f))))))

  abbrev if_else : {p : Part} → (Stm → Form p) → Exp → Block → Form p
  if_else k e s = part Else_part (λ t. keyword_then keyword.Fi (part Whole (λ f. close (k (If e s t f)))))

  abbrev if_fi : {p : Part} → (Stm → Form p) → Exp → Block → Block → Form p
  if_fi k e s t = keyword_then keyword.Fi (part Whole (λ f. close (k (If e s t f))))

  abbrev if_end : {p : Part} → (Stm → Form p) → Exp → Block → Block → Form p
  if_end k e s t = part Whole (λ f. close (k (If e s t f)))

  if_to_then : {e : Exp} {from r1 : List Token} → IsPart Whole d e from r1 → (p : Part) (k : Stm → Form p) → Moves d (if_form k) from (if_then k e) r1
  if_to_then {e} i p k = i.goes p (if_then k)

  if_to_body : {e : Exp} {from r1 r2 : List Token} → IsPart Whole d e from r1 → TokenGoes (The_keyword keyword.Then) tt r1 r2 → (p : Part) (k : Stm → Form p) →
      Moves d (if_form k) from (if_body k e) r2
  if_to_body {e} {from} {r1} {r2} i t p k =
      moves_on d (if_form k) (if_then k e) (if_body k e) from r1 r2 (if_to_then i p k) (token_moves d (The_keyword keyword.Then) (λ v. if_body k e) tt r1 r2 t)

  if_to_else : {e : Exp} {s : Block} {from r1 r2 r3 : List Token} → IsPart Whole d e from r1 → TokenGoes (The_keyword keyword.Then) tt r1 r2 →
      IsPart Body d s r2 r3 → (p : Part) (k : Stm → Form p) → Moves d (if_form k) from (if_else k e s) r3
  if_to_else {e} {s} {from} {r1} {r2} {r3} i t b p k =
      moves_on d (if_form k) (if_body k e) (if_else k e s) from r2 r3 (if_to_body i t p k) (b.goes p (if_else k e))

  if_to_fi : {e : Exp} {s t : Block} {from r1 r2 r3 r4 : List Token} → IsPart Whole d e from r1 → TokenGoes (The_keyword keyword.Then) tt r1 r2 →
      IsPart Body d s r2 r3 → IsOptional keyword.Else d t r3 r4 →
      (p : Part) (k : Stm → Form p) → Moves d (if_form k) from (if_fi k e s t) r4
  if_to_fi {e} {s} {t} {from} {r3 = r3} {r4 = r4} i g b o p k =
      moves_on d (if_form k) (if_else k e s) (if_fi k e s t) from r3 r4 (if_to_else i g b p k) (let x = else_is room o in x.goes p (if_fi k e s))

  if_to_end : {e : Exp} {s t : Block} {from r1 r2 r3 r4 r5 : List Token} → IsPart Whole d e from r1 → TokenGoes (The_keyword keyword.Then) tt r1 r2 →
      IsPart Body d s r2 r3 → IsOptional keyword.Else d t r3 r4 → TokenGoes (The_keyword keyword.Fi) tt r4 r5 →
      (p : Part) (k : Stm → Form p) → Moves d (if_form k) from (if_end k e s t) r5
  if_to_end {e} {s} {t} {from} {r4 = r4} {r5 = r5} i g b o w p k =
      moves_on d (if_form k) (if_fi k e s t) (if_end k e s t) from r4 r5 (if_to_fi i g b o p k)
      (token_moves d (The_keyword keyword.Fi) (λ v. if_end k e s t) tt r4 r5 w)

  pub if_is : {e f : Exp} {s t : Block} {from r1 r2 r3 r4 r5 rest : List Token} → IsPart Whole d e from r1 → TokenGoes (The_keyword keyword.Then) tt r1 r2 →
      IsPart Body d s r2 r3 → IsOptional keyword.Else d t r3 r4 →
      TokenGoes (The_keyword keyword.Fi) tt r4 r5 → IsPart Whole d f r5 rest → IsIf d (If e s t f) from rest
  if_is {e} {f} {s} {t} {from} {r5 = r5} {rest = rest} i g b o w j =
      record {
        goes = λ p k. moves_on d (if_form k) (if_end k e s t) (close (k (If e s t f))) from r5 rest (if_to_end i g b o w p k)
            (j.goes p (λ y. close (k (If e s t y))));
        shorter = let x = else_is room o in let s1 = i.shorter in let s2 = g.shorter in let s3 = b.shorter in let s4 = x.shorter in let s5 = w.shorter in
            let s6 = j.shorter in omega (arith, s1, s2, s3, s4, s5, s6);
      }

  pub if_stops_test : (from : List Token) (x : Refusal) → FailsPart Whole d from x → FailsIf d from x
  if_stops_test from x f p k = f p (if_then k)

  pub if_stops_then : {e : Exp} {from r1 : List Token} (x : Refusal) → IsPart Whole d e from r1 → TokenFails (The_keyword keyword.Then) r1 x → FailsIf d from x
  if_stops_then {e} {from} {r1} x i f p k =
      moves_stop d (if_form k) (if_then k e) from r1 x (if_to_then i p k) (token_stops d (The_keyword keyword.Then) (λ v. if_body k e) r1 x f)

  pub if_stops_body : {e : Exp} {from r1 r2 : List Token} (x : Refusal) → IsPart Whole d e from r1 → TokenGoes (The_keyword keyword.Then) tt r1 r2 →
      FailsPart Body d r2 x → FailsIf d from x
  if_stops_body {e} {from} {r1} {r2} x i g f p k = moves_stop d (if_form k) (if_body k e) from r2 x (if_to_body i g p k) (f p (if_else k e))

  pub if_stops_else : {e : Exp} {s : Block} {from r1 r2 r3 : List Token} (x : Refusal) → IsPart Whole d e from r1 →
      TokenGoes (The_keyword keyword.Then) tt r1 r2 → IsPart Body d s r2 r3 → FailsOptional keyword.Else d r3 x → FailsIf d from x
  if_stops_else {e} {s} {from} {r3 = r3} x i g b f p k =
      moves_stop d (if_form k) (if_else k e s) from r3 x (if_to_else i g b p k)
      (keyword_and_failure keyword.Else Else_part (λ y. y) (λ place. refl) d r3 x room f p (if_fi k e s))

  pub if_stops_fi : {e : Exp} {s t : Block} {from r1 r2 r3 r4 : List Token} (x : Refusal) → IsPart Whole d e from r1 →
      TokenGoes (The_keyword keyword.Then) tt r1 r2 → IsPart Body d s r2 r3 → IsOptional keyword.Else d t r3 r4 →
      TokenFails (The_keyword keyword.Fi) r4 x → FailsIf d from x
  if_stops_fi {e} {s} {t} {from} {r4 = r4} x i g b o f p k =
      moves_stop d (if_form k) (if_fi k e s t) from r4 x (if_to_fi i g b o p k) (token_stops d (The_keyword keyword.Fi) (λ v. if_end k e s t) r4 x f)

  pub if_stops_end : {e : Exp} {s t : Block} {from r1 r2 r3 r4 r5 : List Token} (x : Refusal) → IsPart Whole d e from r1 →
      TokenGoes (The_keyword keyword.Then) tt r1 r2 → IsPart Body d s r2 r3 → IsOptional keyword.Else d t r3 r4 →
      TokenGoes (The_keyword keyword.Fi) tt r4 r5 → FailsPart Whole d r5 x → FailsIf d from x
  if_stops_end {e} {s} {t} {from} {r5 = r5} x i g b o w f p k =
      moves_stop d (if_form k) (if_end k e s t) from r5 x (if_to_end i g b o w p k) (f p (λ y. close (k (If e s t y))))

-- ---- loops, behind `from`

module _ (d : ℕ) (room : d ≤ depth_limit) where
  abbrev from_do : {p : Part} → (Stm → Form p) → Exp → Form p
  from_do k e = part Do_part (λ s. part Loop_part (λ t. keyword_then keyword.Until (part Whole (λ f. close (k (Loop e s t f))))))

  abbrev from_loop : {p : Part} → (Stm → Form p) → Exp → Block → Form p
  from_loop k e s = part Loop_part (λ t. keyword_then keyword.Until (part Whole (λ f. close (k (Loop e s t f)))))

  abbrev from_until : {p : Part} → (Stm → Form p) → Exp → Block → Block → Form p
  from_until k e s t = keyword_then keyword.Until (part Whole (λ f. close (k (Loop e s t f))))

  abbrev from_end : {p : Part} → (Stm → Form p) → Exp → Block → Block → Form p
  from_end k e s t = part Whole (λ f. close (k (Loop e s t f)))

  from_to_loop : {e : Exp} {s : Block} {from r1 r2 : List Token} → IsPart Whole d e from r1 → IsOptional keyword.Do d s r1 r2 → (p : Part) (k : Stm → Form p) →
      Moves d (from_form k) from (from_loop k e s) r2
  from_to_loop {e} {s} {from} {r1} {r2} i o p k =
      moves_on d (from_form k) (from_do k e) (from_loop k e s) from r1 r2 (i.goes p (from_do k)) (let x = do_is room o in x.goes p (from_loop k e))

  from_to_until : {e : Exp} {s t : Block} {from r1 r2 r3 : List Token} → IsPart Whole d e from r1 → IsOptional keyword.Do d s r1 r2 →
      IsOptional keyword.Loop d t r2 r3 → (p : Part) (k : Stm → Form p) → Moves d (from_form k) from (from_until k e s t) r3
  from_to_until {e} {s} {t} {from} {r2 = r2} {r3 = r3} i o l p k =
      moves_on d (from_form k) (from_loop k e s) (from_until k e s t) from r2 r3 (from_to_loop i o p k) (let x = loop_is room l in x.goes p (from_until k e s))

  from_to_end : {e : Exp} {s t : Block} {from r1 r2 r3 r4 : List Token} → IsPart Whole d e from r1 → IsOptional keyword.Do d s r1 r2 →
      IsOptional keyword.Loop d t r2 r3 → TokenGoes (The_keyword keyword.Until) tt r3 r4 →
      (p : Part) (k : Stm → Form p) → Moves d (from_form k) from (from_end k e s t) r4
  from_to_end {e} {s} {t} {from} {r3 = r3} {r4 = r4} i o l w p k =
      moves_on d (from_form k) (from_until k e s t) (from_end k e s t) from r3 r4 (from_to_until i o l p k)
      (token_moves d (The_keyword keyword.Until) (λ v. from_end k e s t) tt r3 r4 w)

  pub from_is : {e f : Exp} {s t : Block} {from r1 r2 r3 r4 rest : List Token} → IsPart Whole d e from r1 → IsOptional keyword.Do d s r1 r2 →
      IsOptional keyword.Loop d t r2 r3 → TokenGoes (The_keyword keyword.Until) tt r3 r4 → IsPart Whole d f r4 rest →
      IsLoop d (Loop e s t f) from rest
  from_is {e} {f} {s} {t} {from} {r4 = r4} {rest = rest} i o l w j =
      record {
        goes = λ p k. moves_on d (from_form k) (from_end k e s t) (close (k (Loop e s t f))) from r4 rest (from_to_end i o l w p k)
            (j.goes p (λ y. close (k (Loop e s t y))));
        shorter = let x = do_is room o in let y = loop_is room l in let s1 = i.shorter in let s2 = x.shorter in let s3 = y.shorter in let s4 = w.shorter in
            let s5 = j.shorter in omega (arith, s1, s2, s3, s4, s5);
      }

  pub from_stops_test : (from : List Token) (x : Refusal) → FailsPart Whole d from x → FailsLoop d from x
  from_stops_test from x f p k = f p (from_do k)

  pub from_stops_do : {e : Exp} {from r1 : List Token} (x : Refusal) → IsPart Whole d e from r1 → FailsOptional keyword.Do d r1 x → FailsLoop d from x
  from_stops_do {e} {from} {r1} x i f p k =
      moves_stop d (from_form k) (from_do k e) from r1 x (i.goes p (from_do k))
      (keyword_and_failure keyword.Do Do_part (λ y. y) (λ place. refl) d r1 x room f p (from_loop k e))

  pub from_stops_loop : {e : Exp} {s : Block} {from r1 r2 : List Token} (x : Refusal) → IsPart Whole d e from r1 → IsOptional keyword.Do d s r1 r2 →
      FailsOptional keyword.Loop d r2 x → FailsLoop d from x
  from_stops_loop {e} {s} {from} {r2 = r2} x i o f p k =
      moves_stop d (from_form k) (from_loop k e s) from r2 x (from_to_loop i o p k)
      (keyword_and_failure keyword.Loop Loop_part (λ y. y) (λ place. refl) d r2 x room f p (from_until k e s))

  pub from_stops_until : {e : Exp} {s t : Block} {from r1 r2 r3 : List Token} (x : Refusal) → IsPart Whole d e from r1 → IsOptional keyword.Do d s r1 r2 →
      IsOptional keyword.Loop d t r2 r3 → TokenFails (The_keyword keyword.Until) r3 x → FailsLoop d from x
  from_stops_until {e} {s} {t} {from} {r3 = r3} x i o l f p k =
      moves_stop d (from_form k) (from_until k e s t) from r3 x (from_to_until i o l p k)
      (token_stops d (The_keyword keyword.Until) (λ v. from_end k e s t) r3 x f)

  pub from_stops_end : {e : Exp} {s t : Block} {from r1 r2 r3 r4 : List Token} (x : Refusal) → IsPart Whole d e from r1 → IsOptional keyword.Do d s r1 r2 →
      IsOptional keyword.Loop d t r2 r3 → TokenGoes (The_keyword keyword.Until) tt r3 r4 →
      FailsPart Whole d r4 x → FailsLoop d from x
  from_stops_end {e} {s} {t} {from} {r4 = r4} x i o l w f p k =
      moves_stop d (from_form k) (from_end k e s t) from r4 x (from_to_end i o l w p k) (f p (λ y. close (k (Loop e s t y))))
