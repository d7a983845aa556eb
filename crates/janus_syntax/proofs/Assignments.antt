-- The parser's assignments, swaps and statements, over plain lists.
use Rattle.std.proofs.Common.{◌≡◌, ℕ, suc, ◌+◌, ◌<◌, ◌≤◌, List, ◌∷◌, length, Option, Some, None, Result, Ok, Err, refl, ap, sym, subst, ◌∙◌, arith}
use Rattle.janus_syntax.specs.declared.token.Span.{Span}
use Rattle.janus_syntax.specs.declared.token.Sign.TheVariants as sign
use Rattle.janus_syntax.specs.declared.token.Keyword.TheVariants as keyword
use Rattle.janus_syntax.specs.declared.problem.Problem.{Problem}
use Rattle.janus_syntax.specs.declared.tree.Update.{Update}
use Rattle.janus_syntax.specs.Tokens.{Token, Name, Sign_of, Keyword_of}
use Rattle.janus_syntax.specs.Tree.{Name as Named, named, Exp, Stm, Skip, Assign, AssignElement, Push, Pop, Swap}
use Rattle.janus_syntax.specs.Forms.{Part, Swap_partner, Target_index, Whole, The_sign, A_name, An_update, Form, done, take, part, close}
use Rattle.janus_syntax.specs.Table.{sign_then, variable_and_stack_then, assignment, behind_target}
use Rattle.janus_syntax.specs.Grammar.{all, depth_limit, Refusal, TooNested}
use Rattle.janus_syntax.specs.Reader.{Stack, waits}
use Rattle.janus_syntax.specs.Reading.{Reads, TokenGoes, TokenFails, IsVariableAndStack, FailsVariableAndStack, count, Moves, Stops, IsPart, FailsPart}
use Rattle.janus_syntax.specs.Reading.{BeginsWithSign}
use Rattle.janus_syntax.specs.Statements.{IsStm, FailsStm, if_form, from_form, assignment_form, target_form, IsBehindTarget, FailsBehindTarget, IsIf, FailsIf}
use Rattle.janus_syntax.specs.Statements.{IsLoop, FailsLoop, IsAssignment, FailsAssignment}
use Rattle.janus_syntax.proofs.Agrees.{run_hands, left_behind}
use Rattle.janus_syntax.proofs.LeftOut.{no_partner, no_target}
use Rattle.janus_syntax.proofs.Steps.{passes_on, no_swapping, no_opening}
use Rattle.janus_syntax.proofs.Parts.{moves_on, moves_stop, token_moves, token_stops, begins_part, opens_part, part_too_deep, ends_construct}
use Rattle.janus_syntax.proofs.Operands.{begun_plain, begun_opens, begun_deep}

abbrev pub NoOpening : List Token → Type 0
NoOpening from = (behind : List Token) → BeginsWithSign sign.OpenIndex from behind → ⊥

-- ---- an assignment to a name

abbrev with_update : {p : Part} → Named → (Stm → Form p) → Option Exp → Form p
with_update x k i = take An_update (λ u. part Whole (λ e. k (assignment x i u e)))

to_update : (d : ℕ) (x : Named) (from : List Token) → NoOpening from → (p : Part) (k : Stm → Form p) →
    Moves d (assignment_form x k) from (with_update x k None) from
to_update d x from n p k g S u h = (u, h, left_behind Target_index (with_update x k) S (count d u) None from refl (λ t e. no_target t (no_opening from n t e)))

to_right : (d : ℕ) (x : Named) (i : Option Exp) (op : Update) (from rest : List Token) → TokenGoes An_update op from rest → (p : Part) (k : Stm → Form p) →
    Moves d (with_update x k i) from (part Whole (λ e. k (assignment x i op e))) rest
to_right d x i op from rest t p k = token_moves d An_update (λ v. part Whole (λ e. k (assignment x i v e))) op from rest t

pub assign_is : {d : ℕ} {x : Named} {op : Update} {e : Exp} {from r1 rest : List Token} → NoOpening from → TokenGoes An_update op from r1 →
    IsPart Whole d e r1 rest → IsAssignment d x (Assign x op e) from rest
assign_is {d} {x} {op} {e} {from} {r1} {rest} n t i =
    record {
      goes = λ p k.
          moves_on d (assignment_form x k) (part Whole (λ y. k (assignment x None op y))) (k (Assign x op e)) from r1 rest
          (moves_on d (assignment_form x k) (with_update x k None) (part Whole (λ y. k (assignment x None op y))) from from r1 (to_update d x from n p k)
          (to_right d x None op from r1 t p k))
          (i.goes p (λ y. k (assignment x None op y)));
      shorter = let a = t.shorter in let b = i.shorter in omega (arith, a, b);
    }

pub assign_stops_update : (d : ℕ) (x : Named) (from : List Token) (r : Refusal) → NoOpening from → TokenFails An_update from r → FailsAssignment d x from r
assign_stops_update d x from r n f p k =
    moves_stop d (assignment_form x k) (with_update x k None) from from r (to_update d x from n p k)
    (token_stops d An_update (λ v. part Whole (λ e. k (assignment x None v e))) from r f)

pub assign_stops_right : (d : ℕ) (x : Named) {op : Update} {from r1 : List Token} (r : Refusal) → NoOpening from → TokenGoes An_update op from r1 →
    FailsPart Whole d r1 r → FailsAssignment d x from r
assign_stops_right d x {op} {from} {r1} r n t f p k =
    moves_stop d (assignment_form x k) (part Whole (λ y. k (assignment x None op y))) from r1 r
    (moves_on d (assignment_form x k) (with_update x k None) (part Whole (λ y. k (assignment x None op y))) from from r1 (to_update d x from n p k)
    (to_right d x None op from r1 t p k))
    (f p (λ y. k (assignment x None op y)))

-- ---- an assignment to an element

abbrev the_index : Form Target_index
the_index = part Whole (λ e. sign_then sign.CloseIndex (close (done (Some e))))

module _ (d : ℕ) (room : d < depth_limit) (x : Named) where
  -- behind the index
  to_element : {i : Exp} {from behind r1 r2 : List Token} → BeginsWithSign sign.OpenIndex from behind → IsPart Whole (d + 1) i behind r1 →
      TokenGoes (The_sign sign.CloseIndex) tt r1 r2 →
      (p : Part) (k : Stm → Form p) → Moves d (assignment_form x k) from (with_update x k (Some i)) r2
  to_element {i} {from} {behind} {r1} {r2} b w c p k =
      subst (λ ts. Moves d (assignment_form x k) ts (with_update x k (Some i)) r2) (sym b.is)
      (λ g S u h.
      let T : Stack g Target_index = waits {q = Target_index} (with_update x k) S in
      let a = w.goes Target_index (λ e. sign_then sign.CloseIndex (close (done (Some e)))) g T u h in (
        a.0,
        a.1,
        opens_part Target_index (with_update x k) S d u (Sign_of sign.OpenIndex b.at) behind the_index refl room h
            ∙ a.2
            ∙ c.goes g Target_index (λ v. close (done (Some i))) T (count (d + 1) a.0)
            ∙ ends_construct (done (Some i)) T d a.0 r2
            ∙ run_hands all Target_index (with_update x k) S (count d a.0) (Some i) r2,
      ))

  to_element_right : {i : Exp} {op : Update} {from behind r1 r2 r3 : List Token} → BeginsWithSign sign.OpenIndex from behind →
      IsPart Whole (d + 1) i behind r1 → TokenGoes (The_sign sign.CloseIndex) tt r1 r2 → TokenGoes An_update op r2 r3 →
      (p : Part) (k : Stm → Form p) → Moves d (assignment_form x k) from (part Whole (λ e. k (assignment x (Some i) op e))) r3
  to_element_right {i} {op} {from} {r2 = r2} {r3 = r3} b w c t p k =
      moves_on d (assignment_form x k) (with_update x k (Some i)) (part Whole (λ e. k (assignment x (Some i) op e))) from r2 r3 (to_element b w c p k)
      (to_right d x (Some i) op r2 r3 t p k)

  pub element_is : {i e : Exp} {op : Update} {from behind r1 r2 r3 rest : List Token} → BeginsWithSign sign.OpenIndex from behind →
      IsPart Whole (d + 1) i behind r1 → TokenGoes (The_sign sign.CloseIndex) tt r1 r2 → TokenGoes An_update op r2 r3 →
      IsPart Whole d e r3 rest → IsAssignment d x (AssignElement x i op e) from rest
  element_is {i} {e} {op} {from} {behind} {r1} {r2} {r3} {rest} b w c t j =
      record {
        goes = λ p k. moves_on d (assignment_form x k) (part Whole (λ y. k (assignment x (Some i) op y))) (k (AssignElement x i op e)) from r3 rest
            (to_element_right b w c t p k) (j.goes p (λ y. k (assignment x (Some i) op y)));
        shorter = let s0 = ap length b.is in let s1 = w.shorter in let s2 = c.shorter in let s3 = t.shorter in let s4 = j.shorter in
            omega (arith, s0, s1, s2, s3, s4);
      }

  pub element_stops_index : {from behind : List Token} (r : Refusal) → BeginsWithSign sign.OpenIndex from behind → FailsPart Whole (d + 1) behind r →
      FailsAssignment d x from r
  element_stops_index {from} {behind} r b f p k =
      subst (λ ts. Stops d (assignment_form x k) ts r) (sym b.is)
      (λ g S u h.
      opens_part Target_index (with_update x k) S d u (Sign_of sign.OpenIndex b.at) behind the_index refl room h
      ∙ f Target_index (λ e. sign_then sign.CloseIndex (close (done (Some e)))) g (waits {q = Target_index} (with_update x k) S) u h)

  pub element_stops_close : {i : Exp} {from behind r1 : List Token} (r : Refusal) → BeginsWithSign sign.OpenIndex from behind →
      IsPart Whole (d + 1) i behind r1 → TokenFails (The_sign sign.CloseIndex) r1 r → FailsAssignment d x from r
  element_stops_close {i} {from} {behind} {r1} r b w f p k =
      subst (λ ts. Stops d (assignment_form x k) ts r) (sym b.is)
      (λ g S u h.
      let T : Stack g Target_index = waits {q = Target_index} (with_update x k) S in
      let a = w.goes Target_index (λ e. sign_then sign.CloseIndex (close (done (Some e)))) g T u h in
      opens_part Target_index (with_update x k) S d u (Sign_of sign.OpenIndex b.at) behind the_index refl room h
      ∙ a.2
      ∙ f g Target_index (λ v. close (done (Some i))) T (count (d + 1) a.0))

  pub element_stops_update : {i : Exp} {from behind r1 r2 : List Token} (r : Refusal) → BeginsWithSign sign.OpenIndex from behind →
      IsPart Whole (d + 1) i behind r1 → TokenGoes (The_sign sign.CloseIndex) tt r1 r2 → TokenFails An_update r2 r →
      FailsAssignment d x from r
  element_stops_update {i} {from} {r2 = r2} r b w c f p k =
      moves_stop d (assignment_form x k) (with_update x k (Some i)) from r2 r (to_element b w c p k)
      (token_stops d An_update (λ v. part Whole (λ e. k (assignment x (Some i) v e))) r2 r f)

  pub element_stops_right : {i : Exp} {op : Update} {from behind r1 r2 r3 : List Token} (r : Refusal) → BeginsWithSign sign.OpenIndex from behind →
      IsPart Whole (d + 1) i behind r1 → TokenGoes (The_sign sign.CloseIndex) tt r1 r2 → TokenGoes An_update op r2 r3 →
      FailsPart Whole d r3 r → FailsAssignment d x from r
  element_stops_right {i} {op} {from} {r3 = r3} r b w c t f p k =
      moves_stop d (assignment_form x k) (part Whole (λ y. k (assignment x (Some i) op y))) from r3 r (to_element_right b w c t p k)
      (f p (λ y. k (assignment x (Some i) op y)))

pub element_too_deep : (d : ℕ) (x : Named) {from behind : List Token} → d ≡ depth_limit → BeginsWithSign sign.OpenIndex from behind →
    FailsAssignment d x from (TooNested (length from))
element_too_deep d x {from} {behind} deep b p k =
    subst (λ ts. Stops d (assignment_form x k) ts (TooNested (length ts))) (sym b.is)
    (λ g S u h. part_too_deep Target_index (with_update x k) S d u (Sign_of sign.OpenIndex b.at) behind the_index refl deep)

-- ---- a swap, or no swap

abbrev pub NoSwapping : List Token → Type 0
NoSwapping from = (behind : List Token) → BeginsWithSign sign.Swap from behind → ⊥

to_assignment : (d : ℕ) (x : Named) (from : List Token) → NoSwapping from → (p : Part) (k : Stm → Form p) →
    Moves d (target_form x k) from (assignment_form x k) from
to_assignment d x from n p k g S u h =
    (u, h, left_behind Swap_partner (λ other. behind_target x other k) S (count d u) None from refl (λ t e. no_partner t (no_swapping from n t e)))

pub assignment_is : {d : ℕ} {x : Named} {s : Stm} {from rest : List Token} → NoSwapping from → IsAssignment d x s from rest → IsBehindTarget d x s from rest
assignment_is {d} {x} {s} {from} {rest} n i =
    record {
      goes = λ p k. moves_on d (target_form x k) (assignment_form x k) (k s) from from rest (to_assignment d x from n p k) (i.goes p k);
      shorter = i.shorter;
    }

pub assignment_stops : (d : ℕ) (x : Named) (from : List Token) (r : Refusal) → NoSwapping from → FailsAssignment d x from r → FailsBehindTarget d x from r
assignment_stops d x from r n f p k = moves_stop d (target_form x k) (assignment_form x k) from from r (to_assignment d x from n p k) (f p k)

abbrev the_partner : Form Swap_partner
the_partner = take A_name (λ y. done (Some y))

pub swap_is : {d : ℕ} {x y : Named} {from behind rest : List Token} → d ≤ depth_limit → BeginsWithSign sign.Swap from behind → TokenGoes A_name y behind rest →
    IsBehindTarget d x (Swap x y) from rest
swap_is {d} {x} {y} {from} {behind} {rest} room b t =
    record {
      goes = λ p k.
          subst (λ ts. Moves d (target_form x k) ts (k (Swap x y)) rest) (sym b.is)
          (λ g S u h.
          let T : Stack g Swap_partner = waits {q = Swap_partner} (λ other. behind_target x other k) S in (
            u,
            h,
            begins_part Swap_partner (λ other. behind_target x other k) S d u (Sign_of sign.Swap b.at) behind the_partner refl room h
                ∙ t.goes g Swap_partner (λ z. done (Some z)) T (count d u)
                ∙ run_hands all Swap_partner (λ other. behind_target x other k) S (count d u) (Some y) rest,
          ));
      shorter = let s0 = ap length b.is in let s1 = t.shorter in omega (arith, s0, s1);
    }

pub swap_stops : (d : ℕ) (x : Named) {from behind : List Token} (r : Refusal) → d ≤ depth_limit → BeginsWithSign sign.Swap from behind →
    TokenFails A_name behind r → FailsBehindTarget d x from r
swap_stops d x {from} {behind} r room b f p k =
    subst (λ ts. Stops d (target_form x k) ts r) (sym b.is)
    (λ g S u h.
    begins_part Swap_partner (λ other. behind_target x other k) S d u (Sign_of sign.Swap b.at) behind the_partner refl room h
    ∙ f g Swap_partner (λ z. done (Some z)) (waits {q = Swap_partner} (λ other. behind_target x other k) S) (count d u))

-- what is read behind a name, where no `<=>` stands
pub assignment_result : {X : Type 0} (d : ℕ) (x : Named) (from : List Token) (s : X → Stm) (rest : X → List Token) (result : Result X Problem) →
    NoSwapping from →
    Reads (λ v. IsAssignment d x (s v) from (rest v)) (FailsAssignment d x from) result →
    Reads (λ v. IsBehindTarget d x (s v) from (rest v)) (FailsBehindTarget d x from) result
assignment_result d x from s rest (Ok v) n r = assignment_is n r
assignment_result d x from s rest (Err e) n r =
    passes_on (FailsAssignment d x from) (FailsBehindTarget d x from) e r (λ out f. assignment_stops d x from out n f)

-- ---- statements, by their first token

pub name_begins : (x : List ℕ) (place : Span) {d : ℕ} {s : Stm} {rest after : List Token} → d ≤ depth_limit → IsBehindTarget d (named x place) s rest after →
    IsStm d s (Name x place ∷ rest) after
name_begins x place {d} {s} {rest} {after} room i =
    record {
      begins = refl;
      goes = λ g p k S u h. let a = i.goes p k g S u h in (a.0, a.1, begun_plain (target_form (named x place) k) S d u rest room h ∙ a.2);
      shorter = let y = i.shorter in omega (arith, y);
    }

pub name_stops : (x : List ℕ) (place : Span) (d : ℕ) (rest : List Token) (r : Refusal) → d ≤ depth_limit → FailsBehindTarget d (named x place) rest r →
    FailsStm d (Name x place ∷ rest) r
name_stops x place d rest r room f =
    record { begins = refl; stops = λ g p k S u h. begun_plain (target_form (named x place) k) S d u rest room h ∙ f p k g S u h }

pub skip_is : (place : Span) (d : ℕ) (rest : List Token) → d ≤ depth_limit → IsStm d Skip (Keyword_of keyword.Skip place ∷ rest) rest
skip_is place d rest room = record { begins = refl; goes = λ g p k S u h. (u, h, begun_plain (k Skip) S d u rest room h); shorter = omega arith }

pub push_is : (place : Span) (d : ℕ) {x s : Named} {rest after : List Token} → d ≤ depth_limit → IsVariableAndStack x s rest after →
    IsStm d (Push x s) (Keyword_of keyword.Push place ∷ rest) after
push_is place d {x} {s} {rest} room i =
    record {
      begins = refl;
      goes = λ g p k S u h.
          (u, h, begun_plain (variable_and_stack_then (λ y t. k (Push y t))) S d u rest room h ∙ i.goes g p (λ y t. k (Push y t)) S (count d u));
      shorter = let y = i.shorter in omega (arith, y);
    }

pub push_stops : (place : Span) (d : ℕ) (rest : List Token) (r : Refusal) → d ≤ depth_limit → FailsVariableAndStack rest r →
    FailsStm d (Keyword_of keyword.Push place ∷ rest) r
push_stops place d rest r room f =
    record {
      begins = refl;
      stops = λ g p k S u h. begun_plain (variable_and_stack_then (λ y t. k (Push y t))) S d u rest room h
          ∙ f g p (λ y t. k (Push y t)) S (count d u);
    }

pub pop_is : (place : Span) (d : ℕ) {x s : Named} {rest after : List Token} → d ≤ depth_limit → IsVariableAndStack x s rest after →
    IsStm d (Pop x s) (Keyword_of keyword.Pop place ∷ rest) after
pop_is place d {x} {s} {rest} room i =
    record {
      begins = refl;
      goes = λ g p k S u h.
          (u, h, begun_plain (variable_and_stack_then (λ y t. k (Pop y t))) S d u rest room h ∙ i.goes g p (λ y t. k (Pop y t)) S (count d u));
      shorter = let y = i.shorter in omega (arith, y);
    }

pub pop_stops : (place : Span) (d : ℕ) (rest : List Token) (r : Refusal) → d ≤ depth_limit → FailsVariableAndStack rest r →
    FailsStm d (Keyword_of keyword.Pop place ∷ rest) r
pop_stops place d rest r room f =
    record {
      begins = refl;
      stops = λ g p k S u h. begun_plain (variable_and_stack_then (λ y t. k (Pop y t))) S d u rest room h
          ∙ f g p (λ y t. k (Pop y t)) S (count d u);
    }

pub if_begins : (place : Span) {d : ℕ} {s : Stm} {rest after : List Token} → d < depth_limit → IsIf (d + 1) s rest after →
    IsStm d s (Keyword_of keyword.If place ∷ rest) after
if_begins place {d} {s} {rest} {after} room i =
    record {
      begins = refl;
      goes = λ g p k S u h. let a = i.goes p k g S u h in (a.0, a.1, begun_opens (if_form k) S d u rest room h ∙ a.2 ∙ ends_construct (k s) S d a.0 after);
      shorter = let y = i.shorter in omega (arith, y);
    }

pub if_stops : (place : Span) (d : ℕ) (rest : List Token) (r : Refusal) → d < depth_limit → FailsIf (d + 1) rest r →
    FailsStm d (Keyword_of keyword.If place ∷ rest) r
if_stops place d rest r room f = record { begins = refl; stops = λ g p k S u h. begun_opens (if_form k) S d u rest room h ∙ f p k g S u h }

pub if_too_deep : (place : Span) (d : ℕ) (rest : List Token) → d ≡ depth_limit → FailsStm d (Keyword_of keyword.If place ∷ rest) (TooNested (suc (length rest)))
if_too_deep place d rest deep = record { begins = refl; stops = λ g p k S u h. begun_deep 0 (if_form k) S d u rest deep }

pub from_begins : (place : Span) {d : ℕ} {s : Stm} {rest after : List Token} → d < depth_limit → IsLoop (d + 1) s rest after →
    IsStm d s (Keyword_of keyword.From place ∷ rest) after
from_begins place {d} {s} {rest} {after} room i =
    record {
      begins = refl;
      goes = λ g p k S u h. let a = i.goes p k g S u h in (a.0, a.1, begun_opens (from_form k) S d u rest room h ∙ a.2 ∙ ends_construct (k s) S d a.0 after);
      shorter = let y = i.shorter in omega (arith, y);
    }

pub from_stops : (place : Span) (d : ℕ) (rest : List Token) (r : Refusal) → d < depth_limit → FailsLoop (d + 1) rest r →
    FailsStm d (Keyword_of keyword.From place ∷ rest) r
from_stops place d rest r room f = record { begins = refl; stops = λ g p k S u h. begun_opens (from_form k) S d u rest room h ∙ f p k g S u h }

pub from_too_deep : (place : Span) (d : ℕ) (rest : List Token) → d ≡ depth_limit →
    FailsStm d (Keyword_of keyword.From place ∷ rest) (TooNested (suc (length rest)))
from_too_deep place d rest deep = record { begins = refl; stops = λ g p k S u h. begun_deep 0 (from_form k) S d u rest deep }
