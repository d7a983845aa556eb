-- Each state leads to the end by some tokens. They open nothing: parts are left out where they may be, and else
-- are the least there is, as `0` and `skip`.
use Rattle.std.proofs.Common.{◌≡◌, ℕ, zero, suc, ◌+◌, ◌≤◌, List, [], ◌∷◌, Option, Some, None, Bool, true, false, cond, refl, ap, subst, arith, inl, inr}
use Rattle.std.specs.Prelude.{nat_le, nat_eq}
use Rattle.std.proofs.lemmas.Bool.{eq-eqb, leb-true, le-leb, and_parts, and_from}
use Rattle.janus_syntax.specs.declared.token.Span.{Span}
use Rattle.janus_syntax.specs.declared.token.Sign.TheVariants as sign
use Rattle.janus_syntax.specs.declared.token.Keyword.TheVariants as keyword
use Rattle.janus_syntax.specs.declared.tree.LocalKind.TheVariants as kind
use Rattle.janus_syntax.specs.declared.tree.Update.TheVariants as update
use Rattle.janus_syntax.specs.Tokens.{Token, Name, Number, Sign_of, Keyword_of}
use Rattle.janus_syntax.specs.Tree.{named, Exp, Num}
use Rattle.janus_syntax.specs.Operators.{weakest}
use Rattle.janus_syntax.specs.Forms.{Part, Procedures, A_procedure, Parameters, A_parameter, Body, Statements, Local, Whole, Level, Chain, Tree, Class}
use Rattle.janus_syntax.specs.Forms.{The_keyword, The_sign, A_name, A_number, An_update, Same_kind, Same_name, Seen, seen, agrees, keyword_number, sign_number}
use Rattle.janus_syntax.specs.Forms.{Form, done, take, part, close, Rule}
use Rattle.janus_syntax.specs.Table.{rule, left_out, chains}
use Rattle.janus_syntax.specs.Grammar
use Rattle.janus_syntax.specs.Grammar.{Count, zero_count, entered, closed, fits, depth_limit, operator_limit, Demands, met, Spells, text_form, IsTree}
use Rattle.janus_syntax.specs.Reader.{Stack, bottom, waits, State, at, start}
use Rattle.janus_meaning.proofs.Stores.{same_name_self}
use Rattle.janus_syntax.proofs.Back.{Behind, At, Goes_back}

no_span : Span
no_span = record { start = 0; end = 0 }

-- Counts within the limits, where they are demanded.

abbrev pub Within : Bool → Count → Type 0
Within b m = met b (fits m) ≡ true

fits_less : (m n : Count) → n.depth ≤ m.depth → n.used ≤ m.used → fits m ≡ true → fits n ≡ true
fits_less m n h k e =
    let p = and_parts (nat_le m.depth depth_limit) (nat_le m.used operator_limit) e in
    let a = leb-true m.depth depth_limit p.0 in
    let b = leb-true m.used operator_limit p.1 in
    and_from (nat_le n.depth depth_limit) (nat_le n.used operator_limit) (le-leb n.depth depth_limit (omega (arith, a, h)))
    (le-leb n.used operator_limit (omega (arith, b, k)))

pub within_less : (b : Bool) (m n : Count) → n.depth ≤ m.depth → n.used ≤ m.used → Within b m → Within b n
within_less true m n h k e = fits_less m n h k e
within_less false m n h k e = refl

pub within_closed : (b : Bool) (m : Count) → Within b m → Within b (closed m)
within_closed b m e = within_less b m (closed m) (omega arith) (omega arith) e

-- a form can be completed in front of any tokens
record Completes (d : Demands) (p : Part) (f : Form p) (m : Count) : Type 0 where
  pub tree : Tree p
  pub count : Count
  pub within : Within d.limits count
  pub tokens : List Token → List Token
  pub spells : (rest : List Token) → Spells d p f tree m (tokens rest) count rest

completes_done : (d : Demands) (p : Part) (v : Tree p) (m : Count) → Within d.limits m → Completes d p (done v) m
completes_done d p v m h = record { tree = v; count = m; within = h; tokens = λ rest. rest; spells = λ rest. Grammar.nothing_more }

completes_over : (d : Demands) (p q : Part) (k : Tree q → Form p) (m : Count) (u : Tree q) → left_out q ≡ Some u → Completes d p (k u) m →
    Completes d p (part q k) m
completes_over d p q k m u is c =
    record { tree = c.tree; count = c.count; within = c.within; tokens = c.tokens; spells = λ rest. Grammar.no_part is (c.spells rest) }

completes_close : (d : Demands) (p : Part) (f : Form p) (m : Count) → Completes d p f (closed m) → Completes d p (close f) m
completes_close d p f m c =
    record { tree = c.tree; count = c.count; within = c.within; tokens = c.tokens; spells = λ rest. Grammar.end_of_construct (c.spells rest) }

-- a token of a class
record Sample (c : Class) : Type 0 where
  pub token : Token
  pub value : Seen c
  pub is : seen c token ≡ Some value
  pub fit : agrees c value ≡ true

abbrev some_unit : Option (Unit {0})
some_unit = Some tt

equal_some : (n : ℕ) → cond (nat_eq n n) some_unit None ≡ some_unit
equal_some n = ap (λ b. cond b some_unit None) (eq-eqb n n refl)

sample : (c : Class) → Sample c
unfolding no_span
sample (The_keyword w) = record { token = Keyword_of w no_span; value = tt; is = equal_some (keyword_number w); fit = refl }
sample (The_sign s) = record { token = Sign_of s no_span; value = tt; is = equal_some (sign_number s); fit = refl }
sample A_name = record { token = Name (120 ∷ []) no_span; value = named (120 ∷ []) no_span; is = refl; fit = refl }
sample A_number = record { token = Number 0 no_span; value = (0, no_span); is = refl; fit = refl }
sample An_update = record { token = Sign_of sign.PlusEquals no_span; value = update.Add; is = refl; fit = refl }
sample (Same_kind kind.Int) = record { token = Keyword_of keyword.Int no_span; value = kind.Int; is = refl; fit = refl }
sample (Same_kind kind.Stack) = record { token = Keyword_of keyword.Stack no_span; value = kind.Stack; is = refl; fit = refl }
sample (Same_name (named x place)) = record { token = Name x no_span; value = named x no_span; is = refl; fit = same_name_self x }

met_true : (b x : Bool) → x ≡ true → met b x ≡ true
met_true true x e = e
met_true false x e = refl

completes_take : (d : Demands) (p : Part) (c : Class) (k : Seen c → Form p) (m : Count) → ((s : Seen c) → Completes d p (k s) m) → Completes d p (take c k) m
completes_take d p c k m h =
    let s = sample c in
    let r = h s.value in
    record {
      tree = r.tree;
      count = r.count;
      within = r.within;
      tokens = λ rest. s.token ∷ r.tokens rest;
      spells = λ rest. Grammar.token s.is
          (met_true d.agreement (agrees c s.value) s.fit) (r.spells rest);
    }

-- operators are left out
completes_chains : (d : Demands) (p : Part) (l n : ℕ) (e : Exp) (k : Exp → Form p) (m : Count) → ((f : Exp) → Completes d p (k f) m) →
    Completes d p (chains l n e k) m
completes_chains d p l zero e k m h = h e
completes_chains d p l (suc n) e k m h = completes_over d p (Chain (suc l) e) (λ f. chains (suc l) n f k) m e refl (completes_chains d p (suc l) n e k m h)

-- the least of a part that may not be left out
record Least (d : Demands) (q : Part) (m : Count) : Type 0 where
  pub token : Token
  pub begun : Rule q
  pub is : rule q token ≡ Some begun
  pub low : begun.opens ≡ 0
  pub few : begun.counts ≡ 0
  pub completes : (n : Count) → Within d.limits n → Completes d q begun.form n

entered_within : (d : Demands) (q : Part) (m : Count) (r : Rule q) → r.opens ≡ 0 → r.counts ≡ 0 → Within d.limits m → Within d.limits (entered r m)
entered_within d q m r low few h = within_less d.limits m (entered r m) (omega (arith, low)) (less r.is_whole) h
  where
    less : (b : Bool) → cond b 0 m.used + r.counts ≤ m.used
    less true = omega (arith, few)
    less false = omega (arith, few)

completes_part : (d : Demands) (p q : Part) (k : Tree q → Form p) (m : Count) → Least d q m → Within d.limits m →
    ((u : Tree q) (n : Count) → Within d.limits n → Completes d p (k u) n) → Completes d p (part q k) m
completes_part d p q k m l h more =
    let inside = entered_within d q m l.begun l.low l.few h in
    let c = l.completes (entered l.begun m) inside in
    let r = more c.tree c.count c.within in
    record {
      tree = r.tree;
      count = r.count;
      within = r.within;
      tokens = λ rest. l.token ∷ c.tokens (r.tokens rest);
      spells = λ rest. Grammar.a_part l.is inside
          (c.spells (r.tokens rest)) (r.spells rest);
    }

least_body : (d : Demands) (m : Count) → Least d Body m
unfolding no_span
least_body d m =
    record {
      token = Keyword_of keyword.Skip no_span;
      begun = _;
      is = refl;
      low = refl;
      few = refl;
      completes = λ n h. completes_over d Body Statements _ n
          _ refl (completes_done d Body _ n h);
    }

least : (d : Demands) (q : Part) (m : Count) → left_out q ≡ None → Least d q m
unfolding no_span
least d Whole m e =
    record {
      token = Number 0 no_span;
      begun = _;
      is = refl;
      low = refl;
      few = refl;
      completes = λ n h. completes_chains d Whole 0 weakest (Num 0 no_span)
          done n (λ f. completes_done d Whole f n h);
    }
least d (Level l) m e =
    record {
      token = Number 0 no_span;
      begun = _;
      is = refl;
      low = refl;
      few = refl;
      completes = λ n h. completes_chains d (Level l) 0 l (Num 0 no_span) done n
          (λ f. completes_done d (Level l) f n h);
    }
least d Body m e = least_body d m
least d A_parameter m e =
    record {
      token = Keyword_of keyword.Stack no_span;
      begun = _;
      is = refl;
      low = refl;
      few = refl;
      completes = λ n h. completes_take d A_parameter A_name _ n
          (λ x. completes_done d A_parameter _ n h);
    }
least d (A_procedure main b) m e =
    record {
      token = Name (120 ∷ []) no_span;
      begun = _;
      is = refl;
      low = refl;
      few = refl;
      completes = λ n h.
          completes_take d (A_procedure main b) (The_sign sign.Open) _ n
          (λ a. completes_over d (A_procedure main b) Parameters _ n _ refl (completes_take d (A_procedure main b) (The_sign sign.Close) _ n (λ c.
          completes_part d (A_procedure main b) Body _ n (least_body d n) h (λ u i j.
          completes_over d (A_procedure main b) (Procedures main _) _ i _ refl (completes_done d (A_procedure main b) _ i j)))));
    }
least d Local m e =
    record {
      token = Keyword_of keyword.Stack no_span;
      begun = _;
      is = refl;
      low = refl;
      few = refl;
      completes = λ n h.
          completes_take d Local A_name _ n
          (λ x. completes_take d Local (The_sign sign.Equals) _ n (λ a. completes_take d Local (The_keyword keyword.Nil) _ n (λ b.
          completes_part d Local Body _ n (least_body d n) h (λ u i j.
          completes_take d Local (The_keyword keyword.Delocal) _ i
          (λ a. completes_take d Local (Same_kind kind.Stack) _ i (λ k. completes_take d Local (Same_name x) _ i (λ y.
          completes_take d Local (The_sign sign.Equals) _ i
          (λ b. completes_take d Local (The_keyword keyword.Nil) _ i (λ c. completes_done d Local _ i j)))))))));
    }
least d _ m e = absurd cc

completes_or : (d : Demands) (p q : Part) (k : Tree q → Form p) (m : Count) (o : Option (Tree q)) → left_out q ≡ o → Within d.limits m →
    ((u : Tree q) (n : Count) → Within d.limits n → Completes d p (k u) n) → Completes d p (part q k) m
completes_or d p q k m (Some u) is h more = completes_over d p q k m u is (more u m h)
completes_or d p q k m None is h more = completes_part d p q k m (least d q m is) h more

complete : (d : Demands) (p : Part) (f : Form p) (m : Count) → Within d.limits m → Completes d p f m
complete d p (done v) m h = completes_done d p v m h
complete d p (take c k) m h = completes_take d p c k m (λ s. complete d p (k s) m h)
complete d p (part q k) m h = completes_or d p q k m (left_out q) refl h (λ u n i. complete d p (k u) n i)
complete d p (close f) m h = completes_close d p f m (complete d p f (closed m) (within_closed d.limits m h))

-- the tokens behind a state spell the rest, and the cell is c
abbrev pub NotBegun : (p : Part) → Form p → Count → List Token → Type 0
NotBegun p f m ts = ⊥

abbrev pub IsEnd : (goal : Part) → Tree goal → Tree goal → List Token → Type 0
IsEnd goal c d ts = (ts ≡ []) × (d ≡ c)

module _ {goal : Part} where
  abbrev pub Spelled : Demands → Tree goal → State goal → List Token → Type 0
  Spelled d c s ts = At d NotBegun (IsEnd goal c) s ts

  complete_stack : (d : Demands) {p : Part} (S : Stack goal p) (v : Tree p) (m : Count) → Within d.limits m → (c : Tree goal) × (ts : List Token) ×
      Behind d NotBegun (IsEnd goal c) S v m ts
  complete_stack d bottom v m h = (v, [], (refl, refl))
  complete_stack d (waits {p} k S) v m h =
      let r = complete d p (k v) m h in
      let s = complete_stack d S r.tree r.count r.within in
      (s.0, r.tokens s.1, inr (r.tree, r.count, s.1, r.spells s.1, s.2))

  abbrev pub count_of : State goal → Count
  count_of (at f S m) = m

  pub complete_state : (d : Demands) (s : State goal) → Within d.limits (count_of s) → (c : Tree goal) × (ts : List Token) × Spelled d c s ts
  complete_state d (at {p} f S m) h =
      let r = complete d p f m h in
      let s = complete_stack d S r.tree r.count r.within in
      (s.0, r.tokens s.1, inr (r.tree, r.count, s.1, r.spells s.1, s.2))

  -- what is spelled from the start is a cell
  pub spelled_cell : (d : Demands) (c : Tree goal) (ts : List Token) → Spelled d c (start goal) ts → IsTree goal d c ts
  spelled_cell d c ts h =
      elim h [
        | inl a ↦ absurd a
        | inr (v, m, rest, sp, b) ↦
            (m, subst (λ r. Spells d goal (text_form goal) c zero_count ts m r) b.0 (subst (λ x. Spells d goal (text_form goal) x zero_count ts m rest) b.1 sp))
      ]

pub not_begun_back : (d : Demands) → Goes_back d NotBegun
not_begun_back d = record {
  over_token = λ c k s t m ts is ok a. a;
  over_close = λ f m ts a. a;
  inside = λ q k r t m ts is ok a. a;
  behind = λ q k r u t m m1 ts rest is ok sp a. a;
  over_part = λ q k u m ts is a. a;
}
