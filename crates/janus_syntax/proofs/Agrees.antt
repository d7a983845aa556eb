-- What is spelled is read, and as its tree: the machine goes along each derivation.
use Rattle.std.proofs.Common.{◌≡◌, suc, List, [], ◌∷◌, length, Option, Some, None, Bool, true, refl, ap, subst, ◌∙◌, inl, inr}
use Rattle.janus_syntax.specs.declared.fault.What.{What}
use Rattle.janus_syntax.specs.declared.fault.What.TheVariants as what
use Rattle.janus_syntax.specs.Tokens.{Token}
use Rattle.janus_syntax.specs.Forms.{Part, Tree, Class, Seen, seen, agrees, Form, done, take, part, close, Rule}
use Rattle.janus_syntax.specs.Table.{rule, left_out, label}
use Rattle.janus_syntax.specs.Grammar
use Rattle.janus_syntax.specs.Grammar.{Count, zero_count, entered, closed, fits, Demands, all, met, Spells, Begins, text_form, IsTree, Next, Wanted, Complete}
use Rattle.janus_syntax.specs.Grammar.{required, passed_over}
use Rattle.janus_syntax.specs.Reader.{Stack, bottom, waits, State, at, Step, Go, Accept, Stuck, TooMany, Differs, go_if, enter, skip, taken, at_form, hand}
use Rattle.janus_syntax.specs.Reader.{step, wanted_behind, wanted, Ended, at_end, follow, run, start, next}
use Rattle.janus_syntax.proofs.Follow.{may_follow, May, Proper, AllProper}
use Rattle.janus_syntax.proofs.LeftOut.{no_rule}
use Rattle.janus_syntax.proofs.KeepsTable.{proper_rule, proper_text}

pub proper : {p : Part} (t : Token) (r : Rule p) → rule p t ≡ Some r → Proper r.form
proper {p} t r e = subst (λ o. AllProper o) e (proper_rule p t)

-- the next token, if there is one, may stand behind the part
abbrev pub Fits : Part → List Token → Type 0
Fits p rest = (t : Token) → next rest ≡ Some t → may_follow p t ≡ true

-- what a form's tokens begin with
pub first : {d : Demands} {p : Part} {f : Form p} {v : Tree p} {m m' : Count} {from rest : List Token} → Spells d p f v m from m' rest → Fits p rest →
    (t : Token) → next from ≡ Some t → May f t
first Grammar.nothing_more h t e = h t e
first (Grammar.token {c = c} {s = s} {t = u} is ok more) h t e = let same : u ≡ t = cc in (s, subst (λ x. seen c x ≡ Some s) same is)
first (Grammar.end_of_construct more) h t e = first more h t e
first (Grammar.a_part {q = q} {r = r} {t = u} is ok inner more) h t e = let same : u ≡ t = cc in inl (r, subst (λ x. rule q x ≡ Some r) same is)
first (Grammar.no_part {u = u} is more) h t e = inr (u, is, first more h t e)

pub first_begins : {d : Demands} {p : Part} {f : Form p} {w : What} {m : Count} {front : List Token} → Begins d p f w m front → (t : Token) →
    next front ≡ Some t → May f t
first_begins (Grammar.here is) t e = absurd cc
first_begins (Grammar.token {c = c} {s = s} {t = u} is ok more) t e = let same : u ≡ t = cc in (s, subst (λ x. seen c x ≡ Some s) same is)
first_begins (Grammar.end_of_construct more) t e = first_begins more t e
first_begins (Grammar.inside {q = q} {r = r} {t = u} is ok more) t e = let same : u ≡ t = cc in inl (r, subst (λ x. rule q x ≡ Some r) same is)
first_begins (Grammar.behind {q = q} {r = r} {t = u} is ok inner more) t e = let same : u ≡ t = cc in inl (r, subst (λ x. rule q x ≡ Some r) same is)
first_begins (Grammar.no_part {u = u} is more) t e = inr (u, is, first_begins more t e)

module _ {goal : Part} where
  -- two states that step alike run alike
  pub run_alike : (d : Demands) (rest : List Token) (s s' : State goal) → wanted s ≡ wanted s' → step d s (next rest) ≡ step d s' (next rest) →
      run d rest s ≡ run d rest s'
  run_alike d [] s s' w e = ap (λ v. at_end v (step d s None)) w ∙ ap (at_end (wanted s')) e
  run_alike d (t ∷ rest) s s' w e =
      ap (λ v. follow (λ n. run d rest n) v (suc (length rest)) (step d s (Some t))) w
      ∙ ap (follow (λ n. run d rest n) (wanted s') (suc (length rest))) e

  -- a step that goes on
  pub run_goes : (d : Demands) (t : Token) (rest : List Token) (s s' : State goal) → step d s (Some t) ≡ Go s' → run d (t ∷ rest) s ≡ run d rest s'
  run_goes d t rest s s' e = ap (follow (λ n. run d rest n) (wanted s) (suc (length rest))) e

  go_met : (b : Bool) (s : State goal) (x : Step goal) → b ≡ true → go_if b s x ≡ Go s
  go_met b s x e = ap (λ c. go_if c s x) e

  pub steps_token : (d : Demands) {p : Part} (c : Class) (k : Seen c → Form p) (S : Stack goal p) (m : Count) (t : Token) (s : Seen c) →
      seen c t ≡ Some s → met d.agreement (agrees c s) ≡ true → step d (at (take c k) S m) (Some t) ≡ Go (at (k s) S m)
  steps_token d c k S m t s is ok = ap (λ o. taken c d o k S m) is ∙ go_met (met d.agreement (agrees c s)) (at (k s) S m) Differs ok

  pub steps_part : (d : Demands) {p q : Part} (k : Tree q → Form p) (S : Stack goal p) (m : Count) (t : Token) (r : Rule q) →
      rule q t ≡ Some r → met d.limits (fits (entered r m)) ≡ true → step d (at (part q k) S m) (Some t) ≡ Go (at r.form (waits k S) (entered r m))
  steps_part d {q = q} k S m t r is ok =
      ap (λ o. enter d o k S m (skip (left_out q) (λ u. at_form d (k u) S m (Some t) (hand d S (Some t))))) is
      ∙ go_met (met d.limits (fits (entered r m))) (at r.form (waits k S) (entered r m)) TooMany ok

  -- a part that is left out is passed over
  pub wants_behind : {p : Part} (q : Part) (k : Tree q → Form p) (S : Stack goal p) (m : Count) (u : Tree q) → left_out q ≡ Some u →
      wanted (at (part q k) S m) ≡ wanted (at (k u) S m)
  wants_behind q k S m u is = ap (λ o. wanted_behind S (passed_over o (label q) (λ u. required (k u)))) is

  pub steps_over : (d : Demands) {p : Part} (q : Part) (k : Tree q → Form p) (S : Stack goal p) (m : Count) (u : Tree q) (t : Option Token) →
      left_out q ≡ Some u → ((x : Token) → t ≡ Some x → rule q x ≡ None) →
      step d (at (part q k) S m) t ≡ step d (at (k u) S m) t
  steps_over d q k S m u None is none = ap (λ o. skip o (λ u. at_form d (k u) S m None (hand d S None))) is
  steps_over d q k S m u (Some x) is none =
      ap (λ o. enter d o k S m (skip (left_out q) (λ u. at_form d (k u) S m (Some x) (hand d S (Some x))))) (none x refl)
      ∙ ap (λ o. skip o (λ u. at_form d (k u) S m (Some x) (hand d S (Some x)))) is

  pub left_behind : {p : Part} (q : Part) (k : Tree q → Form p) (S : Stack goal p) (m : Count) (u : Tree q) (rest : List Token) → left_out q ≡ Some u →
      ((t : Token) → next rest ≡ Some t → rule q t ≡ None) →
      run all rest (at (part q k) S m) ≡ run all rest (at (k u) S m)
  left_behind q k S m u rest is none =
      run_alike all rest (at (part q k) S m) (at (k u) S m) (wants_behind q k S m u is) (steps_over all q k S m u (next rest) is none)

  pub run_over : (d : Demands) {p : Part} (q : Part) (k : Tree q → Form p) (S : Stack goal p) (m : Count) (u : Tree q) (rest : List Token) →
      left_out q ≡ Some u → Fits q rest →
      run d rest (at (part q k) S m) ≡ run d rest (at (k u) S m)
  run_over d q k S m u rest is h =
      run_alike d rest (at (part q k) S m) (at (k u) S m) (wants_behind q k S m u is)
      (steps_over d q k S m u (next rest) is (λ x e. no_rule q x u is (h x e)))

  -- a tree is handed on
  pub run_hands : (d : Demands) {p : Part} (q : Part) (k : Tree q → Form p) (S : Stack goal p) (m : Count) (u : Tree q) (rest : List Token) →
      run d rest (at (done u) (waits k S) m) ≡ run d rest (at (k u) S m)
  run_hands d q k S m u rest = run_alike d rest (at (done u) (waits k S) m) (at (k u) S m) refl refl

  pub run_closes : (d : Demands) {p : Part} (f : Form p) (S : Stack goal p) (m : Count) (rest : List Token) →
      run d rest (at (close f) S m) ≡ run d rest (at f S (closed m))
  run_closes d f S m rest = run_alike d rest (at (close f) S m) (at f S (closed m)) refl refl

  pub reads : {d : Demands} {p : Part} {f : Form p} {v : Tree p} {m m' : Count} {from rest : List Token} → Spells d p f v m from m' rest → Proper f →
      Fits p rest → (S : Stack goal p) →
      run d from (at f S m) ≡ run d rest (at (done v) S m')
  reads Grammar.nothing_more g h S = refl
  reads {d} (Grammar.token {c = c} {k = k} {s = s} {t = t} {m = m} {from = from} is ok more) g h S =
      run_goes d t from (at (take c k) S m) (at (k s) S m) (steps_token d c k S m t s is ok)
      ∙ reads more (g s) h S
  reads {d} (Grammar.end_of_construct {f = f} {m = m} {from = from} more) g h S = run_closes d f S m from ∙ reads more g h S
  reads {d} (Grammar.a_part {q = q} {k = k} {r = r} {u = u} {t = t} {m = m} {m1 = m1} {from = from} {middle = middle} is ok inner more) g h S =
      run_goes d t from (at (part q k) S m) (at r.form (waits k S) (entered r m)) (steps_part d k S m t r is ok)
      ∙ reads inner (proper t r is) (λ x e. (g u).1 x (first more h x e)) (waits k S)
      ∙ run_hands d q k S m1 u middle
      ∙ reads more (g u).0 h S
  reads {d} (Grammar.no_part {q = q} {k = k} {u = u} {m = m} {from = from} is more) g h S =
      run_over d q k S m u from is (λ x e. (g u).1 x (first more h x e))
      ∙ reads more (g u).0 h S

no_token : (p : Part) → Fits p []
no_token p t e = absurd cc

module _ {goal : Part} where
  -- what is a cell is read as its tree
  pub reads_cell : (d : Demands) (c : Tree goal) (tokens : List Token) → IsTree goal d c tokens → run d tokens (start goal) ≡ Ended (Some c) what.End
  reads_cell d c tokens (m, is) = reads is (proper_text goal) (no_token goal) bottom

  -- behind what begins a form the machine wants what the grammar says
  pub at_end_wants : (w : What) (x : Step goal) → (a : Option (Tree goal)) × (at_end w x ≡ Ended a w)
  at_end_wants w (Go s) = (None, refl)
  at_end_wants w (Accept c) = (Some c, refl)
  at_end_wants w Stuck = (None, refl)
  at_end_wants w TooMany = (None, refl)
  at_end_wants w Differs = (None, refl)

  abbrev pub EndsWanting : Demands → List Token → State goal → What → Type 0
  EndsWanting d front s w = (a : Option (Tree goal)) × (run d front s ≡ Ended a w)

  through : (d : Demands) (front back : List Token) (s s' : State goal) (w : What) → run d front s ≡ run d back s' → EndsWanting d back s' w →
      EndsWanting d front s w
  through d front back s s' w e r = (r.0, e ∙ r.1)

  pub wants : {d : Demands} {p : Part} {f : Form p} {w : What} {m : Count} {front : List Token} → Begins d p f w m front → Proper f → (S : Stack goal p) →
      EndsWanting d front (at f S m) w
  wants {d} (Grammar.here {f = f} {w = w} {m = m} is) g S =
      let r = at_end_wants (wanted (at f S m)) (step d (at f S m) None) in
      (r.0, r.1 ∙ ap (λ n. Ended r.0 (wanted_behind S n)) is)
  wants {d} (Grammar.token {c = c} {k = k} {s = s} {w = w} {t = t} {m = m} {front = front} is ok more) g S =
      through d (t ∷ front) front (at (take c k) S m) (at (k s) S m) w (run_goes d t front (at (take c k) S m) (at (k s) S m) (steps_token d c k S m t s is ok))
      (wants more (g s) S)
  wants {d} (Grammar.end_of_construct {f = f} {w = w} {m = m} {front = front} more) g S =
      through d front front (at (close f) S m) (at f S (closed m)) w (run_closes d f S m front) (wants more g S)
  wants {d} (Grammar.inside {q = q} {k = k} {r = r} {w = w} {t = t} {m = m} {front = front} is ok more) g S =
      through d (t ∷ front) front (at (part q k) S m) (at r.form (waits k S) (entered r m)) w
      (run_goes d t front (at (part q k) S m) (at r.form (waits k S) (entered r m)) (steps_part d k S m t r is ok)) (wants more (proper t r is) (waits k S))
  wants {d} (Grammar.behind {q = q} {k = k} {r = r} {u = u} {w = w} {t = t} {m = m} {m1 = m1} {from = from} {front = front} is ok inner more) g S =
      through d (t ∷ from) front (at (part q k) S m) (at (k u) S m1) w
      (run_goes d t from (at (part q k) S m) (at r.form (waits k S) (entered r m)) (steps_part d k S m t r is ok)
      ∙ reads inner (proper t r is) (λ x e. (g u).1 x (first_begins more x e)) (waits k S)
      ∙ run_hands d q k S m1 u front)
      (wants more (g u).0 S)
  wants {d} (Grammar.no_part {q = q} {k = k} {u = u} {w = w} {m = m} {front = front} is more) g S =
      through d front front (at (part q k) S m) (at (k u) S m) w (run_over d q k S m u front is (λ x e. (g u).1 x (first_begins more x e)))
      (wants more (g u).0 S)
