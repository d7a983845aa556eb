-- One step of the machine, backward: what is known of the tokens behind the step is known of the step's token and
-- those. Two things are known so: the whole rest is spelled (Ends), and the rest is a beginning (G). The proof is
-- one for both.
use Rattle.std.proofs.Common.{◌≡◌, List, [], ◌∷◌, Option, Some, None, Bool, true, false, refl, sym, subst, ◌⊎◌, inl, inr}
use Rattle.janus_syntax.specs.Tokens.{Token}
use Rattle.janus_syntax.specs.Forms.{Part, Tree, Class, Seen, seen, agrees, Form, done, take, part, close, Rule}
use Rattle.janus_syntax.specs.Table.{rule, left_out}
use Rattle.janus_syntax.specs.Grammar
use Rattle.janus_syntax.specs.Grammar.{Count, entered, closed, fits, Demands, met, Spells}
use Rattle.janus_syntax.specs.Reader.{Stack, bottom, waits, State, at, Step, Go, Accept, Stuck, TooMany, Differs, go_if, enter, skip, taken, at_form, hand}
use Rattle.janus_syntax.specs.Reader.{step}

-- a family of forms with tokens that can be drawn back over each rule
pub record Goes_back (d : Demands) (G : (p : Part) → Form p → Count → List Token → Type 0) : Type 0 where
  pub over_token : {p : Part} (c : Class) (k : Seen c → Form p) (s : Seen c) (t : Token) (m : Count) (ts : List Token) →
      seen c t ≡ Some s → met d.agreement (agrees c s) ≡ true → G p (k s) m ts → G p (take c k) m (t ∷ ts)
  pub over_close : {p : Part} (f : Form p) (m : Count) (ts : List Token) → G p f (closed m) ts → G p (close f) m ts
  pub inside : {p : Part} (q : Part) (k : Tree q → Form p) (r : Rule q) (t : Token) (m : Count) (ts : List Token) →
      rule q t ≡ Some r → met d.limits (fits (entered r m)) ≡ true → G q r.form (entered r m) ts → G p (part q k) m (t ∷ ts)
  pub behind : {p : Part} (q : Part) (k : Tree q → Form p) (r : Rule q) (u : Tree q) (t : Token) (m m1 : Count) (ts rest : List Token) →
      rule q t ≡ Some r → met d.limits (fits (entered r m)) ≡ true → Spells d q r.form u (entered r m) ts m1 rest → G p (k u) m1 rest →
      G p (part q k) m (t ∷ ts)
  pub over_part : {p : Part} (q : Part) (k : Tree q → Form p) (u : Tree q) (m : Count) (ts : List Token) →
      left_out q ≡ Some u → G p (k u) m ts → G p (part q k) m ts

module _ {goal : Part} where
  -- what is known behind a tree that is handed to the stack, and at a form
  abbrev pub Behind : {p : Part} → (d : Demands) → ((p : Part) → Form p → Count → List Token → Type 0) → (Tree goal → List Token → Type 0) → Stack goal p →
      Tree p → Count → List Token → Type 0
  Behind d G E bottom c m ts = E c ts
  Behind d G E (waits {p} k S) v m ts =
      G p (k v) m ts ⊎ ((u : Tree p) × (m' : Count) × (rest : List Token) × Spells d p (k v) u m ts m' rest × Behind d G E S u m' rest)

  abbrev pub At : (d : Demands) → ((p : Part) → Form p → Count → List Token → Type 0) → (Tree goal → List Token → Type 0) → State goal → List Token → Type 0
  At d G E (at {p} f S m) ts = G p f m ts ⊎ ((u : Tree p) × (m' : Count) × (rest : List Token) × Spells d p f u m ts m' rest × Behind d G E S u m' rest)

  pub same_state : (s s' : State goal) → Go s ≡ Go s' → s ≡ s'
  same_state s s' e = cc

  pub if_goes : (b : Bool) (s s' : State goal) (x : Step goal) → ((y : State goal) → x ≡ Go y → ⊥) → go_if b s x ≡ Go s' → (b ≡ true) × (s ≡ s')
  if_goes true s s' x n e = (refl, same_state s s' e)
  if_goes false s s' x n e = absurd (n s' e)

  pub many_goes : (y : State goal) → TooMany ≡ Go y → ⊥
  many_goes y e = cc

  pub differs_goes : (y : State goal) → Differs ≡ Go y → ⊥
  differs_goes y e = cc

  module _ (d : Demands) (G : (p : Part) → Form p → Count → List Token → Type 0) (g : Goes_back d G) (E : Tree goal → List Token → Type 0) where
    back_token : {p : Part} (c : Class) (k : Seen c → Form p) (S : Stack goal p) (m : Count) (t : Token) (ts : List Token) (s' : State goal)
        (o : Option (Seen c)) →
        seen c t ≡ o → taken c d o k S m ≡ Go s' → At d G E s' ts → At d G E (at (take c k) S m) (t ∷ ts)
    back_token c k S m t ts s' None is e h = absurd cc
    back_token c k S m t ts s' (Some s) is e h =
        let r = if_goes (met d.agreement (agrees c s)) (at (k s) S m) s' Differs differs_goes e in
        elim (subst (λ x. At d G E x ts) (sym r.1) h) [
          | inl a ↦ inl (g.over_token c k s t m ts is r.0 a)
          | inr (u, m', rest, sp, b) ↦ inr (u, m', rest, Grammar.token is r.0 sp, b)
        ]

    back_enter : {p : Part} (q : Part) (k : Tree q → Form p) (S : Stack goal p) (m : Count) (t : Token) (ts : List Token) (s' : State goal) (r : Rule q) →
        rule q t ≡ Some r → go_if (met d.limits (fits (entered r m))) (at r.form (waits k S) (entered r m)) TooMany ≡ Go s' → At d G E s' ts →
        At d G E (at (part q k) S m) (t ∷ ts)
    back_enter q k S m t ts s' r is e h =
        let x = if_goes (met d.limits (fits (entered r m))) (at r.form (waits k S) (entered r m)) s' TooMany many_goes e in
        elim (subst (λ y. At d G E y ts) (sym x.1) h) [
          | inl a ↦ inl (g.inside q k r t m ts is x.0 a)
          | inr (u, m1, middle, sp, inl a) ↦ inl (g.behind q k r u t m m1 ts middle is x.0 sp a)
          | inr (u, m1, middle, sp, inr (v, m', rest, more, b)) ↦ inr (v, m', rest, Grammar.a_part is x.0 sp more, b)
        ]

    over : {p : Part} (q : Part) (k : Tree q → Form p) (S : Stack goal p) (m : Count) (ts : List Token) (u : Tree q) → left_out q ≡ Some u →
        At d G E (at (k u) S m) ts → At d G E (at (part q k) S m) ts
    over q k S m ts u is h =
        elim h [
          | inl a ↦ inl (g.over_part q k u m ts is a)
          | inr (v, m', rest, sp, b) ↦ inr (v, m', rest, Grammar.no_part is sp, b)
        ]

    ends : {p : Part} (f : Form p) (S : Stack goal p) (m : Count) (ts : List Token) → At d G E (at f S (closed m)) ts → At d G E (at (close f) S m) ts
    ends f S m ts h =
        elim h [
          | inl a ↦ inl (g.over_close f m ts a)
          | inr (v, m', rest, sp, b) ↦ inr (v, m', rest, Grammar.end_of_construct sp, b)
        ]

    back_over : {p : Part} (q : Part) (k : Tree q → Form p) (S : Stack goal p) (m : Count) (ts : List Token) (o : Option (Tree q)) (next : Tree q → Step goal)
        (x : Step goal) →
        left_out q ≡ o → skip o next ≡ x → (Stuck ≡ x → ⊥) → ((u : Tree q) → next u ≡ x → At d G E (at (k u) S m) ts) → At d G E (at (part q k) S m) ts
    back_over q k S m ts None next x is e n h = absurd (n e)
    back_over q k S m ts (Some u) next x is e n h = over q k S m ts u is (h u e)

    stuck_goes : (y : State goal) → Stuck ≡ Go y → ⊥
    stuck_goes y e = cc

    back_part : {p : Part} (q : Part) (k : Tree q → Form p) (S : Stack goal p) (m : Count) (t : Token) (ts : List Token) (s' : State goal) (o : Option (Rule q))
        (next : Tree q → Step goal) →
        rule q t ≡ o → enter d o k S m (skip (left_out q) next) ≡ Go s' → At d G E s' ts → ((u : Tree q) → next u ≡ Go s' → At d G E (at (k u) S m) (t ∷ ts)) →
        At d G E (at (part q k) S m) (t ∷ ts)
    back_part q k S m t ts s' (Some r) next is e h other = back_enter q k S m t ts s' r is e h
    back_part q k S m t ts s' None next is e h other = back_over q k S m (t ∷ ts) (left_out q) next (Go s') refl e (stuck_goes s') other

    back_form : {p : Part} (f : Form p) (S : Stack goal p) (m : Count) (t : Token) (ts : List Token) (s' : State goal) (rest : Tree p → Count → Step goal) →
        ((v : Tree p) (m' : Count) → rest v m' ≡ Go s' → Behind d G E S v m' (t ∷ ts)) → at_form d f S m (Some t) rest ≡ Go s' → At d G E s' ts →
        At d G E (at f S m) (t ∷ ts)
    back_form (done v) S m t ts s' rest hands e h = inr (v, m, t ∷ ts, Grammar.nothing_more, hands v m e)
    back_form (close f) S m t ts s' rest hands e h = ends f S m (t ∷ ts) (back_form f S (closed m) t ts s' rest hands e h)
    back_form (take c k) S m t ts s' rest hands e h = back_token c k S m t ts s' (seen c t) refl e h
    back_form (part q k) S m t ts s' rest hands e h =
        back_part q k S m t ts s' (rule q t) (λ u. at_form d (k u) S m (Some t) rest) refl e h (λ u e. back_form (k u) S m t ts s' rest hands e h)

    back_hand : {p : Part} (S : Stack goal p) (t : Token) (v : Tree p) (m : Count) (ts : List Token) (s' : State goal) → hand d S (Some t) v m ≡ Go s' →
        At d G E s' ts → Behind d G E S v m (t ∷ ts)
    back_hand bottom t v m ts s' e h = absurd cc
    back_hand (waits k S) t v m ts s' e h = back_form (k v) S m t ts s' (hand d S (Some t)) (λ u m' e. back_hand S t u m' ts s' e h) e h

    -- one step back
    pub back : (s s' : State goal) (t : Token) (ts : List Token) → step d s (Some t) ≡ Go s' → At d G E s' ts → At d G E s (t ∷ ts)
    back (at f S m) s' t ts e h = back_form f S m t ts s' (hand d S (Some t)) (λ v m' e. back_hand S t v m' ts s' e h) e h

    -- at the end of the tokens

    end_form : {p : Part} (f : Form p) (S : Stack goal p) (m : Count) (c : Tree goal) (rest : Tree p → Count → Step goal) →
        ((v : Tree p) (m' : Count) → rest v m' ≡ Accept c → Behind d G E S v m' []) → at_form d f S m None rest ≡ Accept c → At d G E (at f S m) []
    end_form (done v) S m c rest hands e = inr (v, m, [], Grammar.nothing_more, hands v m e)
    end_form (close f) S m c rest hands e = ends f S m [] (end_form f S (closed m) c rest hands e)
    end_form (take c' k) S m c rest hands e = absurd cc
    end_form (part q k) S m c rest hands e =
        back_over q k S m [] (left_out q) (λ u. at_form d (k u) S m None rest) (Accept c) refl e (λ x. stuck_accepts c x)
        (λ u e. end_form (k u) S m c rest hands e)
      where
        stuck_accepts : (c : Tree goal) → Stuck ≡ Accept c → ⊥
        stuck_accepts c e = cc

    end_hand : {p : Part} (S : Stack goal p) (v : Tree p) (m : Count) (c : Tree goal) → E c [] → hand d S None v m ≡ Accept c → Behind d G E S v m []
    end_hand bottom v m c h e = let same : v ≡ c = cc in subst (λ x. E x []) (sym same) h
    end_hand (waits k S) v m c h e = end_form (k v) S m c (hand d S None) (λ u m' e. end_hand S u m' c h e) e

    pub end : (s : State goal) (c : Tree goal) → E c [] → step d s None ≡ Accept c → At d G E s []
    end (at f S m) c h e = end_form f S m c (hand d S None) (λ v m' e. end_hand S v m' c h e) e
