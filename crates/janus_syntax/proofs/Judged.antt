-- A step, apart from the demands: what it would be, and whether it is within the limits and in agreement.
use Rattle.std.proofs.Common.{◌≡◌, Option, Some, None, Bool, refl}
use Rattle.janus_syntax.specs.Tokens.{Token}
use Rattle.janus_syntax.specs.Forms.{Part, Tree, Class, Seen, seen, agrees, Form, done, take, part, close, Rule}
use Rattle.janus_syntax.specs.Table.{rule, left_out}
use Rattle.janus_syntax.specs.Grammar.{Count, entered, closed, fits, Demands, met}
use Rattle.janus_syntax.specs.Reader.{Stack, bottom, waits, State, at, Step, Accept, Stuck, TooMany, Differs, go_if, enter, skip, taken, at_form, hand, step}
use Rattle.janus_syntax.proofs.Completes.{Within, within_closed, count_of}

pub data Raw (goal : Part) : Type 0 where
  Enters : Bool → State goal → Raw goal  -- within the limits?
  Takes : Bool → State goal → Raw goal  -- in agreement?
  Accepts : Tree goal → Raw goal
  Dead : Raw goal

module _ {goal : Part} where
  abbrev pub judge : Demands → Raw goal → Step goal
  judge d (Enters b s) = go_if (met d.limits b) s TooMany
  judge d (Takes b s) = go_if (met d.agreement b) s Differs
  judge d (Accepts c) = Accept c
  judge d Dead = Stuck

  abbrev raw_taken : {p : Part} → (c : Class) → Option (Seen c) → (Seen c → Form p) → Stack goal p → Count → Raw goal
  raw_taken c (Some s) k S m = Takes (agrees c s) (at (k s) S m)
  raw_taken c None k S m = Dead

  abbrev raw_skip : {T : Type 0} → Option T → (T → Raw goal) → Raw goal
  raw_skip (Some u) next = next u
  raw_skip None next = Dead

  abbrev raw_enter : {p q : Part} → Option (Rule q) → (Tree q → Form p) → Stack goal p → Count → Raw goal → Raw goal
  raw_enter (Some r) k S m other = Enters (fits (entered r m)) (at r.form (waits k S) (entered r m))
  raw_enter None k S m other = other

  abbrev raw_form : {p : Part} → Form p → Stack goal p → Count → Option Token → (Tree p → Count → Raw goal) → Raw goal
  raw_form (done v) S m t rest = rest v m
  raw_form (close f) S m t rest = raw_form f S (closed m) t rest
  raw_form (take c k) S m None rest = Dead
  raw_form (take c k) S m (Some t) rest = raw_taken c (seen c t) k S m
  raw_form (part q k) S m None rest = raw_skip (left_out q) (λ u. raw_form (k u) S m None rest)
  raw_form (part q k) S m (Some t) rest = raw_enter (rule q t) k S m (raw_skip (left_out q) (λ u. raw_form (k u) S m (Some t) rest))

  abbrev raw_hand : {p : Part} → Stack goal p → Option Token → Tree p → Count → Raw goal
  raw_hand bottom None c m = Accepts c
  raw_hand bottom (Some t) c m = Dead
  raw_hand (waits k S) t v m = raw_form (k v) S m t (raw_hand S t)

  abbrev pub raw : State goal → Option Token → Raw goal
  raw (at f S m) t = raw_form f S m t (raw_hand S t)

  taken_judged : (d : Demands) {p : Part} (c : Class) (o : Option (Seen c)) (k : Seen c → Form p) (S : Stack goal p) (m : Count) →
      taken c d o k S m ≡ judge d (raw_taken c o k S m)
  taken_judged d c (Some s) k S m = refl
  taken_judged d c None k S m = refl

  skip_judged : (d : Demands) {T : Type 0} (o : Option T) (next : T → Step goal) (raw_next : T → Raw goal) → ((u : T) → next u ≡ judge d (raw_next u)) →
      skip o next ≡ judge d (raw_skip o raw_next)
  skip_judged d (Some u) next raw_next h = h u
  skip_judged d None next raw_next h = refl

  enter_judged : (d : Demands) {p : Part} (q : Part) (o : Option (Rule q)) (k : Tree q → Form p) (S : Stack goal p) (m : Count) (x : Step goal) (y : Raw goal) →
      x ≡ judge d y → enter d o k S m x ≡ judge d (raw_enter o k S m y)
  enter_judged d q (Some r) k S m x y h = refl
  enter_judged d q None k S m x y h = h

  form_judged : (d : Demands) {p : Part} (f : Form p) (S : Stack goal p) (m : Count) (t : Option Token) (rest : Tree p → Count → Step goal)
      (raw_rest : Tree p → Count → Raw goal) →
      ((v : Tree p) (n : Count) → rest v n ≡ judge d (raw_rest v n)) → at_form d f S m t rest ≡ judge d (raw_form f S m t raw_rest)
  form_judged d (done v) S m t rest raw_rest h = h v m
  form_judged d (close f) S m t rest raw_rest h = form_judged d f S (closed m) t rest raw_rest h
  form_judged d (take c k) S m None rest raw_rest h = refl
  form_judged d (take c k) S m (Some t) rest raw_rest h = taken_judged d c (seen c t) k S m
  form_judged d (part q k) S m None rest raw_rest h =
      skip_judged d (left_out q) (λ u. at_form d (k u) S m None rest) (λ u. raw_form (k u) S m None raw_rest)
      (λ u. form_judged d (k u) S m None rest raw_rest h)
  form_judged d (part q k) S m (Some t) rest raw_rest h =
      enter_judged d q (rule q t) k S m (skip (left_out q) (λ u. at_form d (k u) S m (Some t) rest))
      (raw_skip (left_out q) (λ u. raw_form (k u) S m (Some t) raw_rest))
      (skip_judged d (left_out q) (λ u. at_form d (k u) S m (Some t) rest) (λ u. raw_form (k u) S m (Some t) raw_rest)
      (λ u. form_judged d (k u) S m (Some t) rest raw_rest h))

  hand_judged : (d : Demands) {p : Part} (S : Stack goal p) (t : Option Token) (v : Tree p) (m : Count) → hand d S t v m ≡ judge d (raw_hand S t v m)
  hand_judged d bottom None v m = refl
  hand_judged d bottom (Some t) v m = refl
  hand_judged d (waits k S) t v m = form_judged d (k v) S m t (hand d S t) (raw_hand S t) (λ u n. hand_judged d S t u n)

  pub judged : (d : Demands) (s : State goal) (t : Option Token) → step d s t ≡ judge d (raw s t)
  judged d (at f S m) t = form_judged d f S m t (hand d S t) (raw_hand S t) (λ u n. hand_judged d S t u n)

  -- The counts stay within the limits, if they are.

  abbrev pub Keeps : Bool → Raw goal → Type 0
  Keeps b (Enters ok s) = ok ≡ fits (count_of s)
  Keeps b (Takes ok s) = Within b (count_of s)
  Keeps b (Accepts c) = Unit {0}
  Keeps b Dead = Unit {0}

  keeps_taken : (b : Bool) {p : Part} (c : Class) (o : Option (Seen c)) (k : Seen c → Form p) (S : Stack goal p) (m : Count) → Within b m →
      Keeps b (raw_taken c o k S m)
  keeps_taken b c (Some s) k S m h = h
  keeps_taken b c None k S m h = tt

  keeps_skip : (b : Bool) {T : Type 0} (o : Option T) (next : T → Raw goal) → ((u : T) → Keeps b (next u)) → Keeps b (raw_skip o next)
  keeps_skip b (Some u) next h = h u
  keeps_skip b None next h = tt

  keeps_enter : (b : Bool) {p : Part} (q : Part) (o : Option (Rule q)) (k : Tree q → Form p) (S : Stack goal p) (m : Count) (y : Raw goal) → Keeps b y →
      Keeps b (raw_enter o k S m y)
  keeps_enter b q (Some r) k S m y h = refl
  keeps_enter b q None k S m y h = h

  keeps_form : (b : Bool) {p : Part} (f : Form p) (S : Stack goal p) (m : Count) (t : Option Token) (rest : Tree p → Count → Raw goal) → Within b m →
      ((v : Tree p) (n : Count) → Within b n → Keeps b (rest v n)) → Keeps b (raw_form f S m t rest)
  keeps_form b (done v) S m t rest w h = h v m w
  keeps_form b (close f) S m t rest w h = keeps_form b f S (closed m) t rest (within_closed b m w) h
  keeps_form b (take c k) S m None rest w h = tt
  keeps_form b (take c k) S m (Some t) rest w h = keeps_taken b c (seen c t) k S m w
  keeps_form b (part q k) S m None rest w h = keeps_skip b (left_out q) (λ u. raw_form (k u) S m None rest) (λ u. keeps_form b (k u) S m None rest w h)
  keeps_form b (part q k) S m (Some t) rest w h =
      keeps_enter b q (rule q t) k S m (raw_skip (left_out q) (λ u. raw_form (k u) S m (Some t) rest))
      (keeps_skip b (left_out q) (λ u. raw_form (k u) S m (Some t) rest) (λ u. keeps_form b (k u) S m (Some t) rest w h))

  keeps_hand : (b : Bool) {p : Part} (S : Stack goal p) (t : Option Token) (v : Tree p) (m : Count) → Within b m → Keeps b (raw_hand S t v m)
  keeps_hand b bottom None v m w = tt
  keeps_hand b bottom (Some t) v m w = tt
  keeps_hand b (waits k S) t v m w = keeps_form b (k v) S m t (raw_hand S t) w (λ u n i. keeps_hand b S t u n i)

  pub keeps : (b : Bool) (s : State goal) (t : Option Token) → Within b (count_of s) → Keeps b (raw s t)
  keeps b (at f S m) t w = keeps_form b f S m t (raw_hand S t) w (λ u n i. keeps_hand b S t u n i)
