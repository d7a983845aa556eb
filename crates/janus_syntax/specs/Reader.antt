-- A machine that reads tokens one by one. It keeps what is still owed as a stack of forms. It is no part of what
-- the grammar means: proofs/ relates the two. Its recursion is on the tokens, and within a step on the stack.
use Rattle.std.specs.Prelude.{ℕ, zero, suc, List, [], ◌∷◌, length, Option, Some, None, Bool, cond}
use Rattle.janus_syntax.specs.declared.fault.What.{What}
use Rattle.janus_syntax.specs.declared.fault.What.TheVariants as what
use Rattle.janus_syntax.specs.Tokens.{Token}
use Rattle.janus_syntax.specs.Forms.{Part, Tree, Class, Seen, seen, agrees, Form, done, take, part, close, Rule}
use Rattle.janus_syntax.specs.Table.{rule, left_out}
use Rattle.janus_syntax.specs.Grammar.{Count, zero_count, entered, closed, fits, Demands, met, text_form, Next, Wanted, Complete, required, Refusal}
use Rattle.janus_syntax.specs.Grammar.{Expected, TooNested, DelocalName}

-- what waits for a part's tree, where the whole is to be the part `goal`
pub data Stack (goal : Part) : Part → Type 0 where
  bottom : Stack goal goal
  waits : {p q : Part} → (Tree q → Form p) → Stack goal p → Stack goal q

-- a form, what waits for its tree, and the counts
pub data State (goal : Part) : Type 0 where
  at : {p : Part} → Form p → Stack goal p → Count → State goal

pub data Step (goal : Part) : Type 0 where
  Go : State goal → Step goal
  Accept : Tree goal → Step goal
  Stuck : Step goal
  TooMany : Step goal
  Differs : Step goal

abbrev pub go_if : {goal : Part} → Bool → State goal → Step goal → Step goal
go_if b s other = cond b (Go s) other

-- the part q begins with this rule, or is left out
abbrev pub enter : {goal p q : Part} → Demands → Option (Rule q) → (Tree q → Form p) → Stack goal p → Count → Step goal → Step goal
enter d (Some r) k S m other = go_if (met d.limits (fits (entered r m))) (at r.form (waits k S) (entered r m)) TooMany
enter d None k S m other = other

abbrev pub skip : {goal : Part} {T : Type 0} → Option T → (T → Step goal) → Step goal
skip (Some u) next = next u
skip None next = Stuck

abbrev pub taken : {goal p : Part} → (c : Class) → Demands → Option (Seen c) → (Seen c → Form p) → Stack goal p → Count → Step goal
taken c d (Some s) k S m = go_if (met d.agreement (agrees c s)) (at (k s) S m) Differs
taken c d None k S m = Stuck

-- at a form; behind its end the step goes on as `rest` says
abbrev pub at_form : {goal p : Part} → Demands → Form p → Stack goal p → Count → Option Token → (Tree p → Count → Step goal) → Step goal
at_form d (done v) S m t rest = rest v m
at_form d (close f) S m t rest = at_form d f S (closed m) t rest
at_form d (take c k) S m None rest = Stuck
at_form d (take c k) S m (Some t) rest = taken c d (seen c t) k S m
at_form d (part q k) S m None rest = skip (left_out q) (λ u. at_form d (k u) S m None rest)
at_form d (part q k) S m (Some t) rest = enter d (rule q t) k S m (skip (left_out q) (λ u. at_form d (k u) S m (Some t) rest))

-- a tree is handed to what waits for it
abbrev pub hand : {goal p : Part} → Demands → Stack goal p → Option Token → Tree p → Count → Step goal
hand d bottom None v m = Accept v
hand d bottom (Some t) v m = Stuck
hand d (waits k S) t v m = at_form d (k v) S m t (hand d S t)

abbrev pub step : {goal : Part} → Demands → State goal → Option Token → Step goal
step d (at f S m) t = at_form d f S m t (hand d S t)

-- what is wanted
abbrev pub wanted_behind : {goal p : Part} → Stack goal p → Next p → What
wanted_behind S (Wanted w) = w
wanted_behind bottom (Complete v) = what.End
wanted_behind (waits k S) (Complete v) = wanted_behind S (required (k v))

abbrev pub wanted : {goal : Part} → State goal → What
wanted (at f S m) = wanted_behind S (required f)

-- how a reading ends: at the end of the tokens, with a tree or without; or earlier, with how many tokens are left
pub data Outcome (goal : Part) : Type 0 where
  Ended : Option (Tree goal) → What → Outcome goal
  Failed : What → ℕ → Outcome goal
  Nested : ℕ → Outcome goal
  Unlike : ℕ → Outcome goal

-- how it ends at a refusal
abbrev pub outcome_of : {goal : Part} → Refusal → Outcome goal
outcome_of (Expected w zero) = Ended None w
outcome_of (Expected w (suc n)) = Failed w (suc n)
outcome_of (TooNested n) = Nested n
outcome_of (DelocalName n) = Unlike n

abbrev pub at_end : {goal : Part} → What → Step goal → Outcome goal
at_end w (Accept v) = Ended (Some v) w
at_end w _ = Ended None w

abbrev pub follow : {goal : Part} → (State goal → Outcome goal) → What → ℕ → Step goal → Outcome goal
follow go w left (Go s) = go s
follow go w left (Accept v) = Failed w left
follow go w left Stuck = Failed w left
follow go w left TooMany = Nested left
follow go w left Differs = Unlike left

abbrev pub run : {goal : Part} → Demands → List Token → State goal → Outcome goal
run d [] s = at_end (wanted s) (step d s None)
run d (t ∷ rest) s = follow (λ n. run d rest n) (wanted s) (suc (length rest)) (step d s (Some t))

abbrev pub start : (goal : Part) → State goal
start goal = at (text_form goal) bottom zero_count

-- the next token, if there is one
abbrev pub next : List Token → Option Token
next [] = None
next (t ∷ rest) = Some t
