-- What the grammar's table means: which tokens spell which tree; what has to come next behind the beginning of a
-- text; and where tokens are refused. What a text is to be is the part `goal`: a cell, or an expression.
use Rattle.std.specs.Prelude.{◌≡◌, ℕ, suc, ◌+◌, ◌-◌, List, [], ◌∷◌, ◌++◌, length, Option, Some, None, Bool, true, false, cond, nat_le, ◌&&◌}
use Rattle.janus_syntax.specs.declared.expression.TheConstants.{DEPTH_LIMIT, OPERATOR_LIMIT}
use Rattle.janus_syntax.specs.declared.fault.What.{What}
use Rattle.janus_syntax.specs.declared.fault.What.TheVariants as what
use Rattle.janus_syntax.specs.Tokens.{Token}
use Rattle.janus_syntax.specs.Tree.{cell_of}
use Rattle.janus_syntax.specs.Forms.{Part, A_cell, Declarations, Statements, Procedures, Tree, Class, Seen, seen, agrees, what_of, Form, done, take, part}
use Rattle.janus_syntax.specs.Forms.{close, Rule}
use Rattle.janus_syntax.specs.Table.{rule, left_out, label, is_bare}

-- The number of open constructs, and that of the operators that the whole expression has so far.
pub record Count : Type 0 where
  pub depth : ℕ
  pub used : ℕ

abbrev pub zero_count : Count
zero_count = record { depth = 0; used = 0 }

-- behind the first token of a rule
abbrev pub entered : {p : Part} → Rule p → Count → Count
entered r m = record { depth = m.depth + r.opens; used = cond r.is_whole 0 m.used + r.counts }

-- behind the end of a construct
abbrev pub closed : Count → Count
closed m = record { depth = m.depth - 1; used = m.used }

-- the most constructs that may be open at once
abbrev pub depth_limit : ℕ
depth_limit = DEPTH_LIMIT

-- the most operators that one whole expression may have
abbrev pub operator_limit : ℕ
operator_limit = OPERATOR_LIMIT

abbrev pub fits : Count → Bool
fits m = nat_le m.depth depth_limit && nat_le m.used operator_limit

-- Which demands beyond the forms are made: the limits, and that `delocal` has the kind and the name of its `local`.
pub record Demands : Type 0 where
  pub limits : Bool
  pub agreement : Bool

abbrev pub all : Demands
all = record { limits = true; agreement = true }

abbrev pub none : Demands
none = record { limits = false; agreement = false }

abbrev pub but_limits : Demands
but_limits = record { limits = false; agreement = true }

abbrev pub but_agreement : Demands
but_agreement = record { limits = true; agreement = false }

-- if it is demanded, it holds
abbrev pub met : Bool → Bool → Bool
met true b = b
met false b = true

-- 'Spells d p f v m from m' rest': the tokens of from up to rest are of the form f, as the tree v; the counts are m
-- before them and m' behind them.
pub data Spells (d : Demands) : (p : Part) → Form p → Tree p → Count → List Token → Count → List Token → Type 0 where
  nothing_more : {p : Part} {v : Tree p} {m : Count} {rest : List Token} → Spells d p (done v) v m rest m rest
  token : {p : Part} {c : Class} {k : Seen c → Form p} {s : Seen c} {v : Tree p} {t : Token} {m m' : Count} {from rest : List Token} →
      seen c t ≡ Some s → met d.agreement (agrees c s) ≡ true →
      Spells d p (k s) v m from m' rest → Spells d p (take c k) v m (t ∷ from) m' rest
  end_of_construct : {p : Part} {f : Form p} {v : Tree p} {m m' : Count} {from rest : List Token} →
      Spells d p f v (closed m) from m' rest → Spells d p (close f) v m from m' rest
  a_part : {p q : Part} {k : Tree q → Form p} {r : Rule q} {u : Tree q} {v : Tree p} {t : Token} {m m1 m' : Count} {from middle rest : List Token} →
      rule q t ≡ Some r → met d.limits (fits (entered r m)) ≡ true →
      Spells d q r.form u (entered r m) from m1 middle → Spells d p (k u) v m1 middle m' rest → Spells d p (part q k) v m (t ∷ from) m' rest
  no_part : {p q : Part} {k : Tree q → Form p} {u : Tree q} {v : Tree p} {m m' : Count} {from rest : List Token} →
      left_out q ≡ Some u → Spells d p (k u) v m from m' rest → Spells d p (part q k) v m from m' rest

-- A whole text: a cell is its declarations and then its statements; any other part stands alone.
abbrev pub text_form : (goal : Part) → Form goal
text_form A_cell = part Declarations (λ ds. part Statements (λ b. part (Procedures (is_bare ds b) (cell_of ds b [])) done))
text_form goal = part goal done

-- these tokens are that part, with this tree
abbrev pub IsTree : (goal : Part) → Demands → Tree goal → List Token → Type 0
IsTree goal d v tokens = (m : Count) × Spells d goal (text_form goal) v zero_count tokens m []

-- what begins it
abbrev pub IsOpen : (goal : Part) → Demands → List Token → Type 0
IsOpen goal d front = (more : List Token) × (v : Tree goal) × IsTree goal d v (front ++ more)

-- The next required item of a form, optional parts passed over; or, if nothing more is required, its tree.
pub data Next (p : Part) : Type 0 where
  Wanted : What → Next p
  Complete : Tree p → Next p

abbrev pub passed_over : {p : Part} {T : Type 0} → Option T → What → (T → Next p) → Next p
passed_over (Some u) w next = next u
passed_over None w next = Wanted w

abbrev pub required : {p : Part} → Form p → Next p
required (done v) = Complete v
required (take c k) = Wanted (what_of c)
required (close f) = required f
required (part q k) = passed_over (left_out q) (label q) (λ u. required (k u))

-- 'Begins d p f w m front': the tokens of front begin the form f, and w is the next required item of the innermost
-- part that is begun and not finished.
pub data Begins (d : Demands) : (p : Part) → Form p → What → Count → List Token → Type 0 where
  here : {p : Part} {f : Form p} {w : What} {m : Count} → required f ≡ Wanted w → Begins d p f w m []
  token : {p : Part} {c : Class} {k : Seen c → Form p} {s : Seen c} {w : What} {t : Token} {m : Count} {front : List Token} →
      seen c t ≡ Some s → met d.agreement (agrees c s) ≡ true →
      Begins d p (k s) w m front → Begins d p (take c k) w m (t ∷ front)
  end_of_construct : {p : Part} {f : Form p} {w : What} {m : Count} {front : List Token} →
      Begins d p f w (closed m) front → Begins d p (close f) w m front
  inside : {p q : Part} {k : Tree q → Form p} {r : Rule q} {w : What} {t : Token} {m : Count} {front : List Token} →
      rule q t ≡ Some r → met d.limits (fits (entered r m)) ≡ true →
      Begins d q r.form w (entered r m) front → Begins d p (part q k) w m (t ∷ front)
  behind : {p q : Part} {k : Tree q → Form p} {r : Rule q} {u : Tree q} {w : What} {t : Token} {m m1 : Count} {from front : List Token} →
      rule q t ≡ Some r → met d.limits (fits (entered r m)) ≡ true →
      Spells d q r.form u (entered r m) from m1 front → Begins d p (k u) w m1 front → Begins d p (part q k) w m (t ∷ from)
  no_part : {p q : Part} {k : Tree q → Form p} {u : Tree q} {w : What} {m : Count} {front : List Token} →
      left_out q ≡ Some u → Begins d p (k u) w m front → Begins d p (part q k) w m front

-- What has to come next behind this front: the end, if it is whole already.
pub data Wants (goal : Part) (d : Demands) : What → List Token → Type 0 where
  an_item : {w : What} {front : List Token} → Begins d goal (text_form goal) w zero_count front → Wants goal d w front
  the_end : {v : Tree goal} {front : List Token} → IsTree goal d v front → Wants goal d what.End front

-- why tokens are refused, and how many of them are left at the place
pub data Refusal : Type 0 where
  Expected : What → ℕ → Refusal
  TooNested : ℕ → Refusal
  DelocalName : ℕ → Refusal

-- The refusal stands at the first token with which no text goes on that meets all demands.
-- Expected: no text at all goes on with it; or the tokens are at their end, and only begin a text.
-- TooNested: a text goes on with it, if the limits are left aside.
-- DelocalName: a text goes on with it, if another kind and another name may stand behind `delocal`.
pub data IsRefused (goal : Part) (tokens : List Token) : Refusal → Type 0 where
  expected : {w : What} → (front : List Token) (t : Token) (behind : List Token) → tokens ≡ front ++ t ∷ behind → Wants goal all w front →
      (IsOpen goal none (front ++ t ∷ []) → ⊥) → IsRefused goal tokens (Expected w (suc (length behind)))
  expected_at_end : {w : What} → Wants goal all w tokens → ((v : Tree goal) → IsTree goal all v tokens → ⊥) → IsRefused goal tokens (Expected w 0)
  too_nested : (front : List Token) (t : Token) (behind : List Token) → tokens ≡ front ++ t ∷ behind → ((w : What) × Wants goal all w front) →
      IsOpen goal but_limits (front ++ t ∷ []) → (IsOpen goal all (front ++ t ∷ []) → ⊥) → IsRefused goal tokens (TooNested (suc (length behind)))
  delocal_name : (front : List Token) (t : Token) (behind : List Token) → tokens ≡ front ++ t ∷ behind → ((w : What) × Wants goal all w front) →
      IsOpen goal but_agreement (front ++ t ∷ []) → (IsOpen goal all (front ++ t ∷ []) → ⊥) → IsRefused goal tokens (DelocalName (suc (length behind)))
