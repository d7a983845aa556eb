-- What a call does to the names in sight, in the meaning's own words: arguments are taken out for parameters, and put back when it is left.
use Rattle.std.specs.Prelude.{◌≡◌, ◌+◌, ◌≤◌, ℕ, List, [], ◌∷◌, length, map, take, refl}
use Rattle.std.specs.Coded.{Coded, code_by, coded×, coded_list, coded_ℕ}
use Rattle.janus_meaning.specs.Codes.{store_code}
use Rattle.janus_meaning.specs.Fault.{Fine, or_else}
use Rattle.janus_meaning.specs.Limit.{parameter_limit}
use Rattle.janus_meaning.specs.Syntax.{Name}
use Rattle.janus_meaning.specs.Store.{Val, Store, pull, fill, bind, unbind, values_in, held_in}
use Rattle.janus_meaning.specs.World.{size_of, oldest, stacks_in}
use Rattle.janus_slots.specs.Slots.{slot}
use Rattle.janus_frames.specs.Cells.{parameters}
use Rattle.janus_frames.specs.declared.args.Args.{Args}

-- the arguments of a call, by the numbers of their slots
abbrev pub slots_of : Args → List ℕ
slots_of a = take a.count a.slots

-- and by their slots
abbrev pub names_of : Args → List Name
names_of a = map slot (slots_of a)

-- what a call left behind: its arguments' slots, the first one first, and the store that it was called in, where just these are lent
pub record Caller : Type 0 where
  pub args : List Name
  pub store : Store

-- these names are there, each with a value of its own
abbrev pub CanLend : List Name → Store → Type 0
CanLend xs s = (t : List Val × Store) × (pull xs s ≡ Fine t)

-- A call is entered: its parameters alone are in sight, with the arguments' values, and the caller's store is left behind, in which the
-- arguments are lent.
abbrev pub Enters : List Name → Store → List Caller → Store → List Caller → Type 0
Enters args s cs inside behind = (t : List Val × Store) → pull args s ≡ Fine t →
    (bind (parameters (length args)) t.0 ≡ Fine inside) × (behind ≡ record { args = args; store = t.1 } ∷ cs)

-- a call is open, and none of its locals
abbrev pub AreAlone : List Caller → Store → Type 0
AreAlone [] s = ⊥
AreAlone (c ∷ cs) s = size_of s ≡ length c.args

-- A call is left: the caller's store is in sight again, and what it lent has the parameters' final values.
abbrev pub Returns : List Caller → Store → Store → List Caller → Type 0
Returns [] s back behind = ⊥
Returns (c ∷ cs) s back behind =
    (behind ≡ cs) × ((vs : List Val) → unbind (parameters (length c.args)) s ≡ Fine vs → fill c.args vs c.store ≡ Fine back)

-- ---- what is shown while calls are open

-- a caller's store, where what it lent has the parameters' values: they are the oldest names inside
abbrev pub returned : Caller → Store → Store
returned c s = or_else (fill c.args (values_in (oldest (length c.args) s)) c.store) c.store

-- the outermost store, where all that is lent is given back
abbrev pub given_back : Store → List Caller → Store
given_back s [] = s
given_back s (c ∷ cs) = given_back (returned c s) cs

-- ---- how much is held, in sight and by callers

-- how many names callers have
abbrev pub names_lent : List Caller → ℕ
names_lent [] = 0
names_lent (c ∷ cs) = size_of c.store + names_lent cs

-- how many stacks callers keep, which they did not lend
abbrev pub stacks_lent : List Caller → ℕ
stacks_lent [] = 0
stacks_lent (c ∷ cs) = stacks_in c.store + stacks_lent cs

-- how many values callers keep on the stacks that they did not lend
abbrev pub values_lent : List Caller → ℕ
values_lent [] = 0
values_lent (c ∷ cs) = held_in c.store + values_lent cs

-- how many parameters are bound
abbrev pub params_bound : List Caller → ℕ
params_bound [] = 0
params_bound (c ∷ cs) = length c.args + params_bound cs

-- how many of the names in sight are no locals: d outside of calls, in a call its parameters
abbrev pub own_names : ℕ → List Caller → ℕ
own_names d [] = d
own_names d (c ∷ cs) = length c.args

-- no call has more parameters than a procedure may have
abbrev pub AreShort : List Caller → Type 0
AreShort [] = Unit {0}
AreShort (c ∷ cs) = (length c.args ≤ parameter_limit) × AreShort cs

abbrev pub caller_code : Coded Caller
caller_code =
    code_by (List Name × Store) (coded× (coded_list (coded_list coded_ℕ)) store_code) (λ c. (c.args, c.store)) (λ p. record { args = p.0; store = p.1 })
    (λ _. refl)
