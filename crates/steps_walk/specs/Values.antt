-- The value of an expression over the names in sight.
use Rattle.std.specs.Prelude.{◌≡◌, ℤ, Bool, false, List, [], ◌∷◌, length, slice_get, Option, None, Some, Result, Ok, Err}
use Rattle.std.specs.Borrow.{Bor}
use Rattle.janus_meaning.specs.Fault.{Res, Fine, Bad, Broken}
use Rattle.janus_meaning.specs.Syntax.{Name}
use Rattle.janus_meaning.specs.Store.{Store, Bare, Slot, Val, Lent, look}
use Rattle.janus_meaning.specs.World.{listed}
use Rattle.janus_meaning.specs.Value.{value}
use Rattle.janus_meaning.specs.Word.{nonzero}
use Rattle.janus_syntax.specs.View.{exp_of}
use Rattle.janus_syntax.specs.declared.tree.Exp.{Exp}
use Rattle.janus_memory.specs.declared.value.ValueView.{ValueView}
use Rattle.janus_memory.specs.declared.stack_view.StackView.{StackView}
use Rattle.janus_memory.specs.Stacks.{held}
use Rattle.janus_memory.specs.Values.{shown}
use Rattle.janus_row.specs.NumberResults.{fault_of}
use Rattle.steps_walk.specs.declared.evaluation.NoValue.{NoValue}
use Rattle.steps_walk.specs.declared.evaluation.NoValue.TheVariants.{Unknown, Kind, Fault}
use Rattle.steps_walk.specs.declared.sight.Sight.{Sight}
use Rattle.steps_walk.specs.declared.walk.Walk.{Walk}
use Rattle.steps_walk.specs.Walk.{slots_in}
use Rattle.steps_walk.specs.Sights.{AreInSight, IsSightHere}

-- what stands in a slot; nothing to be read where there is none
abbrev pub value_or_lent : Option (Name × Val) → Val
value_or_lent None = Lent
value_or_lent (Some e) = e.1

-- the names in sight, the newest first, each with the value in its slot
abbrev pub sighted : Store → List Name → Store
sighted s [] = Bare
sighted s (x ∷ g) = Slot x (value_or_lent (slice_get (listed s) (length g))) (sighted s g)

-- a name that is not in sight, or stands for another kind of value, is no part of a well-formed expression
abbrev pub fault_told : {A : Type 0} → NoValue → Res A
fault_told Unknown = Bad Broken
fault_told Kind = Bad Broken
fault_told (Fault f) = Bad (fault_of f)

abbrev pub told : Result ℤ NoValue → Res ℤ
told (Ok n) = Fine n
told (Err e) = fault_told e

-- the value of a name that is lent, if it is in sight
abbrev pub found_value : Option ValueView → Res Val
found_value None = Bad Broken
found_value (Some v) = Fine (shown v)

-- the elements of an array that is lent
abbrev pub found_array : Result (Bor (List ℤ)) NoValue → Res (List ℤ)
found_array (Ok items) = Fine items.now
found_array (Err e) = fault_told e

-- the values of a stack that is lent, the newest first
abbrev pub found_stack : Result StackView NoValue → Res (List ℤ)
found_stack (Ok values) = Fine (held values)
found_stack (Err e) = fault_told e

-- it is a number, and not 0
abbrev pub holds_as : Res ℤ → Bool
holds_as (Fine n) = nonzero n
holds_as (Bad fault) = false

-- the value of a name, by the names that are in sight at the innermost level of a walk
pub record IsValueHere {L : Type 0} (w : Walk L) (name : Name) (v : Res Val) : Type 0 where
  pub sight : Sight
  pub of : IsSightHere w sight
  pub is : (g : List Name) → AreInSight sight g → v ≡ look name (sighted (slots_in w) g)

-- whether an expression holds over those names
pub record TellsHolding {L : Type 0} (exp : Exp) (w : Walk L) (holds : Bool) : Type 0 where
  pub sight : Sight
  pub of : IsSightHere w sight
  pub is : (g : List Name) → AreInSight sight g → holds ≡ holds_as (value (exp_of exp) (sighted (slots_in w) g))
