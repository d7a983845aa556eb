-- The limits of the language.
use Rattle.std.specs.Prelude.{ℕ, ◌≤◌, nat_lt, Option, Some, None, Bool, true}
use Rattle.janus_meaning.specs.declared.limit.TheConstants.{FRAME_LIMIT, LIVE_STACK_LIMIT, VALUE_LIMIT, STEP_LIMIT}
use Rattle.janus_meaning.specs.declared.limit.TheConstants.{NAME_LIMIT, PROCEDURE_LIMIT, PARAMETER_LIMIT, ARRAY_LIMIT}

-- ---- limits that belong to the meaning of a cell

-- the most control frames that may be open at once: each open block, `if`, loop, local and call is one
abbrev pub frame_limit : ℕ
frame_limit = FRAME_LIMIT

-- the most stacks that may live, declared and local
abbrev pub live_stack_limit : ℕ
live_stack_limit = LIVE_STACK_LIMIT

-- the most values that all live stacks may hold together
abbrev pub value_limit : ℕ
value_limit = VALUE_LIMIT

-- the most steps that a cell may take
abbrev pub step_limit : ℕ
step_limit = STEP_LIMIT

-- ---- limits on values, the language's and older ones

-- how many values a single stack may hold, and all live ones together; `None` is no limit
pub record Limits : Type 0 where
  pub single : Option ℕ
  pub together : Option ℕ

-- the language's limits: one stack may take the whole pool
abbrev pub pool : Limits
pool = record { single = None; together = Some value_limit }

-- how many values a stack's part of the pool holds
abbrev pub part_limit : ℕ
part_limit = 4096

-- older ones, for comparison: each stack has a part for itself, and no more
abbrev pub parts : Limits
parts = record { single = Some part_limit; together = None }

-- so many values are within a limit
abbrev pub IsWithin : Option ℕ → ℕ → Type 0
IsWithin None n = Unit {0}
IsWithin (Some limit) n = n ≤ limit

-- and so would be one more
abbrev pub is_below : Option ℕ → ℕ → Bool
is_below None n = true
is_below (Some limit) n = nat_lt n limit

-- ---- limits on what is declared and defined

-- the most names that a world may have
abbrev pub name_limit : ℕ
name_limit = NAME_LIMIT

-- the most procedures that a world may have
abbrev pub procedure_limit : ℕ
procedure_limit = PROCEDURE_LIMIT

-- the most parameters that a procedure may have
abbrev pub parameter_limit : ℕ
parameter_limit = PARAMETER_LIMIT

-- the largest length of an array
abbrev pub array_limit : ℕ
array_limit = ARRAY_LIMIT
