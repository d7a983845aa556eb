-- How much may be open at once.
use Rattle.std.specs.Prelude.{ℕ}
use Rattle.janus_frames.specs.declared.limit.TheConstants.{LOCAL_LIMIT, CALL_LIMIT, BOUND_LIMIT, RESULT_LIMIT}

-- the most locals that may be open
abbrev pub local_limit : ℕ
local_limit = LOCAL_LIMIT

-- the most calls that may be open
abbrev pub call_limit : ℕ
call_limit = CALL_LIMIT

-- the most parameters that may be bound at once
abbrev pub bound_limit : ℕ
bound_limit = BOUND_LIMIT

-- the most results that stand behind the names
abbrev pub result_limit : ℕ
result_limit = RESULT_LIMIT
