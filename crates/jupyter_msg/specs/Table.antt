-- Tables of fields, in the order in which they are looked at, each with a test of its value.
use Rattle.std.specs.Prelude.{Bool, List, [], ◌∷◌, Option, Some, None, if◌then◌else◌}
use Rattle.serde_json.specs.Data.{Data}

-- the first field whose value, where it has one, does not pass its test
abbrev pub first_failing : {F : Type 0} → (F → Option Data) → List (F × (Option Data → Bool)) → Option F
first_failing value [] = None
first_failing value (row ∷ rows) = if row.1 (value row.0) then first_failing value rows else Some row.0
