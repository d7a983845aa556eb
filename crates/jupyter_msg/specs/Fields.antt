-- The fields of a JSON object, as requests have them.
use Rattle.std.specs.Prelude.{ℕ, ℤ, Bool, true, List, [], ◌∷◌, Option, Some, None, is_some, option_map, option_and_then, unwrap_or, if◌then◌else◌}
use Rattle.serde_json.specs.Data.{Data, Members, no_members, member}
use Rattle.serde_json.specs.Find.{get, as_null, as_bool, as_str, as_number, as_u64, as_i64, as_object}
use Rattle.jupyter_msg.specs.Table.{first_failing}
use Rattle.jupyter_msg.specs.Fault.{field_name}
use Rattle.jupyter_msg.specs.declared.fault.Field.{Field}

-- a value that is not null
abbrev pub unless_null : Data → Option Data
unless_null d = if is_some (as_null d) then None else Some d

-- the value of a field: none where it is missing or null
unfoldable pub value_at : Field → Data → Option Data
value_at f d = option_and_then unless_null (get (field_name f) d)

-- ---- the kinds of values

-- a whole number from 0 on; 1.0 and 1e3 are none, since they are read as floats
abbrev pub as_count : Data → Option ℕ
as_count d = option_and_then as_u64 (as_number d)

-- a whole number below 2^63, with its sign
abbrev pub as_whole : Data → Option ℤ
as_whole d = option_and_then as_i64 (as_number d)

-- each member's name with its text, where all are texts
abbrev pub texts_in : Members → Option (List (List ℕ × List ℕ))
texts_in no_members = Some []
texts_in (member name d rest) =
    option_and_then (λ t. option_map (λ more. (name, t) ∷ more) (texts_in rest)) (as_str d)

abbrev pub as_texts : Data → Option (List (List ℕ × List ℕ))
as_texts d = option_and_then texts_in (as_object d)

-- ---- the tests of a field

-- a value of this kind stands there
abbrev pub needed : {A : Type 0} → (Data → Option A) → Option Data → Bool
needed kind value = is_some (option_and_then kind value)

-- a value of this kind stands there, or none
abbrev pub allowed : {A : Type 0} → (Data → Option A) → Option Data → Bool
allowed kind None = true
allowed kind (Some d) = is_some (kind d)

-- the first field of a table whose value does not pass its test
abbrev pub first_wrong : List (Field × (Option Data → Bool)) → Data → Option Field
first_wrong rows d = first_failing (λ f. value_at f d) rows

-- ---- the values of fields

abbrev pub text_at : Field → Data → Option (List ℕ)
text_at f d = option_and_then as_str (value_at f d)

abbrev pub flag_at : Field → Bool → Data → Bool
flag_at f default d = unwrap_or (option_and_then as_bool (value_at f d)) default

abbrev pub count_at : Field → Data → Option ℕ
count_at f d = option_and_then as_count (value_at f d)

abbrev pub whole_at : Field → ℤ → Data → ℤ
whole_at f default d = unwrap_or (option_and_then as_whole (value_at f d)) default
