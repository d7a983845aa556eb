-- Which octets are the text of a JSON object.
use Rattle.std.specs.Prelude.{List, ℕ, Bool, Option, Some, None, is_some, option_and_then, if◌then◌else◌}
use Rattle.std.specs.Str.{is_utf8}
use Rattle.serde_json.specs.Data.{Data, null, boolean, number, string, array, object}
use Rattle.serde_json.specs.Read.{read}

-- an object, and nothing else
abbrev pub only_object : Data → Option Data
only_object null = None
only_object (boolean b) = None
only_object (number n) = None
only_object (string s) = None
only_object (array ds) = None
only_object (object ms) = Some (object ms)

-- the object that the octets are the text of, as `serde_json` reads UTF-8 text: of a key that is given twice the last
-- value counts
unfoldable pub object_of : List ℕ → Option Data
object_of octets = if is_utf8 octets then option_and_then only_object (read octets) else None

abbrev pub is_object : List ℕ → Bool
is_object octets = is_some (object_of octets)
