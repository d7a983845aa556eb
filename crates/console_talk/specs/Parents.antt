-- Whose answer a message is.
use Rattle.std.specs.Prelude.{ℕ, Bool, false, List, Option, None, if◌then◌else◌}
use Rattle.std.specs.Option.{option_map_or}
use Rattle.std.specs.Str.{is_utf8}
use Rattle.serde_json.specs.Data.{Data}
use Rattle.serde_json.specs.Read.{read}
use Rattle.console_talk.specs.Look.{is_word}

-- the JSON value that the octets are the text of
abbrev pub data_of : List ℕ → Option Data
data_of octets = if is_utf8 octets then read octets else None

-- the octets are the text of a JSON object whose field of this name is this text
abbrev pub has_in_parent : List ℕ → List ℕ → List ℕ → Bool
has_in_parent name word octets = option_map_or (λ d. is_word name word d) (data_of octets) false
