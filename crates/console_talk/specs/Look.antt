-- Looking into the content of an answer.
use Rattle.std.specs.Prelude.{ℕ, Bool, false, List, Option, option_and_then}
use Rattle.std.specs.Option.{option_map_or}
use Rattle.std.specs.Str.{bytes_eq}
use Rattle.serde_json.specs.Data.{Data}
use Rattle.serde_json.specs.Find.{get, as_str, as_number, as_u64}

-- the text of the member of this name, if it is one
unfoldable pub text_in : List ℕ → Data → Option (List ℕ)
text_in name d = option_and_then as_str (get name d)

-- the whole number from 0 on of the member of this name, if it is one
unfoldable pub count_in : List ℕ → Data → Option ℕ
count_in name d = option_and_then as_u64 (option_and_then as_number (get name d))

-- the member of this name is this text
unfoldable pub is_word : List ℕ → List ℕ → Data → Bool
is_word name word d = option_map_or (λ t. bytes_eq t word) (text_in name d) false
