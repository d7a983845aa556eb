-- Words for JSON values. Their text is `compact_text` of `serde_json`: no spaces, and the members in the order in which they stand here.
use Rattle.std.specs.Prelude.{ℕ, Bool, List, [], ◌∷◌, codes}
use Rattle.serde_json.specs.Data.{Data, string, boolean, number, unsigned, array, object, Members, no_members, member}
use Rattle.serde_json.specs.View.{items_of}

-- the members of an object, by name and value
abbrev pub members : List (List ℕ × Data) → Members
members [] = no_members
members (m ∷ ms) = member m.0 m.1 (members ms)

-- an object with these members, in this order
abbrev pub record_of : List (List ℕ × Data) → Data
record_of ms = object (members ms)

-- a list of values
abbrev pub list : List Data → Data
list ds = array (items_of ds)

-- a text
abbrev pub text : List ℕ → Data
text octets = string octets

-- a whole number from 0 on
abbrev pub count : ℕ → Data
count n = number (unsigned n)

-- a truth value
abbrev pub flag : Bool → Data
flag b = boolean b
