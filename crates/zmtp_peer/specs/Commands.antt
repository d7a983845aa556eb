-- Commands, the metadata of READY and the reason of ERROR (RFC 23, its grammar of `command`, `metadata` and `error`), and the context of
-- PING (RFC 37, "Heartbeating").
use Rattle.std.specs.Prelude.{ℕ, Option, Some, None, option_and_then, option_map, List, [], ◌∷◌, zero, suc}
use Rattle.std.specs.Prelude.{length, take, drop, codes, nat_lt, nat_le, if◌then◌else◌}
use Rattle.std.specs.Int.{w32, from_be_bytes}
use Rattle.std.specs.Str.{str_eq_ignore_ascii_case}
use Rattle.zmtp_wire.specs.Pong.{context_limit}

infixl 10 ◌>>=◌
abbrev pub ◌>>=◌ : {A B : Type 0} → Option A → (A → Option B) → Option B
o >>= f = option_and_then f o

-- the first n octets and those behind them, where there are n
abbrev pub cut : ℕ → List ℕ → Option (List ℕ × List ℕ)
cut n octets = if nat_le n (length octets) then Some (take n octets, drop n octets) else None

-- what an octet with a length counts off, and what is behind it
abbrev pub sized : List ℕ → Option (List ℕ × List ℕ)
sized [] = None
sized (n ∷ octets) = cut n octets

-- the same with a length of four octets, in network order
abbrev pub sized_by_four : List ℕ → Option (List ℕ × List ℕ)
sized_by_four octets = do
  size ← cut 4 octets
  cut (from_be_bytes w32 size.0) size.1

-- a command's body is an octet with the name's length, the name, and data: its name and its data
unfoldable pub command_of : List ℕ → Option (List ℕ × List ℕ)
command_of body = sized body

-- the data of ERROR is an octet with the reason's length and the reason: the reason
unfoldable pub reason_of : List ℕ → Option (List ℕ)
reason_of octets = do
  reason ← sized octets
  if nat_lt 0 (length reason.1) then None else Some reason.0

-- the data of PING is a time to live of two octets, which isn't used, and a context of at most 16: the context
unfoldable pub context_of : List ℕ → Option (List ℕ)
context_of octets = do
  parts ← cut 2 octets
  if nat_le (length parts.1) context_limit then Some parts.1 else None

-- a property of a connection
pub record Property : Type 0 where
  pub name : List ℕ
  pub value : List ℕ

-- the property at the front, and the octets behind it: the name with its length in an octet, and the value with its
-- length in four, in network order
unfoldable pub property_at : List ℕ → Option (Property × List ℕ)
property_at octets = do
  name ← sized octets
  value ← sized_by_four name.1
  Some (record { name = name.0; value = value.0 }, value.1)

-- the properties that octets are, one behind the other, where there are no more than n
abbrev pub metadata_within : ℕ → List ℕ → Option (List Property)
metadata_within n [] = Some []
metadata_within zero (x ∷ octets) = None
metadata_within (suc n) (x ∷ octets) = do
  first ← property_at (x ∷ octets)
  others ← metadata_within n first.1
  Some (first.0 ∷ others)

-- the properties that octets are; none if they don't fit their lengths
unfoldable pub metadata_of : List ℕ → Option (List Property)
metadata_of octets = metadata_within (length octets) octets

-- the value of the first property of this name; the case of ASCII letters doesn't count
abbrev pub value_of : List ℕ → List Property → Option (List ℕ)
value_of name [] = None
value_of name (p ∷ ps) = if str_eq_ignore_ascii_case p.name name then Some p.value else value_of name ps

-- the socket type that the octets of a READY announce, if any; none at all if they don't fit their lengths
unfoldable pub announced : List ℕ → Option (Option (List ℕ))
announced octets = option_map (value_of (codes "Socket-Type")) (metadata_of octets)
