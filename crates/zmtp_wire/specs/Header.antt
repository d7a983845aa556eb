-- What stands before a frame's body (RFC 23, "Formal Grammar": command and message): the flags, and the body's size in one octet or in eight.
use Rattle.std.specs.Prelude.{◌≡◌, ℕ, ◌+◌, ◌^◌, ◌<◌, Bool, true, false, ◌&&◌, List, [], ◌∷◌, if◌then◌else◌}
use Rattle.std.specs.Int.{w64, to_be_bytes}
use Rattle.zmtp_wire.specs.declared.header.Header.{Header}

-- what a bit adds to its octet
abbrev pub bit : Bool → ℕ → ℕ
bit set worth = if set then worth else 0

-- the flags octet: bit 0 is MORE, bit 1 is LONG, bit 2 is COMMAND, and bits 3 to 7 are reserved
abbrev pub flags : Bool → Bool → Bool → ℕ
flags more long command = bit more 1 + bit long 2 + bit command 4

-- eight octets in network order
unfoldable pub eight_octets : ℕ → List ℕ
eight_octets n = to_be_bytes w64 n

-- a size in the short form, and in the long one
abbrev pub size_octets : Bool → ℕ → List ℕ
size_octets false size = size ∷ []
size_octets true size = eight_octets size

-- what a size of each form is below
abbrev pub size_bound : Bool → ℕ
size_bound false = 2 ^ 8
size_bound true = 2 ^ 64

-- a header in the short form, and in the long one
abbrev pub header_octets : Bool → Header → List ℕ
header_octets long h = flags h.more long h.command ∷ size_octets long h.size

-- the octets are this header: either form is read for every size that it can hold, and no command has MORE
pub record IsHeader (octets : List ℕ) (h : Header) : Type 0 where
  pub long : Bool
  pub spelled : octets ≡ header_octets long h
  pub bounded : h.size < size_bound long
  pub allowed : (h.command && h.more) ≡ false
