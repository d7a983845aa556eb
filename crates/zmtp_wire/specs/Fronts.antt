-- What stands at the front of octets, as far as it can be told without the limits.
use Rattle.std.specs.Prelude.{◌≡◌, ℕ, ◌<◌, ◌≤◌, Bool, true, List, ◌∷◌, ◌++◌, length}
use Rattle.zmtp_wire.specs.declared.header.Header.{Header}
use Rattle.zmtp_wire.specs.declared.fault.WireFault.{WireFault}
use Rattle.zmtp_wire.specs.declared.fault.WireFault.TheVariants.{BadSignature, OldVersion, BadMechanism, ReservedBits, CommandWithMore, TooLong, Memory}
use Rattle.zmtp_wire.specs.Header.{flags, IsHeader}

-- the header stands at the front, and this is behind it
pub record HasHeader (octets : List ℕ) (h : Header) (behind : List ℕ) : Type 0 where
  pub head : List ℕ
  pub front : octets ≡ head ++ behind
  pub header : IsHeader head h

-- the octets are a part of a header, and some are missing
pub record IsHeaderBegun (octets : List ℕ) : Type 0 where
  pub missing : List ℕ
  pub some : 0 < length missing
  pub whole : Header
  pub header : IsHeader (octets ++ missing) whole

-- what is wrong with a flags octet: a reserved bit is set, or both COMMAND and MORE are
abbrev pub IsBadFlags : ℕ → WireFault → Type 0
IsBadFlags octet ReservedBits = 8 ≤ octet
IsBadFlags octet CommandWithMore = (long : Bool) × (octet ≡ flags true long true)
IsBadFlags octet TooLong = ⊥
IsBadFlags octet BadSignature = ⊥
IsBadFlags octet OldVersion = ⊥
IsBadFlags octet BadMechanism = ⊥
IsBadFlags octet Memory = ⊥

-- the fault of the flags octet at the front
abbrev pub HasBadFlags : List ℕ → WireFault → Type 0
HasBadFlags octets fault = (octet : ℕ) × (more : List ℕ) × (octets ≡ octet ∷ more) × IsBadFlags octet fault
