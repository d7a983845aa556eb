-- The greeting of ZMTP 3.0 (RFC 23, "Formal Grammar"): signature, version, mechanism, as-server, filler; 64 octets.
use Rattle.std.specs.Prelude.{◌≡◌, ℕ, ◌<◌, ◌≤◌, Bool, not, ◌==◌, List, ◌∷◌, ◌++◌, take, drop, replicate, codes, slice_index, if◌then◌else◌}
use Rattle.zmtp_wire.specs.declared.greeting.Greeting.{Greeting}
use Rattle.zmtp_wire.specs.declared.fault.WireFault.{WireFault}
use Rattle.zmtp_wire.specs.declared.fault.WireFault.TheVariants.{BadSignature, OldVersion, BadMechanism, ReservedBits, CommandWithMore, TooLong, Memory}

-- the mechanism NULL: its name, and zeros up to 20 octets
abbrev pub null_mechanism : List ℕ
null_mechanism = codes "NULL" ++ replicate 16 0

-- octet 0 is FF and octet 9 is 7F; the eight octets between them are padding of any value
pub record HasSignature (octets : List ℕ) : Type 0 where
  pub first : slice_index octets 0 ≡ 255
  pub last : slice_index octets 9 ≡ 127

-- octet 10 is the major version, octet 11 the minor one
abbrev pub major_in : List ℕ → ℕ
major_in octets = slice_index octets 10

abbrev pub minor_in : List ℕ → ℕ
minor_in octets = slice_index octets 11

-- octets 12 to 31 are the mechanism
abbrev pub mechanism_in : List ℕ → List ℕ
mechanism_in octets = take 20 (drop 12 octets)

-- octet 32 says whether the peer is the server: 0 says that it isn't, any other value that it is; octets 33 to 63 are filler
abbrev pub as_server_in : List ℕ → Bool
as_server_in octets = not (slice_index octets 32 == 0)

-- the octets are a greeting of version 3 or later with the mechanism NULL, and these are its fields
pub record IsGreeting (octets : List ℕ) (g : Greeting) : Type 0 where
  pub signature : HasSignature octets
  pub major : major_in octets ≡ g.major
  pub minor : minor_in octets ≡ g.minor
  pub new_enough : 3 ≤ g.major
  pub mechanism : mechanism_in octets ≡ null_mechanism
  pub as_server : as_server_in octets ≡ g.as_server

-- the first fault of octets that are no such greeting
abbrev pub IsGreetingFault : List ℕ → WireFault → Type 0
IsGreetingFault octets BadSignature = ¬ (HasSignature octets)
IsGreetingFault octets OldVersion = HasSignature octets × (major_in octets < 3)
IsGreetingFault octets BadMechanism = HasSignature octets × (3 ≤ major_in octets) × (¬ (mechanism_in octets ≡ null_mechanism))
IsGreetingFault octets ReservedBits = ⊥
IsGreetingFault octets CommandWithMore = ⊥
IsGreetingFault octets TooLong = ⊥
IsGreetingFault octets Memory = ⊥

-- the greeting as it is written: padding and filler are zero
abbrev pub written : Greeting → List ℕ
written g =
    255 ∷ replicate 8 0 ++ 127 ∷ g.major ∷ g.minor ∷ null_mechanism ++ (if g.as_server then 1 else 0) ∷ replicate 31 0
