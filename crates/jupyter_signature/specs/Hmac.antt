-- HMAC (RFC 2104, section 2) over SHA-256 (FIPS 180-4), whose block has 64 octets.
use Rattle.std.specs.Prelude.{ℕ, ◌-◌, List, ◌++◌, length, map, replicate, bit_xor, nat_lt, if◌then◌else◌}
use Rattle.sha2.specs.Sha256.{sha256}

-- the octets, with zeros after them up to one block
abbrev pub full_block : List ℕ → List ℕ
full_block octets = octets ++ replicate (64 - length octets) 0

-- the key as one block: a key longer than a block is hashed first
abbrev pub key_block : List ℕ → List ℕ
key_block key = if nat_lt 64 (length key) then full_block (sha256 key) else full_block key

-- the block, each of its octets xored with the pad
abbrev pub xor_pad : ℕ → List ℕ → List ℕ
xor_pad pad block = map (λ octet. bit_xor octet pad) block

-- H(k xor 5C.., H(k xor 36.., text))
abbrev pub hmac_of : List ℕ → List ℕ → List ℕ
hmac_of key text = sha256 (xor_pad 0x5C (key_block key) ++ sha256 (xor_pad 0x36 (key_block key) ++ text))
