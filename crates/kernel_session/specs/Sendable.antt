-- A reply that is longer than any reader takes says so, in a message of the same type.
use Rattle.std.specs.Prelude.{ℕ, ◌+◌, List, length, codes, sum_by, nat_lt, if◌then◌else◌}
use Rattle.jupyter_msg.specs.Octets.{Octets}
use Rattle.zmtp_wire.specs.Tally.{octet_limit}

-- the octets of a message's frames: its delimiter has 9, and its signature 64
abbrev pub size_of : Octets → ℕ
size_of m = sum_by length m.identities + 73 + length m.header + length m.parent + length m.metadata + length m.content + sum_by length m.buffers

-- the content of a reply that stands in the place of one past 16 MiB
abbrev pub too_long_content : List ℕ
too_long_content =
    codes "{\"ename\":\"TooLong\",\"evalue\":\"reply past 16777216 octets\",\"status\":\"error\",\"traceback\":[\"reply past 16777216 octets\"]}"

-- the reply that goes out
abbrev pub sendable : Octets → Octets
sendable m = if nat_lt octet_limit (size_of m) then record m { content = too_long_content } else m
