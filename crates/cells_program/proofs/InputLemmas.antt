-- What was taken from a reader, and that it is served.
use Rattle.std.proofs.Common.{◌≡◌, ℕ, ◌+◌, ◌≤◌, List, ◌++◌, Option, Some, None, IfSome, length, take, arith, length-append, subst}
use Rattle.std.proofs.KnownBytes.{Consumes-trans}
use Rattle.std.proofs.lemmas.List.{length-take}
use Rattle.std.specs.Io.KnownBytes.{Consumes}
use Rattle.std.specs.Str.{IsUtf8}
use Rattle.cells_program.specs.RunFault.{IsServed, TakesAtMost, input_limit}

-- one read more
pub takes_more : (a b c : Option (List ℕ)) (xs buf : List ℕ) (n limit : ℕ) → Consumes a b xs → Consumes b c (take n buf) → length xs + n ≤ limit →
    TakesAtMost limit a c
takes_more a b c xs buf n limit p q h =
    (xs ++ take n buf, Consumes-trans a b c xs (take n buf) p q, omega (arith, h, length-append xs (take n buf), length-take n buf))

-- all that a reader had left, where it is short enough and UTF-8
pub served_text : (known : Option (List ℕ)) (octets : List ℕ) → IfSome known (λ input. octets ≡ input) → length octets ≤ input_limit → IsUtf8 octets →
    IfSome known IsServed
served_text None octets e h u = tt
served_text (Some input) octets e h u = subst IsServed e (h, u)
