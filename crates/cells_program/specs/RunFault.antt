-- Why a run ends before its input is served.
use Rattle.std.specs.Prelude.{ℕ, ◌<◌, ◌≤◌, ⊤, List, Option, length, codes}
use Rattle.std.specs.Io.KnownBytes.{Consumes}
use Rattle.std.specs.Str.{IsUtf8}
use Rattle.cells_program.specs.declared.input.TheConstants.{INPUT_LIMIT}
use Rattle.cells_program.specs.declared.fault.RunFault.{RunFault}
use Rattle.cells_program.specs.declared.fault.RunFault.TheVariants.{Read, TooLong, NotText, Memory, Write}

abbrev pub text_of : RunFault → List ℕ
text_of Read = codes "cannot read"
text_of TooLong = codes "input too long"
text_of NotText = codes "input is not text"
text_of Memory = codes "no memory"
text_of Write = codes "cannot write"

-- the most octets of an input that are taken
abbrev pub input_limit : ℕ
input_limit = INPUT_LIMIT

-- at most n octets were taken from what a reader has left
abbrev pub TakesAtMost : ℕ → Option (List ℕ) → Option (List ℕ) → Type 0
TakesAtMost n old new = (octets : List ℕ) × Consumes old new octets × (length octets ≤ n)

-- an input that is served: within the limit, and UTF-8
abbrev pub IsServed : List ℕ → Type 0
IsServed input = (length input ≤ input_limit) × IsUtf8 input

-- what an input is that could not be read for this reason
abbrev pub IsWhyUnread : RunFault → List ℕ → Type 0
IsWhyUnread Read input = ⊤
IsWhyUnread TooLong input = input_limit < length input
IsWhyUnread NotText input = (IsUtf8 input → ⊥) × (length input ≤ input_limit)
IsWhyUnread Memory input = ⊤
IsWhyUnread Write input = ⊥
