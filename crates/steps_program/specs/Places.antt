-- Lines and columns of the file, in which the texts of cells stand.
use Rattle.std.specs.Prelude.{ℕ, ◌+◌, ◌-◌, ◌^◌, min, Bool, ◌==◌, ◌&&◌, nat_eq, nat_le, if◌then◌else◌, List, [], ◌∷◌, fold, take}
use Rattle.std.specs.Prelude.{Option, None, Some, string_bytes}
use Rattle.std.specs.List.{slice_split}
use Rattle.std.specs.Option.{option_eq}
use Rattle.janus_syntax.specs.declared.token.Span.{Span}
use Rattle.steps_program.specs.declared.place.Place.{Place}
use Rattle.steps_program.specs.declared.source.Source.{Source}

-- ---- places

-- one more, as far as a `usize` goes
abbrev pub next : ℕ → ℕ
next n = min (n + 1) (2 ^ 64 - 1)

-- an octet of UTF-8 that doesn't begin a character
abbrev pub goes_on : ℕ → Bool
goes_on b = nat_le 128 b && nat_le b 191

-- the place behind an octet: behind an LF the next line begins, and behind a character the next column
abbrev pub behind : Place → ℕ → Place
behind p b =
    if b == 10 then record { line = next p.line; column = 1 }
    else if goes_on b then p
    else record { line = p.line; column = next p.column }

-- the place of the octet of this number, in a text whose first line has that one in the file
abbrev pub place_at : List ℕ → ℕ → ℕ → Place
place_at text first_line at = fold behind (record { line = first_line; column = 1 }) (take at text)

-- ---- lines

-- the lines of a text, without their LFs
abbrev pub lines_of : List ℕ → List (List ℕ)
lines_of text = slice_split (λ b. b == 10) text

-- the line of this number, where the first of them has that one
abbrev pub line_in : ℕ → ℕ → List (List ℕ) → Option (List ℕ)
line_in number first [] = None
line_in number first (line ∷ more) = if first == number then Some line else line_in number (next first) more

-- ---- the texts of cells

-- the first of the sources that is of a node
abbrev pub source_of : List Source → Option ℕ → Option Source
source_of [] sought = None
source_of (s ∷ more) sought = if option_eq nat_eq s.node sought then Some s else source_of more sought

-- where a part of its text begins
abbrev pub place_in : Source → Option Span → Option Place
place_in s None = None
place_in s (Some span) = Some (place_at (string_bytes s.text) s.first_line span.start)

abbrev pub line_of : Option Place → Option ℕ
line_of None = None
line_of (Some p) = Some p.line

-- the line of the file on which that stands
abbrev pub line_at : Option Source → Option Span → Option ℕ
line_at None span = None
line_at (Some s) span = line_of (place_in s span)
