-- A place in a text, as an editor tells it: a line, and in it a column in characters, both from 1.
use Rattle.std.specs.Prelude.{ℕ, Bool, ◌&&◌, ◌==◌, ◌+◌, nat_le, List, fold, take, if◌then◌else◌}
use Rattle.cells_program.specs.declared.place.Place.{Place}

-- the place of a text's first octet
abbrev pub first_place : Place
first_place = record { line = 1; column = 1 }

-- an octet of UTF-8 that doesn't begin a character
abbrev pub goes_on : ℕ → Bool
goes_on b = nat_le 128 b && nat_le b 191

-- the place behind an octet: behind an LF the next line begins, and behind a character the next column
abbrev pub behind : Place → ℕ → Place
behind p b =
    if b == 10 then record { line = p.line + 1; column = 1 }
    else if goes_on b then p
    else record { line = p.line; column = p.column + 1 }

-- the place of the octet of this number
abbrev pub place_at : List ℕ → ℕ → Place
place_at text at = fold behind first_place (take at text)
