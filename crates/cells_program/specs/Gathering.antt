-- The text of a cell as far as it is gathered.
use Rattle.std.specs.Prelude.{◌≡◌, ℕ, false, not, List, string_bytes}
use Rattle.cells_program.specs.Lines.{is_blank}
use Rattle.cells_program.specs.declared.gathered.Gathered.{Gathered}

-- what is gathered is this text, unless it was lost; and whether it is blank is known even then
abbrev pub IsGathered : Gathered → List ℕ → Type 0
IsGathered gathered text =
    (gathered.has_text ≡ not (is_blank text)) × (gathered.lost ≡ false → string_bytes gathered.text ≡ text)
