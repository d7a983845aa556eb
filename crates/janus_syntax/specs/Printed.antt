-- How the printer's line is seen, and what its functions do to it.
use Rattle.std.specs.Prelude.{◌≡◌, false, List, string_bytes}
use Rattle.janus_syntax.specs.declared.printer.Line as code
use Rattle.janus_syntax.specs.Printing.{Printed, Piece, with_pieces}

abbrev pub line_view : code.Line → Printed
line_view l = record { text = string_bytes l.text; tight = l.tight }

-- what a line is afterwards, unless memory was refused before or now
abbrev pub Becomes : code.Line → code.Line → Printed → Type 0
Becomes old new after = new.refused ≡ false → (old.refused ≡ false) × (line_view new ≡ after)

-- these pieces stand behind what the line had
pub record Adds (old new : code.Line) (pieces : List Piece) : Type 0 where
  pub adds : Becomes old new (with_pieces (line_view old) pieces)
