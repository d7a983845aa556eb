-- Which lines of the file are those of a text.
use Rattle.std.specs.Prelude.{◌≡◌, ◌⊎◌, ℕ, ◌+◌, ◌<◌, ◌^◌, true, List, [], ◌∷◌, ◌++◌, length, All}
use Rattle.kernel_core.specs.Runs.{Machine}
use Rattle.cells_program.specs.Lines.{is_blank, is_command_line}
use Rattle.steps_program.specs.Before.{Stage, Text, Finds, cell_of, cells_in}
use Rattle.steps_program.specs.Places.{lines_of}

-- The lines of a text, but for an empty one behind its last LF, are those of the file from its first line on.
pub record StandsInFile (file : List ℕ) (text : Text) : Type 0 where
  pub before : List (List ℕ)
  pub own : List (List ℕ)
  pub behind : List (List ℕ)
  pub lines : lines_of file ≡ before ++ (own ++ behind)
  pub first : text.1 ≡ length before + 1
  pub is : lines_of text.0 ≡ own ++ [] ∷ []

-- That is so of each text whose lines are told, in a file that has fewer lines than a `usize` counts.
abbrev pub TextsStandInFile : Type 0
TextsStandInFile =
    (n : ℕ) (file : List ℕ) (machine : Machine) (s : Stage) (out : List ℕ) → length (lines_of file) + 1 < 2 ^ 64 → Finds n file machine s out →
    All (StandsInFile file) (s.ran ++ cell_of s ∷ [])

-- ---- the last cell

-- a line that belongs to no cell: a command, or a blank one
abbrev pub IsQuietLine : List ℕ → Type 0
IsQuietLine line = (is_command_line line ≡ true) ⊎ (is_blank line ≡ true)

-- Behind the cell whose number is that of all cells no other stands, in a file that has fewer than a `usize` counts.
abbrev pub LastCellIsLast : Type 0
LastCellIsLast =
    (file : List ℕ) (machine : Machine) (s : Stage) (out : List ℕ) → cells_in file + 1 < 2 ^ 64 → (h : Finds (cells_in file) file machine s out) →
    All IsQuietLine h.left
