-- What a command line asks for.
use Rattle.std.specs.Prelude.{ℕ, Bool, ◌&&◌, nat_le, nat_lt, List, length, drop, codes, if◌then◌else◌}
use Rattle.std.specs.List.{starts_with, list_all}
use Rattle.std.specs.Prelude.{nat_eq}
use Rattle.std.specs.Str.{bytes_eq}
use Rattle.std.specs.Char.{is_ascii_digit}
use Rattle.std.specs.Str.Parse.{digits_value}
use Rattle.cells_program.specs.declared.command.Command.{Command}
use Rattle.cells_program.specs.declared.command.Command.TheVariants.{Run, Undo, Redo, Goto, Show, Unknown}
use Rattle.cells_program.specs.declared.command.Command.TheVariants as command

-- 1 to 10 digits
abbrev pub is_short_number : List ℕ → Bool
is_short_number ds = nat_le 1 (length ds) && (nat_le (length ds) 10 && list_all is_ascii_digit ds)

-- 1 to 10 digits that write at most 4294967295
abbrev pub is_count : List ℕ → Bool
is_count ds = is_short_number ds && nat_lt (digits_value 10 ds) 4294967296

abbrev pub counted : (ℕ → Command) → List ℕ → Command
counted make ds = if is_count ds then make (digits_value 10 ds) else Unknown

-- what follows the words of a command, after which others are looked for
abbrev pub after_words : List ℕ → List ℕ → (List ℕ → Command) → Command → Command
after_words words line make other = if starts_with nat_eq line words then make (drop (length words) line) else other

-- the command of a line without the space at its end
abbrev pub command_of : List ℕ → Command
command_of line =
    if bytes_eq line (codes "%%") then Run
    else if bytes_eq line (codes "%show") then Show
    else if bytes_eq line (codes "%list") then command.List
    else after_words (codes "%undo ") line (counted Undo)
    (after_words (codes "%redo ") line (counted Redo) (after_words (codes "%goto ") line (counted Goto) Unknown))
