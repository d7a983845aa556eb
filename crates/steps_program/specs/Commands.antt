-- What a line asks for.
use Rattle.std.specs.Prelude.{ℕ, Bool, ◌&&◌, ◌==◌, ◌^◌, nat_le, nat_lt, List, length, Option, None, Some, codes, if◌then◌else◌}
use Rattle.std.specs.List.{position_or_len, before_first, after_first}
use Rattle.std.specs.Str.{bytes_eq, all_ascii_digits, trim}
use Rattle.std.specs.Str.Parse.{digits_value, without_leading_plus}
use Rattle.steps_program.specs.declared.command.Command.{Command}
use Rattle.steps_program.specs.declared.command.Command.TheVariants as command

-- a command, with the octets of its word
pub data Asked : Type 0 where
  Step : ℕ → Asked
  Back : ℕ → Asked
  Next : Asked
  Finish : Asked
  To : ℕ → Asked
  BackTo : ℕ → Asked
  ToFault : Asked
  ToEnd : Asked
  ToStart : Asked
  Until : List ℕ → Asked
  BackUntil : List ℕ → Asked
  Watch : List ℕ → Asked
  BackWatch : List ℕ → Asked
  Show : Asked
  Where : Asked
  Calls : Asked
  Lines : Asked
  Count : Asked
  Quit : Asked
  Nothing : Asked
  Unknown : Asked

abbrev pub asked : Command → Asked
asked (command.Step n) = Step n
asked (command.Back n) = Back n
asked command.Next = Next
asked command.Finish = Finish
asked (command.To line) = To line
asked (command.BackTo line) = BackTo line
asked command.ToFault = ToFault
asked command.ToEnd = ToEnd
asked command.ToStart = ToStart
asked (command.Until text) = Until text.now
asked (command.BackUntil text) = BackUntil text.now
asked (command.Watch name) = Watch name.now
asked (command.BackWatch name) = BackWatch name.now
asked command.Show = Show
asked command.Where = Where
asked command.Calls = Calls
asked command.List = Lines
asked command.Count = Count
asked command.Quit = Quit
asked command.Nothing = Nothing
asked command.Unknown = Unknown

-- ---- words

-- whether digits write a number that 64 bits have room for
abbrev pub is_number : List ℕ → Bool
is_number ds = (nat_le 1 (length ds) && all_ascii_digits ds) && nat_lt (digits_value 10 ds) (2 ^ 64)

-- the number that a word writes; a plus may stand first
abbrev pub number_of : List ℕ → Option ℕ
number_of word = if is_number (without_leading_plus word) then Some (digits_value 10 (without_leading_plus word)) else None

abbrev pub made : (ℕ → Asked) → Option ℕ → Asked
made make None = Unknown
made make (Some n) = make n

-- a word, and another behind it
abbrev pub asked_with : List ℕ → List ℕ → Asked
asked_with first word =
    if bytes_eq first (codes "step") then made Step (number_of word)
    else if bytes_eq first (codes "back") then made Back (number_of word)
    else if bytes_eq first (codes "to") then made To (number_of word)
    else if bytes_eq first (codes "back-to") then made BackTo (number_of word)
    else if bytes_eq first (codes "until") then Until word
    else if bytes_eq first (codes "back-until") then BackUntil word
    else if bytes_eq first (codes "watch") then Watch word
    else if bytes_eq first (codes "back-watch") then BackWatch word
    else Unknown

-- a word that goes somewhere
abbrev pub asked_to_go : List ℕ → Asked
asked_to_go word =
    if bytes_eq word (codes "step") then Step 1
    else if bytes_eq word (codes "back") then Back 1
    else if bytes_eq word (codes "next") then Next
    else if bytes_eq word (codes "finish") then Finish
    else if bytes_eq word (codes "to-fault") then ToFault
    else if bytes_eq word (codes "to-end") then ToEnd
    else if bytes_eq word (codes "to-start") then ToStart
    else Unknown

-- a word that has none behind it
abbrev pub asked_alone : List ℕ → Asked
asked_alone word =
    if bytes_eq word (codes "") then Nothing
    else if bytes_eq word (codes "show") then Show
    else if bytes_eq word (codes "where") then Where
    else if bytes_eq word (codes "calls") then Calls
    else if bytes_eq word (codes "list") then Lines
    else if bytes_eq word (codes "count") then Count
    else if bytes_eq word (codes "quit") then Quit
    else asked_to_go word

-- ---- lines

abbrev pub is_space : ℕ → Bool
is_space c = c == 32

-- the first space parts the words
abbrev pub asked_by : List ℕ → Asked
asked_by line =
    if nat_lt (position_or_len is_space line) (length line) then asked_with (before_first is_space line) (trim (after_first is_space line))
    else asked_alone line

-- white space at the ends of a line and of the second word doesn't count
abbrev pub asked_of : List ℕ → Asked
asked_of line = asked_by (trim line)
