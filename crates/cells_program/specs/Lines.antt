-- The lines of an input.
use Rattle.std.specs.Prelude.{ℕ, Bool, false, ◌||◌, ◌==◌, List, [], ◌∷◌, ◌++◌, if◌then◌else◌}
use Rattle.std.specs.List.{slice_split, list_all}

-- ---- lines

-- the parts between the LFs are the lines, but for an empty last part: the last line may lack its LF
abbrev pub lines_of_parts : List (List ℕ) → List (List ℕ)
lines_of_parts [] = []
lines_of_parts ([] ∷ []) = []
lines_of_parts ((c ∷ part) ∷ []) = (c ∷ part) ∷ []
lines_of_parts (part ∷ next ∷ more) = part ∷ lines_of_parts (next ∷ more)

-- the lines of an input, without their LFs
abbrev pub lines : List ℕ → List (List ℕ)
lines input = lines_of_parts (slice_split (λ b. b == 10) input)

-- a line with its LF
abbrev pub ended_line : List ℕ → List ℕ
ended_line line = line ++ 10 ∷ []

-- a line that begins with `%`
abbrev pub is_command_line : List ℕ → Bool
is_command_line [] = false
is_command_line (c ∷ line) = c == 37

-- space, tab or CR
abbrev pub is_trimmed : ℕ → Bool
is_trimmed c = (c == 32) || ((c == 9) || (c == 13))

-- a text of spaces, tabs, CRs and LFs alone
abbrev pub is_blank : List ℕ → Bool
is_blank text = list_all (λ c. is_trimmed c || (c == 10)) text

abbrev pub trimmed_onto : ℕ → List ℕ → List ℕ
trimmed_onto c [] = if is_trimmed c then [] else c ∷ []
trimmed_onto c (d ∷ rest) = c ∷ d ∷ rest

-- without the spaces, tabs and CRs at its end
abbrev pub trimmed : List ℕ → List ℕ
trimmed [] = []
trimmed (c ∷ line) = trimmed_onto c (trimmed line)
