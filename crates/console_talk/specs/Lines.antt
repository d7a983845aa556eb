-- What is printed of an answer: its lines, each with its LF, and whether all went well; nothing where the JSON is no such answer.
use Rattle.std.specs.Prelude.{ℕ, Bool, true, false, List, [], ◌∷◌, ◌++◌, codes, decimal, Option, Some, None, option_map, option_and_then, if◌then◌else◌}
use Rattle.serde_json.specs.Data.{Data, Items, no_items, item}
use Rattle.serde_json.specs.Find.{get, as_array, as_str}
use Rattle.console_talk.specs.Look.{text_in, count_in, is_word}

pub record Printed : Type 0 where
  pub lines : List ℕ
  pub is_well : Bool

-- the kernel did what it was asked to do
abbrev pub well : List ℕ → Printed
well lines = record { lines = lines; is_well = true }

-- it didn't
abbrev pub ill : List ℕ → Printed
ill lines = record { lines = lines; is_well = false }

-- the status of the program
abbrev pub status_of : Bool → ℕ
status_of is_well = if is_well then 0 else 1

abbrev pub line : List ℕ → List ℕ
line text = text ++ 10 ∷ []

-- lines, and then each of the values on a line of its own, where all are texts
abbrev pub with_lines : List ℕ → Items → Option (List ℕ)
with_lines before no_items = Some before
with_lines before (item d ds) = option_and_then (λ t. with_lines (before ++ line t) ds) (as_str d)

-- the same of the list in the member of this name
abbrev pub with_lines_in : List ℕ → List ℕ → Data → Option (List ℕ)
with_lines_in name before d = option_and_then (with_lines before) (option_and_then as_array (get name d))

-- ---- a cell

-- an error reply: the line that tells it
abbrev pub failed : Data → Option Printed
failed reply = option_map (λ t. ill (line t)) (text_in (codes "evalue") reply)

-- the text that a result shows, if there is a result
abbrev pub shown_in : Option Data → Option (List ℕ)
shown_in None = None
shown_in (Some content) = option_and_then (text_in (codes "text/plain")) (get (codes "data") content)

abbrev pub shown_lines : Option (List ℕ) → List ℕ
shown_lines None = []
shown_lines (Some text) = line text

abbrev pub ran : Data → Option Data → Option Printed
ran reply result =
    option_map (λ n. well (line (codes "ok [" ++ decimal n ++ codes "]") ++ shown_lines (shown_in result)))
    (count_in (codes "execution_count") reply)

-- the content of an execute_reply, and that of the execute_result, if one came
abbrev pub run_told : Data → Option Data → Option Printed
run_told reply result = if is_word (codes "status") (codes "ok") reply then ran reply result else failed reply

-- ---- a completion

-- the content of a complete_reply: each match on a line
abbrev pub completion_told : Data → Option Printed
completion_told reply =
    if is_word (codes "status") (codes "ok") reply then option_map well (with_lines_in (codes "matches") [] reply)
    else failed reply

-- ---- a comm

-- how a move ended, where memory ran out
abbrev pub end_text : Data → List ℕ
end_text d = if is_word (codes "end") (codes "memory") d then codes " then no memory" else []

abbrev pub undid : Data → Option Printed
undid d = option_map (λ n. well (line (codes "undid " ++ decimal n ++ end_text d))) (count_in (codes "undone") d)

abbrev pub redid : Data → Option Printed
redid d = option_map (λ n. well (line (codes "redid " ++ decimal n ++ end_text d))) (count_in (codes "redone") d)

abbrev pub way_line : ℕ → ℕ → List ℕ → List ℕ
way_line up down ending = line (codes "went " ++ decimal up ++ codes " up " ++ decimal down ++ codes " down" ++ ending)

abbrev pub went : Data → Option Printed
went d = option_and_then (λ up. option_map (λ down. well (way_line up down (end_text d)))
    (count_in (codes "redone") d)) (count_in (codes "undone") d)

-- where the kernel stands, and the value text of each declared name
abbrev pub stands : Data → Option Printed
stands d = option_and_then (λ n. option_map well (with_lines_in (codes "world") (line (codes "at node " ++ decimal n)) d))
    (count_in (codes "node") d)

abbrev pub refused : Data → Option Printed
refused d = option_and_then (λ n. option_map (λ name. ill (line (codes "refused " ++ decimal n ++ codes " " ++ name)))
    (text_in (codes "name") d)) (count_in (codes "number") d)

-- by the operation
abbrev pub done : Data → Option Printed
done d =
    if is_word (codes "op") (codes "undo") d then undid d
    else if is_word (codes "op") (codes "redo") d then redid d
    else if is_word (codes "op") (codes "goto") d then went d
    else if is_word (codes "op") (codes "state") d then stands d
    else None

-- the data of what the kernel says on a comm
abbrev pub data_told : Data → Option Printed
data_told d =
    if is_word (codes "status") (codes "ok") d then done d
    else if is_word (codes "status") (codes "refused") d then refused d
    else None

-- the content of the kernel's comm_msg
abbrev pub comm_told : Data → Option Printed
comm_told content = option_and_then data_told (get (codes "data") content)
