-- The input history (Jupyter messaging page, "History"), as a filter of the minutes.
use Rattle.std.specs.Prelude.{◌≡◌, ◌↔◌, ℕ, ℤ, pos, ◌+◌, ◌-◌, ◌≤◌, Bool, true, false, not, ◌&&◌, ◌||◌, nat_le, nat_lt, List, [], ◌∷◌, length, take, drop}
use Rattle.std.specs.Prelude.{suc, Option, Some, None, string_bytes, if◌then◌else◌}
use Rattle.std.specs.Ordering.{int_eq}
use Rattle.std.specs.List.{filter, flat_map, Contains}
use Rattle.kernel_text.specs.Request.{Request, RunCell, Undo, Redo, Goto}
use Rattle.kernel_text.specs.Minutes.{Entry, Posted, Ended, posts_of, posted_in, IsNumberOf}
use Rattle.kernel_text.specs.Runs.{Machine}
use Rattle.kernel_text.specs.LegalMinutes.{HasLegalMinutes}
use Rattle.kernel_text.specs.Counters.{counted_to, HasEnd}
use Rattle.kernel_ask.specs.declared.inputs.Input.{Input}
use Rattle.kernel_ask.specs.declared.inputs.HistoryAsk.{HistoryAsk}
use Rattle.kernel_ask.specs.declared.inputs.HistoryAsk.TheVariants.{Range, Tail}

-- the text of a cell that is not silent and is to be stored: such cells are counted as they are begun
abbrev pub texts_of : Request → List (List ℕ)
texts_of (RunCell text silent store) = if not silent && store then text ∷ [] else []
texts_of (Undo k) = []
texts_of (Redo k) = []
texts_of (Goto n) = []

abbrev pub texts_in : Entry → List (List ℕ)
texts_in (Posted lane job) = texts_of job
texts_in (Ended number o count node) = []

-- the texts with numbers, the first under n
abbrev pub numbered : ℕ → List (List ℕ) → List (ℕ × List ℕ)
numbered n [] = []
numbered n (text ∷ texts) = (n, text) ∷ numbered (suc n) texts

-- The counted cells that were begun, the first under the number 1. Jobs are begun in the order of their posts, and each counted
-- one raises the counter: so these are the first of them, as many as the counter tells.
abbrev pub inputs : List Entry → ℕ → List (ℕ × List ℕ)
inputs minutes counter = numbered 1 (take counter (flat_map texts_in minutes))

-- the number is at or behind the start, and in front of the stop if there is one
abbrev pub is_within : ℕ → Option ℕ → ℕ → Bool
is_within start None n = nat_le start n
is_within start (Some stop) n = nat_le start n && nat_lt n stop

-- the session is the present one: by its number, or as 0
abbrev pub is_present : ℤ → Bool
is_present session = int_eq session (pos 0) || int_eq session (pos 1)

-- what is told: of the present session those from the start up to the stop, without the stop; or the last n
abbrev pub told : HistoryAsk → List (ℕ × List ℕ) → List (ℕ × List ℕ)
told (Range session start stop) all = if is_present session then filter (λ i. is_within start stop i.0) all else []
told (Tail n) all = drop (length all - n) all

-- how an input is seen: its number and its text
abbrev pub input_of : Input → ℕ × List ℕ
input_of i = (i.number, string_bytes i.code)

-- Each counted cell that has ended is an input: under the counter that its end carries, with the text of its post.
abbrev pub CountedEndsAreInputs : Type 0
CountedEndsAreInputs =
    (m : Machine) (number count lane : ℕ) (text : List ℕ) → HasLegalMinutes m → HasEnd m.minutes number count →
    IsNumberOf m.minutes number (record { lane = lane; job = RunCell text false true }) → Contains (inputs m.minutes m.counter) (count, text)

-- a counted cell has begun: a post of this text waits in the queue no more, and it was the begun counted cell with this number
pub record IsBegunCell (m : Machine) (count : ℕ) (text : List ℕ) : Type 0 where
  pub number : ℕ
  pub lane : ℕ
  pub post : IsNumberOf m.minutes number (record { lane = lane; job = RunCell text false true })
  -- the jobs in the queue are those of the last posts
  pub begun : number + length m.queue ≤ posted_in m.minutes
  pub counter : count ≡ counted_to number (posts_of m.minutes)

-- The inputs are the counted cells that have begun, and no others: each under the counter that it got with its begin, with the text of its
-- post.
abbrev pub InputsAreBegunCells : Type 0
InputsAreBegunCells =
    (m : Machine) (count : ℕ) (text : List ℕ) → HasLegalMinutes m → Contains (inputs m.minutes m.counter) (count, text) ↔ IsBegunCell m count text
