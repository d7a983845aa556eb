-- What a connection asks of its desk, without where it lies in memory.
use Rattle.std.specs.Prelude.{ℕ, List, Option, map, string_bytes}
use Rattle.kernel_reply.specs.inputs.HistoryAsk.{HistoryAsk}
use Rattle.kernel_reply.specs.answer.Ask.{Ask}
use Rattle.kernel_reply.specs.answer.Ask.TheVariants as ask
use Rattle.kernel_reply.specs.Wishes.{WishOf}
use Rattle.kernel_reply.specs.comm_change.CommChange.{CommChange}
use Rattle.kernel_reply.specs.comm_change.CommChange.TheVariants as comm

-- a question, with its texts as octets
pub data Question : Type 0 where
  Complete : List ℕ → Option ℕ → Question
  Inspect : List ℕ → Option ℕ → Question
  IsComplete : List ℕ → Question
  History : HistoryAsk → Question
  Comms : Question
  IsOpen : List ℕ → Question
  State : Question

abbrev pub question_of : Ask → Question
question_of (ask.Complete code cursor) = Complete code.now cursor
question_of (ask.Inspect code cursor) = Inspect code.now cursor
question_of (ask.IsComplete code) = IsComplete code.now
question_of (ask.History range) = History range
question_of ask.Comms = Comms
question_of (ask.IsOpen id) = IsOpen id.now
question_of ask.State = State

-- a change of the open comms, by the id of one
pub data Change : Type 0 where
  Open : List ℕ → Change
  Close : List ℕ → Change

abbrev pub change_of : CommChange → Change
change_of (comm.Open id) = Open (string_bytes id)
change_of (comm.Close id) = Close id.now

-- user expressions, by name and text
abbrev pub Wishes : Type 0
Wishes = List (List ℕ × List ℕ)

abbrev pub wishes_of : List WishOf → Wishes
wishes_of wishes = map (λ w. (w.name, w.exp)) wishes
