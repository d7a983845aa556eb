-- What is answered to a frontend's question: filters of the names, the shown world and the minutes.
use Rattle.std.specs.Prelude.{◌≡◌, ℕ, List, length, map, option_map, string_bytes}
use Rattle.std.specs.Str.{chars}
use Rattle.kernel_text.specs.Runs.{Machine}
use Rattle.kernel_ask.specs.Comms.{is_open}
use Rattle.kernel_ask.specs.Cursor.{word_at}
use Rattle.kernel_ask.specs.Completion.{IsCompletion}
use Rattle.kernel_ask.specs.Inspection.{inspection}
use Rattle.kernel_ask.specs.Judgement.{IsJudged}
use Rattle.kernel_ask.specs.History.{inputs, told, input_of}
use Rattle.kernel_ask.specs.State.{OfShown, IsState}
use Rattle.kernel_ask.specs.declared.answer.Ask.{Ask}
use Rattle.kernel_ask.specs.declared.answer.Ask.TheVariants as ask
use Rattle.kernel_ask.specs.declared.answer.Content.{Content}
use Rattle.kernel_ask.specs.declared.answer.Content.TheVariants as content
use Rattle.kernel_ask.specs.declared.answer.Answer.{Answer}

-- the content answers the question; comms are seen as their ids
abbrev pub IsContent : Machine → List (List ℕ) → Ask → Content → Type 0
IsContent m comms (ask.Complete code cursor) (content.Completion c) = OfShown m (λ w. IsCompletion w (chars code.now) cursor c)
IsContent m comms (ask.Inspect code cursor) (content.Inspection text) = OfShown m
    (λ w. option_map string_bytes text ≡ inspection w (word_at cursor (chars code.now)))
IsContent m comms (ask.IsComplete code) (content.Completeness c) = IsJudged code.now c
IsContent m comms (ask.History range) (content.History all) = map input_of all.items ≡ told range (inputs m.minutes m.counter)
IsContent m comms ask.Comms (content.Comms ids) = map string_bytes ids.items ≡ comms
IsContent m comms (ask.IsOpen id) (content.IsOpen is) = is ≡ is_open comms id.now
IsContent m comms ask.State (content.State s) = IsState m s
IsContent m comms asked answered = ⊥

-- the answer is for this kernel, all of whose minutes were seen
pub record IsAnswer (m : Machine) (comms : List (List ℕ)) (asked : Ask) (answer : Answer) : Type 0 where
  pub seen : answer.seen ≡ length m.minutes
  pub content : IsContent m comms asked answer.content
