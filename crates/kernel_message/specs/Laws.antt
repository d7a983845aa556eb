-- What holds of the messages of every answer.
use Rattle.std.specs.Prelude.{◌≡◌, ℕ, ◌+◌, List, [], ◌∷◌, ◌++◌, length, map, All, string_bytes}
use Rattle.std.specs.Option.{option_to_list}
use Rattle.serde_json.specs.Written.{compact_text}
use Rattle.jupyter_msg.specs.Octets.{Octets}
use Rattle.kernel_message.specs.Said.{Said, Says}
use Rattle.kernel_message.specs.Stamp.{header}
use Rattle.kernel_message.specs.Message.{Asker}
use Rattle.kernel_message.specs.Sent.{Sent, sent, sent_of, next_after}
use Rattle.kernel_message.specs.declared.stamp.Stamp.{Stamp}
use Rattle.kernel_message.specs.declared.outgoing.Outgoing.{Outgoing}

-- the messages of an answer in the order in which they are numbered: the reply, then the broadcasts
abbrev pub in_order : Sent → List Octets
in_order out = option_to_list out.reply ++ out.broadcasts

-- what they say, in this order
abbrev pub said_in_order : Says → List Said
said_in_order says = option_to_list says.reply ++ says.broadcasts

-- headers of messages that are numbered from n on without a gap
abbrev pub headers_from : Stamp → ℕ → List Said → List (List ℕ)
headers_from stamp n [] = []
headers_from stamp n (said ∷ more) = compact_text (header stamp n said.msg_type) ∷ headers_from stamp (n + 1) more

-- The messages of an answer are numbered without a gap from the stamp's next on, in their order.
abbrev pub NumberedInOrder : Type 0
NumberedInOrder = (asker : Asker) (stamp : Stamp) (says : Says)
    → map (λ m. m.header) (in_order (sent asker stamp says)) ≡ headers_from stamp stamp.next (said_in_order says)

-- The next number rises by the number of messages.
abbrev pub NextCountsMessages : Type 0
NextCountsMessages = (asker : Asker) (stamp : Stamp) (says : Says)
    → next_after stamp says ≡ stamp.next + length (in_order (sent asker stamp says))

-- The parent header of each message is the header of the request.
abbrev pub AnswerTheirRequest : Type 0
AnswerTheirRequest = (asker : Asker) (stamp : Stamp) (says : Says)
    → All (λ m. m.parent ≡ asker.header) (in_order (sent asker stamp says))

-- the stamps say the same, wherever their texts lie in memory
pub record IsSameStamp (s t : Stamp) : Type 0 where
  pub session : string_bytes s.session ≡ string_bytes t.session
  pub connection : s.connection ≡ t.connection
  pub next : s.next ≡ t.next
  pub date : s.date ≡ t.date

-- Two answers to one request that say the same under stamps that say the same are the same messages.
abbrev pub AnswersAreEqual : Type 0
AnswersAreEqual = (asker : Asker) (s t : Stamp) (says : Says) (out other : Outgoing) → IsSameStamp s t
    → sent_of out ≡ sent asker s says → sent_of other ≡ sent asker t says → sent_of out ≡ sent_of other
