-- The messages in which an answer goes out.
use Rattle.std.specs.Prelude.{ℕ, ◌+◌, List, [], ◌∷◌, length, Option, option_map}
use Rattle.std.specs.Option.{option_to_list}
use Rattle.jupyter_msg.specs.Octets.{Octets, octets_of}
use Rattle.kernel_message.specs.Said.{Said, Says}
use Rattle.kernel_message.specs.Message.{Asker, reply_message, broadcast_message}
use Rattle.kernel_message.specs.declared.stamp.Stamp.{Stamp}
use Rattle.kernel_message.specs.declared.outgoing.Outgoing.{Outgoing}

-- a reply, if there is one, and the broadcasts in order
pub record Sent : Type 0 where
  pub reply : Option Octets
  pub broadcasts : List Octets

-- broadcasts, numbered from n on
abbrev pub numbered : List ℕ → Stamp → ℕ → List Said → List Octets
numbered parent stamp n [] = []
numbered parent stamp n (said ∷ more) = broadcast_message parent stamp n said ∷ numbered parent stamp (n + 1) more

-- the messages that say this, numbered from the stamp's next on: the reply first
abbrev pub sent : Asker → Stamp → Says → Sent
sent asker stamp says = record {
  reply = option_map (reply_message asker stamp stamp.next) says.reply;
  broadcasts = numbered asker.header stamp (stamp.next + length (option_to_list says.reply)) says.broadcasts;
}

-- the number after theirs
abbrev pub next_after : Stamp → Says → ℕ
next_after stamp says = stamp.next + length (option_to_list says.reply) + length says.broadcasts

-- what goes out, without where it lies in memory
abbrev pub sent_of : Outgoing → Sent
sent_of out = record { reply = option_map octets_of out.reply; broadcasts = out.broadcasts.items }
