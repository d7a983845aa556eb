-- What goes out in answer to a request that has handed the text of its cell on.
use Rattle.std.proofs.Common.{◌≡◌, ℕ, List, ◌++◌, map, Some, ap, ◌∙◌}
use Rattle.jupyter_msg.specs.Message.{frames_of}
use Rattle.jupyter_msg.specs.declared.request.Request.{Request}
use Rattle.kernel_message.specs.Message.{Asker, asker_of}
use Rattle.kernel_message.specs.Said.{Says}
use Rattle.kernel_message.specs.declared.stamp.Stamp.{Stamp}
use Rattle.kernel_message.specs.Sent.{sent, next_after}
use Rattle.kernel_session.specs.declared.talk.DeskReply.{DeskReply}
use Rattle.kernel_session.specs.Action.{Action, sends, asks}
use Rattle.kernel_session.specs.Call.{Published}
use Rattle.kernel_session.specs.Talk.{says_of, says_with}
use Rattle.kernel_session.specs.Session.{answered, reply_octets, stamp_behind}
use Rattle.kernel_session.specs.Parts.{HasHandedOn}

-- what goes out to who asked
abbrev answered_to : List ℕ → Asker → Stamp → Says → List Action
answered_to key asker stamp says =
    let out = sent asker stamp says in
    asks (map (λ b. Published (frames_of key b)) out.broadcasts) ++ sends (reply_octets key out.reply)

module _ (old new : Request) (code : List ℕ) (asker : asker_of new ≡ asker_of old) (handed : HasHandedOn old.content new.content code)
    (told : DeskReply) (stamp : Stamp) where
  pub answered_alike : (key : List ℕ) → answered key new stamp (says_with new.content code told) ≡ answered key old stamp (says_of old.content told)
  answered_alike key =
      ap (λ (a : Asker). answered_to key a stamp (says_with new.content code told)) asker
      ∙ ap (λ (says : Says). answered_to key (asker_of old) stamp says) (handed.says told)

  pub stamp_alike : (after : Stamp) → after ≡ record stamp { next = next_after stamp (says_with new.content code told) }
      → after ≡ stamp_behind old stamp (Some told)
  stamp_alike after p = p ∙ ap (λ (says : Says). record stamp { next = next_after stamp says }) (handed.says told)
