-- Answers under stamps that say the same.
use Rattle.std.proofs.Common.{◌≡◌, ℕ, ◌+◌, List, [], ◌∷◌, ◌++◌, length, codes, decimal, string_bytes, Option, Some, None, option_map, refl, sym, ap, ◌∙◌}
use Rattle.std.specs.Option.{option_to_list}
use Rattle.serde_json.specs.Written.{compact_text}
use Rattle.kernel_message.specs.Json.{record_of, text}
use Rattle.kernel_message.specs.Said.{Said, Says}
use Rattle.kernel_message.specs.Stamp.{header}
use Rattle.kernel_message.specs.Message.{Asker, message, broadcast_message, reply_message}
use Rattle.kernel_message.specs.Sent.{numbered, sent}
use Rattle.kernel_message.specs.Laws.{IsSameStamp, AnswersAreEqual}
use Rattle.kernel_message.specs.declared.stamp.Stamp.{Stamp}

-- what stamps that say the same write into a header
header_with : List ℕ → List ℕ → ℕ → ℕ → List ℕ → List ℕ
header_with date session connection n msg_type = compact_text (record_of (
    (codes "date", text date)
    ∷ (codes "msg_id", text (session ++ codes "_" ++ decimal connection ++ codes "_" ++ decimal n))
    ∷ (codes "msg_type", text msg_type)
    ∷ (codes "session", text session)
    ∷ (codes "username", text (codes "kernel"))
    ∷ (codes "version", text (codes "5.4"))
    ∷ []))

is_header_with : (s : Stamp) (n : ℕ) (msg_type : List ℕ) → compact_text (header s n msg_type) ≡ header_with s.date (string_bytes s.session)
    s.connection n msg_type
unfolding header_with
is_header_with s n msg_type = refl

same_header : (s t : Stamp) (n : ℕ) (msg_type : List ℕ) → IsSameStamp s t → compact_text (header s n msg_type) ≡ compact_text (header t n msg_type)
same_header s t n msg_type same =
    is_header_with s n msg_type
    ∙ ap (λ date. header_with date (string_bytes s.session) s.connection n msg_type) same.date
    ∙ ap (λ session. header_with t.date session s.connection n msg_type) same.session
    ∙ ap (λ connection. header_with t.date (string_bytes t.session) connection n msg_type) same.connection
    ∙ sym (is_header_with t n msg_type)

same_message : (identities : List (List ℕ)) (parent : List ℕ) (s t : Stamp) (n : ℕ) (said : Said) → IsSameStamp s t →
    message identities parent s n said ≡ message identities parent t n said
same_message identities parent s t n said same =
    ap (λ h. record { identities = identities; header = h; parent = parent; metadata = codes "{}"; content = compact_text said.content; buffers = [] })
    (same_header s t n said.msg_type same)

same_numbered : (parent : List ℕ) (s t : Stamp) (n : ℕ) (said : List Said) → IsSameStamp s t → numbered parent s n said ≡ numbered parent t n said
same_numbered parent s t n [] same = refl
same_numbered parent s t n (x ∷ xs) same =
    ap (λ m. m ∷ numbered parent s (n + 1) xs) (same_message (x.msg_type ∷ []) parent s t n x same)
    ∙ ap (λ ms. broadcast_message parent t n x ∷ ms) (same_numbered parent s t (n + 1) xs same)

same_reply : (asker : Asker) (s t : Stamp) (n : ℕ) (reply : Option Said) → IsSameStamp s t →
    option_map (reply_message asker s n) reply ≡ option_map (reply_message asker t n) reply
same_reply asker s t n None same = refl
same_reply asker s t n (Some said) same = ap Some (same_message asker.identities asker.header s t n said same)

same_sent : (asker : Asker) (s t : Stamp) (says : Says) → IsSameStamp s t → sent asker s says ≡ sent asker t says
same_sent asker s t says same =
    let replies = length (option_to_list says.reply) in
    ap (λ n. record { reply = option_map (reply_message asker s n) says.reply; broadcasts = numbered asker.header s (n + replies) says.broadcasts }) same.next
    ∙ ap (λ r. record { reply = r; broadcasts = numbered asker.header s (t.next + replies) says.broadcasts }) (same_reply asker s t t.next says.reply same)
    ∙ ap (λ bs. record { reply = option_map (reply_message asker t t.next) says.reply; broadcasts = bs })
    (same_numbered asker.header s t (t.next + replies) says.broadcasts same)

pub answers_are_equal : AnswersAreEqual
answers_are_equal asker s t says out other same first second = first ∙ same_sent asker s t says same ∙ sym second
