-- What a message tells a peer that is ready.
use Rattle.std.proofs.Common.{◌≡◌, ◌≢◌, ℕ, ◌<◌, List, [], ◌∷◌, ◌++◌, length, refl, ap, sym, subst, ◌∙◌, arith, append_assoc, append-nil, inl}
use Rattle.zmtp_wire.specs.Message.{message_frames, message_octets, IsWithinLimits}
use Rattle.zmtp_wire.specs.Stream.{Rest, whole, Leaves}
use Rattle.zmtp_wire.proofs.Streams.{longer}
use Rattle.zmtp_wire.proofs.Messages.{messages_are_read_back}
use Rattle.zmtp_peer.specs.declared.role.Role.{Role}
use Rattle.zmtp_peer.specs.declared.terms.Terms.{Terms}
use Rattle.zmtp_peer.specs.Terms.{terms_of}
use Rattle.zmtp_peer.specs.declared.role.Role.TheVariants.{Router, Pub, Rep, Dealer, Sub}
use Rattle.zmtp_peer.specs.Events.{Event, Message, State, Open, after, told, message_told}
use Rattle.zmtp_peer.specs.Intake.{IsRefusal}
use Rattle.zmtp_peer.specs.Connection.{ReadsPiece}
use Rattle.zmtp_peer.specs.Reading.{PeerState, IsStreaming, IsAt, Stands, Brings}
use Rattle.zmtp_peer.specs.Laws.{IsBetweenMessages, MessagesAreTold}
use Rattle.zmtp_peer.proofs.ReadingLemmas.{stands-read}
use Rattle.zmtp_peer.proofs.OpeningLemmas.{nothing-partial}

-- behind the frames of a message no frame is held
pub after-message : (terms : Terms) (held message : List (List ℕ)) → 0 < length message → after terms (Open held) (message_frames message) ≡ Open []
after-message terms held [] some = absurd (omega arith)
after-message terms held (body ∷ []) some = refl
after-message terms held (body ∷ other ∷ message) some = after-message terms (held ++ body ∷ []) (other ∷ message) (omega arith)

-- and they tell the message with what was held before
pub told-message : (terms : Terms) (held message : List (List ℕ)) → 0 < length message →
    told terms (Open held) (message_frames message) ≡ message_told terms.role (held ++ message)
told-message terms held [] some = absurd (omega arith)
told-message terms held (body ∷ []) some = append-nil (message_told terms.role (held ++ body ∷ []))
told-message terms held (body ∷ other ∷ message) some =
    told-message terms (held ++ body ∷ []) (other ∷ message) (omega arith) ∙ ap (message_told terms.role) (append_assoc held (body ∷ []) (other ∷ message))

-- who doesn't publish is told each message
pub message-told : (role : Role) (message : List (List ℕ)) → role ≢ Pub → message_told role message ≡ Message message ∷ []
message-told Router message other = refl
message-told Pub message other = absurd (other refl)
message-told Rep message other = refl
message-told Dealer message other = refl
message-told Sub message other = refl

-- a message is one piece for a peer that is ready
message-piece : (terms : Terms) (message : List (List ℕ)) → terms.role ≢ Pub → 0 < length message → IsWithinLimits message
    → ReadsPiece terms (longer (whole []) (message_octets message)) (Open []) (whole []) (Open []) (Message message ∷ [])
message-piece terms message other some within = record {
  frames = message_frames message;
  left = subst (λ (o : List ℕ). Leaves (whole o) (message_frames message) (whole [])) (append-nil (message_octets message))
      (messages_are_read_back message [] some within);
  told = sym (told-message terms [] message some ∙ message-told terms.role message other);
  ends = inl (nothing-partial, sym (after-message terms [] message some), λ refusal. refusal);
}

pub streaming-of : (role : Role) (octets : List ℕ) (given : List Event) (greeting : List ℕ) (state : State) (rest : Rest) → state ≡ Open [] →
    IsAt role octets given greeting state rest
    → IsStreaming role octets given greeting (Open []) rest
streaming-of role octets given greeting state rest ready at = subst (λ (s : State). IsAt role octets given greeting s rest) ready at

message-brings : (s : PeerState) (message : List (List ℕ)) → s.role ≢ Pub → IsBetweenMessages s → 0 < length message → IsWithinLimits message
    → Brings s (message_octets message) (Message message ∷ []) s
message-brings s message other between some within fed given h =
    let streaming = streaming-of s.role fed given s.greeting s.state s.rest between.ready h.leaves in
    let terms = terms_of s.role s.greeting in
    let piece = message-piece terms message other some within in
    let from : ReadsPiece terms (longer s.rest (message_octets message)) (Open []) (whole []) (Open []) (Message message ∷ []) =
    subst (λ (r : Rest). ReadsPiece terms (longer r (message_octets message)) (Open []) (whole []) (Open []) (Message message ∷ [])) (sym between.nothing)
    piece in
    let into : ReadsPiece terms (longer s.rest (message_octets message)) (Open []) s.rest (Open []) (Message message ∷ []) =
    subst (λ (r : Rest). ReadsPiece terms (longer s.rest (message_octets message)) (Open []) r (Open []) (Message message ∷ [])) (sym between.nothing) from in
    let here : ReadsPiece terms (longer s.rest (message_octets message)) s.state s.rest s.state (Message message ∷ []) =
    subst (λ (a : State). ReadsPiece terms (longer s.rest (message_octets message)) a s.rest a (Message message ∷ [])) (sym between.ready) into in
    stands-read s.role s.greeting s.state s.rest s.table s.room [] (message_octets message) s.greeting streaming.of s.state s.rest s.table s.room
    (Message message ∷ [])
    (sym (append-nil s.greeting)) streaming.complete streaming.welcome (λ refusal. subst IsRefusal between.ready refusal) here (λ q. refl) fed given h

pub messages_are_told : MessagesAreTold
messages_are_told s t message more es other between some within brings fed given h =
    let m = message_octets message in
    let told_first = message-brings s message other between some within fed given h in
    let all = brings (fed ++ m) (given ++ Message message ∷ []) told_first in
    subst (λ (o : List ℕ). Stands o (given ++ Message message ∷ es) t) (append_assoc fed m more)
    (subst (λ (events : List Event). Stands ((fed ++ m) ++ more) events t) (append_assoc given (Message message ∷ []) es) all)
