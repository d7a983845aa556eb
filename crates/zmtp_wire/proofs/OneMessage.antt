-- No two messages within the limits have the same octets: what a reader reads of them are the frames.
use Rattle.std.proofs.Common.{◌≡◌, ℕ, ◌<◌, List, [], ◌∷◌, length, map, refl, sym, ap, ◌∙◌, subst, arith, append-nil}
use Rattle.std.specs.Coded.{le_prop, Coded-set, coded_list, coded_ℕ}
use mathlib.Core.HLevel.{Σ_prop_path}
use Rattle.zmtp_wire.specs.Frame.{Frame}
use Rattle.zmtp_wire.specs.Message.{message_frames, message_octets, IsWithinLimits, Spells, IsMessage}
use Rattle.zmtp_wire.specs.Laws.{OctetsTellOneMessage}
use Rattle.zmtp_wire.specs.Stream.{whole, Reads, Open}
use Rattle.zmtp_wire.specs.Tally.{nothing_counted}
use Rattle.zmtp_wire.proofs.Headers.{begun-nothing}
use Rattle.zmtp_wire.proofs.Taking.{header_begun}
use Rattle.zmtp_wire.proofs.Streams.{one_reading}
use Rattle.zmtp_wire.proofs.Messages.{messages_are_read_back}

-- the bodies of the frames of a message
bodies-frames : (bodies : List (List ℕ)) → map (λ (f : Frame). f.body) (message_frames bodies) ≡ bodies
bodies-frames [] = refl
bodies-frames (body ∷ []) = refl
bodies-frames (body ∷ other ∷ bodies) = ap (λ (bs : List (List ℕ)). body ∷ bs) (bodies-frames (other ∷ bodies))

-- alone on the wire it is read as its frames
read_alone : (body : List ℕ) (bodies : List (List ℕ)) → IsWithinLimits (body ∷ bodies)
    → Reads (message_octets (body ∷ bodies)) (message_frames (body ∷ bodies)) (Open [])
read_alone body bodies within =
    let leaves = messages_are_read_back (body ∷ bodies) [] (omega arith) within in
    subst (λ (octets : List ℕ). Reads octets (message_frames (body ∷ bodies)) (Open [])) (append-nil (message_octets (body ∷ bodies)))
    (whole [], leaves, (refl, header_begun [] nothing_counted (begun-nothing [] refl)))

-- a message with a frame has octets
some_octets : (body : List ℕ) (bodies : List (List ℕ)) → 0 < length (message_octets (body ∷ bodies))
some_octets body [] = omega arith
some_octets body (other ∷ bodies) = omega arith

one_message : (octets : List ℕ) (a b : List (List ℕ)) → IsWithinLimits a → IsWithinLimits b → octets ≡ message_octets a → octets ≡ message_octets b → a ≡ b
one_message octets [] [] within within' is is' = refl
one_message octets [] (y ∷ b) within within' is is' = absurd (let some = some_octets y b in omega (arith, ap length (sym is ∙ is')))
one_message octets (x ∷ a) [] within within' is is' = absurd (let some = some_octets x a in omega (arith, ap length (sym is ∙ is')))
one_message octets (x ∷ a) (y ∷ b) within within' is is' =
    let same = one_reading (message_octets (x ∷ a)) (message_frames (x ∷ a)) (message_frames (y ∷ b)) (Open []) (Open []) (read_alone x a within)
    (subst (λ (o : List ℕ). Reads o (message_frames (y ∷ b)) (Open [])) (sym is' ∙ is) (read_alone y b within')) in
    sym (bodies-frames (x ∷ a)) ∙ ap (map (λ (f : Frame). f.body)) same.0 ∙ bodies-frames (y ∷ b)

pub octets_tell_one_message : OctetsTellOneMessage
octets_tell_one_message octets a b s t = one_message octets a b s.within t.within s.spelled t.spelled

-- so that octets are those of some message is one fact, and no choice
pub IsMessage-prop : (octets : List ℕ) → IsProp (IsMessage octets)
IsMessage-prop octets s t = Σ_prop_path in_one_way (octets_tell_one_message octets s.0 t.0 s.1 t.1)
  where
    within : (bodies : List (List ℕ)) → IsProp (IsWithinLimits bodies)
    within bodies a b i = record { octets = le_prop a.octets b.octets i; frames = le_prop a.frames b.frames i }

    in_one_way : (bodies : List (List ℕ)) → IsProp (Spells octets bodies)
    in_one_way bodies a b i = record {
      within = within bodies a.within b.within i;
      spelled = Coded-set (coded_list coded_ℕ) octets (message_octets bodies) a.spelled b.spelled i;
    }
