-- The first event of a connection is Ready.
use Rattle.std.proofs.Common.{◌≡◌, ◌⊎◌, inl, inr, Bool, true, false, Option, Some, None, List, [], ◌∷◌, ◌++◌, take, refl, sym, subst, if◌then◌else◌}
use Rattle.zmtp_wire.specs.Frame.{Frame}
use Rattle.zmtp_peer.specs.declared.terms.Terms.{Terms}
use Rattle.zmtp_peer.specs.Terms.{terms_of}
use Rattle.zmtp_peer.specs.Faults.{Fault, NotReady}
use Rattle.zmtp_peer.specs.Handshake.{first_refusal}
use Rattle.zmtp_peer.specs.Events.{Event, Ready, Opening, Open, Refused, unless, ready_told, told}
use Rattle.zmtp_peer.specs.Laws.{ReadyComesFirst}
use Rattle.zmtp_peer.proofs.LawLemmas.{refused-told}

abbrev IsBegun : List Event → Type 0
IsBegun given = (given ≡ []) ⊎ ((later : List Event) × (given ≡ Ready ∷ later))

-- the first frame is a READY that is taken, or nothing is told
first_told : (terms : Terms) (fs : List Frame) (command : Bool) (refusal : Option Fault)
    → IsBegun ((if command then ready_told refusal else []) ++ told terms (if command then unless refusal (Open []) else Refused NotReady) fs)
first_told terms fs true None = inr (told terms (Open []) fs, refl)
first_told terms fs true (Some fault) = inl (refused-told terms fault fs)
first_told terms fs false refusal = inl (refused-told terms NotReady fs)

frames_told : (terms : Terms) (fs : List Frame) → IsBegun (told terms Opening fs)
frames_told terms [] = inl refl
frames_told terms (f ∷ fs) = first_told terms fs f.command (first_refusal terms.role f.body)

pub ready_comes_first : ReadyComesFirst
ready_comes_first s fed given stands = elim stands.reads [
  | inl short ↦ inl short.quiet
  | inr (inl unwelcome) ↦ inl unwelcome.quiet
  | inr (inr greeted) ↦ subst IsBegun (sym greeted.tells) (frames_told (terms_of s.role (take 64 fed)) greeted.frames)
]
