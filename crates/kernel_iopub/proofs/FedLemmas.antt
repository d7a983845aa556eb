-- What a peer is fed goes on from where it stood, also where it is refused.
use Rattle.std.proofs.Common.{◌≡◌, ℕ, ◌+◌, ◌⊎◌, inl, inr, List, [], ◌++◌, length, refl, ap, sym, subst, ◌∙◌, append_assoc, append-nil, length-append}
use Rattle.std.proofs.lemmas.Grind.{flat_map-append}
use Rattle.std.proofs.Math.Logic.{∥∥₁_map}
use Rattle.zmtp_wire.specs.declared.fault.WireFault.{WireFault}
use Rattle.zmtp_wire.specs.declared.fault.WireFault.TheVariants.{Memory, BadSignature, OldVersion, BadMechanism, ReservedBits, CommandWithMore, TooLong}
use Rattle.zmtp_peer.specs.declared.fault.PeerFault.{PeerFault}
use Rattle.zmtp_peer.specs.declared.fault.PeerFault.TheVariants as code
use Rattle.zmtp_peer.specs.Events.{Event, Refused}
use Rattle.zmtp_peer.specs.Faults.{fault_of, want_of_memory}
use Rattle.zmtp_peer.specs.Reading.{PeerState, Stands, Brings}
use Rattle.kernel_iopub.specs.Pings.{ping_in, pings_in, HasAsked}
use Rattle.kernel_iopub.specs.Round.{WasFed}

abbrev IsMemory : PeerFault → Type 0
IsMemory fault = (fault_of fault ≡ want_of_memory) ⊎ ¬ (fault_of fault ≡ want_of_memory)

of_wire : (fault : WireFault) → IsMemory (code.Wire fault)
of_wire Memory = inl refl
of_wire BadSignature = inr (λ e. cc)
of_wire OldVersion = inr (λ e. cc)
of_wire BadMechanism = inr (λ e. cc)
of_wire ReservedBits = inr (λ e. cc)
of_wire CommandWithMore = inr (λ e. cc)
of_wire TooLong = inr (λ e. cc)

is_memory : (fault : PeerFault) → IsMemory fault
is_memory (code.Wire fault) = of_wire fault
is_memory code.NoSocketType = inr (λ e. cc)
is_memory code.WrongPair = inr (λ e. cc)
is_memory code.BadMetadata = inr (λ e. cc)
is_memory (code.PeerError reason) = inr (λ e. cc)
is_memory code.NotReady = inr (λ e. cc)
is_memory code.BadPing = inr (λ e. cc)

-- ---- the pings that wait

-- a peer on whose connection nothing came
pub new_asks : (peer : PeerState) → Stands [] [] peer → HasAsked peer 0 []
new_asks peer h = ∣ ([], [], h, record { front = []; count = refl; whole = refl }) ∣₁

-- what it asks now stands behind what waited
pub asked_more : (old new : PeerState) (piece : List ℕ) (events : List Event) (taken : ℕ) (contexts more : List (List ℕ)) → Brings old piece events new
    → more ≡ pings_in events → HasAsked old taken contexts → HasAsked new taken (contexts ++ more)
asked_more old new piece events taken contexts more brings same asked =
    ∥∥₁_map asked (λ s. (
      s.0 ++ piece,
      s.1 ++ events,
      brings s.0 s.1 s.2,
      record {
        front = s.3.front;
        count = s.3.count;
        whole = flat_map-append ping_in s.1 events ∙ ap (λ (x : List (List ℕ)). x ++ pings_in events) s.3.whole
            ∙ append_assoc s.3.front contexts (pings_in events) ∙ ap (λ (x : List (List ℕ)). s.3.front ++ (contexts ++ x)) (sym same);
      },
    ))

-- it has asked the same where a piece brings nothing
asked_on : (old new : PeerState) (piece : List ℕ) (taken : ℕ) (contexts : List (List ℕ)) → Brings old piece [] new → HasAsked old taken contexts →
    HasAsked new taken contexts
asked_on old new piece taken contexts brings asked =
    subst (HasAsked new taken) (append-nil contexts) (asked_more old new piece [] taken contexts [] brings refl asked)

-- where all that waited was taken, none waits more
pub asked_all : (peer : PeerState) (taken : ℕ) (contexts : List (List ℕ)) → HasAsked peer taken contexts → HasAsked peer (taken + length contexts) []
asked_all peer taken contexts asked =
    ∥∥₁_map asked (λ s. (
      s.0,
      s.1,
      s.2,
      record {
        front = s.3.front ++ contexts;
        count = length-append s.3.front contexts ∙ ap (λ (n : ℕ). n + length contexts) s.3.count;
        whole = s.3.whole ∙ sym (append-nil (s.3.front ++ contexts));
      },
    ))

-- it has asked the same behind a call that brought a fault
pub still_asked : (old new : PeerState) (piece : List ℕ) (taken : ℕ) (contexts : List (List ℕ)) (fault : PeerFault)
    → (¬ (fault_of fault ≡ want_of_memory) → Brings old piece [] new × (new.state ≡ Refused (fault_of fault)))
    → (fault_of fault ≡ want_of_memory → Brings old [] [] new)
    → HasAsked old taken contexts → HasAsked new taken contexts
still_asked old new piece taken contexts fault refused memory asked = elim (is_memory fault) [
  | inl e ↦ asked_on old new [] taken contexts (memory e) asked
  | inr n ↦ asked_on old new piece taken contexts (refused n).0 asked
]

-- ---- what it was fed

pub new_fed : (peer : PeerState) → Stands [] [] peer → WasFed peer
new_fed peer h = ∣ ([], [], h) ∣₁

pub fed_on : (old new : PeerState) (piece : List ℕ) (events : List Event) → Brings old piece events new → WasFed old → WasFed new
fed_on old new piece events brings fed = ∥∥₁_map fed (λ s. (s.0 ++ piece, s.1 ++ events, brings s.0 s.1 s.2))

-- also behind a call that brought a fault
pub still_fed : (old new : PeerState) (piece : List ℕ) (fault : PeerFault)
    → (¬ (fault_of fault ≡ want_of_memory) → Brings old piece [] new × (new.state ≡ Refused (fault_of fault)))
    → (fault_of fault ≡ want_of_memory → Brings old [] [] new)
    → WasFed old → WasFed new
still_fed old new piece fault refused memory fed = elim (is_memory fault) [
  | inl e ↦ fed_on old new [] [] (memory e) fed
  | inr n ↦ fed_on old new piece [] (refused n).0 fed
]
