-- A role that is fed the opening of a partner is ready.
use Rattle.std.proofs.Common.{◌≡◌, ℕ, Bool, true, false, cond, List, [], ◌∷◌, ◌++◌, Option, Some, None, length, refl, ap, sym, subst, ◌∙◌, arith, append-nil}
use Rattle.std.proofs.Common.{length-append, inl, inr, lit<, lit≤, codes}
use Rattle.std.specs.Str.{bytes_eq}
use Rattle.zmtp_wire.specs.Greeting as greeting
use Rattle.zmtp_wire.specs.Greeting.{IsGreeting}
use Rattle.zmtp_wire.specs.Frame as frame
use Rattle.zmtp_wire.specs.Frame.{Frame, IsFrame}
use Rattle.zmtp_wire.specs.Tally.{Fits, nothing_counted}
use Rattle.zmtp_wire.specs.Stream.{whole, Leaves, IsPartial}
use Rattle.zmtp_peer.specs.declared.role.Role.{Role}
use Rattle.zmtp_peer.specs.declared.role.Role.TheVariants.{Router, Pub, Rep, Dealer, Sub}
use Rattle.zmtp_peer.specs.Roles.{socket_type_of, is_partner}
use Rattle.zmtp_peer.specs.Commands.{command_of, metadata_of, property_at, announced}
use Rattle.zmtp_peer.specs.Faults.{Fault, WrongPair, BadMetadata, NotReady}
use Rattle.zmtp_peer.specs.Handshake.{error_of, refusal_of, first_refusal}
use Rattle.zmtp_peer.specs.Events.{State, Open, unless, ready_told}
use Rattle.zmtp_peer.specs.Reading.{Awaiting, EndsIn}
use Rattle.zmtp_peer.specs.Opening.{own_greeting, ready_of}
use Rattle.zmtp_peer.specs.Laws.{PartnersAreReady}
use Rattle.zmtp_peer.proofs.ReadingLemmas.{take-front, drop-front}

own-greeting : IsGreeting (greeting.written own_greeting) own_greeting
own-greeting = record { signature = record { first = refl; last = refl }; major = refl; minor = refl; new_enough = lit≤ tt; mechanism = refl; as_server = refl }

-- the frame of READY
abbrev ready_frame : Role → Frame
ready_frame role = record { more = false; command = true; body = ready_of role }

ready-is-frame : (role : Role) → IsFrame (frame.written (ready_frame role)) (ready_frame role)
ready-is-frame Router = record { head = _; spelled = refl; header = record { long = false; spelled = refl; bounded = lit< tt; allowed = refl } }
ready-is-frame Pub = record { head = _; spelled = refl; header = record { long = false; spelled = refl; bounded = lit< tt; allowed = refl } }
ready-is-frame Rep = record { head = _; spelled = refl; header = record { long = false; spelled = refl; bounded = lit< tt; allowed = refl } }
ready-is-frame Dealer = record { head = _; spelled = refl; header = record { long = false; spelled = refl; bounded = lit< tt; allowed = refl } }
ready-is-frame Sub = record { head = _; spelled = refl; header = record { long = false; spelled = refl; bounded = lit< tt; allowed = refl } }

ready-fits : (role : Role) → Fits nothing_counted (frame.header_of (ready_frame role))
ready-fits Router = record { octets = lit≤ tt; frames = lit< tt }
ready-fits Pub = record { octets = lit≤ tt; frames = lit< tt }
ready-fits Rep = record { octets = lit≤ tt; frames = lit< tt }
ready-fits Dealer = record { octets = lit≤ tt; frames = lit< tt }
ready-fits Sub = record { octets = lit≤ tt; frames = lit< tt }

ready-taken : (role : Role) → Leaves (whole (frame.written (ready_frame role))) (ready_frame role ∷ []) (whole [])
ready-taken role = (
  whole [],
  record {
    taken = frame.written (ready_frame role);
    front = sym (append-nil (frame.written (ready_frame role)));
    frame = ready-is-frame role;
    fits = ready-fits role;
    tally = refl;
  },
  refl,
)

-- nothing is less than a frame
pub nothing-partial : IsPartial (whole [])
nothing-partial = record {
  missing = 0 ∷ 0 ∷ [];
  some = lit< tt;
  frame = record { more = false; command = false; body = [] };
  begun = record { head = 0 ∷ 0 ∷ []; spelled = refl; header = record { long = false; spelled = refl; bounded = lit< tt; allowed = refl } };
  fits = λ long.
      let front = ap length long.2.front ∙ length-append long.2.head long.1 in
      let head = ap length long.2.header.spelled in
      omega (arith, front, head);
}

-- the command of READY, and what it announces
ready-command : (role : Role) → (content : List ℕ) × (command_of (ready_of role) ≡ Some (codes "READY", content)) ×
    (announced content ≡ Some (Some (socket_type_of role)))
unfolding command_of announced metadata_of property_at
ready-command Router = (_, refl, refl)
ready-command Pub = (_, refl, refl)
ready-command Rep = (_, refl, refl)
ready-command Dealer = (_, refl, refl)
ready-command Sub = (_, refl, refl)

-- the answer to a READY is that to its content
first-refusal-of : (role : Role) (body content : List ℕ) → command_of body ≡ Some (codes "READY", content) →
    first_refusal role body ≡ refusal_of role (announced content)
unfolding first_refusal
first-refusal-of role body content h = ap (λ (o : Option (List ℕ × List ℕ)). elim o [
  | None ↦ Some BadMetadata
  | Some command ↦ cond (bytes_eq command.0 (codes "READY")) (refusal_of role (announced command.1))
      (cond (bytes_eq command.0 (codes "ERROR")) (Some (error_of command.1)) (Some NotReady))
]) h

ready-welcome : (role other : Role) → is_partner role (socket_type_of other) ≡ true → first_refusal role (ready_of other) ≡ None
ready-welcome role other fits =
    let command = ready-command other in
    first-refusal-of role (ready_of other) command.0 command.1 ∙ ap (refusal_of role) command.2 ∙ ap (λ (b : Bool). cond b None (Some WrongPair)) fits

pub partners_are_ready : PartnersAreReady
partners_are_ready role other fits =
    let front = greeting.written own_greeting in
    let stream = frame.written (ready_frame other) in
    let welcome = ready-welcome role other fits in
    inr (inr (record {
      complete = omega (arith, length-append front stream);
      greeting = own_greeting;
      welcome = subst (λ (o : List ℕ). IsGreeting o own_greeting) (sym (take-front front stream refl)) own-greeting;
      frames = ready_frame other ∷ [];
      behind = whole [];
      left = subst (λ (o : List ℕ). Leaves (whole o) (ready_frame other ∷ []) (whole [])) (sym (drop-front front stream refl)) (ready-taken other);
      tells = ap (λ (o : Option Fault). ready_told o ++ []) (sym welcome);
      ends = subst (λ (s : State). EndsIn s (whole []) Awaiting) (ap (λ (o : Option Fault). unless o (Open [])) (sym welcome)) (inl (nothing-partial, refl));
    }))
