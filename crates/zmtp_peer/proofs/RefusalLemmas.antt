-- Which faults refuse a peer, and that want of memory is none of them.
use Rattle.std.proofs.Common.{◌≡◌, ℕ, ◌+◌, Bool, true, false, ◌&&◌, cond, List, [], ◌∷◌, ◌++◌, Option, Some, None, Result, Ok, Err, IfOk, IfErr, length, take}
use Rattle.std.proofs.Common.{refl, sym, subst, ◌∙◌, arith, inl, inr}
use Rattle.std.proofs.lemmas.List.{take_all}
use Rattle.std.specs.Str.{bytes_eq}
use Rattle.std.proofs.Common.{codes}
use Rattle.zmtp_wire.specs.declared.fault.WireFault.{WireFault}
use Rattle.zmtp_wire.specs.declared.fault.WireFault.TheVariants.{Memory}
use Rattle.zmtp_wire.specs.Greeting.{IsGreetingFault}
use Rattle.zmtp_wire.specs.Frame.{Frame}
use Rattle.zmtp_wire.specs.Stream.{Rest, IsFaultAt}
use Rattle.zmtp_peer.specs.declared.role.Role.{Role}
use Rattle.zmtp_peer.specs.declared.terms.Terms.{Terms}
use Rattle.zmtp_peer.specs.declared.fault.PeerFault.{PeerFault}
use Rattle.zmtp_peer.specs.declared.intake.Stage.{Stage}
use Rattle.zmtp_peer.specs.declared.intake.Stage.TheVariants as stage
use Rattle.zmtp_peer.specs.Roles.{is_partner}
use Rattle.zmtp_peer.specs.Commands.{command_of, reason_of, context_of, announced}
use Rattle.zmtp_peer.specs.Faults.{Fault, Wire, NoSocketType, WrongPair, BadMetadata, PeerError, NotReady, BadPing, want_of_memory}
use Rattle.zmtp_peer.specs.Handshake.{error_of, refusal_of, first_refusal}
use Rattle.zmtp_peer.specs.Events.{Event, Subscribe, Cancel, Ping, State, Opening, Open, Refused, Later, Passed, Telling, Refusal, publishes, ping_told}
use Rattle.zmtp_peer.specs.Events.{newer_told, behind_ready, unless, after_later, after_frame, after}
use Rattle.zmtp_peer.specs.Intake.{IsRefusal, EndsFrames, state_at}
use Rattle.zmtp_peer.specs.Connection.{ReadsPiece}

-- a fault of the handshake, not of the wire
abbrev pub IsOwnFault : Fault → Type 0
IsOwnFault (Wire fault) = ⊥
IsOwnFault NoSocketType = Unit {0}
IsOwnFault WrongPair = Unit {0}
IsOwnFault BadMetadata = Unit {0}
IsOwnFault (PeerError reason) = Unit {0}
IsOwnFault NotReady = Unit {0}
IsOwnFault BadPing = Unit {0}

abbrev pub IsOwn : Option Fault → Type 0
IsOwn None = Unit {0}
IsOwn (Some fault) = IsOwnFault fault

abbrev pub IsOwnState : State → Type 0
IsOwnState Opening = Unit {0}
IsOwnState (Open held) = Unit {0}
IsOwnState (Refused fault) = IsOwnFault fault

own-error : (octets : List ℕ) → IsOwnFault (error_of octets)
unfolding error_of
own-error octets = by_reason (reason_of octets)
  where
    by_reason : (o : Option (List ℕ)) → IsOwnFault (elim o [ None ↦ BadMetadata | Some reason ↦ PeerError reason ])
    by_reason None = tt
    by_reason (Some reason) = tt

own-refusal : (role : Role) (o : Option (Option (List ℕ))) → IsOwn (refusal_of role o)
own-refusal role None = tt
own-refusal role (Some None) = tt
own-refusal role (Some (Some socket_type)) = by_test (is_partner role socket_type)
  where
    by_test : (b : Bool) → IsOwn (cond b None (Some WrongPair))
    by_test true = tt
    by_test false = tt

own-either : (b : Bool) (x y : Option Fault) → IsOwn x → IsOwn y → IsOwn (cond b x y)
own-either true x y h k = h
own-either false x y h k = k

own-first : (role : Role) (body : List ℕ) → IsOwn (first_refusal role body)
unfolding first_refusal
own-first role body = by_command (command_of body)
  where
    by_command : (o : Option (List ℕ × List ℕ)) → IsOwn (elim o [
      | None ↦ Some BadMetadata
      | Some command ↦ cond (bytes_eq command.0 (codes "READY")) (refusal_of role (announced command.1))
          (cond (bytes_eq command.0 (codes "ERROR")) (Some (error_of command.1)) (Some NotReady))
    ])
    by_command None = tt
    by_command (Some command) =
        own-either (bytes_eq command.0 (codes "READY")) (refusal_of role (announced command.1))
        (cond (bytes_eq command.0 (codes "ERROR")) (Some (error_of command.1)) (Some NotReady))
        (own-refusal role (announced command.1))
        (own-either (bytes_eq command.0 (codes "ERROR")) (Some (error_of command.1)) (Some NotReady) (own-error command.1) tt)

-- a command behind READY ends the connection for a fault of its own
abbrev IsOwnLater : Later → Type 0
IsOwnLater Passed = Unit {0}
IsOwnLater (Telling event) = Unit {0}
IsOwnLater (Refusal fault) = IsOwnFault fault

later-either : (b : Bool) (x y : Later) → IsOwnLater x → IsOwnLater y → IsOwnLater (cond b x y)
later-either true x y h k = h
later-either false x y h k = k

own-ping : (octets : List ℕ) → IsOwnLater (ping_told octets)
unfolding ping_told
own-ping octets = by_context (context_of octets)
  where
    by_context : (o : Option (List ℕ)) → IsOwnLater (elim o [ None ↦ Refusal BadPing | Some context ↦ Telling (Ping context) ])
    by_context None = tt
    by_context (Some context) = tt

own-newer : (role : Role) (name octets : List ℕ) → IsOwnLater (newer_told role name octets)
own-newer role name octets =
    let last = later-either (publishes role && bytes_eq name (codes "CANCEL")) (Telling (Cancel octets)) Passed tt tt in
    later-either (bytes_eq name (codes "PING")) (ping_told octets) _ (own-ping octets)
    (later-either (publishes role && bytes_eq name (codes "SUBSCRIBE")) (Telling (Subscribe octets)) _ tt last)

own-later : (terms : Terms) (body : List ℕ) → IsOwnLater (behind_ready terms body)
unfolding behind_ready
own-later terms body = by_command (command_of body)
  where
    by_command : (o : Option (List ℕ × List ℕ)) → IsOwnLater (elim o [
      | None ↦ Passed
      | Some command ↦ cond (bytes_eq command.0 (codes "ERROR")) (Refusal (error_of command.1))
          (cond terms.newer (newer_told terms.role command.0 command.1) Passed)
    ])
    by_command None = tt
    by_command (Some command) =
        later-either (bytes_eq command.0 (codes "ERROR")) (Refusal (error_of command.1)) (cond terms.newer (newer_told terms.role command.0 command.1) Passed)
        (own-error command.1)
        (later-either terms.newer (newer_told terms.role command.0 command.1) Passed (own-newer terms.role command.0 command.1) tt)

own-after-later : (held : List (List ℕ)) (l : Later) → IsOwnLater l → IsOwnState (after_later held l)
own-after-later held Passed h = tt
own-after-later held (Telling event) h = tt
own-after-later held (Refusal fault) h = h

own-unless : (o : Option Fault) (s : State) → IsOwn o → IsOwnState s → IsOwnState (unless o s)
own-unless None s h k = k
own-unless (Some fault) s h k = h

own-state-either : (b : Bool) (x y : State) → IsOwnState x → IsOwnState y → IsOwnState (cond b x y)
own-state-either true x y h k = h
own-state-either false x y h k = k

own-frame : (terms : Terms) (s : State) (f : Frame) → IsOwnState s → IsOwnState (after_frame terms s f)
own-frame terms Opening f h =
    own-state-either f.command (unless (first_refusal terms.role f.body) (Open [])) (Refused NotReady)
    (own-unless (first_refusal terms.role f.body) (Open []) (own-first terms.role f.body) tt) tt
own-frame terms (Open held) f h =
    own-state-either f.command (after_later held (behind_ready terms f.body)) (cond f.more (Open (held ++ f.body ∷ [])) (Open []))
    (own-after-later held (behind_ready terms f.body) (own-later terms f.body))
    (own-state-either f.more (Open (held ++ f.body ∷ [])) (Open []) tt tt)
own-frame terms (Refused fault) f h = h

pub own-after : (terms : Terms) (s : State) (fs : List Frame) → IsOwnState s → IsOwnState (after terms s fs)
own-after terms s [] h = h
own-after terms s (f ∷ fs) h = own-after terms (after_frame terms s f) fs (own-frame terms s f h)

own-going : (s : State) → ¬ (IsRefusal s) → IsOwnState s
own-going Opening h = tt
own-going (Open held) h = tt
own-going (Refused fault) h = absurd (h tt)

wire-memory : (fault : WireFault) (behind : Rest) → IsFaultAt behind fault → Refused (Wire fault) ≡ Refused want_of_memory → ⊥
wire-memory fault behind is h =
    let same : fault ≡ Memory = cc in
    subst (λ (f : WireFault). IsFaultAt behind f) same is

-- want of memory refuses nobody
pub never-memory : (terms : Terms) (rest behind : Rest) (old new : State) (events : List Event) → ReadsPiece terms rest old behind new events →
    ¬ (IsRefusal old) → new ≡ Refused want_of_memory → ⊥
never-memory terms rest behind old new events r going same = by_end r.ends
  where
    own : IsOwnState (after terms old r.frames)
    own = own-after terms old r.frames (own-going old going)

    by_end : EndsFrames (after terms old r.frames) new behind → ⊥
    by_end (inl (partial, is, not)) = not (subst IsRefusal (sym same) tt)
    by_end (inr (inl (is, refusal))) = subst IsOwnState (sym is ∙ same) own
    by_end (inr (inr (fault, is, not, refused))) = wire-memory fault behind is (sym refused ∙ same)

-- how far a stage is doesn't depend on what is held
pub not-refused : (at : Stage) (held : List (List ℕ)) → ((fault : PeerFault) → at ≡ stage.Refused fault → ⊥) → ¬ (IsRefusal (state_at at held))
not-refused stage.Opening held h = λ r. r
not-refused stage.Open held h = λ r. r
not-refused (stage.Refused fault) held h = λ r. h fault refl

pub refused-anyhow : (at : Stage) (held other : List (List ℕ)) → IsRefusal (state_at at held) → IsRefusal (state_at at other)
refused-anyhow stage.Opening held other h = h
refused-anyhow stage.Open held other h = h
refused-anyhow (stage.Refused fault) held other h = h

pub ok-weaker : {T E : Type 0} (r : Result T E) (P Q : T → Type 0) → ((x : T) → P x → Q x) → IfOk r P → IfOk r Q
ok-weaker (Ok x) P Q f h = f x h
ok-weaker (Err e) P Q f h = tt

pub err-weaker : {T E : Type 0} (r : Result T E) (P Q : E → Type 0) → ((x : E) → P x → Q x) → IfErr r P → IfErr r Q
err-weaker (Ok x) P Q f h = tt
err-weaker (Err e) P Q f h = f e h

-- a greeting that is whole now
pub whole-front : (greeting old front : List ℕ) (at : ℕ) → take (at + length front) greeting ≡ take at old ++ front → at + length front ≡ 64 →
    take 64 greeting ≡ take at old ++ front
whole-front greeting old front at written h = subst (λ (n : ℕ). take n greeting ≡ take at old ++ front) h written

pub take-whole : (greeting : List ℕ) → length greeting ≡ 64 → take 64 greeting ≡ greeting
take-whole greeting h = take_all 64 greeting (omega arith)

-- want of memory refuses no greeting
pub welcome-none : (octets : List ℕ) (fault : WireFault) → IsGreetingFault octets fault → Wire fault ≡ want_of_memory → ⊥
welcome-none octets fault is h =
    let same : fault ≡ Memory = cc in
    subst (λ (f : WireFault). IsGreetingFault octets f) same is
