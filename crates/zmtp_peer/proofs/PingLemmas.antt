-- What a ping tells a peer that is ready.
use Rattle.std.proofs.Common.{◌≡◌, ℕ, ◌+◌, ◌<◌, ◌≤◌, ◌⊎◌, Bool, true, false, cond, List, [], ◌∷◌, ◌++◌, Option, Some, None}
use Rattle.std.proofs.Common.{length, refl, ap, sym, subst, ◌∙◌, arith, append_assoc, append-nil, inl, inr, codes, nat_le, length-append, lit<}
use Rattle.std.proofs.lemmas.Bool.{cond-true, cond-false, le-leb, lt-leb}
use Rattle.std.specs.Str.{bytes_eq}
use Rattle.zmtp_wire.specs.Frame.{IsFrame}
use Rattle.zmtp_wire.specs.Greeting.{major_in, minor_in}
use Rattle.zmtp_wire.specs.Pong.{context_limit}
use Rattle.zmtp_wire.specs.declared.tally.Tally.{Tally}
use Rattle.zmtp_wire.specs.Tally.{octet_limit}
use Rattle.zmtp_wire.specs.Stream.{Rest, IsPartial}
use Rattle.zmtp_wire.proofs.Streams.{longer}
use Rattle.zmtp_peer.specs.declared.role.Role.{Role}
use Rattle.zmtp_peer.specs.declared.terms.Terms.{Terms}
use Rattle.std.specs.Option.{option_and_then}
use Rattle.zmtp_peer.specs.Commands.{cut, command_of, context_of}
use Rattle.zmtp_peer.specs.Faults.{BadPing}
use Rattle.zmtp_peer.specs.Handshake.{error_of}
use Rattle.zmtp_peer.specs.Events.{Event, Ping, Later, Passed, Telling, Refusal, ping_told, behind_ready, newer_told}
use Rattle.zmtp_peer.specs.Events.{State, Open, later_told, after_later}
use Rattle.zmtp_peer.specs.Intake.{IsRefusal, EndsFrames}
use Rattle.zmtp_peer.specs.Connection.{ReadsPiece}
use Rattle.zmtp_peer.specs.Pings.{ping}
use Rattle.zmtp_peer.specs.Subscriptions.{counted_all, count_in}
use Rattle.zmtp_peer.specs.Terms.{is_newer, terms_of}
use Rattle.zmtp_peer.specs.Reading.{PeerState, IsStreaming, IsAt, Stands, Brings}
use Rattle.zmtp_peer.specs.Laws.{IsBetweenFrames, PingsAreTold, BadPingsAreRefused, OldPingsArePassedOver}
use Rattle.zmtp_peer.proofs.ReadingLemmas.{stands-on}

-- ---- what the command is

ping-command : (octets : List ℕ) → command_of (4 ∷ codes "PING" ++ octets) ≡ Some (codes "PING", octets)
unfolding command_of
ping-command octets = cond-true (nat_le 4 (length (codes "PING" ++ octets))) _ _ (le-leb 4 (length (codes "PING" ++ octets)) (omega arith))

-- by whether the partner's version is 3.1 or later
ping-later : (role : Role) (newer : Bool) (octets : List ℕ)
    → behind_ready (record { role = role; newer = newer }) (4 ∷ codes "PING" ++ octets) ≡ cond newer (ping_told octets) Passed
unfolding behind_ready
ping-later role newer octets = ap (λ (o : Option (List ℕ × List ℕ)). elim o [
  | None ↦ Passed
  | Some command ↦ cond (bytes_eq command.0 (codes "ERROR")) (Refusal (error_of command.1)) (cond newer (newer_told role command.0 command.1) Passed)
]) (ping-command octets)

-- the time to live is cut off
time-cut : (a b : ℕ) (context : List ℕ) → cut 2 (a ∷ b ∷ context) ≡ Some (a ∷ b ∷ [], context)
time-cut a b context = cond-true (nat_le 2 (length (a ∷ b ∷ context))) _ _ (le-leb 2 (length (a ∷ b ∷ context)) (omega arith))

abbrev short-enough : Option (List ℕ × List ℕ) → Option (List ℕ)
short-enough o = option_and_then (λ (parts : List ℕ × List ℕ). cond (nat_le (length parts.1) context_limit) (Some parts.1) None) o

-- the context behind a time to live
good-context : (time context : List ℕ) → length time ≡ 2 → length context ≤ context_limit → context_of (time ++ context) ≡ Some context
unfolding context_of
good-context [] context two short = absurd (omega (arith, two))
good-context (a ∷ []) context two short = absurd (omega (arith, two))
good-context (a ∷ b ∷ []) context two short =
    ap short-enough (time-cut a b context) ∙ cond-true (nat_le (length context) context_limit) _ _ (le-leb (length context) context_limit short)
good-context (a ∷ b ∷ c ∷ time) context two short = absurd (omega (arith, two))

good-told : (time context : List ℕ) → length time ≡ 2 → length context ≤ context_limit → ping_told (time ++ context) ≡ Telling (Ping context)
unfolding ping_told
good-told time context two short = ap (λ (o : Option (List ℕ)). elim o [ None ↦ Refusal BadPing | Some context ↦ Telling (Ping context) ])
    (good-context time context two short)

-- shorter or longer data has none
bad-context : (octets : List ℕ) → (length octets < 2) ⊎ (2 + context_limit < length octets) → context_of octets ≡ None
unfolding context_of
bad-context [] bad = refl
bad-context (a ∷ []) bad = refl
bad-context (a ∷ b ∷ context) (inl short) = absurd (omega (arith, short))
bad-context (a ∷ b ∷ context) (inr long) =
    ap short-enough (time-cut a b context)
    ∙ cond-false (nat_le (length context) context_limit) _ _ (lt-leb (length context) context_limit (omega (arith, long)))

bad-told : (octets : List ℕ) → (length octets < 2) ⊎ (2 + context_limit < length octets) → ping_told octets ≡ Refusal BadPing
unfolding ping_told
bad-told octets bad = ap (λ (o : Option (List ℕ)). elim o [ None ↦ Refusal BadPing | Some context ↦ Telling (Ping context) ]) (bad-context octets bad)

-- what it is to a peer with a partner of this greeting
newer-later : (role : Role) (greeting octets : List ℕ) (newer : Bool) → is_newer (major_in greeting) (minor_in greeting) ≡ newer
    → behind_ready (terms_of role greeting) (4 ∷ codes "PING" ++ octets) ≡ cond newer (ping_told octets) Passed
newer-later role greeting octets newer is =
    ap (λ (b : Bool). behind_ready (record { role = role; newer = b }) (4 ∷ codes "PING" ++ octets)) is ∙ ping-later role newer octets

-- ---- how a peer stands behind it

-- no octets are less than a frame, also within a message
nothing-partial-at : (tally : Tally) → IsPartial (record { octets = []; tally = tally })
nothing-partial-at tally = record {
  missing = 0 ∷ 0 ∷ [];
  some = lit< tt;
  frame = record { more = false; command = false; body = [] };
  begun = record { head = 0 ∷ 0 ∷ []; spelled = refl; header = record { long = false; spelled = refl; bounded = lit< tt; allowed = refl } };
  fits = λ long.
      let front = ap length long.2.front ∙ length-append long.2.head long.1 in
      let head = ap length long.2.header.spelled in
      omega (arith, front, head);
}

-- how frames end that leave no octets
ends-at : (held : List (List ℕ)) (later : Later) (rest : Rest) → IsPartial rest → EndsFrames (after_later held later) (after_later held later) rest
ends-at held Passed rest partial = inl (partial, refl, λ refusal. refusal)
ends-at held (Telling event) rest partial = inl (partial, refl, λ refusal. refusal)
ends-at held (Refusal fault) rest partial = inr (inl (refl, tt))

-- the command is one piece
ping-piece : (terms : Terms) (held : List (List ℕ)) (tally : Tally) (octets content : List ℕ) (later : Later)
    → behind_ready terms (ping content).body ≡ later → length (ping content).body ≤ octet_limit → IsFrame octets (ping content)
    → ReadsPiece terms (record { octets = octets; tally = tally }) (Open held) (record { octets = []; tally = tally }) (after_later held later)
    (later_told later)
ping-piece terms held tally octets content later is small frame = record {
  frames = ping content ∷ [];
  left = (
    record { octets = []; tally = tally },
    record {
      taken = octets;
      front = sym (append-nil octets);
      frame = frame;
      fits = record { octets = omega (arith, small); frames = omega arith };
      tally = refl;
    },
    refl,
  );
  told = sym (append-nil (later_told later)) ∙ ap (λ (l : Later). later_told l ++ []) (sym is);
  ends = subst (λ (s : State). EndsFrames s (after_later held later) (record { octets = []; tally = tally })) (ap (λ (l : Later). after_later held l) (sym is))
      (ends-at held later (record { octets = []; tally = tally }) (nothing-partial-at tally));
}

-- what it brings a peer between two frames
ping-brings : (s : PeerState) (held : List (List ℕ)) (octets content : List ℕ) (later : Later) → IsBetweenFrames s held
    → behind_ready (terms_of s.role s.greeting) (ping content).body ≡ later → length (ping content).body ≤ octet_limit → IsFrame octets (ping content)
    → ((prefix : List ℕ) (n : ℕ) → counted_all prefix n (later_told later) ≡ n)
    → Brings s octets (later_told later) (record s { state = after_later held later })
ping-brings s held octets content later between is small frame uncounted fed given h =
    let terms = terms_of s.role s.greeting in
    let new = after_later held later in
    let events = later_told later in
    let none : Rest = record { octets = []; tally = s.rest.tally } in
    let nothing : s.rest ≡ none = ap (λ (o : List ℕ). record { octets = o; tally = s.rest.tally }) between.nothing in
    let streaming : IsStreaming s.role fed given s.greeting (Open held) s.rest =
    subst (λ (a : State). IsAt s.role fed given s.greeting a s.rest) between.ready h.leaves in
    let piece : ReadsPiece terms (longer none octets) (Open held) none new events = ping-piece terms held s.rest.tally octets content later is small frame in
    let from : ReadsPiece terms (longer s.rest octets) (Open held) none new events =
    subst (λ (r : Rest). ReadsPiece terms (longer r octets) (Open held) none new events) (sym nothing) piece in
    let into : ReadsPiece terms (longer s.rest octets) (Open held) s.rest new events =
    subst (λ (r : Rest). ReadsPiece terms (longer s.rest octets) (Open held) r new events) (sym nothing) from in
    let here : ReadsPiece terms (longer s.rest octets) s.state s.rest new events =
    subst (λ (a : State). ReadsPiece terms (longer s.rest octets) a s.rest new events) (sym between.ready) into in
    stands-on s.role s.greeting s.state s.rest s.table s.room octets s.greeting new s.rest s.table s.room events refl streaming.complete
    (λ refusal. subst IsRefusal between.ready refusal) here (λ prefix. sym (uncounted prefix (count_in s.table prefix))) fed given h

-- a peer that stands as before goes on as before
goes-on : (s t : PeerState) (held : List (List ℕ)) (octets more : List ℕ) (first es : List Event) → s.state ≡ Open held
    → Brings s octets first (record s { state = Open held }) → Brings s more es t → Brings s (octets ++ more) (first ++ es) t
goes-on s t held octets more first es ready begins brings fed given h =
    let same : Stands (fed ++ octets) (given ++ first) s =
    subst (λ (a : State). Stands (fed ++ octets) (given ++ first) (record s { state = a })) (sym ready) (begins fed given h) in
    subst (λ (o : List ℕ). Stands o (given ++ (first ++ es)) t) (append_assoc fed octets more)
    (subst (λ (events : List Event). Stands ((fed ++ octets) ++ more) events t) (append_assoc given first es) (brings (fed ++ octets) (given ++ first) same))

-- ---- the laws

pub pings_are_told : PingsAreTold
pings_are_told s t held octets time context more es between newer two short frame brings =
    goes-on s t held octets more (Ping context ∷ []) es between.ready
    (ping-brings s held octets (time ++ context) (Telling (Ping context)) between
    (newer-later s.role s.greeting (time ++ context) true newer ∙ good-told time context two short)
    (omega (arith, length-append (codes "PING") (time ++ context), length-append time context, two, short)) frame (λ prefix n. refl))
    brings

pub bad_pings_are_refused : BadPingsAreRefused
bad_pings_are_refused s held octets content between newer bad small frame =
    ping-brings s held octets content (Refusal BadPing) between
    (newer-later s.role s.greeting content true newer ∙ bad-told content bad) small frame (λ prefix n. refl)

pub old_pings_are_passed_over : OldPingsArePassedOver
old_pings_are_passed_over s t held octets content more es between older small frame brings =
    goes-on s t held octets more [] es between.ready
    (ping-brings s held octets content Passed between (newer-later s.role s.greeting content false older) small frame (λ prefix n. refl))
    brings
