-- The laws of what octets tell a peer.
use Rattle.std.proofs.Common.{◌≡◌, ℕ, ◌<◌, ◌≤◌, Bool, true, false, List, [], ◌∷◌, ◌++◌, length, take, drop, refl, ap, sym, subst, ◌∙◌, arith, append_assoc}
use Rattle.std.proofs.Common.{append-nil, inl, inr, ◌⊎◌, slice_index}
use Rattle.std.specs.Str.{bytes_eq}
use Rattle.std.proofs.lemmas.Bool.{cases_eq, cases_lt, false≢true}
use Rattle.std.proofs.lemmas.List.Elements.{All-drop}
use Rattle.std.proofs.lemmas.Slice.Eq.{bytes_eq-Decides}
use Rattle.std.specs.List.{flat_map}
use Rattle.zmtp_wire.specs.declared.fault.WireFault.{WireFault}
use Rattle.zmtp_wire.specs.declared.fault.WireFault.TheVariants.{BadSignature, OldVersion, BadMechanism, ReservedBits, CommandWithMore, TooLong, Memory}
use Rattle.zmtp_wire.specs.declared.greeting.Greeting.{Greeting}
use Rattle.zmtp_wire.specs.Greeting.{HasSignature, major_in, minor_in, mechanism_in, as_server_in, null_mechanism, IsGreeting, IsGreetingFault}
use Rattle.zmtp_wire.specs.Stream as stream
use Rattle.zmtp_wire.specs.Stream.{End}
use Rattle.zmtp_wire.proofs.Readings.{every_stream_is_read}
use Rattle.zmtp_wire.specs.Frame.{Frame}
use Rattle.zmtp_wire.specs.Stream.{Rest, whole, Takes, Leaves, IsPartial, IsFaultAt}
use Rattle.zmtp_wire.proofs.Streams.{one_frame, one_fault_at, partial_or_frame, fault_or_frame, fault_or_partial}
use Rattle.zmtp_peer.specs.declared.terms.Terms.{Terms}
use Rattle.zmtp_peer.specs.Terms.{terms_of}
use Rattle.zmtp_peer.specs.Faults.{Fault, Wire}
use Rattle.zmtp_peer.specs.Events.{Event, State, Opening, Open, Refused, after, told}
use Rattle.zmtp_peer.specs.Reading.{Ending, Awaiting, Failing, EndsAt, EndsIn, PeerReads, PeerState, Stands}
use Rattle.zmtp_peer.specs.Laws.{OctetsAreRead, OctetsHaveOneReading, RefusalsStay, Run, NoCutMatters, FoldsGoOn}
use Rattle.zmtp_peer.proofs.FrameLemmas.{after-append, told-append}
use Rattle.zmtp_peer.proofs.ReadingLemmas.{failing-stays, counted_all-append, welcome_or_refused}

pub folds_go_on : FoldsGoOn
folds_go_on = (after-append, told-append, counted_all-append)

pub refusals_stay : RefusalsStay
refusals_stay role octets more es fault h = failing-stays role octets more es fault h

-- pieces behind what was fed and given
pub cuts-from : (s t : PeerState) (ps : List (List ℕ × List Event)) (fed : List ℕ) (given : List Event) → Stands fed given s → Run s ps t
    → Stands (fed ++ flat_map (λ p. p.0) ps) (given ++ flat_map (λ p. p.1) ps) t
cuts-from s t [] fed given h run =
    subst (λ (u : PeerState). Stands (fed ++ []) (given ++ []) u) (sym run)
    (subst (λ (o : List ℕ). Stands o (given ++ []) s) (sym (append-nil fed)) (subst (λ (es : List Event). Stands fed es s) (sym (append-nil given)) h))
cuts-from s t (p ∷ ps) fed given h run =
    let on = cuts-from run.0 t ps (fed ++ p.0) (given ++ p.1) (run.1 fed given h) run.2 in
    subst (λ (o : List ℕ). Stands o (given ++ flat_map (λ (q : List ℕ × List Event). q.1) (p ∷ ps)) t)
    (append_assoc fed p.0 (flat_map (λ (q : List ℕ × List Event). q.0) ps))
    (subst (λ (es : List Event). Stands ((fed ++ p.0) ++ flat_map (λ (q : List ℕ × List Event). q.0) ps) es t)
    (append_assoc given p.1 (flat_map (λ (q : List ℕ × List Event). q.1) ps)) on)

pub no_cut_matters : NoCutMatters
no_cut_matters s t ps h run = (cuts-from s t ps [] [] h run).reads

-- two lists of frames at one front: one begins the other
pub leaves-compare : (fs gs : List Frame) (rest a b : Rest) → Leaves rest fs a → Leaves rest gs b
    → ((hs : List Frame) × (gs ≡ fs ++ hs) × Leaves a hs b) ⊎ ((hs : List Frame) × (fs ≡ gs ++ hs) × Leaves b hs a)
leaves-compare [] gs rest a b h k = inl (gs, refl, subst (λ (r : Rest). Leaves r gs b) (sym h) k)
leaves-compare (f ∷ fs) [] rest a b h k = inr (f ∷ fs, refl, subst (λ (r : Rest). Leaves r (f ∷ fs) a) (sym k) h)
leaves-compare (f ∷ fs) (g ∷ gs) rest a b h k =
    let same = one_frame rest f g h.0 k.0 h.1 k.1 in
    longer_by f g same.0 (leaves-compare fs gs h.0 a b h.2 (subst (λ (r : Rest). Leaves r gs b) (sym same.1) k.2))
  where
    longer_by : (f g : Frame) → f ≡ g → ((hs : List Frame) × (gs ≡ fs ++ hs) × Leaves a hs b) ⊎ ((hs : List Frame) × (fs ≡ gs ++ hs) × Leaves b hs a)
        → ((hs : List Frame) × (g ∷ gs ≡ (f ∷ fs) ++ hs) × Leaves a hs b) ⊎ ((hs : List Frame) × (f ∷ fs ≡ (g ∷ gs) ++ hs) × Leaves b hs a)
    longer_by f g same (inl (hs, e, l)) = inl (hs, ap (λ (x : Frame). x ∷ gs) (sym same) ∙ ap (λ (xs : List Frame). f ∷ xs) e, l)
    longer_by f g same (inr (hs, e, l)) = inr (hs, ap (λ (x : Frame). x ∷ fs) same ∙ ap (λ (xs : List Frame). g ∷ xs) e, l)

pub refused-after : (terms : Terms) (fault : Fault) (fs : List Frame) → after terms (Refused fault) fs ≡ Refused fault
refused-after terms fault [] = refl
refused-after terms fault (f ∷ fs) = refused-after terms fault fs

pub refused-told : (terms : Terms) (fault : Fault) (fs : List Frame) → told terms (Refused fault) fs ≡ []
refused-told terms fault [] = refl
refused-told terms fault (f ∷ fs) = refused-told terms fault fs

one-end-at : (rest : Rest) (e d : Ending) → EndsAt rest e → EndsAt rest d → e ≡ d
one-end-at rest e d (inl (p, a)) (inl (q, b)) = a ∙ sym b
one-end-at rest e d (inl (p, a)) (inr (fault, q, b)) = absurd (fault_or_partial fault rest q p)
one-end-at rest e d (inr (fault, p, a)) (inl (q, b)) = absurd (fault_or_partial fault rest p q)
one-end-at rest e d (inr (f, p, a)) (inr (g, q, b)) = a ∙ ap (λ (x : WireFault). Failing (Wire x)) (one_fault_at f g rest p q) ∙ sym b

one-end-in : (s : State) (rest : Rest) (e d : Ending) → EndsIn s rest e → EndsIn s rest d → e ≡ d
one-end-in Opening rest e d h k = one-end-at rest e d h k
one-end-in (Open held) rest e d h k = one-end-at rest e d h k
one-end-in (Refused fault) rest e d h k = h ∙ sym k

-- nothing is read behind an end
pub nothing-behind : (rest b : Rest) (e : Ending) (hs : List Frame) → EndsAt rest e → Leaves rest hs b → (hs ≡ []) × (b ≡ rest)
nothing-behind rest b e [] ends l = (refl, l)
nothing-behind rest b e (h ∷ hs) (inl (p, a)) l = absurd (partial_or_frame rest h l.0 p l.1)
nothing-behind rest b e (h ∷ hs) (inr (fault, p, a)) l = absurd (fault_or_frame fault rest h l.0 p l.1)

-- frames behind those that end a reading tell nothing more
going : (terms : Terms) (hs : List Frame) (a b : Rest) (e d : Ending) (s : State) → Leaves a hs b → EndsAt a e → EndsIn s a e → EndsIn (after terms s hs) b d
    → (told terms s hs ≡ []) × (e ≡ d)
going terms hs a b e d s l at h k =
    let none = nothing-behind a b e hs at l in (
      ap (told terms s) none.0,
      one-end-in s a e d h (subst (λ (r : Rest). EndsIn s r d) none.1 (subst (λ (xs : List Frame). EndsIn (after terms s xs) b d) none.0 k)),
    )

ends-first : (terms : Terms) (hs : List Frame) (a b : Rest) (e d : Ending) (s : State) → Leaves a hs b → EndsIn s a e → EndsIn (after terms s hs) b d
    → (told terms s hs ≡ []) × (e ≡ d)
ends-first terms hs a b e d Opening l h k = going terms hs a b e d Opening l h h k
ends-first terms hs a b e d (Open held) l h k = going terms hs a b e d (Open held) l h h k
ends-first terms hs a b e d (Refused fault) l h k =
    (refused-told terms fault hs, h ∙ sym (subst (λ (s : State). EndsIn s b d) (refused-after terms fault hs) k))

-- two readings of one stream, where the frames of the second go on
one-way : (terms : Terms) (fs gs hs : List Frame) (a b : Rest) (e d : Ending) → gs ≡ fs ++ hs → Leaves a hs b → EndsIn (after terms Opening fs) a e →
    EndsIn (after terms Opening gs) b d
    → (told terms Opening fs ≡ told terms Opening gs) × (e ≡ d)
one-way terms fs gs hs a b e d same l h k =
    let k2 : EndsIn (after terms (after terms Opening fs) hs) b d =
    subst (λ (s : State). EndsIn s b d) (ap (after terms Opening) same ∙ after-append terms Opening fs hs) k in
    let first = ends-first terms hs a b e d (after terms Opening fs) l h k2 in (
      sym (append-nil (told terms Opening fs)) ∙ ap (λ (es : List Event). told terms Opening fs ++ es) (sym first.0) ∙ sym (told-append terms Opening fs hs)
          ∙ ap (told terms Opening) (sym same),
      first.1,
    )

one-fault-of-greeting : (octets : List ℕ) (f g : WireFault) → IsGreetingFault octets f → IsGreetingFault octets g → f ≡ g
one-fault-of-greeting octets BadSignature BadSignature h k = refl
one-fault-of-greeting octets OldVersion OldVersion h k = refl
one-fault-of-greeting octets BadMechanism BadMechanism h k = refl
one-fault-of-greeting octets BadSignature OldVersion h k = absurd (h k.0)
one-fault-of-greeting octets BadSignature BadMechanism h k = absurd (h k.0)
one-fault-of-greeting octets OldVersion BadSignature h k = absurd (k h.0)
one-fault-of-greeting octets BadMechanism BadSignature h k = absurd (k h.0)
one-fault-of-greeting octets OldVersion BadMechanism h k = absurd (omega (arith, h.1, k.1))
one-fault-of-greeting octets BadMechanism OldVersion h k = absurd (omega (arith, h.1, k.1))
one-fault-of-greeting octets ReservedBits g h k = absurd h
one-fault-of-greeting octets CommandWithMore g h k = absurd h
one-fault-of-greeting octets TooLong g h k = absurd h
one-fault-of-greeting octets Memory g h k = absurd h
one-fault-of-greeting octets f ReservedBits h k = absurd k
one-fault-of-greeting octets f CommandWithMore h k = absurd k
one-fault-of-greeting octets f TooLong h k = absurd k
one-fault-of-greeting octets f Memory h k = absurd k

pub one_reading : OctetsHaveOneReading
one_reading role octets es fs e d (inl h) (inl k) = (h.quiet ∙ sym k.quiet, h.awaits ∙ sym k.awaits)
one_reading role octets es fs e d (inl h) (inr (inl k)) = absurd (omega (arith, h.short, k.complete))
one_reading role octets es fs e d (inl h) (inr (inr k)) = absurd (omega (arith, h.short, k.complete))
one_reading role octets es fs e d (inr (inl h)) (inl k) = absurd (omega (arith, k.short, h.complete))
one_reading role octets es fs e d (inr (inr h)) (inl k) = absurd (omega (arith, k.short, h.complete))
one_reading role octets es fs e d (inr (inl h)) (inr (inl k)) = (
  h.quiet ∙ sym k.quiet,
  h.fails ∙ ap (λ (x : WireFault). Failing (Wire x)) (one-fault-of-greeting (take 64 octets) h.fault k.fault h.refused k.refused)
      ∙ sym k.fails,
)
one_reading role octets es fs e d (inr (inl h)) (inr (inr k)) = absurd (welcome_or_refused (take 64 octets) k.greeting h.fault k.welcome h.refused)
one_reading role octets es fs e d (inr (inr h)) (inr (inl k)) = absurd (welcome_or_refused (take 64 octets) h.greeting k.fault h.welcome k.refused)
one_reading role octets es fs e d (inr (inr h)) (inr (inr k)) =
    compared (leaves-compare h.frames k.frames (whole (drop 64 octets)) h.behind k.behind h.left k.left)
  where
    compared : ((hs : List Frame) × (k.frames ≡ h.frames ++ hs) × Leaves h.behind hs k.behind) ⊎
        ((hs : List Frame) × (h.frames ≡ k.frames ++ hs) × Leaves k.behind hs h.behind) → (es ≡ fs) × (e ≡ d)
    compared (inl (hs, same, l)) =
        let both = one-way (terms_of role (take 64 octets)) h.frames k.frames hs h.behind k.behind e d same l h.ends k.ends in
        (h.tells ∙ both.0 ∙ sym k.tells, both.1)
    compared (inr (hs, same, l)) =
        let both = one-way (terms_of role (take 64 octets)) k.frames h.frames hs k.behind h.behind d e same l k.ends h.ends in
        (h.tells ∙ sym both.0 ∙ sym k.tells, sym both.1)

-- a greeting is welcome or refused
welcome-or-refused : (octets : List ℕ) → ((g : Greeting) × IsGreeting octets g) ⊎ ((fault : WireFault) × IsGreetingFault octets fault)
welcome-or-refused octets = by_first (cases_eq (slice_index octets 0) 255)
  where
    by_mechanism : HasSignature octets → 3 ≤ major_in octets → (b : Bool) → bytes_eq (mechanism_in octets) null_mechanism ≡ b →
        ((g : Greeting) × IsGreeting octets g) ⊎ ((fault : WireFault) × IsGreetingFault octets fault)
    by_mechanism signature new true h =
        inl (
          record { major = major_in octets; minor = minor_in octets; as_server = as_server_in octets },
          record {
            signature = signature;
            major = refl;
            minor = refl;
            new_enough = new;
            mechanism = (bytes_eq-Decides (mechanism_in octets) null_mechanism).0 h;
            as_server = refl;
          },
        )
    by_mechanism signature new false h =
        inr (BadMechanism, (signature, new, λ same. false≢true (sym h ∙ (bytes_eq-Decides (mechanism_in octets) null_mechanism).1 same)))

    by_version : HasSignature octets → (major_in octets < 3) ⊎ (3 ≤ major_in octets) → ((g : Greeting) × IsGreeting octets g) ⊎
        ((fault : WireFault) × IsGreetingFault octets fault)
    by_version signature (inl old) = inr (OldVersion, (signature, old))
    by_version signature (inr new) = by_mechanism signature new (bytes_eq (mechanism_in octets) null_mechanism) refl

    by_last : slice_index octets 0 ≡ 255 → (slice_index octets 9 ≡ 127) ⊎ (slice_index octets 9 ≡ 127 → ⊥) → ((g : Greeting) × IsGreeting octets g) ⊎
        ((fault : WireFault) × IsGreetingFault octets fault)
    by_last first (inl last) = by_version (record { first = first; last = last }) (cases_lt (major_in octets) 3)
    by_last first (inr not) = inr (BadSignature, λ signature. not signature.last)

    by_first : (slice_index octets 0 ≡ 255) ⊎ (slice_index octets 0 ≡ 255 → ⊥) → ((g : Greeting) × IsGreeting octets g) ⊎
        ((fault : WireFault) × IsGreetingFault octets fault)
    by_first (inl first) = by_last first (cases_eq (slice_index octets 9) 127)
    by_first (inr not) = inr (BadSignature, λ signature. not signature.first)

-- the end of the frames gives the end of the reading
ending-at : (rest : Rest) (end : End) → stream.EndsIn rest end → (e : Ending) × EndsAt rest e
ending-at rest (stream.Open octets) ends = (Awaiting, inl (ends.1, refl))
ending-at rest (stream.Faulty fault) ends = (Failing (Wire fault), inr (fault, ends, refl))

ending-in : (s : State) (rest : Rest) (end : End) → stream.EndsIn rest end → (e : Ending) × EndsIn s rest e
ending-in Opening rest end ends = ending-at rest end ends
ending-in (Open held) rest end ends = ending-at rest end ends
ending-in (Refused fault) rest end ends = (Failing fault, refl)

pub octets_are_read : OctetsAreRead
octets_are_read role octets each = by_length (cases_lt (length octets) 64)
  where
    greeted : 64 ≤ length octets → (g : Greeting) → IsGreeting (take 64 octets) g → (fs : List Frame) (end : End) → stream.Reads (drop 64 octets) fs end →
        (es : List Event) × (e : Ending) × PeerReads role octets es e
    greeted long g welcome fs end reads =
        let terms = terms_of role (take 64 octets) in
        let ending = ending-in (after terms Opening fs) reads.0 end reads.2 in (
          told terms Opening fs,
          ending.0,
          inr (inr (record
              { complete = long; greeting = g; welcome = welcome; frames = fs; behind = reads.0; left = reads.1; tells = refl; ends = ending.1 })),
        )

    by_greeting : 64 ≤ length octets → ((g : Greeting) × IsGreeting (take 64 octets) g) ⊎ ((fault : WireFault) × IsGreetingFault (take 64 octets) fault) →
        (es : List Event) × (e : Ending) × PeerReads role octets es e
    by_greeting long (inl (g, welcome)) =
        let all = every_stream_is_read (drop 64 octets) (All-drop (λ octet. octet < 256) 64 octets each) in
        greeted long g welcome all.0 all.1 all.2
    by_greeting long (inr (fault, refused)) =
        ([], Failing (Wire fault), inr (inl (record { complete = long; fault = fault; refused = refused; quiet = refl; fails = refl })))

    by_length : (length octets < 64) ⊎ (64 ≤ length octets) → (es : List Event) × (e : Ending) × PeerReads role octets es e
    by_length (inl short) = ([], Awaiting, inl (record { short = short; quiet = refl; awaits = refl }))
    by_length (inr long) = by_greeting long (welcome-or-refused (take 64 octets))
