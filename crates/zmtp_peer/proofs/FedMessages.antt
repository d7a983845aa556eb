-- A peer that is fed a whole message tells it.
use Rattle.std.proofs.Common.{◌≡◌, ◌≢◌, ℕ, ◌<◌, ◌≤◌, true, false, List, [], ◌∷◌, ◌++◌, length, take, drop, refl, ap, sym, subst, ◌∙◌, arith, append_assoc}
use Rattle.std.proofs.Common.{append-nil, length-append, inl, inr, ◌⊎◌, ⊎_elim}
use Rattle.std.proofs.lemmas.List.{append_cancel_left}
use Rattle.std.specs.List.{flat_map}
use Rattle.zmtp_wire.specs.Greeting.{IsGreeting, IsGreetingFault}
use Rattle.zmtp_wire.specs.Frame.{Frame}
use Rattle.zmtp_wire.specs.Message.{message_frames, message_octets, IsWithinLimits}
use Rattle.zmtp_wire.specs.Stream.{Rest, whole, Leaves}
use Rattle.zmtp_wire.proofs.Streams.{leaves_longer}
use Rattle.zmtp_wire.proofs.Messages.{messages_are_read_back}
use Rattle.zmtp_peer.specs.declared.role.Role.{Role}
use Rattle.zmtp_peer.specs.declared.terms.Terms.{Terms}
use Rattle.zmtp_peer.specs.Terms.{terms_of}
use Rattle.zmtp_peer.specs.declared.role.Role.TheVariants.{Pub}
use Rattle.zmtp_peer.specs.Events.{Event, Message, State, Opening, Open, Refused, after, told}
use Rattle.zmtp_peer.specs.Subscriptions.{subscriptions}
use Rattle.zmtp_peer.specs.Reading.{Ending, EndsIn, PeerReads, IsGreeted, PeerState, ending_of, IsStreaming, IsAt, Stands}
use Rattle.zmtp_peer.specs.Laws.{IsBetweenMessages, FedMessagesAreTold}
use Rattle.zmtp_peer.proofs.FrameLemmas.{after-append, told-append}
use Rattle.zmtp_peer.proofs.ReadingLemmas.{leaves-append, take-front, drop-front, at-make, at-parts, welcome_or_refused, counted_all-append}
use Rattle.zmtp_peer.proofs.LawLemmas.{cuts-from, leaves-compare, refused-after, nothing-behind}
use Rattle.zmtp_peer.proofs.MessageLemmas.{after-message, told-message, message-told, streaming-of}

-- ---- frames that stop within a message

nothing-back : (gs hs : List Frame) → [] ≡ gs ++ hs → hs ≡ []
nothing-back [] hs same = sym same
nothing-back (g ∷ gs) hs same = absurd (cc same)

-- one list that is put together in two ways: the second front is within the first one, or goes on behind it
fronts-compare : (xs ys zs ws : List Frame) → xs ++ ys ≡ zs ++ ws
    → ((ks : List Frame) × (zs ≡ xs ++ ks) × (ys ≡ ks ++ ws)) ⊎ ((ks : List Frame) × (xs ≡ zs ++ ks))
fronts-compare [] ys zs ws same = inl (zs, refl, same)
fronts-compare (x ∷ xs) ys [] ws same = inr (x ∷ xs, refl)
fronts-compare (x ∷ xs) ys (z ∷ zs) ws same = longer (cc same) (fronts-compare xs ys zs ws (cc same))
  where
    longer : x ≡ z → ((ks : List Frame) × (zs ≡ xs ++ ks) × (ys ≡ ks ++ ws)) ⊎ ((ks : List Frame) × (xs ≡ zs ++ ks))
        → ((ks : List Frame) × (z ∷ zs ≡ (x ∷ xs) ++ ks) × (ys ≡ ks ++ ws)) ⊎ ((ks : List Frame) × (x ∷ xs ≡ (z ∷ zs) ++ ks))
    longer head (inl (ks, front, back)) = inl (ks, ap (λ (y : Frame). y ∷ zs) (sym head) ∙ ap (λ (l : List Frame). x ∷ l) front, back)
    longer head (inr (ks, front)) = inr (ks, ap (λ (l : List Frame). x ∷ l) front ∙ ap (λ (y : Frame). y ∷ (zs ++ ks)) head)

-- frames at the front of a message are all of it, or tell nothing
part-tells : (terms : Terms) (held message : List (List ℕ)) (gs hs : List Frame) → message_frames message ≡ gs ++ hs
    → (hs ≡ []) ⊎ (told terms (Open held) gs ≡ [])
part-tells terms held message [] hs same = inr refl
part-tells terms held [] (g ∷ gs) hs same = absurd (cc same)
part-tells terms held (body ∷ []) (g ∷ gs) hs same =
    let tail : [] ≡ gs ++ hs = cc same in
    inl (nothing-back gs hs tail)
part-tells terms held (body ∷ other ∷ message) (g ∷ gs) hs same =
    goes_on (cc same) (part-tells terms (held ++ body ∷ []) (other ∷ message) gs hs (cc same))
  where
    first : Frame
    first = record { more = true; command = false; body = body }

    goes_on : first ≡ g → (hs ≡ []) ⊎ (told terms (Open (held ++ body ∷ [])) gs ≡ []) → (hs ≡ []) ⊎ (told terms (Open held) (g ∷ gs) ≡ [])
    goes_on head (inl none) = inl none
    goes_on head (inr quiet) = inr (subst (λ (f : Frame). told terms (Open held) (f ∷ gs) ≡ []) head quiet)

-- the same behind other frames
part-behind : (terms : Terms) (before gs hs : List Frame) (message : List (List ℕ)) → after terms Opening before ≡ Open []
    → before ++ message_frames message ≡ gs ++ hs → (hs ≡ []) ⊎ (length (told terms Opening gs) ≤ length (told terms Opening before))
part-behind terms before gs hs message ready same = by_front (fronts-compare before (message_frames message) gs hs same)
  where
    by_front : ((ks : List Frame) × (gs ≡ before ++ ks) × (message_frames message ≡ ks ++ hs)) ⊎ ((ks : List Frame) × (before ≡ gs ++ ks))
        → (hs ≡ []) ⊎ (length (told terms Opening gs) ≤ length (told terms Opening before))
    by_front (inl (ks, front, back)) =
        ⊎_elim inl
        (λ quiet. inr (
        let all : told terms Opening gs ≡ told terms Opening before ++ [] =
        ap (told terms Opening) front ∙ told-append terms Opening before ks ∙ ap (λ (s : State). told terms Opening before ++ told terms s ks) ready
        ∙ ap (λ (es : List Event). told terms Opening before ++ es) quiet in
        omega (arith, ap length all, length-append (told terms Opening before) [])))
        (part-tells terms [] message ks hs back)
    by_front (inr (ks, front)) = inr (
        let all = ap length (ap (told terms Opening) front ∙ told-append terms Opening gs ks) in
        omega (arith, all, length-append (told terms Opening gs) (told terms (after terms Opening gs) ks)))

-- frames that are all of others have the same rest behind them
nothing-more : (all gs hs : List Frame) (rest b : Rest) → all ≡ gs ++ hs → Leaves b hs rest → hs ≡ []
    → (ks : List Frame) × (gs ≡ all ++ ks) × Leaves rest ks b
nothing-more all gs hs rest b same left none = (
  [],
  sym (append-nil gs) ∙ ap (λ (l : List Frame). gs ++ l) (sym none) ∙ sym same ∙ sym (append-nil all),
  sym (subst (λ (l : List Frame). Leaves b l rest) none left),
)

-- frames that end a reading, or tell more than what stood before the message, go on behind the message
behind-ended : (terms : Terms) (all gs : List Frame) (from rest b : Rest) (e : Ending) → after terms Opening all ≡ Open [] → Leaves from all rest →
    Leaves from gs b
    → EndsIn (after terms Opening gs) b e → (hs : List Frame) × (gs ≡ all ++ hs) × Leaves rest hs b
behind-ended terms all gs from rest b e ready first second ends = compared (leaves-compare all gs from rest b first second)
  where
    by_state : (hs : List Frame) → all ≡ gs ++ hs → Leaves b hs rest → (s : State) → s ≡ after terms Opening gs → EndsIn s b e
        → (ks : List Frame) × (gs ≡ all ++ ks) × Leaves rest ks b
    by_state hs same left Opening is at = nothing-more all gs hs rest b same left (nothing-behind b rest e hs at left).0
    by_state hs same left (Open held) is at = nothing-more all gs hs rest b same left (nothing-behind b rest e hs at left).0
    by_state hs same left (Refused fault) is at =
        let clash : Open [] ≡ Refused fault =
        sym ready ∙ ap (after terms Opening) same ∙ after-append terms Opening gs hs ∙ ap (λ (s : State). after terms s hs) (sym is)
        ∙ refused-after terms fault hs in
        absurd (cc clash)

    compared : ((hs : List Frame) × (gs ≡ all ++ hs) × Leaves rest hs b) ⊎ ((hs : List Frame) × (all ≡ gs ++ hs) × Leaves b hs rest)
        → (hs : List Frame) × (gs ≡ all ++ hs) × Leaves rest hs b
    compared (inl found) = found
    compared (inr (hs, same, left)) = by_state hs same left (after terms Opening gs) refl ends

behind-told : (terms : Terms) (before gs : List Frame) (message : List (List ℕ)) (from rest b : Rest) → after terms Opening before ≡ Open []
    → Leaves from (before ++ message_frames message) rest → Leaves from gs b → length (told terms Opening before) < length (told terms Opening gs)
    → (hs : List Frame) × (gs ≡ (before ++ message_frames message) ++ hs) × Leaves rest hs b
behind-told terms before gs message from rest b ready first second more =
    compared (leaves-compare (before ++ message_frames message) gs from rest b first second)
  where
    compared : ((hs : List Frame) × (gs ≡ (before ++ message_frames message) ++ hs) × Leaves rest hs b) ⊎
        ((hs : List Frame) × (before ++ message_frames message ≡ gs ++ hs) × Leaves b hs rest)
        → (hs : List Frame) × (gs ≡ (before ++ message_frames message) ++ hs) × Leaves rest hs b
    compared (inl found) = found
    compared (inr (hs, same, left)) =
        ⊎_elim (nothing-more (before ++ message_frames message) gs hs rest b same left) (λ few. absurd (omega (arith, few, more)))
        (part-behind terms before gs hs message ready same)

-- ---- a peer that was fed a whole message

-- a peer stood between two messages, and was fed a message and what follows
record IsFed (role : Role) (fed : List ℕ) (given : List Event) (greeting : List ℕ) (message : List (List ℕ)) : Type 0 where
  pub streaming : IsStreaming role fed given greeting (Open []) (whole [])
  pub told_whole : role ≢ Pub
  pub some : 0 < length message
  pub within : IsWithinLimits message

message-next : (role : Role) (fed : List ℕ) (given events : List Event) (greeting kept : List ℕ) (state : State) (rest : Rest) (message : List (List ℕ))
    (more : List ℕ)
    → IsFed role fed given greeting message
    → PeerReads role (fed ++ (message_octets message ++ more)) (given ++ events) (ending_of state)
    → IsAt role (fed ++ (message_octets message ++ more)) (given ++ events) kept state rest
    → (es : List Event) × (events ≡ Message message ∷ es) × PeerReads role (fed ++ more) (given ++ es) (ending_of state) ×
    IsAt role (fed ++ more) (given ++ es) kept state rest
message-next role fed given events greeting kept state rest message more is reads leaves = by_reads reads
  where
    st : IsStreaming role fed given greeting (Open []) (whole [])
    st = is.streaming

    terms : Terms
    terms = terms_of role greeting

    new : List ℕ
    new = message_octets message ++ more

    all : List Frame
    all = st.frames ++ message_frames message

    ready : after terms Opening st.frames ≡ Open []
    ready = sym st.reached

    came : (o : List ℕ) → fed ++ o ≡ greeting ++ (st.stream ++ o)
    came o = ap (λ (l : List ℕ). l ++ o) st.came ∙ append_assoc greeting st.stream o

    front : (o : List ℕ) → take 64 (fed ++ o) ≡ greeting
    front o = ap (take 64) (came o) ∙ take-front greeting (st.stream ++ o) st.complete

    back : (o : List ℕ) → drop 64 (fed ++ o) ≡ st.stream ++ o
    back o = ap (drop 64) (came o) ∙ drop-front greeting (st.stream ++ o) st.complete

    long : (o : List ℕ) → 64 ≤ length (fed ++ o)
    long o = omega (arith, ap length (came o), length-append greeting (st.stream ++ o), st.complete)

    -- the frames so far, with what follows them
    before-left : (o : List ℕ) → Leaves (whole (st.stream ++ o)) st.frames (whole o)
    before-left o = leaves_longer st.frames (whole st.stream) (whole []) o st.left

    all-left : Leaves (whole (st.stream ++ new)) all (whole more)
    all-left =
        leaves-append st.frames (message_frames message) (whole (st.stream ++ new)) (whole new) (whole more) (before-left new)
        (messages_are_read_back message more is.some is.within)

    all-ready : after terms Opening all ≡ Open []
    all-ready =
        after-append terms Opening st.frames (message_frames message) ∙ ap (λ (s : State). after terms s (message_frames message)) ready
        ∙ after-message terms [] message is.some

    all-told : told terms Opening all ≡ given ++ Message message ∷ []
    all-told =
        told-append terms Opening st.frames (message_frames message)
        ∙ ap (λ (s : State). told terms Opening st.frames ++ told terms s (message_frames message)) ready
        ∙ ap (λ (es : List Event). told terms Opening st.frames ++ es) (told-message terms [] message is.some ∙ message-told role message is.told_whole)
        ∙ ap (λ (es : List Event). es ++ Message message ∷ []) (sym st.tells)

    -- what frames behind the message tell
    events-are : (gs hs : List Frame) → gs ≡ all ++ hs → given ++ events ≡ told terms Opening gs → events ≡ Message message ∷ told terms (Open []) hs
    events-are gs hs same tells =
        append_cancel_left given events (Message message ∷ told terms (Open []) hs)
        (tells ∙ ap (told terms Opening) same ∙ told-append terms Opening all hs ∙ ap (λ (s : State). told terms Opening all ++ told terms s hs) all-ready
        ∙ ap (λ (es : List Event). es ++ told terms (Open []) hs) all-told ∙ append_assoc given (Message message ∷ []) (told terms (Open []) hs))

    -- the same without the message
    told-without : (hs : List Frame) → given ++ told terms (Open []) hs ≡ told terms Opening (st.frames ++ hs)
    told-without hs =
        ap (λ (es : List Event). es ++ told terms (Open []) hs) st.tells ∙ ap (λ (s : State). told terms Opening st.frames ++ told terms s hs) (sym ready)
        ∙ sym (told-append terms Opening st.frames hs)

    after-without : (gs hs : List Frame) → gs ≡ all ++ hs → after terms Opening gs ≡ after terms Opening (st.frames ++ hs)
    after-without gs hs same =
        ap (after terms Opening) same ∙ after-append terms Opening all hs ∙ ap (λ (s : State). after terms s hs) (all-ready ∙ sym ready)
        ∙ sym (after-append terms Opening st.frames hs)

    left-without : (hs : List Frame) (b : Rest) → Leaves (whole more) hs b → Leaves (whole (st.stream ++ more)) (st.frames ++ hs) b
    left-without hs b left = leaves-append st.frames hs (whole (st.stream ++ more)) (whole more) b (before-left more) left

    reads-without : (g : IsGreeted role (fed ++ new) (given ++ events) (ending_of state)) (hs : List Frame) → g.frames ≡ all ++ hs →
        Leaves (whole more) hs g.behind
        → PeerReads role (fed ++ more) (given ++ told terms (Open []) hs) (ending_of state)
    reads-without g hs same left = inr (inr (record {
      complete = long more;
      greeting = st.of;
      welcome = subst (λ (o : List ℕ). IsGreeting o st.of) (sym (front more)) st.welcome;
      frames = st.frames ++ hs;
      behind = g.behind;
      left = subst (λ (o : List ℕ). Leaves (whole o) (st.frames ++ hs) g.behind) (sym (back more)) (left-without hs g.behind left);
      tells = subst (λ (o : List ℕ). given ++ told terms (Open []) hs ≡ told (terms_of role o) Opening (st.frames ++ hs)) (sym (front more)) (told-without hs);
      ends = subst (λ (o : List ℕ). EndsIn (after (terms_of role o) Opening (st.frames ++ hs)) g.behind (ending_of state)) (sym (front more))
          (subst (λ (s : State). EndsIn s g.behind (ending_of state)) (after-without g.frames hs same)
          (subst (λ (o : List ℕ). EndsIn (after (terms_of role o) Opening g.frames) g.behind (ending_of state)) (front new) g.ends));
    }))

    streams-without : (es : List Event) → events ≡ Message message ∷ es → IsStreaming role (fed ++ new) (given ++ events) kept state rest
        → IsStreaming role (fed ++ more) (given ++ es) kept state rest
    streams-without es next u =
        let same_greeting : kept ≡ greeting = sym (take-front kept u.stream u.complete) ∙ ap (take 64) (sym u.came) ∙ front new in
        let same_stream : u.stream ≡ st.stream ++ new = sym (drop-front kept u.stream u.complete) ∙ ap (drop 64) (sym u.came) ∙ back new in
        let left : Leaves (whole (st.stream ++ new)) u.frames rest = subst (λ (o : List ℕ). Leaves (whole o) u.frames rest) same_stream u.left in
        let reached : state ≡ after terms Opening u.frames = subst (λ (o : List ℕ). state ≡ after (terms_of role o) Opening u.frames) same_greeting u.reached in
        let tells : given ++ events ≡ told terms Opening u.frames =
        subst (λ (o : List ℕ). given ++ events ≡ told (terms_of role o) Opening u.frames) same_greeting u.tells in
        let longer : length (told terms Opening st.frames) < length (told terms Opening u.frames) =
        omega (arith, ap length (sym st.tells), ap length (sym tells), length-append given events, ap length next) in
        let found = behind-told terms st.frames u.frames message (whole (st.stream ++ new)) (whole more) rest ready all-left left longer in
        let again : events ≡ Message message ∷ told terms (Open []) found.0 = events-are u.frames found.0 found.1 tells in
        let both : Message message ∷ es ≡ Message message ∷ told terms (Open []) found.0 = sym next ∙ again in
        let same_events : es ≡ told terms (Open []) found.0 = cc both in
        record {
          stream = st.stream ++ more;
          came = came more ∙ ap (λ (o : List ℕ). o ++ (st.stream ++ more)) (sym same_greeting);
          complete = u.complete;
          of = u.of;
          welcome = u.welcome;
          frames = st.frames ++ found.0;
          left = left-without found.0 rest found.2;
          reached = subst (λ (o : List ℕ). state ≡ after (terms_of role o) Opening (st.frames ++ found.0)) (sym same_greeting)
              (reached ∙ after-without u.frames found.0 found.1);
          tells = subst (λ (o : List ℕ). given ++ es ≡ told (terms_of role o) Opening (st.frames ++ found.0)) (sym same_greeting)
              (ap (λ (es : List Event). given ++ es) same_events ∙ told-without found.0);
        }

    stays : (es : List Event) → events ≡ Message message ∷ es → IsAt role (fed ++ more) (given ++ es) kept state rest
    stays es next =
        at-make role (fed ++ more) (given ++ es) kept state rest (λ going.
        ⊎_elim (λ begun. absurd (omega (arith, begun.short, long new))) (λ u. inr (streams-without es next u))
        (at-parts role (fed ++ new) (given ++ events) kept state rest going leaves))

    by_reads : PeerReads role (fed ++ new) (given ++ events) (ending_of state)
        → (es : List Event) × (events ≡ Message message ∷ es) × PeerReads role (fed ++ more) (given ++ es) (ending_of state) ×
        IsAt role (fed ++ more) (given ++ es) kept state rest
    by_reads (inl short) = absurd (omega (arith, short.short, long new))
    by_reads (inr (inl refused)) =
        absurd (welcome_or_refused greeting st.of refused.fault st.welcome
        (subst (λ (o : List ℕ). IsGreetingFault o refused.fault) (front new) refused.refused))
    by_reads (inr (inr g)) =
        let left : Leaves (whole (st.stream ++ new)) g.frames g.behind = subst (λ (o : List ℕ). Leaves (whole o) g.frames g.behind) (back new) g.left in
        let ends : EndsIn (after terms Opening g.frames) g.behind (ending_of state) =
        subst (λ (o : List ℕ). EndsIn (after (terms_of role o) Opening g.frames) g.behind (ending_of state)) (front new) g.ends in
        let tells : given ++ events ≡ told terms Opening g.frames =
        subst (λ (o : List ℕ). given ++ events ≡ told (terms_of role o) Opening g.frames) (front new) g.tells in
        let found = behind-ended terms all g.frames (whole (st.stream ++ new)) (whole more) g.behind (ending_of state) all-ready all-left left ends in
        let next : events ≡ Message message ∷ told terms (Open []) found.0 = events-are g.frames found.0 found.1 tells in
        (told terms (Open []) found.0, next, reads-without g found.0 found.1 found.2, stays (told terms (Open []) found.0) next)

-- how a peer stands that was fed a message and what follows, and how it would stand without the message
stands-next : (s t : PeerState) (fed : List ℕ) (given events : List Event) (message : List (List ℕ)) (more : List ℕ)
    → s.role ≢ Pub → t.role ≡ s.role → IsBetweenMessages s → 0 < length message → IsWithinLimits message → Stands fed given s
    → Stands (fed ++ (message_octets message ++ more)) (given ++ events) t
    → (es : List Event) × (events ≡ Message message ∷ es) × Stands (fed ++ more) (given ++ es) t
stands-next s t fed given events message more other role between some within h k =
    let here : IsStreaming s.role fed given s.greeting (Open []) s.rest = streaming-of s.role fed given s.greeting s.state s.rest between.ready h.leaves in
    let streaming : IsStreaming s.role fed given s.greeting (Open []) (whole []) =
    subst (λ (r : Rest). IsStreaming s.role fed given s.greeting (Open []) r) between.nothing here in
    let octets = fed ++ (message_octets message ++ more) in
    let reads : PeerReads s.role octets (given ++ events) (ending_of t.state) =
    subst (λ (r : Role). PeerReads r octets (given ++ events) (ending_of t.state)) role k.reads in
    let leaves : IsAt s.role octets (given ++ events) t.greeting t.state t.rest =
    subst (λ (r : Role). IsAt r octets (given ++ events) t.greeting t.state t.rest) role k.leaves in
    let next =
    message-next s.role fed given events s.greeting t.greeting t.state t.rest message more
    (record { streaming = streaming; told_whole = other; some = some; within = within }) reads leaves in (
      next.0,
      next.1,
      record {
        reads = subst (λ (r : Role). PeerReads r (fed ++ more) (given ++ next.0) (ending_of t.state)) (sym role) next.2;
        leaves = subst (λ (r : Role). IsAt r (fed ++ more) (given ++ next.0) t.greeting t.state t.rest) (sym role) next.3;
        counts = λ prefix.
            k.counts prefix ∙ ap (λ (es : List Event). subscriptions (given ++ es) prefix) next.1
            ∙ counted_all-append prefix 0 given (Message message ∷ next.0) ∙ sym (counted_all-append prefix 0 given next.0);
      },
    )

pub fed_messages_are_told : FedMessagesAreTold
fed_messages_are_told s t ps fed given message more h other role between some within run came =
    let events : List Event = flat_map (λ (p : List ℕ × List Event). p.1) ps in
    let first = next fed given h in (
      first.0,
      first.1,
      λ fed' given' h'.
          let again = next fed' given' h' in
          let both : Message message ∷ again.0 ≡ Message message ∷ first.0 = sym again.1 ∙ first.1 in
          let same : again.0 ≡ first.0 = cc both in
          subst (λ (es : List Event). Stands (fed' ++ more) (given' ++ es) t) same again.2,
    )
  where
    next : (fed' : List ℕ) (given' : List Event) → Stands fed' given' s
        → (es : List Event) × (flat_map (λ (p : List ℕ × List Event). p.1) ps ≡ Message message ∷ es) × Stands (fed' ++ more) (given' ++ es) t
    next fed' given' h' =
        stands-next s t fed' given' (flat_map (λ (p : List ℕ × List Event). p.1) ps) message more other role between some within h'
        (subst (λ (o : List ℕ). Stands (fed' ++ o) (given' ++ flat_map (λ (p : List ℕ × List Event). p.1) ps) t) came (cuts-from s t ps fed' given' h' run))
