-- How a peer stands behind one more piece.
use Rattle.std.proofs.Common.{◌≡◌, ℕ, ◌<◌, ◌≤◌, List, [], ◌∷◌, ◌++◌, length, take, drop, refl, ap, sym, subst, ◌∙◌, arith, append_assoc, append-nil}
use Rattle.std.proofs.Common.{length-append, inl, inr, ◌⊎◌, ⊎_elim}
use Rattle.std.proofs.Math.Seq.{take-append_seam, drop-append_seam}
use Rattle.zmtp_wire.specs.declared.fault.WireFault.{WireFault}
use Rattle.zmtp_wire.specs.declared.fault.WireFault.TheVariants.{BadSignature, OldVersion, BadMechanism, ReservedBits, CommandWithMore, TooLong, Memory}
use Rattle.zmtp_wire.specs.declared.greeting.Greeting.{Greeting}
use Rattle.zmtp_wire.specs.Greeting.{IsGreeting, IsGreetingFault}
use Rattle.zmtp_wire.specs.Frame.{Frame}
use Rattle.zmtp_wire.specs.Stream.{Rest, whole, Leaves}
use Rattle.zmtp_wire.proofs.Streams.{longer, leaves_longer, faults_stay}
use Rattle.std.proofs.lemmas.List.{take-append-le, drop-append-le}
use Rattle.zmtp_peer.specs.declared.role.Role.{Role}
use Rattle.zmtp_peer.specs.declared.terms.Terms.{Terms}
use Rattle.zmtp_peer.specs.Terms.{terms_of}
use Rattle.zmtp_peer.specs.Faults.{Fault, Wire}
use Rattle.zmtp_peer.specs.Events.{Event, State, Opening, Open, Refused, after, told}
use Rattle.zmtp_peer.specs.Intake.{IsRefusal, EndsFrames}
use Rattle.zmtp_peer.specs.Connection.{ReadsPiece}
use Rattle.zmtp_peer.specs.Subscriptions.{subscriptions, count_in, counted, counted_all}
use Rattle.zmtp_peer.specs.Reading.{Room, Awaiting, Failing, EndsAt, EndsIn, PeerReads, PeerState, ending_of, IsGreetingBegun, IsStreaming, IsAt, Stands}
use Rattle.zmtp_peer.specs.Reading.{Brings}
use Rattle.zmtp_peer.proofs.FrameLemmas.{after-append, told-append}

-- frames behind frames
pub leaves-append : (fs gs : List Frame) (rest next behind : Rest) → Leaves rest fs next → Leaves next gs behind → Leaves rest (fs ++ gs) behind
leaves-append [] gs rest next behind h k = subst (λ (r : Rest). Leaves r gs behind) h k
leaves-append (f ∷ fs) gs rest next behind h k = (h.0, h.1, leaves-append fs gs h.0 next behind h.2 k)

-- the front and the back of a list that is cut at 64
pub take-front : (xs ys : List ℕ) → length xs ≡ 64 → take 64 (xs ++ ys) ≡ xs
take-front xs ys h = subst (λ (n : ℕ). take n (xs ++ ys) ≡ xs) h (take-append_seam xs ys)

pub drop-front : (xs ys : List ℕ) → length xs ≡ 64 → drop 64 (xs ++ ys) ≡ ys
drop-front xs ys h = subst (λ (n : ℕ). drop n (xs ++ ys) ≡ ys) h (drop-append_seam xs ys)

-- the end of the frames is the end of the reading
ends-in : (b new : State) (rest : Rest) → EndsFrames b new rest → EndsIn b rest (ending_of new)
ends-in Opening new rest (inl (partial, same, not)) = inl (partial, ap ending_of same)
ends-in (Open held) new rest (inl (partial, same, not)) = inl (partial, ap ending_of same)
ends-in (Refused fault) new rest (inl (partial, same, not)) = absurd (not (subst IsRefusal (sym same) tt))
ends-in Opening new rest (inr (inl (same, is))) = absurd (subst IsRefusal same is)
ends-in (Open held) new rest (inr (inl (same, is))) = absurd (subst IsRefusal same is)
ends-in (Refused fault) new rest (inr (inl (same, is))) = ap ending_of same
ends-in Opening new rest (inr (inr (fault, is, not, same))) = inr (fault, is, ap ending_of same)
ends-in (Open held) new rest (inr (inr (fault, is, not, same))) = inr (fault, is, ap ending_of same)
ends-in (Refused before) new rest (inr (inr (fault, is, not, same))) = absurd (not tt)

-- a state that isn't refused is the one behind the frames
reached : (b new : State) (rest : Rest) → EndsFrames b new rest → ¬ (IsRefusal new) → new ≡ b
reached b new rest (inl (partial, same, not)) going = same
reached b new rest (inr (inl (same, is))) going = same
reached b new rest (inr (inr (fault, is, not, same))) going = absurd (going (subst IsRefusal (sym same) tt))

open-not-opening : (held : List (List ℕ)) → Open held ≡ Opening → ⊥
open-not-opening held h = cc

-- what is left where more is awaited
pub at-make : (role : Role) (octets : List ℕ) (given : List Event) (greeting : List ℕ) (state : State) (rest : Rest)
    → (¬ (IsRefusal state) → IsGreetingBegun octets given greeting state rest ⊎ IsStreaming role octets given greeting state rest) →
    IsAt role octets given greeting state rest
at-make role octets given greeting Opening rest h = h (λ k. k)
at-make role octets given greeting (Open held) rest h = ⊎_elim (λ begun. absurd (open-not-opening held begun.opening)) (λ streaming. streaming) (h (λ k. k))
at-make role octets given greeting (Refused fault) rest h = tt

pub at-parts : (role : Role) (octets : List ℕ) (given : List Event) (greeting : List ℕ) (state : State) (rest : Rest)
    → ¬ (IsRefusal state) → IsAt role octets given greeting state rest → IsGreetingBegun octets given greeting state rest ⊎
    IsStreaming role octets given greeting state rest
at-parts role octets given greeting Opening rest going h = h
at-parts role octets given greeting (Open held) rest going h = inr h
at-parts role octets given greeting (Refused fault) rest going h = absurd (going tt)

-- one more piece of a stream, behind a greeting and frames
reads-more : (role : Role) (octets greeting stream piece : List ℕ) (g : Greeting) (frames : List Frame) (rest behind : Rest) (state new : State)
    (events : List Event)
    → octets ≡ greeting ++ (stream ++ piece) → length greeting ≡ 64 → IsGreeting greeting g → Leaves (whole stream) frames rest →
    state ≡ after (terms_of role greeting) Opening frames
    → ReadsPiece (terms_of role greeting) (longer rest piece) state behind new events
    → PeerReads role octets (told (terms_of role greeting) Opening frames ++ events) (ending_of new) ×
    IsAt role octets (told (terms_of role greeting) Opening frames ++ events) greeting new behind
reads-more role octets greeting stream piece g frames rest behind state new events came complete welcome left at r =
    let terms = terms_of role greeting in
    let all : List Frame = frames ++ r.frames in
    let front : take 64 octets ≡ greeting = ap (take 64) came ∙ take-front greeting (stream ++ piece) complete in
    let back : drop 64 octets ≡ stream ++ piece = ap (drop 64) came ∙ drop-front greeting (stream ++ piece) complete in
    let long : 64 ≤ length octets = omega (arith, ap length came, length-append greeting (stream ++ piece)) in
    let leaves : Leaves (whole (stream ++ piece)) all behind =
    leaves-append frames r.frames (whole (stream ++ piece)) (longer rest piece) behind (leaves_longer frames (whole stream) rest piece left) r.left in
    let states : after terms Opening all ≡ after terms state r.frames = after-append terms Opening frames r.frames
    ∙ ap (λ s. after terms s r.frames) (sym at) in
    let tells : told terms Opening frames ++ events ≡ told terms Opening all =
    ap (λ es. told terms Opening frames ++ es) (r.told ∙ ap (λ s. told terms s r.frames) at) ∙ sym (told-append terms Opening frames r.frames) in (
      inr (inr (record {
        complete = long;
        greeting = g;
        welcome = subst (λ (o : List ℕ). IsGreeting o g) (sym front) welcome;
        frames = all;
        behind = behind;
        left = subst (λ (o : List ℕ). Leaves (whole o) all behind) (sym back) leaves;
        tells = subst (λ (o : List ℕ). told terms Opening frames ++ events ≡ told (terms_of role o) Opening all) (sym front) tells;
        ends = subst (λ (o : List ℕ). EndsIn (after (terms_of role o) Opening all) behind (ending_of new)) (sym front)
            (subst (λ (s : State). EndsIn s behind (ending_of new)) (sym states) (ends-in (after terms state r.frames) new behind r.ends));
      })),
      at-make role octets (told terms Opening frames ++ events) greeting new behind (λ going. inr (record {
        stream = stream ++ piece;
        came = came;
        complete = complete;
        of = g;
        welcome = welcome;
        frames = all;
        left = leaves;
        reached = reached (after terms state r.frames) new behind r.ends going ∙ sym states;
        tells = tells;
      })),
    )

-- a peer that stands so
abbrev pub standing : Role → List ℕ → State → Rest → List (List ℕ × ℕ) → Room → PeerState
standing role greeting state rest table room = record { role = role; greeting = greeting; state = state; rest = rest; table = table; room = room }

clash : (fault : Fault) → Failing fault ≡ Awaiting → ⊥
clash fault h = cc

-- a refusal is the same whatever follows
pub failing-stays : (role : Role) (octets more : List ℕ) (given : List Event) (fault : Fault) → PeerReads role octets given (Failing fault) →
    PeerReads role (octets ++ more) given (Failing fault)
failing-stays role octets more given fault (inl short) = absurd (clash fault short.awaits)
failing-stays role octets more given fault (inr (inl refused)) = inr (inl (record {
  complete = omega (arith, refused.complete, length-append octets more);
  fault = refused.fault;
  refused = subst (λ (o : List ℕ). IsGreetingFault o refused.fault) (sym (take-append-le 64 octets more refused.complete)) refused.refused;
  quiet = refused.quiet;
  fails = refused.fails;
}))
failing-stays role octets more given fault (inr (inr greeted)) = by_state (after terms Opening greeted.frames) greeted.ends refl
  where
    terms : Terms
    terms = terms_of role (take 64 octets)

    front : take 64 octets ≡ take 64 (octets ++ more)
    front = sym (take-append-le 64 octets more greeted.complete)

    made : (behind : Rest) → Leaves (whole (drop 64 octets ++ more)) greeted.frames behind →
        EndsIn (after terms Opening greeted.frames) behind (Failing fault) → PeerReads role (octets ++ more) given (Failing fault)
    made behind left ends = inr (inr (record {
      complete = omega (arith, greeted.complete, length-append octets more);
      greeting = greeted.greeting;
      welcome = subst (λ (o : List ℕ). IsGreeting o greeted.greeting) front greeted.welcome;
      frames = greeted.frames;
      behind = behind;
      left = subst (λ (o : List ℕ). Leaves (whole o) greeted.frames behind) (sym (drop-append-le 64 octets more greeted.complete)) left;
      tells = subst (λ (o : List ℕ). given ≡ told (terms_of role o) Opening greeted.frames) front greeted.tells;
      ends = subst (λ (o : List ℕ). EndsIn (after (terms_of role o) Opening greeted.frames) behind (Failing fault)) front ends;
    }))

    at_end : EndsAt greeted.behind (Failing fault) →
        ((behind : Rest) → EndsAt behind (Failing fault) → EndsIn (after terms Opening greeted.frames) behind (Failing fault)) →
        PeerReads role (octets ++ more) given (Failing fault)
    at_end (inl (partial, awaits)) here = absurd (clash fault awaits)
    at_end (inr (wrong, is, fails)) here =
        let stays = faults_stay (drop 64 octets) more greeted.frames wrong (greeted.behind, greeted.left, is) in
        made stays.0 stays.1 (here stays.0 (inr (wrong, stays.2, fails)))

    by_state : (s : State) → EndsIn s greeted.behind (Failing fault) → s ≡ after terms Opening greeted.frames →
        PeerReads role (octets ++ more) given (Failing fault)
    by_state Opening ends same = at_end ends (λ behind h. subst (λ (s : State). EndsIn s behind (Failing fault)) same h)
    by_state (Open held) ends same = at_end ends (λ behind h. subst (λ (s : State). EndsIn s behind (Failing fault)) same h)
    by_state (Refused before) ends same =
        made (longer greeted.behind more) (leaves_longer greeted.frames (whole (drop 64 octets)) greeted.behind more greeted.left)
        (subst (λ (s : State). EndsIn s (longer greeted.behind more) (Failing fault)) same ends)

-- no greeting is welcome and refused
pub welcome_or_refused : (octets : List ℕ) (g : Greeting) (fault : WireFault) → IsGreeting octets g → IsGreetingFault octets fault → ⊥
welcome_or_refused octets g BadSignature is refused = refused is.signature
welcome_or_refused octets g OldVersion is refused = omega (arith, refused.1, is.major, is.new_enough)
welcome_or_refused octets g BadMechanism is refused = refused.2 is.mechanism
welcome_or_refused octets g ReservedBits is refused = refused
welcome_or_refused octets g CommandWithMore is refused = refused
welcome_or_refused octets g TooLong is refused = refused
welcome_or_refused octets g Memory is refused = refused

pub empty : (xs : List ℕ) → length xs ≡ 0 → xs ≡ []
empty [] h = refl
empty (x ∷ xs) h = absurd (omega arith)

pub counted_all-append : (prefix : List ℕ) (n : ℕ) (es fs : List Event) → counted_all prefix n (es ++ fs) ≡ counted_all prefix (counted_all prefix n es) fs
counted_all-append prefix n [] fs = refl
counted_all-append prefix n (e ∷ es) fs = counted_all-append prefix (counted prefix n e) es fs

-- a peer that is refused stays so
pub stands-refused : (s : PeerState) (fault : Fault) (more : List ℕ) → s.state ≡ Refused fault → Brings s more [] s
stands-refused s fault more is fed given h =
    let reads : PeerReads s.role fed given (Failing fault) = subst (λ (t : State). PeerReads s.role fed given (ending_of t)) is h.reads in
    subst (λ (es : List Event). Stands (fed ++ more) es s) (sym (append-nil given)) (record {
      reads = subst (λ (t : State). PeerReads s.role (fed ++ more) given (ending_of t)) (sym is) (failing-stays s.role fed more given fault reads);
      leaves = at-make s.role (fed ++ more) given s.greeting s.state s.rest (λ going. absurd (going (subst IsRefusal (sym is) tt)));
      counts = h.counts;
    })

-- a peer whose greeting isn't whole yet
pub stands-short : (role : Role) (greeting : List ℕ) (state : State) (rest : Rest) (table : List (List ℕ × ℕ)) (room : Room) (more new : List ℕ)
    → new ≡ greeting ++ more → length new < 64 → ¬ (IsRefusal state) →
    Brings (standing role greeting state rest table room) more [] (standing role new state rest table room)
stands-short role greeting state rest table room more new is short going fed given h =
    subst (λ (es : List Event). Stands (fed ++ more) es (standing role new state rest table room)) (sym (append-nil given))
    (by_parts (at-parts role fed given greeting state rest going h.leaves))
  where
    by_parts : IsGreetingBegun fed given greeting state rest ⊎ IsStreaming role fed given greeting state rest →
        Stands (fed ++ more) given (standing role new state rest table room)
    by_parts (inl begun) =
        let same : new ≡ fed ++ more = is ∙ ap (λ (o : List ℕ). o ++ more) begun.kept in
        let few : length (fed ++ more) < 64 = subst (λ (o : List ℕ). length o < 64) same short in
        record {
          reads = inl (record { short = few; quiet = begun.quiet; awaits = ap ending_of begun.opening });
          leaves = at-make role (fed ++ more) given new state rest
              (λ _. inl (record { short = few; kept = same; opening = begun.opening; nothing = begun.nothing; quiet = begun.quiet }));
          counts = h.counts;
        }
    by_parts (inr streaming) = absurd (omega (arith, short, ap length is, length-append greeting more, streaming.complete))

-- a peer whose greeting is refused
pub stands-unwelcome : (role : Role) (greeting : List ℕ) (state : State) (rest : Rest) (table : List (List ℕ × ℕ)) (room : Room) (front stream new : List ℕ)
    (fault : WireFault)
    → new ≡ greeting ++ front → length new ≡ 64 → IsGreetingFault new fault → ¬ (IsRefusal state)
    → Brings (standing role greeting state rest table room) (front ++ stream) [] (standing role new (Refused (Wire fault)) rest table room)
stands-unwelcome role greeting state rest table room front stream new fault is complete refused going fed given h =
    subst (λ (es : List Event). Stands (fed ++ (front ++ stream)) es (standing role new (Refused (Wire fault)) rest table room)) (sym (append-nil given))
    (by_parts (at-parts role fed given greeting state rest going h.leaves))
  where
    by_parts : IsGreetingBegun fed given greeting state rest ⊎ IsStreaming role fed given greeting state rest →
        Stands (fed ++ (front ++ stream)) given (standing role new (Refused (Wire fault)) rest table room)
    by_parts (inl begun) =
        let same : fed ++ (front ++ stream) ≡ new ++ stream = sym (append_assoc fed front stream) ∙ ap (λ (o : List ℕ). (o ++ front) ++ stream) (sym begun.kept)
        ∙ ap (λ (o : List ℕ). o ++ stream) (sym is) in
        let head : take 64 (fed ++ (front ++ stream)) ≡ new = ap (take 64) same ∙ take-front new stream complete in
        record {
          reads = inr (inl (record {
            complete = omega (arith, complete, ap length same, length-append new stream);
            fault = fault;
            refused = subst (λ (o : List ℕ). IsGreetingFault o fault) (sym head) refused;
            quiet = begun.quiet;
            fails = refl;
          }));
          leaves = tt;
          counts = h.counts;
        }
    by_parts (inr streaming) =
        absurd (welcome_or_refused new streaming.of fault
        (subst (λ (o : List ℕ). IsGreeting o streaming.of)
        (sym (is ∙ ap (λ (o : List ℕ). greeting ++ o) (empty front (omega (arith, complete, ap length is, length-append greeting front, streaming.complete)))
        ∙ append-nil greeting)) streaming.welcome) refused)

-- a peer that read a piece
pub stands-read : (role : Role) (greeting : List ℕ) (state : State) (rest : Rest) (table : List (List ℕ × ℕ)) (room : Room) (front stream new : List ℕ)
    (g : Greeting) (next : State) (behind : Rest) (after_table : List (List ℕ × ℕ)) (later : Room) (events : List Event)
    → new ≡ greeting ++ front → length new ≡ 64 → IsGreeting new g → ¬ (IsRefusal state)
    → ReadsPiece (terms_of role new) (longer rest stream) state behind next events
    → ((q : List ℕ) → count_in after_table q ≡ counted_all q (count_in table q) events)
    → Brings (standing role greeting state rest table room) (front ++ stream) events (standing role new next behind after_table later)
stands-read role greeting state rest table room front stream new g next behind after_table later events is complete welcome going reads counts fed given h =
    by_parts (at-parts role fed given greeting state rest going h.leaves)
  where
    tallied : (prefix : List ℕ) → count_in after_table prefix ≡ subscriptions (given ++ events) prefix
    tallied prefix = counts prefix ∙ ap (λ n. counted_all prefix n events) (h.counts prefix) ∙ sym (counted_all-append prefix 0 given events)

    made : (before : List Event) → before ≡ given → PeerReads role (fed ++ (front ++ stream)) (before ++ events) (ending_of next) ×
        IsAt role (fed ++ (front ++ stream)) (before ++ events) new next behind
        → Stands (fed ++ (front ++ stream)) (given ++ events) (standing role new next behind after_table later)
    made before same both = subst (λ (es : List Event). Stands (fed ++ (front ++ stream)) es (standing role new next behind after_table later))
        (ap (λ (es : List Event). es ++ events) same) (record {
          reads = both.0;
          leaves = both.1;
          counts = λ prefix. tallied prefix ∙ ap (λ (es : List Event). subscriptions (es ++ events) prefix) (sym same);
        })

    by_parts : IsGreetingBegun fed given greeting state rest ⊎ IsStreaming role fed given greeting state rest →
        Stands (fed ++ (front ++ stream)) (given ++ events) (standing role new next behind after_table later)
    by_parts (inl begun) =
        let same : fed ++ (front ++ stream) ≡ new ++ ([] ++ stream) = sym (append_assoc fed front stream)
        ∙ ap (λ (o : List ℕ). (o ++ front) ++ stream) (sym begun.kept) ∙ ap (λ (o : List ℕ). o ++ stream) (sym is) in
        made [] (sym begun.quiet)
        (reads-more role (fed ++ (front ++ stream)) new [] stream g [] rest behind state next events same complete welcome begun.nothing begun.opening
        reads)
    by_parts (inr streaming) =
        let none : front ≡ [] = empty front (omega (arith, complete, ap length is, length-append greeting front, streaming.complete)) in
        let kept : new ≡ greeting = is ∙ ap (λ (o : List ℕ). greeting ++ o) none ∙ append-nil greeting in
        let same : fed ++ (front ++ stream) ≡ new ++ (streaming.stream ++ stream) =
        ap (λ (o : List ℕ). fed ++ (o ++ stream)) none ∙ ap (λ (o : List ℕ). o ++ stream) streaming.came ∙ append_assoc greeting streaming.stream stream
        ∙ ap (λ (o : List ℕ). o ++ (streaming.stream ++ stream)) (sym kept) in
        made (told (terms_of role new) Opening streaming.frames)
        (ap (λ (o : List ℕ). told (terms_of role o) Opening streaming.frames) kept ∙ sym streaming.tells)
        (reads-more role (fed ++ (front ++ stream)) new streaming.stream stream g streaming.frames rest behind state next events same complete welcome
        streaming.left
        (subst (λ (o : List ℕ). state ≡ after (terms_of role o) Opening streaming.frames) (sym kept) streaming.reached) reads)

-- a peer that read a piece behind its greeting
pub stands-on : (role : Role) (greeting : List ℕ) (state : State) (rest : Rest) (table : List (List ℕ × ℕ)) (room : Room) (stream new : List ℕ) (next : State)
    (behind : Rest) (after_table : List (List ℕ × ℕ)) (later : Room) (events : List Event)
    → new ≡ greeting → length greeting ≡ 64 → ¬ (IsRefusal state) → ReadsPiece (terms_of role new) (longer rest stream) state behind next events
    → ((q : List ℕ) → count_in after_table q ≡ counted_all q (count_in table q) events)
    → Brings (standing role greeting state rest table room) stream events (standing role new next behind after_table later)
stands-on role greeting state rest table room stream new next behind after_table later events same complete going reads counts fed given h =
    by_parts (at-parts role fed given greeting state rest going h.leaves)
  where
    by_parts : IsGreetingBegun fed given greeting state rest ⊎ IsStreaming role fed given greeting state rest →
        Stands (fed ++ stream) (given ++ events) (standing role new next behind after_table later)
    by_parts (inl begun) = absurd (omega (arith, begun.short, ap length begun.kept, complete))
    by_parts (inr streaming) =
        stands-read role greeting state rest table room [] stream new streaming.of next behind after_table later events (same ∙ sym (append-nil greeting))
        (ap length same ∙ complete)
        (subst (λ (o : List ℕ). IsGreeting o streaming.of) (sym same) streaming.welcome) going reads counts fed given h

-- a peer of which nothing but the memory was changed
pub stands-same : (role : Role) (greeting : List ℕ) (state : State) (rest : Rest) (table : List (List ℕ × ℕ)) (room : Room) (new : List ℕ) (next : State)
    (behind : Rest) (after_table : List (List ℕ × ℕ)) (later : Room)
    → new ≡ greeting → next ≡ state → behind ≡ rest → ((q : List ℕ) → count_in after_table q ≡ count_in table q)
    → Brings (standing role greeting state rest table room) [] [] (standing role new next behind after_table later)
stands-same role greeting state rest table room new next behind after_table later same_greeting same_state same_rest counts fed given h =
    let one : Stands fed given (standing role greeting state rest after_table later) =
    record { reads = h.reads; leaves = h.leaves; counts = λ prefix. counts prefix ∙ h.counts prefix } in
    let two = subst (λ (o : List ℕ). Stands fed given (standing role o state rest after_table later)) (sym same_greeting) one in
    let three = subst (λ (s : State). Stands fed given (standing role new s rest after_table later)) (sym same_state) two in
    let four = subst (λ (r : Rest). Stands fed given (standing role new next r after_table later)) (sym same_rest) three in
    subst (λ (o : List ℕ). Stands o (given ++ []) (standing role new next behind after_table later)) (sym (append-nil fed))
    (subst (λ (es : List Event). Stands fed es (standing role new next behind after_table later)) (sym (append-nil given)) four)
