-- A publisher that is fed a subscription is told it.
use Rattle.std.proofs.Common.{◌≡◌, ℕ, ◌≤◌, Bool, true, false, cond, List, [], ◌∷◌, ◌++◌, Option, Some, None, length, take, drop, refl, ap, sym, subst, ◌∙◌}
use Rattle.std.proofs.Common.{arith, append_assoc, append-nil, length-append, inl, inr, codes, nat_lt, nat_le}
use Rattle.std.proofs.lemmas.Bool.{cond-true, le-leb}
use Rattle.std.specs.Str.{bytes_eq}
use Rattle.zmtp_wire.specs.Greeting.{IsGreeting, major_in, minor_in}
use Rattle.zmtp_wire.specs.Header.{header_octets}
use Rattle.zmtp_wire.specs.Frame.{Frame, IsFrame, written, header_of}
use Rattle.zmtp_wire.specs.Tally.{octet_limit}
use Rattle.zmtp_wire.specs.Stream.{Rest, whole, Leaves}
use Rattle.zmtp_wire.proofs.Messages.{size_fits}
use Rattle.zmtp_wire.proofs.Streams.{leaves_longer}
use Rattle.zmtp_peer.specs.declared.role.Role.{Role}
use Rattle.zmtp_peer.specs.declared.role.Role.TheVariants.{Pub}
use Rattle.zmtp_peer.specs.declared.terms.Terms.{Terms}
use Rattle.zmtp_peer.specs.Commands.{command_of}
use Rattle.zmtp_peer.specs.Handshake.{error_of}
use Rattle.zmtp_peer.specs.Events.{Event, Subscribe, Later, Passed, Telling, Refusal, behind_ready, newer_told, State, Opening, Open, after, told, later_told}
use Rattle.zmtp_peer.specs.Events.{after_later}
use Rattle.zmtp_peer.specs.Terms.{is_newer, terms_of}
use Rattle.zmtp_peer.specs.Reading.{Awaiting, EndsIn, PeerReads, IsStreaming}
use Rattle.zmtp_peer.specs.Subscribing.{subscription_frame}
use Rattle.zmtp_peer.specs.Laws.{SubscriptionsAreTold}
use Rattle.zmtp_peer.proofs.FrameLemmas.{after-append, told-append}
use Rattle.zmtp_peer.proofs.ReadingLemmas.{leaves-append, take-front, drop-front}
use Rattle.zmtp_peer.proofs.OpeningLemmas.{nothing-partial}
use Rattle.zmtp_peer.proofs.MessageLemmas.{streaming-of}

-- the frame, by whether it is the command
abbrev asked : Bool → List ℕ → Frame
asked newer prefix = subscription_frame (record { role = Pub; newer = newer }) prefix

-- how a publisher is told, by whether its partner speaks 3.1
abbrev heard : Bool → Terms
heard newer = record { role = Pub; newer = newer }

asked-frame : (newer : Bool) (prefix : List ℕ) → length (asked newer prefix).body ≤ octet_limit → IsFrame (written (asked newer prefix)) (asked newer prefix)
asked-frame true prefix small = record {
  head = header_octets (nat_lt 255 (length (asked true prefix).body)) (header_of (asked true prefix));
  spelled = refl;
  header = record {
    long = nat_lt 255 (length (asked true prefix).body);
    spelled = refl;
    bounded = size_fits (length (asked true prefix).body)
        small;
    allowed = refl;
  };
}
asked-frame false prefix small = record {
  head = header_octets (nat_lt 255 (length (asked false prefix).body)) (header_of (asked false prefix));
  spelled = refl;
  header = record {
    long = nat_lt 255 (length (asked false prefix).body);
    spelled = refl;
    bounded = size_fits (length (asked false prefix).body)
        small;
    allowed = refl;
  };
}

asked-taken : (newer : Bool) (prefix : List ℕ) → length (asked newer prefix).body ≤ octet_limit
    → Leaves (whole (written (asked newer prefix))) (asked newer prefix ∷ []) (whole [])
asked-taken true prefix small = (
  whole [],
  record {
    taken = written (asked true prefix);
    front = sym (append-nil (written (asked true prefix)));
    frame = asked-frame true prefix small;
    fits = record { octets = omega (arith, small); frames = omega arith };
    tally = refl;
  },
  refl,
)
asked-taken false prefix small = (
  whole [],
  record {
    taken = written (asked false prefix);
    front = sym (append-nil (written (asked false prefix)));
    frame = asked-frame false prefix small;
    fits = record { octets = omega (arith, small); frames = omega arith };
    tally = refl;
  },
  refl,
)

asked-command : (prefix : List ℕ) → command_of (9 ∷ codes "SUBSCRIBE" ++ prefix) ≡ Some (codes "SUBSCRIBE", prefix)
unfolding command_of
asked-command prefix =
    cond-true (nat_le 9 (length (codes "SUBSCRIBE" ++ prefix))) _ _ (le-leb 9 (length (codes "SUBSCRIBE" ++ prefix)) (omega arith))

asked-later : (prefix : List ℕ) → behind_ready (heard true) (9 ∷ codes "SUBSCRIBE" ++ prefix) ≡ Telling (Subscribe prefix)
unfolding behind_ready
asked-later prefix = ap (λ (o : Option (List ℕ × List ℕ)). elim o [
  | None ↦ Passed
  | Some command ↦ cond (bytes_eq command.0 (codes "ERROR")) (Refusal (error_of command.1)) (newer_told Pub command.0 command.1)
]) (asked-command prefix)

not-newer : false ≡ true → ⊥
not-newer h = cc

asked-told : (newer command : Bool) (prefix : List ℕ) → (command ≡ true → newer ≡ true)
    → told (heard newer) (Open []) (asked command prefix ∷ []) ≡ Subscribe prefix ∷ []
asked-told newer false prefix h = refl
asked-told false true prefix h = absurd (not-newer (h refl))
asked-told true true prefix h = ap (λ (l : Later). later_told l ++ []) (asked-later prefix)

asked-after : (newer command : Bool) (prefix : List ℕ) → (command ≡ true → newer ≡ true)
    → after (heard newer) (Open []) (asked command prefix ∷ []) ≡ Open []
asked-after newer false prefix h = refl
asked-after false true prefix h = absurd (not-newer (h refl))
asked-after true true prefix h = ap (λ (l : Later). after_later [] l) (asked-later prefix)

-- what a publisher that stands so is told
asked-reads : (fed greeting prefix : List ℕ) (given : List Event) (command : Bool)
    → IsStreaming Pub fed given greeting (Open []) (whole []) → (command ≡ true → is_newer (major_in greeting) (minor_in greeting) ≡ true)
    → length (asked command prefix).body ≤ octet_limit
    → PeerReads Pub (fed ++ written (asked command prefix)) (given ++ Subscribe prefix ∷ []) Awaiting
asked-reads fed greeting prefix given command st newer small =
    inr (inr (record {
      complete = omega (arith, ap length came, length-append greeting (st.stream ++ new), st.complete);
      greeting = st.of;
      welcome = subst (λ (o : List ℕ). IsGreeting o st.of) (sym front) st.welcome;
      frames = all;
      behind = whole [];
      left = subst (λ (o : List ℕ). Leaves (whole o) all (whole [])) (sym back) left;
      tells = subst (λ (o : List ℕ). given ++ Subscribe prefix ∷ [] ≡ told (terms_of Pub o) Opening all) (sym front) tells;
      ends = subst (λ (o : List ℕ). EndsIn (after (terms_of Pub o) Opening all) (whole []) Awaiting) (sym front)
          (subst (λ (s : State). EndsIn s (whole []) Awaiting) (sym ready) (inl (nothing-partial, refl)));
    }))
  where
    terms : Terms
    terms = terms_of Pub greeting

    new : List ℕ
    new = written (asked command prefix)

    all : List Frame
    all = st.frames ++ asked command prefix ∷ []

    came : fed ++ new ≡ greeting ++ (st.stream ++ new)
    came = ap (λ (o : List ℕ). o ++ new) st.came ∙ append_assoc greeting st.stream new

    front : take 64 (fed ++ new) ≡ greeting
    front = ap (take 64) came ∙ take-front greeting (st.stream ++ new) st.complete

    back : drop 64 (fed ++ new) ≡ st.stream ++ new
    back = ap (drop 64) came ∙ drop-front greeting (st.stream ++ new) st.complete

    left : Leaves (whole (st.stream ++ new)) all (whole [])
    left =
        leaves-append st.frames (asked command prefix ∷ []) (whole (st.stream ++ new)) (whole new) (whole [])
        (leaves_longer st.frames (whole st.stream) (whole []) new st.left) (asked-taken command prefix small)

    ready : after terms Opening all ≡ Open []
    ready =
        after-append terms Opening st.frames (asked command prefix ∷ [])
        ∙ ap (λ (s : State). after terms s (asked command prefix ∷ [])) (sym st.reached) ∙ asked-after terms.newer command prefix newer

    tells : given ++ Subscribe prefix ∷ [] ≡ told terms Opening all
    tells =
        ap (λ (es : List Event). es ++ Subscribe prefix ∷ []) st.tells
        ∙ ap (λ (es : List Event). told terms Opening st.frames ++ es) (sym (asked-told terms.newer command prefix newer))
        ∙ ap (λ (s : State). told terms Opening st.frames ++ told terms s (asked command prefix ∷ [])) st.reached
        ∙ sym (told-append terms Opening st.frames (asked command prefix ∷ []))

pub subscriptions_are_told : SubscriptionsAreTold
subscriptions_are_told s fed given asks prefix h role between newer small =
    let here : IsStreaming s.role fed given s.greeting (Open []) s.rest = streaming-of s.role fed given s.greeting s.state s.rest between.ready h.leaves in
    let ready : IsStreaming s.role fed given s.greeting (Open []) (whole []) =
    subst (λ (r : Rest). IsStreaming s.role fed given s.greeting (Open []) r) between.nothing here in
    let streaming : IsStreaming Pub fed given s.greeting (Open []) (whole []) =
    subst (λ (r : Role). IsStreaming r fed given s.greeting (Open []) (whole [])) role ready in
    subst (λ (r : Role). PeerReads r (fed ++ written (subscription_frame asks prefix)) (given ++ Subscribe prefix ∷ []) Awaiting) (sym role)
    (asked-reads fed s.greeting prefix given asks.newer streaming newer small)
