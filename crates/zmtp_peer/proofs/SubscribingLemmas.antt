-- The terms on which a peer that is ready subscribes.
use Rattle.std.proofs.Common.{◌≡◌, ℕ, List, ap, sym, ◌∙◌, arith, take, take_all, length}
use Rattle.std.proofs.lemmas.List.{length-take}
use Rattle.zmtp_wire.specs.Stream.{Rest}
use Rattle.zmtp_peer.specs.declared.role.Role.{Role}
use Rattle.zmtp_peer.specs.Terms.{terms_of}
use Rattle.zmtp_peer.specs.Events.{Event, State, Opening, Open, Refused}
use Rattle.zmtp_peer.specs.Reading.{Room, PeerState, IsAt, Stands}
use Rattle.zmtp_peer.specs.Subscribing.{IsReady}
use Rattle.zmtp_peer.proofs.ReadingLemmas.{standing}

-- behind READY the greeting is whole
ready-complete : (role : Role) (octets : List ℕ) (given : List Event) (greeting : List ℕ) (state : State) (rest : Rest) → IsReady state
    → IsAt role octets given greeting state rest → length greeting ≡ 64
ready-complete role octets given greeting Opening rest ready at = absurd ready
ready-complete role octets given greeting (Open held) rest ready at = at.complete
ready-complete role octets given greeting (Refused fault) rest ready at = absurd ready

-- the octets that are kept of a greeting are all of it
pub terms-kept : (role : Role) (greeted : ℕ) (kept : List ℕ) (now : PeerState) (state : State) (rest : Rest) (table : List (List ℕ × ℕ)) (room : Room)
    → standing role (take greeted kept) state rest table room ≡ now → length kept ≡ 64
    → (fed : List ℕ) (given : List Event) → Stands fed given now → IsReady now.state → terms_of role kept ≡ terms_of now.role now.greeting
terms-kept role greeted kept now state rest table room is size fed given h ready =
    let greeting : take greeted kept ≡ now.greeting = ap (λ (s : PeerState). s.greeting) is in
    let complete = ready-complete now.role fed given now.greeting now.state now.rest ready h.leaves in
    let whole : take greeted kept ≡ kept = take_all greeted kept (omega (arith, size, complete, ap length greeting, length-take greeted kept)) in
    ap (terms_of role) (sym whole ∙ greeting) ∙ ap (λ (r : Role). terms_of r now.greeting) (ap (λ (s : PeerState). s.role) is)
