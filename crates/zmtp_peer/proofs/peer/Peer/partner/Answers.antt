use Rattle.std.proofs.Common.{◌≡◌, ◌⊎◌, inr, ℕ, List, ◌<◌, ap, sym, subst, ◌∙◌, arith, take, length, IfSome, IfNone, Option, Some, None, take_all}
use Rattle.zmtp_wire.specs.declared.fault.WireFault.{WireFault}
use Rattle.zmtp_wire.specs.declared.greeting.Greeting.{Greeting}
use Rattle.zmtp_wire.specs.Greeting.{IsGreeting, IsGreetingFault}
use Rattle.zmtp_peer.specs.Reading.{PeerState}
use Rattle.zmtp_peer.proofs.peer.Peer.partner.Goals as goal

-- what is said of all octets of a greeting is said of the greeting that is kept
some_kept : (o : Option Greeting) (octets kept : List ℕ) → octets ≡ kept → IfSome o (IsGreeting octets) → IfSome o (IsGreeting kept)
some_kept None octets kept same h = tt
some_kept (Some g) octets kept same h = subst (λ (s : List ℕ). IsGreeting s g) same h

none_kept : (o : Option Greeting) (octets kept : List ℕ) → octets ≡ kept → IfNone o ((fault : WireFault) × IsGreetingFault octets fault)
    → IfNone o ((length kept < 64) ⊎ ((fault : WireFault) × IsGreetingFault kept fault))
none_kept None octets kept same h = inr (h.0, subst (λ (s : List ℕ). IsGreetingFault s h.0) same h.1)
none_kept (Some g) octets kept same h = tt

whole_kept : (o : Option Greeting) (octets kept : List ℕ) → octets ≡ kept → length octets ≡ 64 → IfSome o (λ greeting. length kept ≡ 64)
whole_kept None octets kept same h = tt
whole_kept (Some g) octets kept same h = subst (λ (s : List ℕ). length s ≡ 64) same h

pub returns : goal.returns
returns c =
    let inside = c.self.inside in
    let all : take inside.greeted inside.greeting ≡ inside.greeting =
    take_all inside.greeted inside.greeting (omega (arith, c.welcome.ensures.size, c.if-self-lt-GREETING_LENGTH.false)) in
    let same : inside.greeting ≡ c.args.self.now.greeting = sym all ∙ ap (λ (s : PeerState). s.greeting) c.self.view_is in
    record {
      some = some_kept c.welcome.result inside.greeting c.args.self.now.greeting same c.welcome.ensures.some;
      whole = whole_kept c.welcome.result inside.greeting c.args.self.now.greeting same c.welcome.ensures.size;
      none = none_kept c.welcome.result inside.greeting c.args.self.now.greeting same c.welcome.ensures.none;
    }
