use Rattle.std.proofs.Common.{◌≡◌, ◌≢◌, ◌≤◌, length, subst, ◌∙◌, IfOk, OnOk, IfErr}
use Rattle.zmtp_wire.specs.declared.fault.WireFault.TheVariants.{Memory}
use Rattle.zmtp_wire.specs.Frame.{written, IsWriteFault}
use Rattle.zmtp_wire.specs.Tally.{octet_limit}
use Rattle.zmtp_peer.specs.declared.terms.Terms.{Terms}
use Rattle.zmtp_peer.specs.Subscribing.{subscription_frame}
use Rattle.zmtp_peer.proofs.SubscribingLemmas.{terms-kept}
use Rattle.zmtp_peer.proofs.peer.Peer.subscription.Goals as goal

pub returns-clause-octets : goal.returns-clause-octets
returns-clause-octets c fed given h =
    let inside = c.self.inside in
    let same = c.of.ensures.terms ∙ terms-kept inside.role inside.greeted inside.greeting c.args.self.now _ _ _ _ c.self.view_is c.of.ensures.size fed given h
    c.requires in
    subst (λ (terms : Terms). IfOk c.subscription_octets.result (λ octets. octets.items ≡ written (subscription_frame terms c.args.prefix.now))) same
    c.subscription_octets.ensures.octets

pub returns-clause-fault : goal.returns-clause-fault
returns-clause-fault c fed given h =
    let inside = c.self.inside in
    let same = c.of.ensures.terms ∙ terms-kept inside.role inside.greeted inside.greeting c.args.self.now _ _ _ _ c.self.view_is c.of.ensures.size fed given h
    c.requires in
    subst (λ (terms : Terms). IfErr c.subscription_octets.result (λ fault. fault ≢ Memory → IsWriteFault (subscription_frame terms c.args.prefix.now) fault))
    same
    c.subscription_octets.ensures.fault

pub returns-clause-within : goal.returns-clause-within
returns-clause-within c fed given h =
    let inside = c.self.inside in
    let same = c.of.ensures.terms ∙ terms-kept inside.role inside.greeted inside.greeting c.args.self.now _ _ _ _ c.self.view_is c.of.ensures.size fed given h
    c.requires in
    subst (λ (terms : Terms). OnOk c.subscription_octets.result (length (subscription_frame terms c.args.prefix.now).body ≤ octet_limit)) same
    c.subscription_octets.ensures.within
