use Rattle.std.proofs.Common.{ℕ, List, Option, codes, arith, ap, sym, ◌∙◌}
use Rattle.std.specs.Option.{option_map, option_or, option_copied}
use Rattle.std.proofs.lemmas.Bool.Decides.{nat_tests}
use Rattle.zmtp_peer.specs.Commands.{Property, metadata_of, value_of, announced}
use Rattle.zmtp_peer.proofs.CommandLemmas.{announced-more, announced-none, announced-end}
use Rattle.zmtp_peer.proofs.command.socket_type.Goals as goal

pub returns-in_default : goal.returns-in_default
unfolding announced
returns-in_default c =
    sym (announced-none (codes "Socket-Type") c.loop-rest.rest.now (option_copied c.loop-rest.found) (grind (arith, nat_tests)) (sym c.in_default.ensures.read))
    ∙ c.loop-rest.invariant

pub loop-rest-preserved : goal.loop-rest-preserved
loop-rest-preserved c =
    let p : Property = record { name = c.in-Some.name.now; value = c.in-Some.value.now } in
    let more : List ℕ = c.in-Some.more.now in
    ap (λ (o : Option (List ℕ)). option_map (λ ps. option_or o (value_of (codes "Socket-Type") ps)) (metadata_of more)) c.first_of-found.ensures
    ∙ announced-more (codes "Socket-Type") c.loop-rest.rest.now (p, more) (option_copied c.loop-rest.found) (grind (arith, nat_tests))
    (sym c.in-Some.ensures.read)
    ∙ c.loop-rest.invariant

pub returns : goal.returns
unfolding announced
returns c =
    sym (announced-end (codes "Socket-Type") c.loop-rest.rest.now (option_copied c.loop-rest.found) (grind (arith, nat_tests)))
    ∙ c.loop-rest.invariant
