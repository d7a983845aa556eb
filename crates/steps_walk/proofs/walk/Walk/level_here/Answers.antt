use Rattle.std.proofs.Common.{◌≡◌, sym, subst}
use Rattle.steps_walk.specs.Walk.{calls_in}
use Rattle.steps_walk.specs.Standing.{IsHere, IsCodeAt, IsLevelMet}
use Rattle.steps_walk.proofs.Options.{if_some}
use Rattle.steps_walk.proofs.walk.Walk.level_here.Goals as goal

pub returns-clause-here : goal.returns-clause-here
returns-clause-here g c =
    let w = c.args.self.now in
    if_some c.level.result (λ level. c.open_calls.result ≡ calls_in w → IsHere w level) (IsHere w) (λ level f. f c.open_calls.ensures) c.level.ensures.here

pub returns-clause-code : goal.returns-clause-code
returns-clause-code g c =
    let w = c.args.self.now in
    if_some c.level.result (λ level. IsCodeAt w c.open_calls.result level.body) (λ level. IsCodeAt w (calls_in w) level.body)
    (λ level h. subst (λ i. IsCodeAt w i level.body) c.open_calls.ensures h) c.level.ensures.code

pub returns-clause-met : goal.returns-clause-met
returns-clause-met g c = λ met. c.level.ensures.met (subst (IsLevelMet c.args.self.now) (sym c.open_calls.ensures) met)
