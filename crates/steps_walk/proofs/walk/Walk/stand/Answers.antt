use Rattle.std.proofs.Common.{subst}
use Rattle.steps_walk.specs.Standing.{IsCodeAt}
use Rattle.steps_walk.proofs.Standing.{tells}
use Rattle.steps_walk.proofs.Standing.{inside_table, none_some}
use Rattle.steps_walk.proofs.walk.Walk.stand.Goals as goal

pub returns-clause-tells : goal.returns-clause-tells
returns-clause-tells g c =
    let w = c.args.self.now in
    let level = c.in_ok-level.level in
    let told = c.in_ok-level.ensures in
    let found = c.in_ok-spot.ensures.some in
    tells w level c.in_ok-spot.spot (told.here c.open_calls.ensures) (subst (λ i. IsCodeAt w i level.body) c.open_calls.ensures told.code) told.node found.0
    found.1 found.2

pub returns-in_err-spot-clause-met : goal.returns-in_err-spot-clause-met
returns-in_err-spot-clause-met g c = λ walking met.
    let w = c.args.self.now in
    let level = c.in_ok-level.level in
    let told = c.in_ok-level.ensures in
    let x = inside_table w walking level (told.here c.open_calls.ensures) (subst (λ i. IsCodeAt w i level.body) c.open_calls.ensures told.code) in
    absurd (none_some (c.in_err-spot.ensures.met x.0 x.1 x.2))
