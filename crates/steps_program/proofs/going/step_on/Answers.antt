use Rattle.std.proofs.Common.{false}
use Rattle.steps_program.specs.Going.{Arrives, IsThere, TakesOne, TakesLast}
use Rattle.steps_walk.proofs.Options.{if_some, if_none}
use Rattle.steps_program.proofs.Stopping.{last_on, one_on}
use Rattle.steps_program.proofs.going.step_on.Goals as goal

pub returns-in-Went-clause-some : goal.returns-in-Went-clause-some
returns-in-Went-clause-some g c =
    let old = c.args.walk.now in
    let new = c.arrived.new.walk in
    let one = one_on old c.on.new.self new c.arrived.ensures.kept c.in-Went.ensures.moves c.in-Went.ensures.runs c.in-Went.ensures.counted in
    let sources = c.args.sources.now in
    let g = c.args.goal.now in
    if_some c.arrived.result (Arrives sources g new) (TakesLast sources g old new) (λ to. last_on sources g old new to one)
    c.arrived.ensures.some

pub returns-in-Went-clause-none : goal.returns-in-Went-clause-none
returns-in-Went-clause-none g c =
    let old = c.args.walk.now in
    let new = c.arrived.new.walk in
    let one = one_on old c.on.new.self new c.arrived.ensures.kept c.in-Went.ensures.moves c.in-Went.ensures.runs c.in-Went.ensures.counted in
    let there = IsThere c.args.sources.now c.args.goal.now new false in
    if_none c.arrived.result there (TakesOne old new × there) (λ there. (one, there))
    c.arrived.ensures.none
