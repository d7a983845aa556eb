use Rattle.std.proofs.Common.{ap, arith}
use Rattle.janus_places.specs.Table.{places_in}
use Rattle.steps_walk.proofs.Standing.{inside_table, same_table, none_some}
use Rattle.steps_walk.proofs.walk.Walk.sight.Goals as goal

pub returns-in_err-table-clause-met : goal.returns-in_err-table-clause-met
returns-in_err-table-clause-met g c = λ walking.
    let x = inside_table c.args.self.now walking c.args.level.now c.requires.here c.requires.code in
    absurd (none_some (c.in_err-table.ensures.met x.0 x.1))

pub returns-then-level-len-clause-met : goal.returns-then-level-len-clause-met
returns-then-level-len-clause-met g c = λ walking.
    let w = c.args.self.now in
    let x = inside_table w walking c.args.level.now c.requires.here c.requires.code in
    let same = ap places_in (same_table w c.args.level.now.body x.0 c.in_ok-table.table.now x.1 c.in_ok-table.ensures.some) in
    let low = x.2 in
    let many = c.len.ensures.many in
    let past = c.if-level-len.true in
    absurd (omega (arith, same, low, many, past))
