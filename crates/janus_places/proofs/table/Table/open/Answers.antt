use Rattle.std.proofs.Common.{arith}
use Rattle.janus_places.proofs.Rows.{opened}
use Rattle.janus_places.proofs.table.Table.open.Goals as goal

pub returns-clause-local : goal.returns-clause-local
returns-clause-local c = λ xs h.
    opened c.args.self.now.locals.items c.push.new.self.items (record { name = c.in_ok-clone.field-0; outer = c.args.outer }) c.len.result _ xs
    c.in_ok-push.ensures.items (omega (arith, c.len.ensures, c.push.new.self.ok.0)) c.in_ok-clone.ensures.cases h
