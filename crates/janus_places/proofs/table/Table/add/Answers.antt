use Rattle.std.proofs.Common.{refl}
use Rattle.janus_places.proofs.Rows.{one_row}
use Rattle.janus_places.proofs.table.Table.add.Goals as goal

pub returns-clause-adds : goal.returns-clause-adds
returns-clause-adds c = λ spot e f h.
    one_row _ _ (record { part = c.args.part; span = c.args.span; locals = c.args.locals }) spot refl c.in_ok-push.ensures.items e f h
