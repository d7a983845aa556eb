use Rattle.std.proofs.Common.{arith}
use Rattle.janus_places.proofs.Rows.{table_long}
use Rattle.janus_places.proofs.table.Table.len.Goals as goal

pub returns-clause-code : goal.returns-clause-code
returns-clause-code c = λ es g b t. omega (arith, c.len.ensures, c.args.self.now.rows.ok.0, table_long c.args.self.now es g b t)
