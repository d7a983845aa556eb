use Rattle.janus_places.proofs.Rows.{told_at}
use Rattle.janus_places.proofs.table.Table.spot.Goals as goal

pub returns : goal.returns
returns c = λ es g b t. told_at c.args.self.now es g b c.args.at c.index-row.result.now c.index-row.ensures c.requires t
