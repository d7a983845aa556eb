use Rattle.janus_places.proofs.Open.{in_row, has_locals}
use Rattle.janus_places.proofs.table.Table.local.Goals as goal

pub returns-clause-slot : goal.returns-clause-slot
returns-clause-slot c = λ xs h.
    c.find.ensures xs (in_row c.args.self.now c.args.at c.index.result.now xs c.index.ensures c.requires h)

pub returns-clause-text : goal.returns-clause-text
returns-clause-text c = λ es g b t. has_locals c.args.self.now es g b c.args.at c.index.result.now c.index.ensures c.requires t
