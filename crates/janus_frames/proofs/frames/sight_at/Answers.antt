use Rattle.std.proofs.Common.{◌<◌, length, subst, sym}
use Rattle.janus_row.specs.Rows.{IsRow}
use Rattle.janus_frames.proofs.Runnable.{body-there}
use Rattle.janus_frames.proofs.frames.sight_at.Goals as goal

pub body_of-body-requires-clause-row : goal.body_of-body-requires-clause-row
body_of-body-requires-clause-row c = subst IsRow (sym c.deref.ensures.value) c.requires.row

pub body_of-body-requires-clause-here : goal.body_of-body-requires-clause-here
body_of-body-requires-clause-here c = subst (λ l. c.args.at < length l) (sym c.deref.ensures.value) c.requires.here

pub returns-in-Some-clause-there : goal.returns-in-Some-clause-there
returns-in-Some-clause-there c = body-there c.args.row.now.instructions.items c.args.at c.requires.row c.requires.here

pub returns-in-None-clause-there : goal.returns-in-None-clause-there
returns-in-None-clause-there c = body-there c.args.row.now.instructions.items c.args.at c.requires.row c.requires.here
