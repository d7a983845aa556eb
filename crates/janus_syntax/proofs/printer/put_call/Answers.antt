use Rattle.janus_syntax.proofs.Pieces.{both}
use Rattle.janus_syntax.proofs.printer.put_call.Goals as goal

pub returns : goal.returns
returns c = both c.put_named.ensures (both c.put_opening.ensures (both c.put_names.ensures c.put_sign.ensures))
