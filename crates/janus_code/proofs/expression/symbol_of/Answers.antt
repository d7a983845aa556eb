use Rattle.std.proofs.Common.{arith}
use Rattle.janus_code.proofs.Slotting.{name_of_slot}
use Rattle.janus_code.proofs.expression.symbol_of.Goals as goal

pub returns-clause-name : goal.returns-clause-name
returns-clause-name c = name_of_slot c.args.number (omega arith)
