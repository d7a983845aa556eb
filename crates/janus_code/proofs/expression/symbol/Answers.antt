use Rattle.std.proofs.Common.{◌∙◌, ◌<◌, length, sym, arith}
use Rattle.janus_meaning.specs.Syntax.{names_of}
use Rattle.janus_syntax.specs.View.{name_of}
use Rattle.janus_check.specs.Sight.{in_sight}
use Rattle.janus_check.proofs.SlotLemmas.{slot_below}
use Rattle.janus_code.proofs.expression.symbol.Goals as goal

pub returns-clause-name : goal.returns-clause-name
returns-clause-name g c = c.symbol_of.ensures.name ∙ sym c.slot.ensures

pub returns-clause-numbered : goal.returns-clause-numbered
returns-clause-numbered g c =
    let below : c.slot.result < length (names_of (in_sight c.args.sight.now)) =
    slot_below (names_of (in_sight c.args.sight.now)) (name_of c.args.name.now) c.slot.result c.slot.ensures in
    omega (arith, below, c.symbol_of.ensures.number)
