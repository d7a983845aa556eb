use Rattle.std.proofs.Common.{◌≡◌, ◌∙◌, length, ap, sym}
use Rattle.janus_meaning.specs.Syntax.{names_of}
use Rattle.janus_check.specs.Slots.{slot}
use Rattle.janus_check.specs.Sight.{in_sight}
use Rattle.janus_check.proofs.Stores.{length_names}
use Rattle.janus_code.proofs.flat.local.Goals as goal

pub returns-clause-name : goal.returns-clause-name
returns-clause-name g c =
    let is : c.len-number.result ≡ length (names_of (in_sight c.args.sight.now)) = c.len-number.ensures ∙ sym (length_names (in_sight c.args.sight.now)) in
    c.symbol_of.ensures.name ∙ ap slot is
