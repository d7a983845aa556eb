use Rattle.std.proofs.Common.{ap, ◌∙◌}
use Rattle.kernel_ask.specs.Comms.{is_open}
use Rattle.kernel_ask.proofs.Ids.{open_octets}
use Rattle.kernel_ask.proofs.comms.Comms.is_open.Goals as goal

pub returns : goal.returns
returns c = c.contains.ensures ∙ open_octets c.self.inside.ids.keys c.args.id.now ∙ ap (λ ids. is_open ids c.args.id.now) c.self.view_is
