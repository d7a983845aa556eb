use Rattle.std.proofs.Common.{ap, ◌∙◌, map, string_bytes}
use Rattle.kernel_ask.specs.Comms.{is_open, without_id}
use Rattle.kernel_ask.proofs.Ids.{open_octets, removed_octets}
use Rattle.kernel_ask.proofs.comms.Comms.close.Goals as goal

pub returns-clause-told : goal.returns-clause-told
returns-clause-told c = c.remove.ensures.test ∙ open_octets c.self.inside.ids.keys c.args.id.now ∙ ap (λ ids. is_open ids c.args.id.now) c.self.view_is

pub returns-clause-closed : goal.returns-clause-closed
returns-clause-closed c =
    ap (map string_bytes) c.remove.ensures.keys ∙ removed_octets c.self.inside.ids.keys c.args.id.now ∙ ap (λ ids. without_id ids c.args.id.now) c.self.view_is
