use Rattle.std.proofs.Common.{ap, sym, ◌∙◌}
use Rattle.zmtp_peer.specs.Table.{is_key}
use Rattle.zmtp_peer.proofs.TableLemmas.{set_value-absent}
use Rattle.zmtp_peer.proofs.counts.set_at.Goals as goal

pub returns-in_default : goal.returns-in_default
returns-in_default c =
    ap (λ m. m.entries) c.get_mut.follows.holds-at-none
    ∙ sym (set_value-absent (is_key c.args.prefix.now) c.args.places.now.entries c.args.count (sym c.in_default.ensures.value))
