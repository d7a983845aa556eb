use Rattle.std.proofs.Common.{◌∙◌}
use Rattle.janus_code.specs.Slotted.{all_slots}
use Rattle.janus_code.proofs.Slotting.{are_all}
use Rattle.kernel_loader.proofs.Kept.{if_ok_map}
use Rattle.kernel_loader.proofs.loader.book_of.Goals as goal

pub returns-clause-block : goal.returns-clause-block
returns-clause-block g c =
    let meant = c.in-Ok.ensures.block all_slots are_all (c.in-Ok.ensures.wide all_slots c.slots_law.ensures) in
    if_ok_map c.new.result (λ book is. is ∙ meant) c.new.ensures.block
