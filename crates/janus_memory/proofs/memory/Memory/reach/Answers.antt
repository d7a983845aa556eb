use Rattle.std.proofs.Common.{ap, ◌∙◌}
use Rattle.janus_memory.specs.Memory.{reached}
use Rattle.janus_memory.proofs.Changing as changing
use Rattle.janus_memory.proofs.memory.Memory.reach.Goals as goal

pub invariant_of-self : goal.invariant_of-self
invariant_of-self g c =
    changing.reach-kept c.self.inside c.self.invariant c.args.count c.reach.new.cells c.reach.ensures.more

pub returns : goal.returns
returns g c =
    changing.reach-seen c.self.inside c.self.invariant c.args.count c.reach.new.cells c.reach.ensures.more c.reach.ensures.room
    ∙ ap (λ m. reached m c.args.count) c.self.view_is
