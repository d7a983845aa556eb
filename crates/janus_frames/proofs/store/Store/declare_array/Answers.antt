use Rattle.std.proofs.Common.{OnOk, subst, ◌∙◌}
use Rattle.janus_meaning.specs.Store.{Arr}
use Rattle.janus_frames.specs.StoreState.{Declares}
use Rattle.janus_memory.proofs.Elements.{zeros_are}
use Rattle.janus_frames.proofs.store.Store.declare_array.Goals as goal

pub returns-clause-ok : goal.returns-clause-ok
returns-clause-ok g c =
    subst (λ l. OnOk c.add.result (Declares c.args.self.now c.add.new.self c.args.name.now (Arr l)))
    (c.in_ok-items.ensures.items_if_clones_equal (λ y h. h) ∙ zeros_are c.args.length) c.add.ensures.ok
