use Rattle.std.proofs.Common.{subst}
use Rattle.std.specs.Prelude.{◌≡◌, ◌+◌, MatchOption, None, length}
use Rattle.janus_meaning.specs.Shape.{Shape, kind_at}
use Rattle.janus_meaning.specs.Syntax.{names_of}
use Rattle.janus_slots.specs.Slots.{slot, slot_in}
use Rattle.janus_check.specs.Names.{Known, shape_in, over}
use Rattle.janus_check.proofs.SlotLemmas.{place_is}
use Rattle.janus_check.proofs.env.Env.place.Goals as goal

pub returns-clause-slot : goal.returns-clause-slot
returns-clause-slot c =
    let x = c.args.name.now in
    subst
    (λ (s : Known). MatchOption c.get_index_of.result (kind_at x (shape_in s.names) ≡ None)
    (λ i. (g : Shape) → slot_in (names_of (over g s.names)) x ≡ slot (length g + i)))
    c.self.view_is (place_is x c.self.inside.names.entries c.get_index_of.result c.self.invariant.0 c.get_index_of.ensures.index)
