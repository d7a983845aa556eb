use Rattle.std.proofs.Common.{ap, ◌∙◌, sym, set, [], w32}
use Rattle.std.proofs.lemmas.List.{set-get_or}
use Rattle.std.proofs.lemmas.Int.{to_z-of_z}
use Rattle.janus_meaning.specs.Fault.{IndexRange}
use Rattle.janus_meaning.specs.Store.{element}
use Rattle.janus_memory.specs.Lists.{list_of}
use Rattle.janus_memory.proofs.Elements.{none_read}
use Rattle.janus_memory.proofs.arrays.Arrays.set_element.Goals as goal

pub returns-else-is_some : goal.returns-else-is_some
returns-else-is_some c =
    let ls = c.args.self.now in
    sym (ap (set ls c.args.array) (none_read (list_of ls c.args.array) c.args.index IndexRange c.args.number c.element.result
    (c.element.ensures ∙ ap (element (list_of ls c.args.array)) (to_z-of_z w32 c.args.index c.ranges.index)) (sym c.is_some.ensures ∙ c.if-is_some.false))
    ∙ set-get_or ls c.args.array [])
