use Rattle.std.proofs.Common.{◌≡◌, map, take}
use Rattle.janus_meaning.specs.Syntax.{names_of}
use Rattle.janus_check.specs.Slots.{slots_in}
use Rattle.janus_syntax.specs.Tree.{names_view}
use Rattle.janus_syntax.specs.View.{text_of}
use Rattle.janus_check.specs.Sight.{in_sight}
use Rattle.janus_code.specs.Expressions.{names_in}
use Rattle.janus_code.specs.Numbered.{HaveTheirNumbers}
use Rattle.janus_code.specs.Slotted.{all_slots}
use Rattle.janus_code.proofs.expression.symbols.Given as goal

abbrev pub invariant-loop-i : goal.invariant-loop-i
invariant-loop-i g l =
    (names_in all_slots l.symbols.items ≡ slots_in (names_of (in_sight l.sight)) (map text_of (names_view (take l.i l.list))))
    × HaveTheirNumbers (names_of (in_sight l.sight)) l.symbols.items
