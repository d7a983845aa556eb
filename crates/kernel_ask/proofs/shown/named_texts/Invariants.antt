use Rattle.std.proofs.Common.{◌≡◌, map, take, string_bytes}
use Rattle.std.specs.List.{filter}
use Rattle.janus_meaning.specs.World.{listed}
use Rattle.janus_syntax.specs.Tree.{cell_view}
use Rattle.kernel_text.specs.Naming.{in_cell}
use Rattle.kernel_text.specs.ValueTexts.{value_text}
use Rattle.kernel_ask.proofs.shown.named_texts.Given as goal

abbrev pub invariant-loop-i : goal.invariant-loop-i
invariant-loop-i g l = map string_bytes l.texts.items ≡ map value_text (filter (λ e. in_cell e.0 (cell_view l.cell)) (take l.i (listed l.world.store)))
