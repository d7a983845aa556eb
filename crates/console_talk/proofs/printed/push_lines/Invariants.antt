use Rattle.std.proofs.Common.{◌≡◌, drop, string_bytes}
use Rattle.serde_json.specs.View.{items_view}
use Rattle.console_talk.specs.Lines.{with_lines}
use Rattle.console_talk.proofs.printed.push_lines.Given as goal

abbrev pub invariant-loop-item : goal.invariant-loop-item
invariant-loop-item l = with_lines (string_bytes l.text) (items_view (drop l.item-index l.items)) ≡ with_lines (string_bytes l.initial.text)
    (items_view l.items)
