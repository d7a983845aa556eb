use Rattle.std.proofs.Common.{◌≡◌}
use Rattle.serde_json.specs.View.{members_view}
use Rattle.jupyter_msg.specs.Fields.{texts_in}
use Rattle.jupyter_msg.specs.Requests.{expressions_of}
use Rattle.jupyter_msg.proofs.TextsLemmas.{with_front}
use Rattle.jupyter_msg.proofs.execution.taken_expressions.Given as goal

abbrev pub invariant-loop-name : goal.invariant-loop-name
invariant-loop-name l =
    with_front (expressions_of l.expressions.items) (texts_in (members_view l.name-iterator)) ≡ texts_in (members_view l.fn.map.entries)
