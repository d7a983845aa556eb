use Rattle.std.proofs.Common.{◌≡◌, ◌++◌}
use Rattle.std.specs.Vec.Iter.{into_iter_items}
use Rattle.jupyter_msg.specs.Requests.{expressions_of}
use Rattle.kernel_session.specs.Question.{wishes_of}
use Rattle.kernel_session.proofs.talk.wishes.Given as goal

abbrev pub invariant-loop-expression : goal.invariant-loop-expression
invariant-loop-expression l =
    (wishes_of l.wishes.items ≡ expressions_of l.yielded) × (l.fn.expressions.items ≡ l.yielded ++ into_iter_items l.expression-iterator)
