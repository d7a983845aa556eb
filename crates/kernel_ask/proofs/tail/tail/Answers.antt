use Rattle.std.proofs.Common.{map, drop, ap, ◌∙◌}
use Rattle.kernel_text.specs.Written.{entry_of}
use Rattle.kernel_ask.specs.History.{inputs, input_of}
use Rattle.kernel_ask.proofs.Walk.{map_reverse}
use Rattle.kernel_ask.proofs.tail.tail.Goals as goal

pub returns : goal.returns
returns c =
    ap (map input_of) c.reverse.ensures.items ∙ map_reverse input_of c.in_ok-told.told.items
    ∙ c.in_ok-told.ensures ∙ ap (λ n. drop n (inputs (map entry_of c.args.entries.now) c.args.counter)) c.saturating_sub-before.ensures
