use Rattle.std.proofs.Common.{map, sym, ap, ◌∙◌}
use Rattle.std.proofs.lemmas.Result.{IfOk-weaker}
use Rattle.kernel_text.specs.Written.{entry_of}
use Rattle.kernel_ask.specs.History.{inputs, told}
use Rattle.kernel_ask.proofs.Walk.{last_inputs}
use Rattle.kernel_ask.proofs.input_history.history_of.Goals as goal

pub returns-in-Tail : goal.returns-in-Tail
returns-in-Tail c =
    let minutes = map entry_of c.args.entries.now in
    let all = inputs minutes c.args.counter in
    IfOk-weaker c.tail.result _ _ (λ v e. e ∙ last_inputs minutes c.args.counter c.in-Tail.n c.requires ∙ ap (λ ask. told ask all) (sym c.in-Tail.is))
    c.tail.ensures
