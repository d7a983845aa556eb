use Rattle.std.proofs.Common.{length, take, ap, ◌∙◌, arith}
use Rattle.std.proofs.lemmas.List.{length-take}
use Rattle.kernel_ask.proofs.Ends.{length_name_end}
use Rattle.kernel_ask.proofs.cursor.prefix_at.Goals as goal

pub overflow_sub-start : goal.overflow_sub-start
overflow_sub-start c =
    let same = ap length (c.as_str.ensures.value ∙ c.in_ok-name.ensures) in
    omega (arith, same, length_name_end (take c.place-end.result c.deref-2.result.now), length-take c.place-end.result c.deref-2.result.now)

pub returns-clause-start : goal.returns-clause-start
returns-clause-start c =
    let read = ap length c.as_str.ensures.value in
    let same = ap length c.in_ok-name.ensures in
    omega (arith, read, same, length_name_end (take c.place-end.result c.deref-2.result.now), length-take c.place-end.result c.deref-2.result.now)
