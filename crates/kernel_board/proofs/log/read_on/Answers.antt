use Rattle.std.proofs.Common.{◌≡◌, ◌-◌, length, drop, min, arith, length-drop, ap, ◌∙◌}
use Rattle.std.proofs.lemmas.List.{length-take}
use Rattle.kernel_board.specs.Reads.{read_limit}
use Rattle.kernel_board.proofs.log.read_on.Goals as goal

-- where something was read, the place after it is at most the end
pub overflow_add-next : goal.overflow_add-next
overflow_add-next c =
    let kept = c.oldest-oldest.ensures.kept in
    let len = c.len.ensures in
    let items = c.args.log.now.items in
    let skip = c.args.place.number - c.oldest-oldest.result.number in
    let n : length c.in_ok-got.got.items ≡ min read_limit (length items - skip) =
    ap length c.in_ok-got.ensures.items ∙ length-take read_limit (drop skip items) ∙ ap (λ k. min read_limit k) (length-drop skip items) in
    let first = c.oldest-oldest.ensures.oldest in
    let low = c.if-place-oldest.false in
    let k0 = kept.0 in let k1 = kept.1 in
    omega arith
