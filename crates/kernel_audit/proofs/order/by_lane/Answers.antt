use Rattle.std.proofs.Common.{rules, arith}
use Rattle.std.proofs.lemmas.List.Sorted.{answers_always}
use Rattle.kernel_audit.proofs.Tickets.{same_shared, by_lane_then}
use Rattle.kernel_audit.proofs.order.by_lane.Goals as goal

pub returns-clause-sorted : goal.returns-clause-sorted
returns-clause-sorted c =
    let sorted = c.sort_unstable_by_key.ensures.sorted (λ t. (t.lane, t.number)) (answers_always _ _ _ (λ f a r g h. search rules)) in
    let now = c.sort_unstable_by_key.new.self in
    by_lane_then now
    (λ n. let same = same_shared n c.args.tickets.now now c.sort_unstable_by_key.ensures.permutation in let most = c.requires n in
    omega (arith, same, most))
    (λ k d l. sorted k d (omega arith) l)
