use Rattle.std.proofs.Common.{◌≡◌, ◌+◌, ◌-◌, ◌≤◌, min, ◌∷◌, ◌++◌, [], take, drop, sym, ap, ◌∙◌, arith}
use Rattle.kernel_board.specs.Log.{Log}
use Rattle.kernel_board.specs.Reads.{read_limit}
use Rattle.kernel_board.proofs.Batch.{part_more, part_whole, none_at}
use Rattle.kernel_board.proofs.log.batch.Goals as goal
use Rattle.kernel_board.proofs.log.batch.Goals.{else-loop-index-test, then-loop-index-test+in_default}

-- one broadcast more
pub loop-index-preserved : goal.loop-index-preserved
loop-index-preserved c =
    let start = c.min-start.result in
    let same : c.log.inside.ring.items ≡ c.args.log.now.items = ap (λ (l : Log). l.items) c.log.view_is in
    let more = part_more c.log.inside.ring.items start c.loop-index.index c.in-Some.broadcast.now c.loop-index.auto.index (sym c.in-Some.ensures) in
    let old = c.loop-index.invariant.got ∙ ap (λ l. take (c.loop-index.index - start) (drop start l)) (sym same) in
    record {
      got = c.push_reserved.ensures.items ∙ (λ i. old i ++ (c.in_ok-clone.ensures.cases i) ∷ []) ∙ sym more
          ∙ ap (λ l. take (c.loop-index.index + 1 - start) (drop start l)) same;
      room = omega (arith, c.push_reserved.ensures.capacity, c.loop-index.invariant.room);
    }

-- the loop ends at the end, and not before
pub returns-clause-items : goal.returns-clause-items
returns-clause-items c =
    let items = c.log.inside.ring.items in
    let same : items ≡ c.args.log.now.items = ap (λ (l : Log). l.items) c.log.view_is in
    let n = c.len-len.result in
    let start = c.min-start.result in
    let i = c.loop-index.index in
    let len = c.len-len.ensures.len in
    let low = c.min-start.ensures in
    let end = c.min-end.ensures in
    let old = c.loop-index.invariant.got ∙ ap (λ l. take (i - start) (drop start l)) (sym same) in
    let most : i ≤ min n (start + read_limit) = omega (arith, c.loop-index.auto.index-end) in
    let least : min n (start + read_limit) ≤ i = elim c.loop-index-test.branch [
      | else-loop-index-test w ↦ omega (arith, w.loop-index-test.false)
      | then-loop-index-test+in_default w ↦ (let gone = none_at items i (sym w.in_default.ensures) in omega arith)
    ] in
    old ∙ part_whole items c.args.skip start n i read_limit len low c.loop-index.auto.index (omega arith) ∙ ap (λ l. take read_limit (drop c.args.skip l)) same
