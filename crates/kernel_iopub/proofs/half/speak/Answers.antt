use Rattle.std.proofs.Common.{inl, refl, ◌∙◌}
use Rattle.kernel_iopub.proofs.ServedLemmas.{nothing_sent, answered_on, sent_before}
use Rattle.kernel_iopub.specs.Signs.{gone}
use Rattle.kernel_iopub.proofs.half.speak.Goals as goal

pub loop-init : goal.loop-init
loop-init g c = record {
  sent = nothing_sent c.args.share.now.amount (gone (g.W.Write.contents c.args.writer.now) (g.V.Watcher.notices c.args.watcher.now));
  parts = refl;
}

pub returns-in-Err-clause-err : goal.returns-in-Err-clause-err
returns-in-Err-clause-err g c = (
  gone (g.W.Write.contents c.loop.writer) (g.V.Watcher.notices c.loop.watcher),
  c.loop.at,
  c.loop.share.amount,
  c.loop.invariant.sent,
  inl c.in-Err.ensures.err,
)

pub returns-in-Err-go_on-clause-err : goal.returns-in-Err-go_on-clause-err
returns-in-Err-go_on-clause-err g c =
    let taken = c.args.share.now.amount in
    let first = gone (g.W.Write.contents c.args.writer.now) (g.V.Watcher.notices c.args.watcher.now) in
    let begun = gone (g.W.Write.contents c.loop.writer) (g.V.Watcher.notices c.loop.watcher) in
    let answered = gone (g.W.Write.contents c.look_and_answer.new.writer) (g.V.Watcher.notices c.look_and_answer.new.watcher) in
    let so_far =
    answered_on taken c.loop.share.amount c.look_and_answer.new.share.amount first begun answered c.loop.at c.loop.invariant.sent c.in-Ok.ensures.ok in
    let before = sent_before taken c.look_and_answer.new.share.amount _ _ c.loop.at c.in-Ok.sight.joined _ c.join-before.ensures so_far in
    c.in-Err-go_on.ensures.err taken first before

pub returns-then-sight-clause-ok : goal.returns-then-sight-clause-ok
returns-then-sight-clause-ok g c =
    let taken = c.args.share.now.amount in
    let first = gone (g.W.Write.contents c.args.writer.now) (g.V.Watcher.notices c.args.watcher.now) in
    let begun = gone (g.W.Write.contents c.loop.writer) (g.V.Watcher.notices c.loop.watcher) in
    let answered = gone (g.W.Write.contents c.look_and_answer.new.writer) (g.V.Watcher.notices c.look_and_answer.new.watcher) in
    let so_far =
    answered_on taken c.loop.share.amount c.look_and_answer.new.share.amount first begun answered c.loop.at c.loop.invariant.sent c.in-Ok.ensures.ok in
    let before = sent_before taken c.look_and_answer.new.share.amount _ _ c.loop.at c.in-Ok.sight.joined _ c.join-before.ensures so_far in
    (c.in-Ok-go_on.after, c.in-Ok-go_on.ensures.ok taken first before)

pub loop-preserved-then-eq : goal.loop-preserved-then-eq
loop-preserved-then-eq g c =
    let taken = c.args.share.now.amount in
    let first = gone (g.W.Write.contents c.args.writer.now) (g.V.Watcher.notices c.args.watcher.now) in
    let begun = gone (g.W.Write.contents c.loop.writer) (g.V.Watcher.notices c.loop.watcher) in
    let answered = gone (g.W.Write.contents c.look_and_answer.new.writer) (g.V.Watcher.notices c.look_and_answer.new.watcher) in
    let so_far =
    answered_on taken c.loop.share.amount c.look_and_answer.new.share.amount first begun answered c.loop.at c.loop.invariant.sent c.in-Ok.ensures.ok in
    let before = sent_before taken c.look_and_answer.new.share.amount _ _ c.loop.at c.in-Ok.sight.joined _ c.join-before.ensures so_far in
    record { sent = c.in-Ok-go_on.ensures.ok taken first before; parts = c.go_on.ensures.parts ∙ c.look_and_answer.ensures.parts ∙ c.loop.invariant.parts }

pub loop-preserved : goal.loop-preserved
loop-preserved g c =
    let taken = c.args.share.now.amount in
    let first = gone (g.W.Write.contents c.args.writer.now) (g.V.Watcher.notices c.args.watcher.now) in
    let begun = gone (g.W.Write.contents c.loop.writer) (g.V.Watcher.notices c.loop.watcher) in
    let answered = gone (g.W.Write.contents c.look_and_answer.new.writer) (g.V.Watcher.notices c.look_and_answer.new.watcher) in
    let so_far =
    answered_on taken c.loop.share.amount c.look_and_answer.new.share.amount first begun answered c.loop.at c.loop.invariant.sent c.in-Ok.ensures.ok in
    let before = sent_before taken c.look_and_answer.new.share.amount _ _ c.loop.at c.in-Ok.sight.joined _ c.join-before.ensures so_far in
    record { sent = c.in-Ok-go_on.ensures.ok taken first before; parts = c.go_on.ensures.parts ∙ c.look_and_answer.ensures.parts ∙ c.loop.invariant.parts }
