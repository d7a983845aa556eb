use Rattle.std.proofs.Common.{Some, ◌≡◌, subst, sym, ap, ◌∙◌, length, take, to_z, of_z, w32, arith}
use Rattle.std.proofs.lemmas.Int.{to_z-of_z}
use Rattle.std.proofs.lemmas.Iterator.Consumers.{YieldsList-turn, YieldsList-end, YieldsList-so_far}
use Rattle.std.proofs.lemmas.List.{map-id}
use Rattle.std.proofs.lemmas.Option.{slice_get-get_or}
use Rattle.std.specs.Io.KnownBytes.{Appends}
use Rattle.janus_memory.specs.Stacks.{held}
use Rattle.exact_write.specs.Sent.{SentSome}
use Rattle.kernel_text.specs.ValueTexts.{spaced_text}
use Rattle.exact_write.proofs.SendLemmas.{some_now, appends_none}
use Rattle.kernel_text.proofs.Numbers.{one_text, number_added, number_failed, newest_come}
use Rattle.kernel_text.proofs.values.send_tops.Goals as goal

pub loop-value-init : goal.loop-value-init
loop-value-init g c = appends_none (g.W.Write.contents c.args.writer.now)

pub loop-value-preserved : goal.loop-value-preserved
loop-value-preserved g c =
    let n = c.in-Some.value in
    let z : to_z w32 (of_z w32 n) ≡ n = grind (arith, to_z-of_z) in
    let sent = subst (λ n. Appends (g.W.Write.contents c.loop-value.writer) (g.W.Write.contents c.send_spaced.new.writer) (one_text n))
    z c.in_ok-send_spaced.ensures.ok in
    number_added (g.W.Write.contents c.args.writer.now) (g.W.Write.contents c.loop-value.writer) (g.W.Write.contents c.send_spaced.new.writer)
    c.loop-value.yielded n c.loop-value.invariant sent

pub returns-in_err-send_spaced-clause-err : goal.returns-in_err-send_spaced-clause-err
returns-in_err-send_spaced-clause-err g c =
    let taken = c.take-value-items in
    let begun = c.into_iter-value-iterator in
    let come = newest_come c.args.values.now c.args.count begun.result taken.result begun.ensures.into_iter_gives taken.ensures.source taken.ensures.count in
    let all = take c.args.count (held c.args.values.now) in
    let numbers = c.loop-value.yielded in
    let n = c.in-Some.value in
    let turn = YieldsList-turn come numbers _ c.loop-value.yielded_by _ _ n c.in-Some.is c.next.ensures.steps in
    let at = slice_get-get_or all (length numbers) n turn.0 ∙ ap Some (sym turn.1) in
    let first = sym (map-id numbers) ∙ YieldsList-so_far come numbers _ c.loop-value.yielded_by in
    let before = subst (λ l. Appends (g.W.Write.contents c.args.writer.now) (g.W.Write.contents c.loop-value.writer) (spaced_text l))
    first c.loop-value.invariant in
    let z : to_z w32 (of_z w32 n) ≡ n = grind (arith, to_z-of_z) in
    let sent = subst (λ n. SentSome (g.W.Write.contents c.loop-value.writer) (g.W.Write.contents c.send_spaced.new.writer) (one_text n))
    z c.in_err-send_spaced.ensures.err in
    some_now (g.W.Write.contents c.args.writer.now) (g.W.Write.contents c.send_spaced.new.writer) (spaced_text all) c.from_residual.result
    (number_failed (g.W.Write.contents c.args.writer.now) (g.W.Write.contents c.loop-value.writer) (g.W.Write.contents c.send_spaced.new.writer) all
    (length numbers) n at before sent)

pub returns-clause-ok : goal.returns-clause-ok
returns-clause-ok g c =
    let taken = c.take-value-items in
    let begun = c.into_iter-value-iterator in
    let come = newest_come c.args.values.now c.args.count begun.result taken.result begun.ensures.into_iter_gives taken.ensures.source taken.ensures.count in
    let all = YieldsList-end come c.loop-value.yielded _ c.loop-value.yielded_by _ _ c.in-None.is c.next.ensures.steps in
    subst (λ l. Appends (g.W.Write.contents c.args.writer.now) (g.W.Write.contents c.loop-value.writer) (spaced_text l))
    (sym (map-id c.loop-value.yielded) ∙ all.0) c.loop-value.invariant
