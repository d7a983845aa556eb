use Rattle.std.proofs.Common.{◌≡◌, ◌++◌, ap, sym}
use Rattle.janus_meaning.specs.Store.{Stk}
use Rattle.janus_memory.specs.Stacks.{held}
use Rattle.kernel_text.specs.ValueTexts.{height_text, numbers_text, told_text}
use Rattle.exact_write.proofs.SendLemmas.{some_first, some_then, all_then}
use Rattle.kernel_text.proofs.values.send_stack.Goals as goal

pub returns-in_err-send_height-clause-err : goal.returns-in_err-send_height-clause-err
returns-in_err-send_height-clause-err g c =
    let l = held c.args.values.now in
    let first = height_text c.len.result in
    let second = numbers_text l in
    let all : told_text (Stk l) ≡ first ++ second = ap (λ n. height_text n ++ second) (sym c.len.ensures) in
    some_first (g.W.Write.contents c.args.writer.now) (g.W.Write.contents c.send_height.new.writer) first second (told_text (Stk l))
    c.from_residual.result all c.in_err-send_height.ensures.err

pub returns-clause-ok : goal.returns-clause-ok
returns-clause-ok g c =
    let l = held c.args.values.now in
    let first = height_text c.len.result in
    let second = numbers_text l in
    let all : told_text (Stk l) ≡ first ++ second = ap (λ n. height_text n ++ second) (sym c.len.ensures) in
    all_then (g.W.Write.contents c.args.writer.now) (g.W.Write.contents c.send_height.new.writer) (g.W.Write.contents c.send_values.new.writer) first second
    (told_text (Stk l)) c.send_values.result all
    c.in_ok-send_height.ensures.ok c.send_values.ensures.ok

pub returns-clause-err : goal.returns-clause-err
returns-clause-err g c =
    let l = held c.args.values.now in
    let first = height_text c.len.result in
    let second = numbers_text l in
    let all : told_text (Stk l) ≡ first ++ second = ap (λ n. height_text n ++ second) (sym c.len.ensures) in
    some_then (g.W.Write.contents c.args.writer.now) (g.W.Write.contents c.send_height.new.writer) (g.W.Write.contents c.send_values.new.writer) first second
    (told_text (Stk l)) c.send_values.result all
    c.in_ok-send_height.ensures.ok c.send_values.ensures.err
