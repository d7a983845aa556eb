use Rattle.std.proofs.Common.{◌≡◌, ◌≤◌, ap, subst, ◌∙◌, arith, Some, refl, slice_get}
use Rattle.std.specs.Io.KnownBytes.{Appends}
use Rattle.janus_meaning.specs.World.{size_of, listed}
use Rattle.kernel_text.specs.Values.{shown}
use Rattle.kernel_core.specs.State.{here}
use Rattle.cells_program.specs.Lines.{ended_line}
use Rattle.cells_program.specs.Shown.{position_line, value_lines, world_text}
use Rattle.exact_write.proofs.SendLemmas.{some_first, some_now}
use Rattle.cells_program.proofs.ShownLemmas.{entry_then, entry_failed, first_all}
use Rattle.cells_program.proofs.transcript.show.Goals as goal

pub returns-in_err-send_position-clause-err : goal.returns-in_err-send_position-clause-err
returns-in_err-send_position-clause-err g c =
    let past = c.args.kernel.now.machine.state.past in
    some_first (g.W.Write.contents c.args.writer.now) (g.W.Write.contents c.send_position.new.writer) (ended_line (position_line c.position.result))
    (value_lines (listed (here past).store)) (world_text past) c.from_residual.result (rw c.position.ensures refl) c.in_err-send_position.ensures.err

pub returns-clause-ok : goal.returns-clause-ok
returns-clause-ok g c =
    let past = c.args.kernel.now.machine.state.past in
    let w : c.world-world.result ≡ here past = c.world-world.ensures.idle c.requires.idle in
    let n : c.len-i-end.result ≡ size_of (here past).store = c.len-i-end.ensures ∙ ap (λ w. size_of w.store) w in
    let l : size_of (here past).store ≤ c.loop-i.i = omega (arith, n, c.loop-i-test.false) in
    subst (Appends (g.W.Write.contents c.args.writer.now) (g.W.Write.contents c.loop-i.writer)) (first_all past.position (here past).store c.loop-i.i l)
    c.loop-i.invariant

pub returns-in_err-send_value-clause-err : goal.returns-in_err-send_value-clause-err
returns-in_err-send_value-clause-err g c =
    let past = c.args.kernel.now.machine.state.past in
    let name = c.entry.result.0.now in
    let v = shown c.entry.result.1 in
    let es = listed (here past).store in
    let w : c.world-world.result ≡ here past = c.world-world.ensures.idle c.requires.idle in
    let at : slice_get es c.loop-i.i ≡ Some (name, v) = subst (λ w. slice_get (listed w.store) c.loop-i.i ≡ Some (name, v)) w c.entry.ensures in
    let sent = c.in_err-send_value.ensures.err in
    some_now (g.W.Write.contents c.args.writer.now) (g.W.Write.contents c.send_value.new.writer) (world_text past) c.from_residual-in_err-send_value.result
    (entry_failed (g.W.Write.contents c.args.writer.now) (g.W.Write.contents c.loop-i.writer) (g.W.Write.contents c.send_value.new.writer)
    past.position es c.loop-i.i (name, v) at c.loop-i.invariant sent)

pub loop-i-preserved : goal.loop-i-preserved
loop-i-preserved g c =
    let past = c.args.kernel.now.machine.state.past in
    let name = c.entry.result.0.now in
    let v = shown c.entry.result.1 in
    let es = listed (here past).store in
    let w : c.world-world.result ≡ here past = c.world-world.ensures.idle c.requires.idle in
    let at : slice_get es c.loop-i.i ≡ Some (name, v) = subst (λ w. slice_get (listed w.store) c.loop-i.i ≡ Some (name, v)) w c.entry.ensures in
    let sent = c.in_ok-send_value.ensures.ok in
    entry_then (g.W.Write.contents c.args.writer.now) (g.W.Write.contents c.loop-i.writer) (g.W.Write.contents c.send_value.new.writer)
    past.position es c.loop-i.i (name, v) at c.loop-i.invariant sent
