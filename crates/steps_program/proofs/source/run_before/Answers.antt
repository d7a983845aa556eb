use Rattle.std.proofs.Common.{[], refl, rules, sym, subst}
use Rattle.steps_program.specs.Before.{Stage, stage_of}
use Rattle.steps_program.specs.Places.{lines_of}
use Rattle.steps_program.proofs.Leading.{ReadSoFar, none_read, one_more, found_before, found_last, lacking}
use Rattle.steps_program.proofs.Lines.{first_of, shorter, only_one}
use Rattle.steps_program.proofs.source.run_before.Goals as goal

pub loop-line-init : goal.loop-line-init
loop-line-init g c =
    let m = c.args.kernel.now.machine in
    let a = g.W.Write.contents c.args.writer.now in (
      c.utf8.file,
      (
        c.requires.idle,
        c.requires.alone,
        subst (λ (s : Stage). ReadSoFar c.args.number c.args.file.now m a a s (lines_of c.args.file.now)) (sym (c.new-reading.ensures m))
            (none_read c.args.number c.args.file.now m a),
      ),
    )

pub loop-line-smaller : goal.loop-line-smaller
loop-line-smaller g c = shorter c.loop-line.rest.now c.in-Some.more.now c.in-Some.ensures.cut.1 c.in-Some.ensures.cut.2

pub returns-then-ends_before-clause-found : goal.returns-then-ends_before-clause-found
returns-then-ends_before-clause-found g c =
    let cut = c.in-Some.ensures.cut in
    let m = c.loop-line.kernel.machine in
    let s = stage_of m c.loop-line.reading in
    let so_far = c.loop-line.invariant.1.2 in (
      s,
      so_far.out,
      found_before c.args.number c.args.file.now c.args.kernel.now.machine (g.W.Write.contents c.args.writer.now) (g.W.Write.contents c.loop-line.writer)
          s (lines_of c.loop-line.rest.now) so_far c.in-Some.line.now (lines_of c.in-Some.more.now)
          (first_of c.loop-line.rest.now c.in-Some.line.now c.in-Some.more.now cut.0 cut.1 cut.2) (c.if-ends_before.ensures m),
      refl,
      c.found.ensures.ran m,
      c.found.ensures.source m,
      so_far.sent,
    )

pub loop-line-preserved : goal.loop-line-preserved
loop-line-preserved g c =
    let cut = c.in-Some.ensures.cut in
    let m = c.loop-line.kernel.machine in
    let led = c.in_ok-read_line.ensures.leads in (
      search rules,
      (
        c.read_line.ensures.idle,
        c.read_line.ensures.alone,
        one_more c.args.number c.args.file.now c.args.kernel.now.machine (g.W.Write.contents c.args.writer.now) (g.W.Write.contents c.loop-line.writer)
            (stage_of m c.loop-line.reading) (lines_of c.loop-line.rest.now) c.loop-line.invariant.1.2 (g.W.Write.contents c.read_line.new.writer)
            (stage_of c.read_line.new.kernel.machine c.read_line.new.reading) c.in-Some.line.now (lines_of c.in-Some.more.now)
            (first_of c.loop-line.rest.now c.in-Some.line.now c.in-Some.more.now cut.0 cut.1 cut.2) (sym (c.if-ends_before.ensures m)) led.0 led.1 led.2,
      ),
    )

pub returns-then-ends_before-2-clause-found : goal.returns-then-ends_before-2-clause-found
returns-then-ends_before-2-clause-found g c =
    let rest = c.loop-line.rest.now in
    let m = c.loop-line.kernel.machine in
    let s = stage_of m c.loop-line.reading in
    let so_far = c.loop-line.invariant.1.2 in (
      s,
      so_far.out,
      found_before c.args.number c.args.file.now c.args.kernel.now.machine (g.W.Write.contents c.args.writer.now) (g.W.Write.contents c.loop-line.writer)
          s (lines_of rest) so_far rest [] (only_one rest c.in_default.ensures.cut) (c.if-ends_before-2.ensures m),
      refl,
      c.found-then-ends_before-2.ensures.ran m,
      c.found-then-ends_before-2.ensures.source m,
      so_far.sent,
    )

pub returns-clause-found : goal.returns-clause-found
returns-clause-found g c =
    let rest = c.loop-line.rest.now in
    let m = c.loop-line.kernel.machine in
    let last = c.read_line-2.new.kernel.machine in
    let s = stage_of last c.read_line-2.new.reading in
    let a = g.W.Write.contents c.args.writer.now in
    let b = g.W.Write.contents c.loop-line.writer in
    let d = g.W.Write.contents c.read_line-2.new.writer in
    let led = c.in_ok-read_line-2.ensures.leads in
    let all = one_more c.args.number c.args.file.now c.args.kernel.now.machine a b (stage_of m c.loop-line.reading) (lines_of rest)
    c.loop-line.invariant.1.2 d s rest [] (only_one rest c.in_default.ensures.cut) (sym (c.if-ends_before-2.ensures m)) led.0 led.1 led.2 in (
      s,
      all.out,
      found_last c.args.number c.args.file.now c.args.kernel.now.machine a d s [] all refl (c.if-not-is_cell.ensures last),
      refl,
      c.found-2.ensures.ran last,
      c.found-2.ensures.source last,
      all.sent,
    )

pub returns-then-not-is_cell-clause-none : goal.returns-then-not-is_cell-clause-none
returns-then-not-is_cell-clause-none g c =
    let rest = c.loop-line.rest.now in
    let m = c.loop-line.kernel.machine in
    let last = c.read_line-2.new.kernel.machine in
    let s = stage_of last c.read_line-2.new.reading in
    let a = g.W.Write.contents c.args.writer.now in
    let b = g.W.Write.contents c.loop-line.writer in
    let d = g.W.Write.contents c.read_line-2.new.writer in
    let led = c.in_ok-read_line-2.ensures.leads in
    let all = one_more c.args.number c.args.file.now c.args.kernel.now.machine a b (stage_of m c.loop-line.reading) (lines_of rest)
    c.loop-line.invariant.1.2 d s rest [] (only_one rest c.in_default.ensures.cut) (sym (c.if-ends_before-2.ensures m)) led.0 led.1 led.2 in (
      s,
      all.out,
      lacking c.args.number c.args.file.now c.args.kernel.now.machine a d s [] all refl (c.if-not-is_cell.ensures last),
      all.sent,
    )
