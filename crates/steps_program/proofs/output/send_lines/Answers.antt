use Rattle.std.proofs.Common.{[], refl, rules}
use Rattle.exact_write.proofs.SendLemmas.{appends_none}
use Rattle.steps_program.specs.Places.{lines_of}
use Rattle.steps_program.specs.Told.{lines_listed}
use Rattle.steps_program.proofs.Lines.{first_of, shorter, only_one}
use Rattle.steps_program.proofs.Listing.{one_more, last_one}
use Rattle.steps_program.proofs.output.send_lines.Goals as goal

pub loop-line-init : goal.loop-line-init
loop-line-init g c = (c.utf8.text, ([], appends_none (g.W.Write.contents c.args.writer.now), refl))

pub loop-line-smaller : goal.loop-line-smaller
loop-line-smaller g c = shorter c.loop-line.rest.now c.in-Some.more.now c.in-Some.ensures.cut.1 c.in-Some.ensures.cut.2

pub loop-line-preserved : goal.loop-line-preserved
loop-line-preserved g c =
    let cut = c.in-Some.ensures.cut in
    let here = c.args.here in
    let all = lines_listed here c.args.first_line (lines_of c.args.text.now) in (
      search rules,
      one_more here all c.loop-line.number c.loop-line.rest.now (g.W.Write.contents c.args.writer.now) (g.W.Write.contents c.loop-line.writer)
          c.loop-line.invariant.1 (g.W.Write.contents c.send_if_listed.new.writer) c.in-Some.line.now c.in-Some.more.now c.saturating_add-number.result
          (first_of c.loop-line.rest.now c.in-Some.line.now c.in-Some.more.now cut.0 cut.1 cut.2) c.saturating_add-number.ensures
          c.in_ok-send_if_listed.ensures,
    )

pub returns : goal.returns
returns g c =
    let here = c.args.here in
    let all = lines_listed here c.args.first_line (lines_of c.args.text.now) in
    last_one here all c.loop-line.number c.loop-line.rest.now (g.W.Write.contents c.args.writer.now) (g.W.Write.contents c.loop-line.writer)
    c.loop-line.invariant.1 (g.W.Write.contents c.send_if_listed-2.new.writer) c.send_if_listed-2.result
    (only_one c.loop-line.rest.now c.in_default.ensures.cut) c.send_if_listed-2.ensures
