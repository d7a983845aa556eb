use Rattle.std.proofs.Common.{[], ap, ◌∙◌, sym}
use Rattle.std.specs.Prelude.{Option}
use Rattle.exact_write.proofs.SendLemmas.{appends_none}
use Rattle.steps_program.specs.declared.source.Source.{Source}
use Rattle.steps_program.specs.Places.{lines_of}
use Rattle.steps_program.specs.Told.{TellsLines, lines_listed, middle, source_listed}
use Rattle.steps_program.proofs.Telling.{told}
use Rattle.steps_program.proofs.output.send_list.Goals as goal

pub returns-in-Some-source_of : goal.returns-in-Some-source_of
returns-in-Some-source_of g c =
    let level = c.in-Some.level in
    let spot = c.in-Some.spot in
    let is = c.in-Some.ensures in
    let s = c.in-Some-source_of.source.now in
    told (TellsLines c.args.sources.now c.args.walk.now) (g.W.Write.contents c.args.writer.now) (g.W.Write.contents c.send_lines.new.writer)
    (lines_listed c.middle.result s.first_line (lines_of c.as_str.result.now)) c.send_lines.result (
      (level, spot),
      record { tells = is.tells; code = is.code; node = is.node },
      ap (λ n. lines_listed n s.first_line (lines_of c.as_str.result.now)) c.middle.ensures
          ∙ ap (λ t. lines_listed (middle s spot.span) s.first_line (lines_of t)) c.as_str.ensures.value
          ∙ sym (ap (λ (o : Option Source). source_listed o spot.span) c.in-Some-source_of.ensures),
    ) c.send_lines.ensures

pub returns-in-None : goal.returns-in-None
returns-in-None g c =
    let level = c.in-Some.level in
    let spot = c.in-Some.spot in
    let is = c.in-Some.ensures in (
      [],
      (
        (level, spot),
        record { tells = is.tells; code = is.code; node = is.node },
        sym (ap (λ (o : Option Source). source_listed o spot.span) c.in-None.ensures),
      ),
      appends_none (g.W.Write.contents c.args.writer.now),
    )
