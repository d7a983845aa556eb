use Rattle.std.proofs.Common.{ap, ◌∙◌}
use Rattle.std.specs.Str.{trim}
use Rattle.steps_program.specs.Commands.{asked_by}
use Rattle.steps_program.proofs.Words.{parted, whole}
use Rattle.steps_program.proofs.command.Command.read.Goals as goal

pub returns-in-Some : goal.returns-in-Some
returns-in-Some c =
    let line = c.trim-line.result.now in
    let cut = c.in-Some.ensures in
    c.with_word.ensures
    ∙ parted line c.in-Some.first.now c.trim.result.now cut.2 cut.0 (c.trim.ensures.trim ∙ ap trim cut.1)
    ∙ ap asked_by c.trim-line.ensures.trim

pub returns-in-None : goal.returns-in-None
returns-in-None c =
    let line = c.trim-line.result.now in
    c.alone.ensures ∙ whole line c.in-None.ensures ∙ ap asked_by c.trim-line.ensures.trim
