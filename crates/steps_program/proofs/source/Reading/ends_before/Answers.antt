use Rattle.std.proofs.Common.{◌∙◌, Bool, ◌&&◌, ap}
use Rattle.steps_program.specs.Before.{is_cell, stage_of}
use Rattle.steps_program.proofs.source.Reading.ends_before.Goals as goal

pub returns : goal.returns
returns c = λ m. c.is_cell.ensures m ∙ ap (λ (b : Bool). b && is_cell c.args.number (stage_of m c.args.self.now)) c.if-not-is_command_line.ensures
