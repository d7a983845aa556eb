use Rattle.steps_program.proofs.Numbering.{texts_stand_in_file}
use Rattle.steps_program.proofs.law.texts_stand_in_file_law.Goals as goal

pub returns : goal.returns
returns c = texts_stand_in_file
