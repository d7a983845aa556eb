use Rattle.cells_program.proofs.CommandLemmas.{stripped_words}
use Rattle.cells_program.proofs.command.after.Goals as goal

pub returns : goal.returns
returns c = stripped_words c.args.words.now c.args.line.now c.strip_prefix.result c.strip_prefix.ensures.cases
