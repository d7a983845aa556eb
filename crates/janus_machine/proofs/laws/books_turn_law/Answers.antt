use Rattle.janus_machine.proofs.Courses.{books_turn}
use Rattle.janus_machine.proofs.laws.books_turn_law.Goals as goal

pub returns : goal.returns
returns c = books_turn
