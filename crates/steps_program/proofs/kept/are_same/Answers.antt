use Rattle.std.proofs.lemmas.Bool.Decides.{Decides-int_eq}
use Rattle.std.proofs.lemmas.Slice.Eq.{slice_eq-Decides}
use Rattle.steps_program.proofs.kept.are_same.Goals as goal

pub returns : goal.returns
returns c = slice_eq-Decides Decides-int_eq c.args.one.now c.args.other.now c.eq.result c.eq.ensures
