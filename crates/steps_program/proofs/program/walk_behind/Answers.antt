use Rattle.std.proofs.Common.{ℕ, List, [], ◌∷◌, ◌++◌, map, string_bytes, ap, subst}
use Rattle.std.specs.Prelude.{Option, OnOk}
use Rattle.steps_program.specs.Before.{text_of}
use Rattle.steps_program.specs.Walked.{Enters, TellsWalk}
use Rattle.steps_program.proofs.Entering.{walked}
use Rattle.steps_program.proofs.Telling.{Goes}
use Rattle.steps_program.proofs.program.walk_behind.Goals as goal

pub returns : goal.returns
returns g c =
    let input = g.R.Read.remaining c.args.reader.now in
    let w = c.in_ok-walk.walk in
    let m = c.args.kernel.machine in
    let new = g.W.Write.contents c.walk_among.new.writer in
    let texts = map text_of c.args.found.1.items ++ text_of c.args.found.0 ∷ [] in
    walked m (string_bytes c.args.found.0.text) texts input (g.W.Write.contents c.args.writer.now) new w c.walk_among.result c.in_ok-walk.ensures.walks
    (subst (λ (t : List ℕ). Enters m t w) c.as_str.ensures.value c.in_ok-walk.ensures.enters)
    (subst (λ (a : Option (List ℕ)). OnOk c.walk_among.result (Goes (TellsWalk texts w input) a new)) (ap g.W.Write.contents c.in_ok-walk.ensures.silent)
    c.walk_among.ensures)
