use Rattle.std.proofs.Common.{◌++◌, refl}
use Rattle.exact_write.proofs.SendLemmas.{appends_join}
use Rattle.steps_program.specs.Before.{stage_of}
use Rattle.steps_program.proofs.source.obey_command.Goals as goal

pub returns-clause-leads : goal.returns-clause-leads
returns-clause-leads g c =
    let runs = c.in_ok-run_text.ensures.runs in
    let moves = c.in_ok-obey_line.ensures.moves in
    let machine = c.obey_line.new.kernel.machine in (
      runs.0 ++ moves.0,
      record {
        mid = stage_of c.run_text.new.kernel.machine c.run_text.new.reading;
        first = runs.0;
        runs = runs.1;
        machine = machine;
        second = moves.0;
        moves = moves.1;
        left = c.begin_text.ensures machine;
        is = refl;
      },
      appends_join (g.W.Write.contents c.args.writer.now) (g.W.Write.contents c.run_text.new.writer) (g.W.Write.contents c.obey_line.new.writer)
          runs.0 moves.0 runs.2 moves.2,
    )
