use Rattle.janus_syntax.specs.Tree.{cell_view}
use Rattle.janus_check.specs.Names.{shape_in, heads_in}
use Rattle.janus_check.proofs.FormedLemmas.{no_faults_formed}
use Rattle.janus_check.proofs.checked.Checked.formed_law.Goals as goal

pub returns : goal.returns
returns g c =
    let checked = c.args.self.now in
    no_faults_formed (shape_in checked.known.names) (heads_in checked.known.procedures) (cell_view checked.cell) checked.passes
