use Rattle.std.proofs.Common.{sym, ◌∙◌}
use Rattle.janus_syntax.specs.Tree.{cell_view}
use Rattle.janus_check.specs.Names.{shape_in, heads_in}
use Rattle.janus_check.specs.Check.{faults_over}
use Rattle.janus_check.proofs.FirstLemmas.{first_none, found_is_first}
use Rattle.janus_check.proofs.FormedLemmas.{no_faults_formed}
use Rattle.janus_check.proofs.cell.check.Goals as goal

pub new-requires-clause-passes : goal.new-requires-clause-passes
new-requires-clause-passes g c =
    let table = g.T.SymbolTable.known in
    first_none (faults_over (table c.args.env.now) (cell_view c.args.cell)) (sym c.in_ok-first_fault.ensures.first ∙ c.in-None.is)

pub new-requires-clause-own : goal.new-requires-clause-own
new-requires-clause-own g c =
    let table = g.T.SymbolTable.known in
    c.in_ok-first_fault.ensures.own
    (no_faults_formed (shape_in (table c.args.env.now).names) (heads_in (table c.args.env.now).procedures) (cell_view c.args.cell)
    (first_none (faults_over (table c.args.env.now) (cell_view c.args.cell)) (sym c.in_ok-first_fault.ensures.first ∙ c.in-None.is)))

pub returns-in-None-clause-passes : goal.returns-in-None-clause-passes
returns-in-None-clause-passes g c =
    let table = g.T.SymbolTable.known in
    first_none (faults_over (table c.args.env.now) (cell_view c.args.cell)) (sym c.in_ok-first_fault.ensures.first ∙ c.in-None.is)

pub returns-in-None-clause-well_formed : goal.returns-in-None-clause-well_formed
returns-in-None-clause-well_formed g c =
    let table = g.T.SymbolTable.known in
    no_faults_formed (shape_in (table c.args.env.now).names) (heads_in (table c.args.env.now).procedures) (cell_view c.args.cell)
    (first_none (faults_over (table c.args.env.now) (cell_view c.args.cell)) (sym c.in_ok-first_fault.ensures.first ∙ c.in-None.is))

pub returns-clause-first : goal.returns-clause-first
returns-clause-first g c =
    let table = g.T.SymbolTable.known in
    λ _. found_is_first (faults_over (table c.args.env.now) (cell_view c.args.cell)) c.in-Some.fault (sym c.in_ok-first_fault.ensures.first ∙ c.in-Some.is)
