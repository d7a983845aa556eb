use Rattle.std.proofs.Common.{None, sym, ap, ◌∙◌}
use Rattle.janus_syntax.specs.Tree.{exp_view}
use Rattle.janus_check.specs.Names.{shape_in, over}
use Rattle.janus_check.specs.Fault.{first_from}
use Rattle.janus_check.specs.Check.{exp_faults}
use Rattle.janus_check.proofs.FirstLemmas.{first_none, found_is_first}
use Rattle.janus_check.proofs.UseLemmas.{exp_formed}
use Rattle.janus_check.proofs.expression.check_exp.Goals as goal

pub returns-in-None-clause-passes : goal.returns-in-None-clause-passes
returns-in-None-clause-passes g c =
    let table = g.T.SymbolTable.known in
    let found = c.exp_fault.ensures
    ∙ ap (λ n. first_from None (exp_faults n (exp_view c.args.exp.now)))
    (c.declared-sight.ensures.names ∙ ap (over (shape_in (table c.args.env.now).names)) c.new-none.ensures.names) in
    first_none (exp_faults (shape_in (table c.args.env.now).names) (exp_view c.args.exp.now)) (sym found ∙ c.in-None.is)

pub returns-in-None-clause-well_formed : goal.returns-in-None-clause-well_formed
returns-in-None-clause-well_formed g c =
    let table = g.T.SymbolTable.known in
    let found = c.exp_fault.ensures
    ∙ ap (λ n. first_from None (exp_faults n (exp_view c.args.exp.now)))
    (c.declared-sight.ensures.names ∙ ap (over (shape_in (table c.args.env.now).names)) c.new-none.ensures.names) in
    exp_formed (shape_in (table c.args.env.now).names) (exp_view c.args.exp.now)
    (first_none (exp_faults (shape_in (table c.args.env.now).names) (exp_view c.args.exp.now)) (sym found ∙ c.in-None.is))

pub returns-clause-first : goal.returns-clause-first
returns-clause-first g c =
    let table = g.T.SymbolTable.known in
    let found = c.exp_fault.ensures
    ∙ ap (λ n. first_from None (exp_faults n (exp_view c.args.exp.now)))
    (c.declared-sight.ensures.names ∙ ap (over (shape_in (table c.args.env.now).names)) c.new-none.ensures.names) in
    found_is_first (exp_faults (shape_in (table c.args.env.now).names) (exp_view c.args.exp.now)) c.in-Some.fault (sym found ∙ c.in-Some.is)
