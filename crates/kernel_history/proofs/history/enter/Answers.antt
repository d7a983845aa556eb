use Rattle.std.proofs.Common.{sym, ◌∙◌}
use Rattle.kernel_history.proofs.Standing.{ok_fact, err_fact, idle_in_time, kept_entered, kept_refused}
use Rattle.kernel_history.proofs.history.enter.Goals as goal

pub returns-clause-kept : goal.returns-clause-kept
returns-clause-kept g c =
    kept_entered c.args.tree.now c.args.runner.now c.enter_next.new.runner c.args.travel c.requires c.enter_next.ensures.entries
    c.enter_next.ensures.bodies
    (ok_fact _ c.enter_next.result (sym c.is_err.ensures.value ∙ c.if-is_err.false) c.enter_next.ensures.ok)

pub returns-then-is_err-clause-kept : goal.returns-then-is_err-clause-kept
returns-then-is_err-clause-kept g c =
    idle_in_time c.args.tree.now c.enter_next.new.runner
    (kept_refused c.args.tree.now _ c.args.runner.now c.enter_next.new.runner c.requires c.requires.no_other c.requires.no_name c.requires.stands.0
    (err_fact _ c.enter_next.result (sym c.is_err.ensures.value ∙ c.if-is_err.true) c.enter_next.ensures.err)
    (err_fact _ c.enter_next.result (sym c.is_err.ensures.value ∙ c.if-is_err.true) c.enter_next.ensures.same)
    c.enter_next.ensures.entries)
