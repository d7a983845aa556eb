use Rattle.std.proofs.Common.{ap, ◌∙◌}
use Rattle.kernel_audit.specs.Passes.{PassOf}
use Rattle.kernel_audit.proofs.Fronts.{seen_acted}
use Rattle.hall_state.proofs.state.State.shut_by.Goals as goal

pub returns-clause-seen : goal.returns-clause-seen
returns-clause-seen g c = seen_acted c.args.pass.now c.act.new.self c.see.new.pass c.act.ensures c.see.ensures.seen

pub returns-clause-acts : goal.returns-clause-acts
returns-clause-acts g c = c.see.ensures.acts ∙ ap (λ (p : PassOf). p.acts) c.act.ensures
