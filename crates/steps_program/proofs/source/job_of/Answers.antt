use Rattle.std.proofs.Common.{◌∙◌, ℕ, List, false, true, ap}
use Rattle.kernel_core.specs.Request.{RunCell}
use Rattle.steps_program.proofs.source.job_of.Goals as goal

pub returns : goal.returns
returns c = ap (λ (t : List ℕ). RunCell t false true) (c.in_ok-code.ensures ∙ c.in_ok-text.ensures.ok)
