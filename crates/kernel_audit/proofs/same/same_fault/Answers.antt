use Rattle.std.proofs.Common.{rules, sym, ◌∙◌}
use denote.Enum.Bare.{same_true, true_same}
use Rattle.janus_meaning.specs.contracts.fault.Fault.{the_type}
use Rattle.kernel_audit.proofs.same.same_fault.Goals as goal

pub returns : goal.returns
returns c = (λ y. same_true the_type (search rules) _ _ (sym c.eq.ensures ∙ y), λ y. c.eq.ensures ∙ true_same the_type _ _ y)
