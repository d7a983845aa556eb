use Rattle.std.proofs.Common.{List, All, subst, sym}
use mathlib.Core.List.{IsPrefix}
use Rattle.kernel_audit.specs.Minutes.{Entry}
use Rattle.kernel_audit.specs.Passes.{PassOf}
use Rattle.kernel_audit.specs.Marks.{EndsInOrder}
use Rattle.kernel_audit.proofs.InOrder.{in_order}
use Rattle.hall_state.proofs.state.State.close.Goals as goal

pub audit-audited-requires : goal.audit-audited-requires
audit-audited-requires g c = record { ends = subst EndsInOrder (sym c.minutes.ensures.entries) (in_order _ c.minutes.ensures.legal) }

-- the history is the minutes
pub returns-in-Ok-clause-fronts : goal.returns-in-Ok-clause-fronts
returns-in-Ok-clause-fronts g c =
    subst (λ (l : List Entry). All (λ (p : PassOf). IsPrefix p.front l) c.args.passes.items) c.args.self.told c.show_all.ensures.fronts

pub returns-clause-fronts : goal.returns-clause-fronts
returns-clause-fronts g c =
    subst (λ (l : List Entry). All (λ (p : PassOf). IsPrefix p.front l) c.args.passes.items) c.args.self.told c.show_all.ensures.fronts
