use Rattle.std.proofs.Common.{List, ap, map, subst}
use mathlib.Core.List.{IsPrefix}
use Rattle.kernel_ask.specs.Minutes.{Entry}
use Rattle.kernel_ask.specs.Written.{entry_of}
use Rattle.kernel_audit.specs.Passes.{PassOf}
use Rattle.kernel_audit.specs.declared.note.Note.{Note}
use Rattle.kernel_audit.proofs.Fronts.{prefix_map}
use Rattle.kernel_audit.proofs.pass.Pass.see.Goals as goal

-- what it had seen as entries of the history it had seen as minutes
pub returns-clause-onward : goal.returns-clause-onward
returns-clause-onward g c =
    subst (λ (l : List Entry). IsPrefix l (map entry_of c.see.new.self)) (ap (λ (p : PassOf). p.front) c.self.view_is)
    (prefix_map entry_of c.self.inside.front c.see.new.self c.see.ensures.beginning)

pub returns-clause-noted : goal.returns-clause-noted
returns-clause-noted g c =
    subst (λ (l : List Note). IsPrefix l c.see-2.new.self) (ap (λ (p : PassOf). p.notes) c.self.view_is) c.see-2.ensures.beginning
