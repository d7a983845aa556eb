use Rattle.std.proofs.Common.{sym, subst}
use Rattle.kernel_machine.specs.Text.{Refuses}
use Rattle.kernel_machine.specs.declared.outcome.Refusal.{Refusal}
use Rattle.kernel_machine.proofs.Texts.{refuses_syntax}
use Rattle.kernel_loader.proofs.checking.cell_of_text.Goals as goal

pub returns-in-Err-clause-refuses : goal.returns-in-Err-clause-refuses
returns-in-Err-clause-refuses c = λ w.
    subst (λ (r : Refusal). Refuses w c.args.text.now r) (sym c.of_syntax.ensures) (refuses_syntax w c.args.text.now c.in-Err.fault c.in-Err.ensures.read)
