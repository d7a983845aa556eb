use Rattle.std.proofs.Common.{◌≡◌, ℕ, List, Result, Err, subst}
use Rattle.janus_meaning.specs.Store.{Store}
use Rattle.janus_syntax.specs.Forms.{Whole}
use Rattle.janus_syntax.specs.Text.{IsParsedExp, Refuses}
use Rattle.janus_syntax.specs.declared.tree.Exp as code
use Rattle.janus_syntax.specs.declared.fault.SyntaxFault.{SyntaxFault}
use Rattle.janus_syntax.specs.declared.fault.SyntaxFault.TheVariants as fault
use Rattle.kernel_text.specs.Text.{refused_by_syntax}
use Rattle.kernel_text.specs.outcome.Refusal.{Refusal}
use Rattle.kernel_ask.specs.declared.done.ExpFault.TheVariants.{Refused}
use Rattle.kernel_ask.specs.Evaluation.{IsEvaluated}
use Rattle.kernel_ask.proofs.evaluation.evaluation_of.Goals as goal

-- a refusal of the text is told as it is, and want of memory as such
told : (s : Store) (text : List ℕ) (fault : SyntaxFault) (r : Refusal) → Refuses Whole text fault → r ≡ refused_by_syntax fault →
    IsEvaluated s text (Err (Refused r))
told s text (fault.BadToken at) r refused is = rw is refused
told s text (fault.Expected what at) r refused is = rw is refused
told s text (fault.NumberTooLarge at) r refused is = rw is refused
told s text (fault.TooNested at) r refused is = rw is refused
told s text (fault.DelocalName at) r refused is = rw is refused
told s text fault.Memory r refused is = rw is tt

pub returns-in-Ok : goal.returns-in-Ok
returns-in-Ok g c = λ text read.
    c.value_of.ensures text (subst (λ (r : Result code.Exp SyntaxFault). IsParsedExp text r) c.in-Ok.is read)

pub returns-in-Err : goal.returns-in-Err
returns-in-Err g c = λ text read.
    told c.args.world.now.store text c.in-Err.fault c.of_syntax.result (subst (λ (r : Result code.Exp SyntaxFault). IsParsedExp text r) c.in-Err.is read)
    c.of_syntax.ensures
