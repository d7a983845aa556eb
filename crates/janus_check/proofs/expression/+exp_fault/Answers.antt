use Rattle.std.proofs.Common.{sym, ap, ◌∙◌}
use Rattle.janus_syntax.specs.Tree.{Exp, exp_view}
use Rattle.janus_check.specs.Fault.{first_from}
use Rattle.janus_check.specs.Check.{faults_of}
use Rattle.janus_check.specs.Sight.{faults_at}
use Rattle.janus_check.proofs.FirstLemmas.{two_parts}
use Rattle.janus_check.proofs.expression.+exp_fault.Goals as goal

pub returns-in-Binary : goal.returns-in-Binary
returns-in-Binary g t c =
    let faults : Exp → _ = faults_of (faults_at c.args.context.now) in
    two_parts c.args.first c.exp_fault-next.result c.exp_fault-in-Binary.result (faults (exp_view c.in-Binary.left.value))
    (faults (exp_view c.in-Binary.right.value))
    (c.exp_fault-next.ensures ∙ ap (λ e. first_from c.args.first (faults (exp_view e))) c.deref-in-Binary.ensures)
    (c.exp_fault-in-Binary.ensures ∙ ap (λ e. first_from c.exp_fault-next.result (faults (exp_view e))) c.deref-in-Binary-2.ensures)
    ∙ ap (λ e. first_from c.args.first (faults (exp_view e))) (sym c.in-Binary.is)

pub returns-in-And : goal.returns-in-And
returns-in-And g t c =
    let faults : Exp → _ = faults_of (faults_at c.args.context.now) in
    two_parts c.args.first c.exp_fault-next-in-And.result c.exp_fault-in-And.result (faults (exp_view c.in-And.left.value))
    (faults (exp_view c.in-And.right.value))
    (c.exp_fault-next-in-And.ensures ∙ ap (λ e. first_from c.args.first (faults (exp_view e))) c.deref-in-And.ensures)
    (c.exp_fault-in-And.ensures ∙ ap (λ e. first_from c.exp_fault-next-in-And.result (faults (exp_view e))) c.deref-in-And-2.ensures)
    ∙ ap (λ e. first_from c.args.first (faults (exp_view e))) (sym c.in-And.is)

pub returns-in-Or : goal.returns-in-Or
returns-in-Or g t c =
    let faults : Exp → _ = faults_of (faults_at c.args.context.now) in
    two_parts c.args.first c.exp_fault-next-in-Or.result c.exp_fault-in-Or.result (faults (exp_view c.in-Or.left.value)) (faults (exp_view c.in-Or.right.value))
    (c.exp_fault-next-in-Or.ensures ∙ ap (λ e. first_from c.args.first (faults (exp_view e))) c.deref-in-Or.ensures)
    (c.exp_fault-in-Or.ensures ∙ ap (λ e. first_from c.exp_fault-next-in-Or.result (faults (exp_view e))) c.deref-in-Or-2.ensures)
    ∙ ap (λ e. first_from c.args.first (faults (exp_view e))) (sym c.in-Or.is)
