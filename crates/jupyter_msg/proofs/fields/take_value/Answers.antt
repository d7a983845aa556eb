use Rattle.std.proofs.Common.{sym, ◌∙◌}
use Rattle.jupyter_msg.proofs.TakenLemmas.{field_taken, field_left}
use Rattle.jupyter_msg.proofs.fields.take_value.Goals as goal

pub returns-in-Some-clause-value : goal.returns-in-Some-clause-value
returns-in-Some-clause-value c =
    c.unless_null.ensures ∙ field_taken c.args.field c.name.result.now c.name.ensures c.args.members.now.entries _ (sym c.in-Some.is ∙ c.remove.ensures.value)

pub returns-in-None-clause-value : goal.returns-in-None-clause-value
returns-in-None-clause-value c =
    field_taken c.args.field c.name.result.now c.name.ensures c.args.members.now.entries _ (sym c.in-None.is ∙ c.remove.ensures.value)

pub returns-in-Some-clause-others : goal.returns-in-Some-clause-others
returns-in-Some-clause-others c other apart =
    field_left c.args.field other c.name.result.now c.name.ensures apart c.remove.new.self.entries c.args.members.now.entries c.remove.ensures.entries
