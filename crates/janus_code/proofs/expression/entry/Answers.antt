use Rattle.std.proofs.Common.{◌∙◌, ◌<◌, length, sym, subst, arith}
use Rattle.janus_slots.specs.Numbers.{IsNumbered}
use Rattle.janus_slots.proofs.NameAt.{number_fits}
use Rattle.janus_syntax.specs.View.{name_of}
use Rattle.janus_code.proofs.Slotting.{entry_at}
use Rattle.janus_code.proofs.expression.entry.Goals as goal

pub returns-clause-name : goal.returns-clause-name
returns-clause-name c =
    let met : IsNumbered c.args.entries.now c.in-Some.number (name_of c.args.name.now) =
    subst (IsNumbered c.args.entries.now c.in-Some.number) c.deref.ensures c.in-Some.ensures.met in
    c.symbol_of.ensures.name ∙ sym (entry_at c.args.entries.now (name_of c.args.name.now) c.in-Some.number met c.one_number_law.ensures)

pub returns-clause-numbered : goal.returns-clause-numbered
returns-clause-numbered c =
    let fits : c.in-Some.number < length c.args.entries.now = number_fits c.args.entries.now c.in-Some.number c.deref.result.now c.in-Some.ensures.met in
    omega (arith, fits, c.symbol_of.ensures.number)
