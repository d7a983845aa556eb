use Rattle.std.proofs.Common.{Bool, [], refl, subst}
use Rattle.exact_write.proofs.SendLemmas.{appends_none}
use Rattle.cells_program.specs.declared.command.Command.{Command}
use Rattle.steps_program.specs.Before.{CommandLeads, LeadsIf, LineLeads, stage_of}
use Rattle.steps_program.proofs.Telling.{more}
use Rattle.steps_program.proofs.source.read_line.Goals as goal

pub returns-then-not-is_command_line-clause-leads : goal.returns-then-not-is_command_line-clause-leads
returns-then-not-is_command_line-clause-leads g c =
    let m = c.args.kernel.now.machine in (
      [],
      subst (λ (b : Bool). LeadsIf b c.args.line.now (stage_of m c.args.reading.now) (stage_of m c.add.new.self) []) c.if-not-is_command_line.ensures
          (c.in_ok-add.ensures m, refl),
      appends_none (g.W.Write.contents c.args.writer.now),
    )

pub returns-clause-leads : goal.returns-clause-leads
returns-clause-leads g c =
    let line = c.args.line.now in
    let old = stage_of c.args.kernel.now.machine c.args.reading.now in
    let new = stage_of c.obey_command.new.kernel.machine c.obey_command.new.reading in
    more (CommandLeads c.read.result old new) (LineLeads line old new) (g.W.Write.contents c.args.writer.now) (g.W.Write.contents c.obey_command.new.writer)
    c.obey_command.result
    (λ out h. subst (λ (b : Bool). LeadsIf b line old new out) c.if-not-is_command_line.ensures
    (subst (λ (x : Command). CommandLeads x old new out) c.read.ensures h)) c.obey_command.ensures.leads
