use Rattle.std.proofs.Common.{inl, inr, refl, sym, subst}
use Rattle.steps_program.specs.Told.{Answers, no_memory}
use Rattle.steps_program.proofs.Telling.{told, told_some}
use Rattle.steps_program.proofs.reply.answer.Goals as goal

pub returns-in-Ok-clause-ok : goal.returns-in-Ok-clause-ok
returns-in-Ok-clause-ok g c =
    told (Answers c.args.sources.now c.args.reply c.args.walk.now) (g.W.Write.contents c.args.writer.now) (g.W.Write.contents c.send.new.writer)
    c.deref.result.now c.send.result
    (subst (Answers c.args.sources.now c.args.reply c.args.walk.now) (sym c.deref.ensures.value) (inl c.in-Ok.ensures)) c.send.ensures.ok

pub returns-in-Ok-clause-err : goal.returns-in-Ok-clause-err
returns-in-Ok-clause-err g c =
    told_some (Answers c.args.sources.now c.args.reply c.args.walk.now) (g.W.Write.contents c.args.writer.now) (g.W.Write.contents c.send.new.writer)
    c.deref.result.now c.send.result
    (subst (Answers c.args.sources.now c.args.reply c.args.walk.now) (sym c.deref.ensures.value) (inl c.in-Ok.ensures)) c.send.ensures.err

pub returns-in-Err-clause-ok : goal.returns-in-Err-clause-ok
returns-in-Err-clause-ok g c =
    told (Answers c.args.sources.now c.args.reply c.args.walk.now) (g.W.Write.contents c.args.writer.now) (g.W.Write.contents c.send_no_memory.new.writer)
    no_memory c.send_no_memory.result (inr refl) c.send_no_memory.ensures.ok

pub returns-in-Err-clause-err : goal.returns-in-Err-clause-err
returns-in-Err-clause-err g c =
    told_some (Answers c.args.sources.now c.args.reply c.args.walk.now) (g.W.Write.contents c.args.writer.now) (g.W.Write.contents c.send_no_memory.new.writer)
    no_memory c.send_no_memory.result (inr refl) c.send_no_memory.ensures.err
