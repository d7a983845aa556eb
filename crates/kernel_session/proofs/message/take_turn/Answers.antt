use Rattle.std.proofs.Common.{[], ◌∷◌, inl, inr, refl, subst}
use Rattle.jupyter_msg.specs.Octets.{octets}
use Rattle.kernel_watch.specs.declared.notice.Notice.TheVariants as notice
use Rattle.kernel_session.specs.Action.{Told}
use Rattle.kernel_session.specs.Parts.{IsRead}
use Rattle.kernel_session.proofs.ActsLemmas.{told_none, told_one}
use Rattle.kernel_session.proofs.EventLemmas.{turn_whole, turn_part}
use Rattle.kernel_session.proofs.message.take_turn.Goals as goal

pub returns-in-Ok-Asked-clause-ok : goal.returns-in-Ok-Asked-clause-ok
returns-in-Ok-Asked-clause-ok g c =
    turn_whole g.W.Write.contents g.D.Desk.leads g.V.Watcher.notices c.args.key.now c.args.writer.now c.attend.new.writer c.args.desk.now c.attend.new.desk
    c.args.stamp.now c.attend.new.stamp c.args.socket (octets c.args.frames.items) c.args.watcher.now c.tell.new.self c.attend.new.watcher
    c.in-Ok-Asked.request
    (subst (IsRead c.args.socket c.args.key.now (octets c.args.frames.items)) c.in-Ok-Asked.field-0-is c.in-Ok-Asked.ensures.ok)
    c.tell.ensures c.attend.result c.attend.ensures.ok

pub returns-in-Ok-Asked-clause-err : goal.returns-in-Ok-Asked-clause-err
returns-in-Ok-Asked-clause-err g c =
    turn_part g.W.Write.contents g.D.Desk.leads g.V.Watcher.notices c.args.key.now c.args.writer.now c.attend.new.writer c.args.desk.now c.attend.new.desk
    c.args.stamp.now c.attend.new.stamp c.args.socket (octets c.args.frames.items) c.args.watcher.now c.tell.new.self c.attend.new.watcher
    c.in-Ok-Asked.request
    (subst (IsRead c.args.socket c.args.key.now (octets c.args.frames.items)) c.in-Ok-Asked.field-0-is c.in-Ok-Asked.ensures.ok)
    c.tell.ensures c.attend.result c.attend.ensures.err

pub returns-in-Ok-Nothing-clause-ok : goal.returns-in-Ok-Nothing-clause-ok
returns-in-Ok-Nothing-clause-ok g c =
    let read = subst (IsRead c.args.socket c.args.key.now (octets c.args.frames.items)) c.in-Ok-Nothing.field-0-is c.in-Ok-Nothing.ensures.ok in (
      Told notice.Signed ∷ [],
      inr (inl (read, ([], record { quiet = refl; same = refl }, refl))),
      told_one g.W.Write.contents g.D.Desk.leads g.V.Watcher.notices c.args.writer.now c.args.desk.now c.args.watcher.now c.tell-in-Ok-Nothing.new.self
          notice.Signed c.tell-in-Ok-Nothing.ensures,
    )

pub returns-in-Ok-NoMessage-clause-ok : goal.returns-in-Ok-NoMessage-clause-ok
returns-in-Ok-NoMessage-clause-ok g c =
    let read = subst (IsRead c.args.socket c.args.key.now (octets c.args.frames.items)) c.in-Ok-NoMessage.field-0-is c.in-Ok-NoMessage.ensures.ok in (
      [],
      inr (inr (read, record { quiet = refl; same = refl })),
      told_none g.W.Write.contents g.D.Desk.leads g.V.Watcher.notices c.args.writer.now c.args.desk.now c.args.watcher.now,
    )
