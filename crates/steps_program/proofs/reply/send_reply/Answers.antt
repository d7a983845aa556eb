use Rattle.std.proofs.Common.{codes, refl, ap}
use Rattle.steps_program.specs.declared.talk.Reply.TheVariants as reply
use Rattle.steps_program.specs.Told.{refused_line, bad_command, no_memory, not_in_sight, counted_line}
use Rattle.steps_program.proofs.Saying.{said, said_so, said_nothing}
use Rattle.steps_program.proofs.reply.send_reply.Goals as goal

pub returns-in-Refused : goal.returns-in-Refused
returns-in-Refused g c =
    let a = g.W.Write.contents c.args.writer.now in
    let b = g.W.Write.contents c.send_refused.new.writer in
    said c.args.sources.now c.args.walk.now c.args.reply (reply.Refused c.in-Refused.fault) c.in-Refused.is a b c.send_refused.result
    (refused_line c.in-Refused.fault) refl c.send_refused.ensures

pub returns-in-Unknown : goal.returns-in-Unknown
returns-in-Unknown g c =
    let a = g.W.Write.contents c.args.writer.now in
    let b = g.W.Write.contents c.send.new.writer in
    said c.args.sources.now c.args.walk.now c.args.reply reply.Unknown c.in-Unknown.is a b c.send.result
    bad_command refl c.send.ensures.ok

pub returns-in-NoMemory : goal.returns-in-NoMemory
returns-in-NoMemory g c =
    let a = g.W.Write.contents c.args.writer.now in
    let b = g.W.Write.contents c.send_no_memory.new.writer in
    said c.args.sources.now c.args.walk.now c.args.reply reply.NoMemory c.in-NoMemory.is a b c.send_no_memory.result
    no_memory refl c.send_no_memory.ensures.ok

pub returns-in-NotInSight : goal.returns-in-NotInSight
returns-in-NotInSight g c =
    let a = g.W.Write.contents c.args.writer.now in
    let b = g.W.Write.contents c.send-in-NotInSight.new.writer in
    said c.args.sources.now c.args.walk.now c.args.reply reply.NotInSight c.in-NotInSight.is a b c.send-in-NotInSight.result
    not_in_sight refl c.send-in-NotInSight.ensures.ok

pub returns-in-CallLeft : goal.returns-in-CallLeft
returns-in-CallLeft g c =
    let a = g.W.Write.contents c.args.writer.now in
    let b = g.W.Write.contents c.send_left.new.writer in
    said_so c.args.sources.now c.args.walk.now c.args.reply reply.CallLeft c.in-CallLeft.is a b c.send_left.result c.send_left.ensures

pub returns-in-Count : goal.returns-in-Count
returns-in-Count g c =
    let a = g.W.Write.contents c.args.writer.now in
    let b = g.W.Write.contents c.send_counted_line.new.writer in
    said c.args.sources.now c.args.walk.now c.args.reply reply.Count c.in-Count.is a b c.send_counted_line.result
    (counted_line (codes "steps ") c.count.result) (ap (counted_line (codes "steps ")) c.count.ensures) c.send_counted_line.ensures

pub returns-in-Nothing : goal.returns-in-Nothing
returns-in-Nothing g c =
    let a = g.W.Write.contents c.args.writer.now in
    said_nothing c.args.sources.now c.args.walk.now c.args.reply reply.Nothing c.in-Nothing.is a a refl

pub returns-in-Came : goal.returns-in-Came
returns-in-Came g c =
    let a = g.W.Write.contents c.args.writer.now in
    let b = g.W.Write.contents c.send_came.new.writer in
    said_so c.args.sources.now c.args.walk.now c.args.reply (reply.Came c.in-Came.came) c.in-Came.is a b c.send_came.result c.send_came.ensures

pub returns-in-Sought : goal.returns-in-Sought
returns-in-Sought g c =
    let a = g.W.Write.contents c.args.writer.now in
    let b = g.W.Write.contents c.send_sought.new.writer in
    said_so c.args.sources.now c.args.walk.now c.args.reply (reply.Sought c.in-Sought.came) c.in-Sought.is a b c.send_sought.result c.send_sought.ensures

pub returns-in-Names : goal.returns-in-Names
returns-in-Names g c =
    let a = g.W.Write.contents c.args.writer.now in
    let b = g.W.Write.contents c.send_names.new.writer in
    said_so c.args.sources.now c.args.walk.now c.args.reply reply.Names c.in-Names.is a b c.send_names.result c.send_names.ensures

pub returns-in-Place : goal.returns-in-Place
returns-in-Place g c =
    let a = g.W.Write.contents c.args.writer.now in
    let b = g.W.Write.contents c.send_where.new.writer in
    said_so c.args.sources.now c.args.walk.now c.args.reply reply.Place c.in-Place.is a b c.send_where.result c.send_where.ensures

pub returns-in-Calls : goal.returns-in-Calls
returns-in-Calls g c =
    let a = g.W.Write.contents c.args.writer.now in
    let b = g.W.Write.contents c.send_calls.new.writer in
    said_so c.args.sources.now c.args.walk.now c.args.reply reply.Calls c.in-Calls.is a b c.send_calls.result c.send_calls.ensures

pub returns-in-Lines : goal.returns-in-Lines
returns-in-Lines g c =
    let a = g.W.Write.contents c.args.writer.now in
    let b = g.W.Write.contents c.send_list.new.writer in
    said_so c.args.sources.now c.args.walk.now c.args.reply reply.Lines c.in-Lines.is a b c.send_list.result c.send_list.ensures
