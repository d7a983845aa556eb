use Rattle.zmtp_peer.specs.Opening.{opening_of}
use Rattle.kernel_session.specs.Action.{sends}
use Rattle.kernel_session.specs.Session.{going, role_of}
use Rattle.kernel_server.proofs.Courses.{connection_ran}
use Rattle.kernel_server.proofs.session.serve_lone.Goals as goal

pub returns-clause-ran : goal.returns-clause-ran
returns-clause-ran g c =
    let h = c.serve.ensures.session in
    connection_ran g.W.Write.contents g.V.Watcher.notices c.args.socket c.args.key.now (sends (opening_of (role_of c.args.socket)))
    c.args.writer.now c.serve.new.writer c.args.desk.now c.serve.new.desk
    c.args.watcher.now c.serve.new.watcher (going c.args.stamp.now) c.serve.new.stamp c.serve.result h.0 (g.R.Read.remaining c.serve.new.reader) h.2
