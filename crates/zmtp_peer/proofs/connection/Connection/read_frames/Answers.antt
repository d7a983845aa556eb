use Rattle.zmtp_peer.specs.Subscriptions.{is_asked}
use Rattle.zmtp_peer.proofs.TidyLemmas.{tidy-again}
use Rattle.zmtp_peer.proofs.connection.Connection.read_frames.Goals as goal

pub returns-in-Err-clause-tidy : goal.returns-in-Err-clause-tidy
returns-in-Err-clause-tidy c =
    let gathered = c.gather-gathered.new in
    tidy-again (is_asked c.args.terms.role gathered.intake.brought.items) c.args.self.now.counts gathered.counts c.release.new.counts
    c.requires.connection.1 c.in-Err.ensures.idle (rw c.deref.ensures.value at c.release.ensures.idle)
