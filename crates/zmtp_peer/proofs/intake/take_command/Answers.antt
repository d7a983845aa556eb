use Rattle.zmtp_peer.specs.Events.{bodies, event_of}
use Rattle.zmtp_peer.specs.Brought.{OfCommand}
use Rattle.zmtp_peer.specs.Intake.{brought_in}
use Rattle.zmtp_peer.proofs.FrameLemmas.{keeps-told, keeps-added}
use Rattle.zmtp_peer.proofs.intake.take_command.Goals as goal

pub returns-in-Event-clause-kept : goal.returns-in-Event-clause-kept
returns-in-Event-clause-kept c =
    let intake = c.args.intake.now in
    let event = event_of c.in-Event.event in
    keeps-added c.add_event.result intake.brought.items c.add_event.new.brought.items (OfCommand event) (bodies intake.held.items)
    (keeps-told (brought_in intake) (bodies intake.held.items) event) c.add_event.ensures.ok c.add_event.ensures.err
