use Rattle.std.proofs.Common.{◌+◌, ◌∙◌, ap, List, length, subst, sym, arith, vec_len}
use Rattle.std.specs.List.{flat_map}
use Rattle.zmtp_peer.specs.declared.event.PeerEvent.{PeerEvent}
use Rattle.zmtp_peer.specs.Events.{Event, events_of}
use Rattle.zmtp_peer.specs.Brought.{brought_told}
use Rattle.zmtp_peer.specs.Subscriptions.{HasRoom, is_named}
use Rattle.zmtp_peer.specs.Intake.{brought_in}
use Rattle.zmtp_peer.proofs.TableLemmas.{told-room}
use Rattle.zmtp_peer.proofs.TidyLemmas.{asked-named}
use Rattle.std.proofs.lemmas.Bool.{false≢true}
use mathlib.Core.Logic.{⊎_elim}
use Rattle.zmtp_peer.proofs.connection.Connection.tell.Goals as goal

pub count_events-requires : goal.count_events-requires
count_events-requires c =
    let events = c.tell-events.result in
    let table = c.args.self.now.counts in
    let intake = c.args.self.now.intake in
    let here : HasRoom (length events.items) table (events_of events.items) =
    subst (λ (es : List Event). HasRoom (length events.items) table es) (sym (rw c.replace-brought.ensures.value at c.tell-events.ensures.told))
    (told-room (vec_len intake.brought + 1) (length events.items) table intake.ready (flat_map (brought_told c.args.terms.role) (brought_in intake))
    c.requires.room (omega (arith, (rw c.replace-brought.ensures.value at c.tell-events.ensures.few), events.ok.0))) in
    subst (λ (es : List PeerEvent). HasRoom (length es) table (events_of es)) (sym c.deref.ensures.value) here

pub returns-clause-tidy : goal.returns-clause-tidy
returns-clause-tidy c q idle =
    let events = c.tell-events.result in
    let intake = c.args.self.now.intake in
    let dropped = c.drop_places.ensures.idle q idle in
    ⊎_elim
    (λ old. false≢true
    (sym dropped.1 ∙ ap (λ (es : List PeerEvent). is_named es q) c.deref-2.ensures.value
    ∙ asked-named c.args.terms.role intake.ready intake.brought.items events.items q (rw c.replace-brought.ensures.value at c.tell-events.ensures.told)
    (c.requires.idle q old)))
    (λ named. false≢true (sym dropped.1 ∙ ap (λ (es : List PeerEvent). is_named es q) (c.deref-2.ensures.value ∙ sym c.deref.ensures.value) ∙ named))
    (c.count_events.ensures.idle q dropped.0)
