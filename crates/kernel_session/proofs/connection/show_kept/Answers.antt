use Rattle.std.proofs.Common.{◌≡◌, ℕ, List, ◌++◌, refl, sym, ◌∙◌, subst}
use Rattle.std.specs.Io.KnownBytes.{Appends}
use Rattle.zmtp_peer.specs.Events.{Event}
use Rattle.zmtp_peer.specs.Reading.{Stands}
use Rattle.kernel_board.specs.Frames.{Frames}
use Rattle.kernel_session.specs.Call.{Kept}
use Rattle.exact_write.specs.Sent.{SentSome}
use Rattle.kernel_session.specs.Action.{Action, Acts}
use Rattle.kernel_session.specs.Closing.{AreShown, IsFarewell, IsFarewellPart}
use Rattle.kernel_session.specs.Parts.{ActedPart}
use Rattle.kernel_session.proofs.RequestLemmas.{on_ok, on_err}
use Rattle.kernel_session.proofs.ClosingLemmas.{farewell_whole, farewell_part, farewell_none}
use Rattle.kernel_session.proofs.connection.show_kept.Goals as goal

pub returns-in-Err-clause-err : goal.returns-in-Err-clause-err
returns-in-Err-clause-err g c fed given st =
    farewell_none g.W.Write.contents g.D.Desk.leads c.args.writer.now c.args.writer.now c.args.desk.now c.broadcasts.new.self given c.in-Err.ensures.err refl

pub returns-clause-ok : goal.returns-clause-ok
returns-clause-ok g c =
    let old = g.W.Write.contents c.args.writer.now in
    let new = g.W.Write.contents c.show_all.new.writer in
    let kept = c.deref.result.now in
    on_ok c.show_all.result
    ((fed : List ℕ) (given : List Event) → Stands fed given c.args.peer.now → (octets : List ℕ) × AreShown given kept octets × Appends old new octets)
    ((fed : List ℕ) (given : List Event) → Stands fed given c.args.peer.now → (closing : List Action) × IsFarewell given closing
    × Acts g.W.Write.contents g.D.Desk.leads c.args.writer.now c.show_all.new.writer c.args.desk.now c.broadcasts.new.self closing)
    (λ p fed given st.
    let q = p fed given st in
    farewell_whole g.W.Write.contents g.D.Desk.leads c.args.writer.now c.show_all.new.writer c.args.desk.now c.broadcasts.new.self given kept
    (subst (λ (x : List Frames). g.D.Desk.leads c.args.desk.now (Kept x) c.broadcasts.new.self) (sym c.deref.ensures.value) c.in-Ok.ensures.ok) q.0 q.1 q.2)
    c.show_all.ensures.ok

pub returns-clause-err : goal.returns-clause-err
returns-clause-err g c =
    let old = g.W.Write.contents c.args.writer.now in
    let new = g.W.Write.contents c.show_all.new.writer in
    let kept = c.deref.result.now in
    on_err c.show_all.result
    ((fed : List ℕ) (given : List Event) → Stands fed given c.args.peer.now → (front : List Frames) × (more : List Frames) × (kept ≡ front ++ more)
    × (octets : List ℕ) × AreShown given front octets × SentSome old new octets)
    ((fed : List ℕ) (given : List Event) → Stands fed given c.args.peer.now → (closing : List Action) × IsFarewellPart given closing
    × ActedPart g.W.Write.contents g.D.Desk.leads c.args.writer.now c.show_all.new.writer c.args.desk.now c.broadcasts.new.self closing)
    (λ p fed given st.
    let q = p fed given st in
    farewell_part g.W.Write.contents g.D.Desk.leads c.args.writer.now c.show_all.new.writer c.args.desk.now c.broadcasts.new.self given q.0 q.1
    (subst (λ (x : List Frames). g.D.Desk.leads c.args.desk.now (Kept x) c.broadcasts.new.self) (sym c.deref.ensures.value ∙ q.2) c.in-Ok.ensures.ok)
    q.3 q.4 q.5)
    c.show_all.ensures.err
