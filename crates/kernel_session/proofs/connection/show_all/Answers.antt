use Rattle.std.proofs.Common.{◌≡◌, ◌+◌, ℕ, List, [], ◌∷◌, ◌++◌, take, drop, get_or, sym, ap, ◌∙◌, subst, append_assoc}
use Rattle.std.proofs.lemmas.List.{take_more, take-append-drop}
use Rattle.kernel_board.specs.Frames.{Frames}
use Rattle.kernel_session.specs.Closing.{IsShown, AreShown}
use Rattle.exact_write.proofs.SendLemmas.{appends_join}
use Rattle.kernel_session.proofs.ClosingLemmas.{shown_more}
use Rattle.zmtp_peer.specs.Events.{Event}
use Rattle.kernel_session.proofs.connection.show_all.Goals as goal

-- the broadcasts up to the next one, and it
shown_next : (events : List Event) (all : List Frames) (i : ℕ) (item : Frames) (octets more : List ℕ) → take (i + 1) all ≡ take i all ++ get_or all i item ∷ []
    → item ≡ get_or all i item → AreShown events (take i all) octets → IsShown events item more → AreShown events (take (i + 1) all) (octets ++ more)
shown_next events all i item octets more e is p q =
    subst (λ (x : List Frames). AreShown events x (octets ++ more)) (sym e)
    (shown_more events (take i all) (get_or all i item) octets more p (subst (λ (x : Frames). IsShown events x more) is q))

pub loop-broadcast-preserved : goal.loop-broadcast-preserved
loop-broadcast-preserved g c fed given st =
    let i = c.loop-broadcast.broadcast-index in
    let all = c.args.broadcasts.now in
    let b = c.broadcast-item.result in
    let p = c.loop-broadcast.invariant fed given st in
    let q = c.in-Ok.ensures.ok fed given st in (
      p.0 ++ q.0,
      shown_next given all i b p.0 q.0 (take_more all i b c.loop-broadcast-test.true) c.broadcast-item.is p.1 q.1,
      appends_join (g.W.Write.contents c.args.writer.now) (g.W.Write.contents c.loop-broadcast.writer) (g.W.Write.contents c.show.new.writer) p.0 q.0 p.2 q.2,
    )

pub returns-in-Err-clause-err : goal.returns-in-Err-clause-err
returns-in-Err-clause-err g c fed given st =
    let i = c.loop-broadcast.broadcast-index in
    let all = c.args.broadcasts.now in
    let b = c.broadcast-item.result in
    let p = c.loop-broadcast.invariant fed given st in
    let q = c.in-Err.ensures.err fed given st in (
      take (i + 1) all,
      drop (i + 1) all,
      sym (take-append-drop (i + 1) all),
      p.0 ++ q.0,
      shown_next given all i b p.0 q.0 (take_more all i b c.loop-broadcast-test.true) c.broadcast-item.is p.1 q.1,
      (
        p.0 ++ q.2.0,
        q.2.1,
        ap (λ (x : List ℕ). p.0 ++ x) q.2.2 ∙ sym (append_assoc p.0 q.2.0 q.2.1),
        appends_join (g.W.Write.contents c.args.writer.now) (g.W.Write.contents c.loop-broadcast.writer) (g.W.Write.contents c.show.new.writer)
            p.0 q.2.0 p.2 q.2.3,
      ),
    )
