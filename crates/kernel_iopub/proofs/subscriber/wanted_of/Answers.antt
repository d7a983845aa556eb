use Rattle.std.proofs.Common.{rules, ◌≡◌, ◌+◌, ℕ, true, false, List, [], ◌∷◌, ◌++◌, take, sym, ap, ◌∙◌, subst}
use Rattle.std.proofs.lemmas.List.{take_more}
use Rattle.zmtp_peer.specs.Subscriptions.{IsWanted}
use Rattle.kernel_board.specs.Frames.{Frames, topic_of}
use Rattle.kernel_iopub.specs.Round.{AreWanted}
use Rattle.kernel_iopub.proofs.RoundLemmas.{wanted_more, unwanted_more}
use Rattle.kernel_iopub.proofs.subscriber.wanted_of.Goals as goal
use Rattle.kernel_iopub.proofs.subscriber.wanted_of.Goals.{then-wants+in-Ok+else-is_err, else-wants}

-- one broadcast more, which is kept where the peer wants it
pub loop-broadcast-preserved : goal.loop-broadcast-preserved
loop-broadcast-preserved c =
    let i = c.loop-broadcast.broadcast-index in
    let all = c.args.broadcasts.now in
    let b = c.broadcast-item.result in
    let old = c.loop-broadcast.kept.items in
    let e : take (i + 1) all ≡ take i all ++ b ∷ [] =
    take_more all i b c.loop-broadcast-test.true ∙ ap (λ (x : Frames). take i all ++ x ∷ []) (sym c.broadcast-item.is) in
    let is_topic : c.topic.result.now ≡ topic_of b = c.topic.ensures in
    elim c.if-wants.branch [
      | then-wants+in-Ok+else-is_err w ↦
          let t : c.wants.result ≡ true = w.if-wants.true in
          let is_copy : w.in-Ok.copy ≡ b = w.in-Ok.ensures.cases in
          let same : c.if-wants.kept.items ≡ old ++ b ∷ [] = search rules in
          λ fed given st.
          subst (λ (x : List Frames). AreWanted given x c.if-wants.kept.items) (sym e)
          (subst (λ (x : List Frames). AreWanted given (take i all ++ b ∷ []) x) (sym same)
          (wanted_more given (take i all) b old (c.loop-broadcast.invariant fed given st)
          (subst (λ (x : List ℕ). IsWanted given x) is_topic ((c.wants.ensures fed given st).0 t))))
      | else-wants w ↦
          let f : c.wants.result ≡ false = w.if-wants.false in
          let same : c.if-wants.kept.items ≡ old = ap (λ v. v.items) w.kept-is in
          λ fed given st.
          subst (λ (x : List Frames). AreWanted given x c.if-wants.kept.items) (sym e)
          (subst (λ (x : List Frames). AreWanted given (take i all ++ b ∷ []) x) (sym same)
          (unwanted_more given (take i all) b old (c.loop-broadcast.invariant fed given st)
          (λ v. let t : c.wants.result ≡ true = (c.wants.ensures fed given st).1 (subst (λ (x : List ℕ). IsWanted given x) (sym is_topic) v) in
          let bad : true ≡ false = sym t ∙ f in cc)))
    ]
