use Rattle.std.proofs.Common.{◌≡◌, ◌+◌, ◌++◌, ◌∷◌, [], List, take, drop, sym, ap, refl, ◌∙◌, subst, append_assoc}
use Rattle.std.proofs.lemmas.List.{take_more, take-append-drop}
use Rattle.kernel_board.specs.Frames.{Frames}
use Rattle.kernel_iopub.specs.Round.{AreToldTo, AreToldInPart}
use Rattle.kernel_iopub.proofs.ServedLemmas.{none_told, told_on, told_in_part}
use Rattle.kernel_iopub.specs.Signs.{gone}
use Rattle.kernel_iopub.proofs.half.send_all.Goals as goal

pub loop-broadcast-init : goal.loop-broadcast-init
loop-broadcast-init g c = record {
  told = none_told c.args.share.now.amount (gone (g.W.Write.contents c.args.writer.now)
      (g.V.Watcher.notices c.args.watcher.now));
  parts = refl;
}

-- one broadcast more
pub loop-broadcast-preserved : goal.loop-broadcast-preserved
loop-broadcast-preserved g c =
    let i = c.loop-broadcast.broadcast-index in
    let all = c.args.broadcasts.now in
    let b = c.broadcast-item.result in
    let one : take (i + 1) all ≡ take i all ++ b ∷ [] =
    take_more all i b c.loop-broadcast-test.true ∙ ap (λ (x : Frames). take i all ++ x ∷ []) (sym c.broadcast-item.is) in
    let old = gone (g.W.Write.contents c.args.writer.now) (g.V.Watcher.notices c.args.watcher.now) in
    let new = gone (g.W.Write.contents c.send_next.new.writer) (g.V.Watcher.notices c.send_next.new.watcher) in
    let taken = c.args.share.now.amount in
    let behind = c.send_next.new.share.amount in
    record {
      told = subst (λ (bs : List Frames). AreToldTo taken old new bs behind) (sym one)
          (told_on taken c.loop-broadcast.share.amount behind old (gone (g.W.Write.contents c.loop-broadcast.writer)
          (g.V.Watcher.notices c.loop-broadcast.watcher)) new (take i all) (b ∷ [])
          c.loop-broadcast.invariant.told c.in-Ok.ensures.ok);
      parts = c.send_next.ensures.parts ∙ c.loop-broadcast.invariant.parts;
    }

-- a beginning of one behind those before it
pub returns-in-Err-clause-err : goal.returns-in-Err-clause-err
returns-in-Err-clause-err g c =
    let i = c.loop-broadcast.broadcast-index in
    let all = c.args.broadcasts.now in
    let b = c.broadcast-item.result in
    let later = drop (i + 1) all in
    let one : take (i + 1) all ≡ take i all ++ b ∷ [] =
    take_more all i b c.loop-broadcast-test.true ∙ ap (λ (x : Frames). take i all ++ x ∷ []) (sym c.broadcast-item.is) in
    let whole : take i all ++ b ∷ later ≡ all =
    sym (append_assoc (take i all) (b ∷ []) later) ∙ ap (λ (bs : List Frames). bs ++ later) (sym one) ∙ take-append-drop (i + 1) all in
    let old = gone (g.W.Write.contents c.args.writer.now) (g.V.Watcher.notices c.args.watcher.now) in
    let new = gone (g.W.Write.contents c.send_next.new.writer) (g.V.Watcher.notices c.send_next.new.watcher) in
    let taken = c.args.share.now.amount in
    subst (λ (bs : List Frames). AreToldInPart taken old new bs) whole
    (told_in_part taken c.loop-broadcast.share.amount old (gone (g.W.Write.contents c.loop-broadcast.writer) (g.V.Watcher.notices c.loop-broadcast.watcher)) new
    (take i all) b later c.loop-broadcast.invariant.told
    c.in-Err.ensures.err)
