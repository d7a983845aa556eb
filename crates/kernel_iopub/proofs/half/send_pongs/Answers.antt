use Rattle.std.proofs.Common.{◌≡◌, ◌+◌, ℕ, List, ◌++◌, ◌∷◌, [], take, drop, sym, ap, ◌∙◌, subst, append_assoc, append-nil}
use Rattle.std.specs.List.{flat_map}
use Rattle.std.specs.Global.{Vec}
use Rattle.std.proofs.lemmas.List.{take_more, map-append}
use Rattle.std.proofs.lemmas.Grind.{flat_map-append}
use Rattle.std.proofs.lemmas.List.Folds.{flat_map-map}
use Rattle.zmtp_wire.specs.Message.{bodies_of}
use Rattle.kernel_iopub.specs.Signs.{Sign, Goes, gone, pong_signs}
use Rattle.kernel_iopub.proofs.SignLemmas.{goes_none, goes_join}
use Rattle.kernel_iopub.proofs.RoundLemmas.{split_at}
use Rattle.kernel_iopub.proofs.half.send_pongs.Goals as goal

pub loop-context-init : goal.loop-context-init
loop-context-init g c = goes_none (gone (g.W.Write.contents c.args.writer.now) (g.V.Watcher.notices c.args.watcher.now))

-- one answer more
pub loop-context-preserved : goal.loop-context-preserved
loop-context-preserved g c =
    let i = c.loop-context.context-index in
    let all = c.args.contexts.now in
    let b = c.context-item.result in
    let items : Vec ℕ → List ℕ = λ v. v.items in
    let front = bodies_of (take i all) in
    let old = gone (g.W.Write.contents c.args.writer.now) (g.V.Watcher.notices c.args.watcher.now) in
    let mid = gone (g.W.Write.contents c.loop-context.writer) (g.V.Watcher.notices c.loop-context.watcher) in
    let new = gone (g.W.Write.contents c.send_answer.new.writer) (g.V.Watcher.notices c.send_answer.new.watcher) in
    let one : take (i + 1) all ≡ take i all ++ b ∷ [] =
    take_more all i b c.loop-context-test.true ∙ ap (λ (x : Vec ℕ). take i all ++ x ∷ []) (sym c.context-item.is) in
    let more : flat_map pong_signs (bodies_of (take (i + 1) all)) ≡ flat_map pong_signs front ++ pong_signs b.items =
    ap (λ (xs : List (Vec ℕ)). flat_map pong_signs (bodies_of xs)) one
    ∙ ap (λ (xs : List (List ℕ)). flat_map pong_signs xs) (map-append items (take i all) (b ∷ []))
    ∙ flat_map-append pong_signs front (b.items ∷ [])
    ∙ ap (λ (x : List Sign). flat_map pong_signs front ++ x) (append-nil (pong_signs b.items)) in
    subst (Goes old new) (sym more)
    (goes_join old mid new (flat_map pong_signs front) (pong_signs b.items) c.loop-context.invariant
    (subst (λ (x : List ℕ). Goes mid new (pong_signs x)) c.deref.ensures.value c.in-Ok.ensures.ok))

-- a beginning of one answer behind those before it
pub returns-in-Err-clause-err : goal.returns-in-Err-clause-err
returns-in-Err-clause-err g c =
    let i = c.loop-context.context-index in
    let all = c.args.contexts.now in
    let b = c.context-item.result in
    let q = c.in-Err.ensures.err in
    let items : Vec ℕ → List ℕ = λ v. v.items in
    let answer : Vec ℕ → List Sign = λ v. pong_signs v.items in
    let front = flat_map pong_signs (bodies_of (take i all)) in
    let behind = flat_map answer (drop (i + 1) all) in
    let this : answer b ≡ q.0 ++ q.1 = ap pong_signs (sym c.deref.ensures.value) ∙ q.2 in
    let all_is : flat_map pong_signs (bodies_of all) ≡ front ++ (answer b ++ behind) =
    flat_map-map pong_signs items all
    ∙ split_at answer all i b (take_more all i b c.loop-context-test.true ∙ ap (λ (x : Vec ℕ). take i all ++ x ∷ []) (sym c.context-item.is))
    ∙ ap (λ (x : List Sign). x ++ (answer b ++ behind)) (sym (flat_map-map pong_signs items (take i all))) in (
      front ++ q.0,
      q.1 ++ behind,
      all_is ∙ ap (λ (x : List Sign). front ++ (x ++ behind)) this ∙ ap (λ (x : List Sign). front ++ x) (append_assoc q.0 q.1 behind)
          ∙ sym (append_assoc front q.0 (q.1 ++ behind)),
      goes_join (gone (g.W.Write.contents c.args.writer.now) (g.V.Watcher.notices c.args.watcher.now))
          (gone (g.W.Write.contents c.loop-context.writer) (g.V.Watcher.notices c.loop-context.watcher))
          (gone (g.W.Write.contents c.send_answer.new.writer) (g.V.Watcher.notices c.send_answer.new.watcher)) front q.0 c.loop-context.invariant q.3,
    )
