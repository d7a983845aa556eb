use Rattle.std.proofs.Common.{ℕ, List, ap, subst, length, arith}
use Rattle.std.specs.List.{flat_map}
use Rattle.std.specs.Global.{Vec}
use Rattle.std.proofs.lemmas.List.{length-map}
use Rattle.zmtp_wire.specs.Message.{bodies_of}
use Rattle.kernel_iopub.specs.Signs.{Goes, gone, pong_signs}
use Rattle.kernel_iopub.proofs.half.look_and_answer.Goals as goal

-- all that waited is answered
pub returns-in-Ok-send_pongs-clause-ok : goal.returns-in-Ok-send_pongs-clause-ok
returns-in-Ok-send_pongs-clause-ok g c =
    let all = c.in-Ok.found.1.items in
    let items : Vec ℕ → List ℕ = λ v. v.items in
    let old = gone (g.W.Write.contents c.args.writer.now) (g.V.Watcher.notices c.args.watcher.now) in
    let new = gone (g.W.Write.contents c.send_pongs.new.writer) (g.V.Watcher.notices c.send_pongs.new.watcher) in (
      bodies_of all,
      c.in-Ok.ensures.asked,
      omega (arith, c.in-Ok.ensures.taken, c.deref.ensures.len, ap length c.deref.ensures.value, length-map all items),
      subst (λ (xs : List (Vec ℕ)). Goes old new (flat_map pong_signs (bodies_of xs))) c.deref.ensures.value c.in-Ok-send_pongs.ensures.ok,
    )
