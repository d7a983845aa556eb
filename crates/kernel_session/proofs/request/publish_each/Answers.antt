use Rattle.std.proofs.Common.{arith, ◌≡◌, List, [], ◌∷◌, ◌++◌, map, sym, ap, ◌∙◌, subst}
use Rattle.std.proofs.lemmas.Grind.{common_steps}
use Rattle.std.proofs.lemmas.List.{map-append}
use Rattle.std.specs.Vec.Iter.{into_iter_items}
use Rattle.jupyter_msg.specs.Octets.{Octets}
use Rattle.jupyter_msg.specs.Message.{frames_of}
use Rattle.kernel_session.specs.Call.{Call, Leads, Published}
use Rattle.kernel_session.specs.Parts.{LedPart}
use Rattle.kernel_session.proofs.ActsLemmas.{leads_join}
use Rattle.kernel_session.proofs.RequestLemmas.{on_fail}
use Rattle.kernel_session.proofs.request.publish_each.Goals as goal

pub loop-broadcast-preserved : goal.loop-broadcast-preserved
loop-broadcast-preserved g c =
    let done = c.loop-broadcast.yielded in
    let b = c.in-Some.broadcast in
    let f = λ (o : Octets). Published (frames_of c.args.key.now o) in
    let rest : c.args.broadcasts.items ≡ (done ++ b ∷ []) ++ into_iter_items c.next.new.self = grind (arith, common_steps) in (
      subst (λ (calls : List Call). Leads g.D.Desk.leads c.args.desk.now calls c.publish.new.desk) (sym (map-append f done (b ∷ [])))
          (leads_join g.D.Desk.leads c.args.desk.now c.loop-broadcast.desk c.publish.new.desk (map f done)
          (f b ∷ []) c.loop-broadcast.invariant.0 c.in_ok-publish.ensures.ok),
      rest,
    )

pub returns-in_err-publish-clause-err : goal.returns-in_err-publish-clause-err
returns-in_err-publish-clause-err g c =
    let done = c.loop-broadcast.yielded in
    let left = into_iter_items c.loop-broadcast.broadcast-iterator in
    let f = λ (o : Octets). Published (frames_of c.args.key.now o) in
    on_fail c.from_residual.result (LedPart g.D.Desk.leads c.args.desk.now (map f c.args.broadcasts.items) c.publish.new.desk) (
      map f done,
      map f left,
      ap (map f) c.loop-broadcast.invariant.1 ∙ map-append f done left,
      subst (λ x. Leads g.D.Desk.leads c.args.desk.now (map f done) x) (sym c.in_err-publish.ensures.err) c.loop-broadcast.invariant.0,
    )
