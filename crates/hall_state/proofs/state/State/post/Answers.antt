use Rattle.std.proofs.Common.{◌++◌, ◌∷◌, [], ap, sym, ◌∙◌}
use Rattle.kernel_audit.specs.Request.{request_of}
use Rattle.kernel_audit.specs.Runs.{Machine}
use Rattle.kernel_audit.specs.Notes.{wished_in}
use Rattle.hall_state.proofs.Posts.{stands}
use Rattle.hall_state.proofs.BesidePosts.{many_wishes}
use Rattle.hall_state.proofs.state.State.post.Goals as goal

pub returns-in-Ok-clause-stands : goal.returns-in-Ok-clause-stands
returns-in-Ok-clause-stands g c =
    let q = c.in-Ok.ensures in
    let s = c.see-in-Ok.ensures in
    let seen = c.see.new.self in
    stands c.args.pass.now c.see.new.pass c.queue.new.pass c.see-in-Ok.new.pass seen.kernel.machine c.queue.new.self.kernel.machine (request_of c.args.job)
    c.args.wishes.now.items c.in-Ok.number (wished_in seen.notes) c.see.ensures.seen q.number q.posted q.counted s.seen s.front s.legal
    (many_wishes seen.settled seen.kernel.machine.minutes (wished_in seen.notes) seen.pending_results.items seen.beside)
    (ap wished_in s.notes ∙ q.wished) (s.closing ∙ ap (λ (m : Machine). m.closing) q.posted ∙ q.serves)
    (c.see.ensures.front ∙ sym (ap (λ k. k.machine.minutes) c.see.ensures.kernel))

pub returns-in-Ok-clause-pending_result : goal.returns-in-Ok-clause-pending_result
returns-in-Ok-clause-pending_result g c =
    let p = c.in-Ok.ensures.pending_result in (
      p.0,
      p.1,
      ap (λ v. v.items) c.see-in-Ok.ensures.pending_results ∙ p.2 ∙ ap (λ v. v.items ++ p.0 ∷ []) c.see.ensures.pending_results,
    )
