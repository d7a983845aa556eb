use Rattle.std.proofs.Common.{◌≡◌, ◌∙◌, subst, sym}
use Rattle.kernel_core.specs.Runs.{Machine, IsPost, IsBegin}
use Rattle.kernel_core.specs.Request.{Request, request_of}
use Rattle.kernel_core.specs.State.{Idle}
use Rattle.kernel_core.specs.outcome.Begun.{Begun}
use Rattle.cells_program.specs.Served.{lane, not_posted, at_once, later}
use Rattle.kernel_core.proofs.Taken.{Took}
use Rattle.cells_program.proofs.Serving.{IsAlone, posted_alone, begun_alone, begun_cell, cell_as, move_as}
use Rattle.std.proofs.lemmas.Result.{err_from_is_err_and}
use Rattle.cells_program.proofs.serve.serve.Goals as goal

-- what a begin told, at its answer
begun_as : (old new : Machine) (r : Request) (told as_told : Begun) → told ≡ as_told → (old.state.job ≡ Idle) × IsAlone old r → IsBegin old told new →
    IsBegin old as_told new × Took as_told new.state.job
begun_as old new r told as_told e alone h =
    let s = subst (λ t. IsBegin old t new) e h in (s, (begun_alone old new r as_told alone.0 alone.1 s).0)

pub returns-in_err-post-clause-err : goal.returns-in_err-post-clause-err
returns-in_err-post-clause-err g c =
    let p = err_from_is_err_and c.from_residual.result c.from_residual.ensures.1 in
    rw (p.1, p.2)
    (not_posted (subst (λ r. IsPost c.args.kernel.now.machine lane (request_of c.args.job) r c.post.new.self.machine)
    c.in_err-post.was c.post.ensures.post))

pub returns-in-Ended-clause-ok : goal.returns-in-Ended-clause-ok
returns-in-Ended-clause-ok g c =
    let p = subst (λ r. IsPost c.args.kernel.now.machine lane (request_of c.args.job) r c.post.new.self.machine) c.in_ok-post.was c.post.ensures.post in
    at_once p (subst (λ t. IsBegin c.post.new.self.machine t c.begin.new.self.machine) c.in-Ended.is c.begin.ensures.begin)

pub returns-in-Ended-clause-idle : goal.returns-in-Ended-clause-idle
returns-in-Ended-clause-idle g c =
    let p = subst (λ r. IsPost c.args.kernel.now.machine lane (request_of c.args.job) r c.post.new.self.machine) c.in_ok-post.was c.post.ensures.post in
    let alone = posted_alone c.args.kernel.now.machine c.post.new.self.machine (request_of c.args.job) _ c.requires.idle c.requires.alone p in
    (begun_as c.post.new.self.machine c.begin.new.self.machine (request_of c.args.job) c.begin.result _ c.in-Ended.is alone c.begin.ensures.begin).1

pub finish_cell-requires : goal.finish_cell-requires
finish_cell-requires g c =
    let p = subst (λ r. IsPost c.args.kernel.now.machine lane (request_of c.args.job) r c.post.new.self.machine) c.in_ok-post.was c.post.ensures.post in
    let alone = posted_alone c.args.kernel.now.machine c.post.new.self.machine (request_of c.args.job) _ c.requires.idle c.requires.alone p in
    begun_cell c.post.new.self.machine c.begin.new.self.machine (request_of c.args.job) (sym c.is_cell-is_cell.ensures ∙ c.if-is_cell.true) alone.0 alone.1
    (subst (λ t. IsBegin c.post.new.self.machine t c.begin.new.self.machine) c.in-Going.is c.begin.ensures.begin)

pub finish-requires : goal.finish-requires
finish-requires g c =
    let p = subst (λ r. IsPost c.args.kernel.now.machine lane (request_of c.args.job) r c.post.new.self.machine) c.in_ok-post.was c.post.ensures.post in
    let alone = posted_alone c.args.kernel.now.machine c.post.new.self.machine (request_of c.args.job) _ c.requires.idle c.requires.alone p in
    (begun_as c.post.new.self.machine c.begin.new.self.machine (request_of c.args.job) c.begin.result _ c.in-Going-2.is alone c.begin.ensures.begin).1

pub returns-in-Going-clause-ok : goal.returns-in-Going-clause-ok
returns-in-Going-clause-ok g c =
    let p = subst (λ r. IsPost c.args.kernel.now.machine lane (request_of c.args.job) r c.post.new.self.machine) c.in_ok-post.was c.post.ensures.post in
    later p (subst (λ t. IsBegin c.post.new.self.machine t c.begin.new.self.machine) c.in-Going.is c.begin.ensures.begin)
    (cell_as c.args.steps (request_of c.args.job) c.begin.new.self.machine c.finish_cell.new.kernel.machine c.finish_cell.result
    (sym c.is_cell-is_cell.ensures ∙ c.if-is_cell.true) c.finish_cell.ensures.finishes)

pub returns-in-Going-2-clause-ok : goal.returns-in-Going-2-clause-ok
returns-in-Going-2-clause-ok g c =
    let p = subst (λ r. IsPost c.args.kernel.now.machine lane (request_of c.args.job) r c.post.new.self.machine) c.in_ok-post.was c.post.ensures.post in
    later p (subst (λ t. IsBegin c.post.new.self.machine t c.begin.new.self.machine) c.in-Going-2.is c.begin.ensures.begin)
    (move_as c.args.steps (request_of c.args.job) c.begin.new.self.machine c.finish.new.kernel.machine c.finish.result
    (sym c.is_cell-is_cell.ensures ∙ c.if-is_cell.false) c.finish.ensures.finishes)
