use Rattle.std.proofs.Common.{◌≡◌, ◌-◌, length, ap, sym, subst, arith}
use Rattle.janus_machine.specs.Cursor.{calls_of}
use Rattle.janus_machine.specs.Whereabouts.{IsCallOf}
use Rattle.kernel_runner.specs.declared.runner.Runner.{Runner}
use Rattle.steps_walk.specs.Walk.{runner_of, calls_in}
use Rattle.steps_walk.specs.Standing.{IsMetAt, IsMetHere, HasBody}
use Rattle.steps_walk.proofs.MetBodies.{met_here, called_here, call_runs}
use Rattle.steps_walk.proofs.Options.{on_ok, on_err}
use Rattle.steps_walk.proofs.walk.Walk.meet_here.Goals as goal

pub returns-clause-met : goal.returns-clause-met
returns-clause-met g c =
    let w = c.args.self.now in
    let new = c.meet.new.self in
    let r = c.open_call-number.result in
    let is = c.open_call-number.ensures in
    let same = sym c.meet.ensures.kept.runner in
    let many = c.open_calls-open.ensures in
    let size : calls_in w ≡ calls_in new = ap (λ (x : Runner g.row.L.Denot). length (calls_of x.cursor)) same in
    let some = c.if-open-eq0.false in
    let there : IsCallOf (runner_of new).cursor (calls_in new - 1) r =
    subst (λ (x : Runner g.row.L.Denot). IsCallOf x.cursor (length (calls_of x.cursor) - 1) r) same
    (subst (λ n. IsCallOf (runner_of w).cursor (n - 1) r) many is) in
    let has = subst (HasBody w) (sym is.procedure) (call_runs w c.requires (c.open_calls-open.result - 1) is.call is.there) in
    on_ok c.meet.result (HasBody w r.procedure → IsMetAt new r.procedure) (IsMetHere new)
    (λ f. met_here new r (omega (arith, many, size, some)) there (f has)) c.meet.ensures.met

pub returns-clause-err : goal.returns-clause-err
returns-clause-err g c =
    let w = c.args.self.now in
    let new = c.meet.new.self in
    let r = c.open_call-number.result in
    let is = c.open_call-number.ensures in
    let same = sym c.meet.ensures.kept.runner in
    let many = c.open_calls-open.ensures in
    let size : calls_in w ≡ calls_in new = ap (λ (x : Runner g.row.L.Denot). length (calls_of x.cursor)) same in
    let some = c.if-open-eq0.false in
    let there : IsCallOf (runner_of new).cursor (calls_in new - 1) r =
    subst (λ (x : Runner g.row.L.Denot). IsCallOf x.cursor (length (calls_of x.cursor) - 1) r) same
    (subst (λ n. IsCallOf (runner_of w).cursor (n - 1) r) many is) in
    on_err c.meet.result (IsMetAt new r.procedure → ⊥) (IsMetHere new → ⊥)
    (λ f met. f (called_here new r (omega (arith, many, size, some)) there met)) c.meet.ensures.err
