use Rattle.std.proofs.Common.{ℕ, Ok, refl, sym, subst}
use Rattle.kernel_core.specs.Request.{request_of}
use Rattle.kernel_core.specs.Runs.{IsPost}
use Rattle.kernel_core.specs.outcome.Outcome.{Outcome}
use Rattle.kernel_server.specs.Jobs.{lane, RunsOut}
use Rattle.kernel_server.proofs.Ending.{run_stands}
use Rattle.kernel_server.proofs.Making.{run_made}
use Rattle.kernel_server.proofs.job.run_job.Goals as goal

pub told_of-requires-clause-still : goal.told_of-requires-clause-still
told_of-requires-clause-still g c =
    let p = c.in-Ok-run_out.ensures.ok in
    run_stands c.jobs_end_law.ensures c.args.kernel.now.machine p.0 c.run_out.new.kernel.machine c.args.slices.now.items c.run_out.new.slices.items
    (request_of c.args.job) _ _
    c.requires.idle c.requires.alone p.1 p.2

pub returns-in-Ok-run_out-clause-ok : goal.returns-in-Ok-run_out-clause-ok
returns-in-Ok-run_out-clause-ok g c =
    let old = c.args.kernel.now.machine in
    let new = c.run_out.new.kernel.machine in
    let given = c.args.slices.now.items in
    let left = c.run_out.new.slices.items in
    let p = c.in-Ok-run_out.ensures.ok in record {
      job = c.args.job;
      is_job = refl;
      posted = p.0;
      is_posted = subst (λ (n : ℕ). IsPost old lane (request_of c.args.job) (Ok n) p.0) (sym c.told_of.ensures.number) p.1;
      runs = subst (λ (o : Outcome). RunsOut p.0 given o new left) (sym c.told_of.ensures.outcome) p.2;
      told = c.told_of.ensures.told (request_of c.args.job)
          (run_made c.jobs_end_law.ensures old p.0 new given left (request_of c.args.job) _ _ c.world.ensures.legal.legal.rooted c.requires.idle
          c.requires.alone p.1 p.2);
    }
