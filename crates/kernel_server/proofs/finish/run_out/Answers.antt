use Rattle.std.proofs.Common.{◌≡◌, refl, Ok}
use Rattle.kernel_core.specs.Request.{Request, request_of}
use Rattle.kernel_core.specs.Runs.{Machine, IsPost, IsBegin}
use Rattle.kernel_core.specs.State.{Idle}
use Rattle.kernel_core.specs.outcome.Begun.{Begun}
use Rattle.kernel_core.proofs.Taken.{Took}
use Rattle.kernel_server.proofs.Turns.{IsAlone, posted_alone, begun_alone}
use Rattle.kernel_server.proofs.Ending.{begun_at_once, begun_later}
use Rattle.kernel_server.proofs.finish.run_out.Goals as goal

-- what the begin of a job tells that stands alone in the queue
took : (posted new : Machine) (r : Request) (told : Begun) → (posted.state.job ≡ Idle) × IsAlone posted r → IsBegin posted told new → Took told new.state.job
took posted new r told alone b = (begun_alone posted new r told alone.0 alone.1 b).0

pub finish-outcome-requires : goal.finish-outcome-requires
finish-outcome-requires g c =
    took c.post.new.self.machine c.begin.new.self.machine (request_of c.args.job) _
    (posted_alone c.args.kernel.now.machine c.post.new.self.machine (request_of c.args.job) _ c.requires.idle c.requires.alone c.in_ok-number.ensures.post)
    c.in-Going.ensures.begin

pub returns-in-Ended-clause-ok : goal.returns-in-Ended-clause-ok
returns-in-Ended-clause-ok g c = (
  c.post.new.self.machine,
  c.in_ok-number.ensures.post,
  begun_at_once c.post.new.self.machine c.begin.new.self.machine c.args.slices.now.items c.args.slices.now.items _ c.in-Ended.ensures.begin refl,
)

pub returns-in-Ended-clause-idle : goal.returns-in-Ended-clause-idle
returns-in-Ended-clause-idle g c =
    took c.post.new.self.machine c.begin.new.self.machine (request_of c.args.job) _
    (posted_alone c.args.kernel.now.machine c.post.new.self.machine (request_of c.args.job) _ c.requires.idle c.requires.alone c.in_ok-number.ensures.post)
    c.in-Ended.ensures.begin

pub returns-in-Going-clause-ok : goal.returns-in-Going-clause-ok
returns-in-Going-clause-ok g c = (
  c.post.new.self.machine,
  c.in_ok-number.ensures.post,
  begun_later c.args.slices.now.items c.finish-outcome.new.slices.items c.finish-outcome.result c.finish-outcome.new.kernel.machine c.post.new.self.machine
      c.begin.new.self.machine c.in-Going.ensures.begin c.finish-outcome.ensures.finishes,
)
