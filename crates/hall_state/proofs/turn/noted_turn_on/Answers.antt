use Rattle.std.proofs.Common.{length, ap}
use Rattle.kernel_audit.specs.Runs.{Machine}
use Rattle.kernel_audit.proofs.Posts.{begin_keeps_posts, begin_closing, slice_keeps_posts}
use Rattle.hall_state.proofs.JustEnded.{begin_ends, slice_ends}
use Rattle.hall_state.proofs.turn.noted_turn_on.Goals as goal

pub returns-in-Inside-clause-posts : goal.returns-in-Inside-clause-posts
returns-in-Inside-clause-posts g c =
    ap length
    (slice_keeps_posts c.args.kernel.now.machine c.args.m c.asked-asked.result c.slice-sliced.result c.slice-sliced.new.self.machine
    c.slice-sliced.ensures.slice)

pub returns-in-Queued-clause-posts : goal.returns-in-Queued-clause-posts
returns-in-Queued-clause-posts g c =
    ap length (begin_keeps_posts c.args.kernel.now.machine c.begin-begun.result c.begin-begun.new.self.machine c.begin-begun.ensures.begin)

pub returns-in-Idle-clause-posts : goal.returns-in-Idle-clause-posts
returns-in-Idle-clause-posts g c =
    ap length
    (begin_keeps_posts c.args.kernel.now.machine c.begin-begun-in-Idle.result c.begin-begun-in-Idle.new.self.machine c.begin-begun-in-Idle.ensures.begin)

pub returns-in-Inside-clause-ends : goal.returns-in-Inside-clause-ends
returns-in-Inside-clause-ends g c =
    slice_ends c.args.kernel.now.machine c.args.m c.asked-asked.result c.slice-sliced.result c.slice-sliced.new.self.machine c.slice-sliced.ensures.slice

pub returns-in-Queued-clause-ends : goal.returns-in-Queued-clause-ends
returns-in-Queued-clause-ends g c =
    begin_ends c.args.kernel.now.machine c.begin-begun.result c.begin-begun.new.self.machine c.begin-begun.ensures.begin

pub returns-in-Idle-clause-ends : goal.returns-in-Idle-clause-ends
returns-in-Idle-clause-ends g c =
    begin_ends c.args.kernel.now.machine c.begin-begun-in-Idle.result c.begin-begun-in-Idle.new.self.machine c.begin-begun-in-Idle.ensures.begin

pub returns-in-Inside-clause-closing : goal.returns-in-Inside-clause-closing
returns-in-Inside-clause-closing g c = ap (λ (m : Machine). m.closing) c.slice-sliced.ensures.slice.2

pub returns-in-Queued-clause-closing : goal.returns-in-Queued-clause-closing
returns-in-Queued-clause-closing g c =
    begin_closing c.args.kernel.now.machine c.begin-begun.result c.begin-begun.new.self.machine c.begin-begun.ensures.begin

pub returns-in-Idle-clause-closing : goal.returns-in-Idle-clause-closing
returns-in-Idle-clause-closing g c =
    begin_closing c.args.kernel.now.machine c.begin-begun-in-Idle.result c.begin-begun-in-Idle.new.self.machine c.begin-begun-in-Idle.ensures.begin
