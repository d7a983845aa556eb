use Rattle.std.proofs.lemmas.Option.{slice_get-get_or}
use Rattle.kernel_sockets.proofs.Leaving.{found_here, found_still, found_first}
use Rattle.kernel_sockets.proofs.room.found_next.Goals as goal
use Rattle.kernel_sockets.proofs.room.found_next.Goals.{else-may_leave-via-then-may_leave+else-is_before, else-may_leave-via-else-may_leave}

pub returns-then-is_before : goal.returns-then-is_before
returns-then-is_before c =
    found_here c.args.stays c.args.now c.args.sights.now c.args.place c.args.found _ c.requires.among (slice_get-get_or c.args.sights.now c.args.place _ c.requires.inside)
    (c.may_leave.ensures.0 c.if-may_leave.true) (c.is_before.ensures.0 c.if-is_before.true)

pub returns : goal.returns
returns c =
    elim c.else-may_leave.branch [
      | else-may_leave-via-then-may_leave+else-is_before w ↦
          found_first c.args.stays c.args.now c.args.sights.now c.args.place c.args.found _ c.requires.among
          (slice_get-get_or c.args.sights.now c.args.place _ c.requires.inside) (λ it. let yes = w.is_before.ensures.1 it in let never = w.if-is_before.false in cc)
      | else-may_leave-via-else-may_leave w ↦
          found_still c.args.stays c.args.now c.args.sights.now c.args.place c.args.found _ c.requires.among
          (slice_get-get_or c.args.sights.now c.args.place _ c.requires.inside) (λ it. let yes = c.may_leave.ensures.1 it in let never = w.if-may_leave.false in cc)
    ]
