use Rattle.std.proofs.Common.{map}
use Rattle.std.proofs.lemmas.List.Sorted.{IsPermutation-trans}
use Rattle.std.proofs.lemmas.Option.{IfSome_then}
use Rattle.kernel_ask.specs.Written.{entry_of}
use Rattle.kernel_audit.proofs.Tickets.{no_posts, no_order, all_true, if_none}
use Rattle.kernel_audit.proofs.comparison.untrue_ticket.Goals as goal

pub returns-in-Some-unknown_ticket-clause-some : goal.returns-in-Some-unknown_ticket-clause-some
returns-in-Some-unknown_ticket-clause-some c =
    no_posts (map entry_of c.args.minutes.now) c.args.tickets.now c.by_number.new.tickets c.in-Some-unknown_ticket.number c.by_number.ensures.same
    c.in-Some-unknown_ticket.ensures.some

pub returns-clause-some : goal.returns-clause-some
returns-clause-some c =
    let moved = IsPermutation-trans _ _ _ c.by_number.ensures.same c.by_lane.ensures.same in
    IfSome_then c.swapped_number.result c.swapped_number.ensures.some
    (λ n h. no_order (map entry_of c.args.minutes.now) c.args.tickets.now c.by_lane.new.tickets n moved h)

pub returns-clause-none : goal.returns-clause-none
returns-clause-none c =
    if_none c.swapped_number.result c.swapped_number.ensures.none
    (λ h. all_true (map entry_of c.args.minutes.now) c.args.tickets.now c.by_number.new.tickets c.by_lane.new.tickets c.by_number.ensures.same
    c.by_lane.ensures.same c.in_default.ensures.none c.in_default-unknown_ticket.ensures.none h)
