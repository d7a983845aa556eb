use Rattle.std.proofs.Common.{List, All, map, refl, sym, subst}
use Rattle.std.proofs.lemmas.List.{take_all}
use Rattle.std.proofs.lemmas.List.Elements.{All-more}
use Rattle.kernel_audit.specs.declared.pass.Ticket.{Ticket}
use Rattle.kernel_ask.specs.Written.{entry_of}
use Rattle.kernel_audit.specs.Audit.{IsPosted}
use Rattle.kernel_audit.proofs.Numbered.{not_so}
use Rattle.kernel_audit.proofs.comparison.unknown_ticket.Goals as goal

pub returns-then-not-finds_post-clause-some : goal.returns-then-not-finds_post-clause-some
returns-then-not-finds_post-clause-some c = (
  c.ticket-item.result,
  (c.loop-ticket.ticket-index, c.loop-ticket-test.true, sym c.ticket-item.is),
  refl,
  not_so _ c.if-not-finds_post.true c.finds_post.ensures.posted,
)

pub loop-ticket-preserved : goal.loop-ticket-preserved
loop-ticket-preserved c =
    let P : Ticket → Type 0 = IsPosted (map entry_of c.args.minutes.now) in
    record {
      mark = c.finds_post.ensures.mark;
      posted = All-more P c.args.tickets.now c.loop-ticket.ticket-index c.ticket-item.result c.loop-ticket-test.true c.loop-ticket.invariant.posted
          (subst P c.ticket-item.is (c.finds_post.ensures.posted.0 c.if-not-finds_post.false));
    }

pub returns-clause-none : goal.returns-clause-none
returns-clause-none c =
    let P : List Ticket → Type 0 = All (IsPosted (map entry_of c.args.minutes.now)) in
    subst P (take_all c.loop-ticket.ticket-index c.args.tickets.now c.loop-ticket-test.false) c.loop-ticket.invariant.posted
