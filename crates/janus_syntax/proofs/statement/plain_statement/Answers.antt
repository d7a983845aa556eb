use Rattle.janus_syntax.specs.TextTokens.{views}
use Rattle.janus_syntax.proofs.Assignments.{skip_is, push_is, pop_is}
use Rattle.janus_syntax.proofs.Calls.{call_begins, uncall_begins}
use Rattle.janus_syntax.proofs.statement.plain_statement.Goals as goal

pub returns-in-Skip : goal.returns-in-Skip
returns-in-Skip c = λ depth place room. rw c.in-Skip.is (skip_is place depth (views c.args.tokens.now) room)

pub returns-in_ok-variable-in-Push : goal.returns-in_ok-variable-in-Push
returns-in_ok-variable-in-Push c = λ depth place room. rw c.in-Push.is (push_is place depth room c.in_ok-variable-in-Push.ensures)

pub returns-in_ok-variable-in-Pop : goal.returns-in_ok-variable-in-Pop
returns-in_ok-variable-in-Pop c = λ depth place room. rw c.in-Pop.is (pop_is place depth room c.in_ok-variable-in-Pop.ensures)

pub returns-in_ok-procedure-in-Call : goal.returns-in_ok-procedure-in-Call
returns-in_ok-procedure-in-Call c = λ depth place room. rw c.in-Call.is (call_begins place depth room c.in_ok-procedure-in-Call.ensures)

pub returns-in_ok-procedure-in-Uncall : goal.returns-in_ok-procedure-in-Uncall
returns-in_ok-procedure-in-Uncall c = λ depth place room. rw c.in-Uncall.is (uncall_begins place depth room c.in_ok-procedure-in-Uncall.ensures)
