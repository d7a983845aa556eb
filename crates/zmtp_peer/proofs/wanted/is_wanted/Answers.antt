use Rattle.std.proofs.Common.{◌+◌, length, take, drop, sym, refl, arith}
use Rattle.std.proofs.lemmas.List.{take-append-drop}
use Rattle.zmtp_peer.proofs.TableLemmas.{none_wanted}
use Rattle.zmtp_peer.proofs.LengthLemmas.{fronts-uncounted}
use Rattle.zmtp_peer.proofs.wanted.is_wanted.Goals as goal

pub returns-in_default : goal.returns-in_default
returns-in_default g c =
    let topic = c.args.topic.now in
    let table = g.P.Prefixes.table c.args.prefixes.now in
    let none = fronts-uncounted table topic c.loop-least.least (length topic + 1) (omega arith) c.loop-least.invariant
    (λ q from _. c.in_default.ensures.none q from) in
    (λ h. cc, λ w. absurd (none_wanted table topic (length topic + 1) none (omega arith) w))

pub returns-then-length-topic : goal.returns-then-length-topic
returns-then-length-topic g c =
    let topic = c.args.topic.now in
    let table = g.P.Prefixes.table c.args.prefixes.now in
    let few = c.if-length-topic.true in
    let none = fronts-uncounted table topic c.loop-least.least (length topic + 1) (omega arith) c.loop-least.invariant
    (λ q from below. c.in-Some.ensures.some.1 q from (omega (arith, few, below))) in
    (λ h. cc, λ w. absurd (none_wanted table topic (length topic + 1) none (omega arith) w))

pub returns-then-count_of-gt0 : goal.returns-then-count_of-gt0
returns-then-count_of-gt0 g c = (
  λ _. (
    take c.in-Some.length c.args.topic.now,
    drop c.in-Some.length c.args.topic.now,
    sym (take-append-drop c.in-Some.length c.args.topic.now),
    omega arith,
  ),
  λ _. refl,
)

pub returns : goal.returns
returns g c = (
  λ h. cc,
  λ w. absurd
      (none_wanted (g.P.Prefixes.table c.args.prefixes.now) c.args.topic.now c.loop-least.least c.loop-least.invariant (omega (arith, c.loop-least-test.false))
      w),
)
