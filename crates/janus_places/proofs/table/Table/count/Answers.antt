use Rattle.std.proofs.Common.{arith}
use Rattle.janus_places.proofs.Rows.{falls}
use Rattle.janus_places.proofs.Open.{never_out, one_counted, all_counted}
use Rattle.janus_places.proofs.table.Table.count.Goals as goal

pub loop-behind-init : goal.loop-behind-init
loop-behind-init c = (omega arith, λ xs h. record { rest = xs; left = h; many = omega arith })

pub returns-in_default : goal.returns-in_default
returns-in_default c = λ xs h.
    let k = c.loop-behind.invariant.1 xs h in
    absurd (never_out c.args.self.now.locals.items c.loop-behind.behind k.rest c.loop-behind-test.true k.left
    (rw c.deref.ensures.value at c.in_default.ensures.lookup.0))

pub loop-behind-smaller : goal.loop-behind-smaller
loop-behind-smaller c =
    falls c.args.self.now c.deref.result.now c.loop-behind.behind c.in-Some.local.now c.deref.ensures.value c.loop-behind-test.true
    c.in-Some.ensures.lookup.3.0 c.in-Some.ensures.lookup.1

pub loop-behind-preserved : goal.loop-behind-preserved
loop-behind-preserved c =
    let low = falls c.args.self.now c.deref.result.now c.loop-behind.behind c.in-Some.local.now c.deref.ensures.value c.loop-behind-test.true
    c.in-Some.ensures.lookup.3.0 c.in-Some.ensures.lookup.1 in
    let few = c.loop-behind.invariant.0 in (
      omega (arith, low, few),
      λ xs h.
          one_counted c.args.self.now.locals.items c.loop-behind.behind c.loop-behind.count c.in-Some.local.now xs c.loop-behind-test.true
          (rw c.deref.ensures.value at c.in-Some.ensures.lookup.1) (c.loop-behind.invariant.1 xs h),
    )

pub returns : goal.returns
returns c = λ xs h.
    all_counted c.args.self.now.locals.items c.loop-behind.behind c.loop-behind.count xs (omega (arith, c.loop-behind-test.false))
    (c.loop-behind.invariant.1 xs h)
