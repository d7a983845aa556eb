use Rattle.std.proofs.Common.{◌-◌, arith, ◌∙◌, sym, length}
use Rattle.kernel_audit.specs.Marks.{is_of}
use Rattle.kernel_audit.proofs.Filtered.{found_here, found_none}
use Rattle.kernel_audit.proofs.mark.find.Goals as goal

pub returns-then-passed-number-clause-found : goal.returns-then-passed-number-clause-found
returns-then-passed-number-clause-found c =
    let passed = c.loop-place.invariant.passed in
    let last = c.if-passed-number.true in
    found_here (is_of c.args.kind) c.args.minutes.now c.loop-place.place (c.args.number - 1) c.index-minutes-place.result c.loop-place-test.true
    c.index-minutes-place.is
    (sym c.is_of.ensures ∙ c.if-is_of.true) (omega arith)

pub returns-clause-found : goal.returns-clause-found
returns-clause-found c =
    let before = c.loop-place.invariant.before in
    found_none (is_of c.args.kind) c.args.minutes.now c.loop-place.place (length c.args.minutes.now) (c.args.number - 1)
    c.loop-place.passed c.loop-place-test.false (omega arith)
    c.loop-place.invariant.passed (omega arith)
