use Rattle.std.proofs.Common.{◌∙◌, sym}
use Rattle.steps_program.proofs.Sources.{found_source, next_source, no_source}
use Rattle.steps_program.proofs.source.source_of.Goals as goal

pub returns-then-eq : goal.returns-then-eq
returns-then-eq c =
    let at = c.index-sources-i in
    found_source c.args.sources.now c.args.node c.loop-i.i c.loop-i.invariant at.result c.loop-i-test.true at.is (sym c.eq.ensures ∙ c.if-eq.true)

pub loop-i-preserved : goal.loop-i-preserved
loop-i-preserved c =
    let at = c.index-sources-i in
    next_source c.args.sources.now c.args.node c.loop-i.i c.loop-i.invariant at.result c.loop-i-test.true at.is (sym c.eq.ensures ∙ c.if-eq.false)

pub returns : goal.returns
returns c = no_source c.args.sources.now c.args.node c.loop-i.i c.loop-i.invariant c.loop-i-test.false
