use Rattle.std.proofs.Common.{List, All, map, refl, sym, subst}
use Rattle.std.proofs.lemmas.List.{take_all}
use Rattle.std.proofs.lemmas.List.Elements.{All-more}
use Rattle.kernel_ask.specs.declared.done.Done.{Done}
use Rattle.kernel_ask.specs.Written.{entry_of}
use Rattle.kernel_audit.specs.Ends.{HasEnd}
use Rattle.kernel_audit.proofs.Numbered.{not_so}
use Rattle.kernel_audit.proofs.comparison.unknown_done.Goals as goal

pub returns-then-not-finds_end-clause-some : goal.returns-then-not-finds_end-clause-some
returns-then-not-finds_end-clause-some c =
    (c.done-item.result, (c.loop-done.done-index, c.loop-done-test.true, sym c.done-item.is), refl, not_so _ c.if-not-finds_end.true c.finds_end.ensures.ended)

pub loop-done-preserved : goal.loop-done-preserved
loop-done-preserved c =
    let P : Done → Type 0 = HasEnd (map entry_of c.args.minutes.now) in
    record {
      mark = c.finds_end.ensures.mark;
      ended = All-more P c.args.dones.now c.loop-done.done-index c.done-item.result c.loop-done-test.true c.loop-done.invariant.ended
          (subst P c.done-item.is (c.finds_end.ensures.ended.0 c.if-not-finds_end.false));
    }

pub returns-clause-none : goal.returns-clause-none
returns-clause-none c =
    let P : List Done → Type 0 = All (HasEnd (map entry_of c.args.minutes.now)) in
    subst P (take_all c.loop-done.done-index c.args.dones.now c.loop-done-test.false) c.loop-done.invariant.ended
