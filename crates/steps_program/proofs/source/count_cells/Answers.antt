use Rattle.std.proofs.Common.{◌∙◌, ℕ, List, fold, refl, ap, sym, rules}
use Rattle.steps_program.specs.Before.{counted_with}
use Rattle.steps_program.specs.Places.{lines_of}
use Rattle.steps_program.specs.declared.source.Counted.{Counted}
use Rattle.steps_program.proofs.Lines.{first_of, shorter, only_one}
use Rattle.steps_program.proofs.source.count_cells.Goals as goal

pub loop-line-init : goal.loop-line-init
loop-line-init c = (c.utf8.file, refl)

pub loop-line-smaller : goal.loop-line-smaller
loop-line-smaller c = shorter c.loop-line.rest.now c.in-Some.more.now c.in-Some.ensures.cut.1 c.in-Some.ensures.cut.2

pub loop-line-preserved : goal.loop-line-preserved
loop-line-preserved c =
    let cut = c.in-Some.ensures.cut in (
      search rules,
      c.loop-line.invariant.1
          ∙ ap (λ (ls : List (List ℕ)). fold counted_with c.loop-line.counted ls)
          (first_of c.loop-line.rest.now c.in-Some.line.now c.in-Some.more.now cut.0 cut.1 cut.2)
          ∙ ap (λ (k : Counted). fold counted_with k (lines_of c.in-Some.more.now)) (sym c.added-counted.ensures),
    )

pub returns : goal.returns
returns c =
    sym (ap (λ (k : Counted). k.number)
    (c.loop-line.invariant.1
    ∙ ap (λ (ls : List (List ℕ)). fold counted_with c.loop-line.counted ls) (only_one c.loop-line.rest.now c.in_default.ensures.cut)
    ∙ sym c.added.ensures))
