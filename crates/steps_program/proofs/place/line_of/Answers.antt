use Rattle.std.proofs.Common.{refl, ap, ◌∙◌, sym, rules}
use Rattle.steps_program.specs.Places.{line_in, lines_of}
use Rattle.steps_program.proofs.Lines.{first_of, shorter, only_one, found_line, next_line, last_line, no_line}
use Rattle.steps_program.proofs.place.line_of.Goals as goal

pub loop-part-init : goal.loop-part-init
loop-part-init c = (c.utf8.text, refl)

pub loop-part-smaller : goal.loop-part-smaller
loop-part-smaller c = shorter c.loop-part.rest.now c.in-Some.more.now c.in-Some.ensures.cut.1 c.in-Some.ensures.cut.2

pub returns-then-number-line : goal.returns-then-number-line
returns-then-number-line c =
    let cut = c.in-Some.ensures.cut in
    c.loop-part.invariant.1
    ∙ found_line c.args.line c.loop-part.number c.loop-part.rest.now c.in-Some.part.now c.in-Some.more.now
    (first_of c.loop-part.rest.now c.in-Some.part.now c.in-Some.more.now cut.0 cut.1 cut.2) c.if-number-line.true

pub loop-part-preserved : goal.loop-part-preserved
loop-part-preserved c =
    let cut = c.in-Some.ensures.cut in (
      search rules,
      c.loop-part.invariant.1
          ∙ next_line c.args.line c.loop-part.number c.loop-part.rest.now c.in-Some.part.now c.in-Some.more.now
          (first_of c.loop-part.rest.now c.in-Some.part.now c.in-Some.more.now cut.0 cut.1 cut.2) c.if-number-line.false
          ∙ ap (λ n. line_in c.args.line n (lines_of c.in-Some.more.now)) (sym c.saturating_add-number.ensures),
    )

pub returns-then-number-line-2 : goal.returns-then-number-line-2
returns-then-number-line-2 c =
    let rest = c.loop-part.rest.now in
    c.loop-part.invariant.1
    ∙ last_line c.args.line c.loop-part.number rest (only_one rest c.in_default.ensures.cut) c.if-number-line-2.true

pub returns-else-number-line-2 : goal.returns-else-number-line-2
returns-else-number-line-2 c =
    let rest = c.loop-part.rest.now in
    c.loop-part.invariant.1
    ∙ no_line c.args.line c.loop-part.number rest (only_one rest c.in_default.ensures.cut) c.if-number-line-2.false
