use Rattle.std.proofs.Common.{◌∙◌, ℕ, List, map, string_bytes, ap, subst}
use Rattle.kernel_machine.specs.Runs.{Machine, new_machine}
use Rattle.steps_program.specs.Before.{Finds, Lacks, sought, text_of}
use Rattle.steps_program.specs.Walked.{WalksThrough}
use Rattle.steps_program.proofs.Entering.{none_of, some_of, told_ok, whole}
use Rattle.steps_program.proofs.Telling.{Goes}
use Rattle.steps_program.proofs.program.run_counted.Goals as goal

pub returns-in-Ok-Some-clause-ok : goal.returns-in-Ok-Some-clause-ok
returns-in-Ok-Some-clause-ok g c =
    let found = some_of _ c.in-Ok-Some.field-0 c.in-Ok-Some.found c.in-Ok-Some.field-0-is c.in-Ok-Some.ensures.found in
    let file = string_bytes c.args.file.now in
    let s = found.0 in
    let out = found.1 in
    let n = c.number_of-number.result in
    let input = g.R.Read.remaining c.args.reader.now in
    let a = g.W.Write.contents c.args.writer.now in
    let d = g.W.Write.contents c.walk_behind.new.writer in
    let finds =
    subst (λ (k : ℕ). Finds k file new_machine s out) (c.number_of-number.ensures ∙ ap (sought c.args.cell) c.as_str-text.ensures.value)
    (subst (λ (t : List ℕ). Finds n t new_machine s out) c.as_str-text.ensures.value
    (subst (λ (m : Machine). Finds n c.as_str-text.result.now m s out) c.in-Ok.ensures.machine found.2)) in
    told_ok (Goes (WalksThrough _ c.args.cell file input) a d) c.walk_behind.result c.told.result c.told.ensures.ok
    (whole _ c.args.cell file input a (g.W.Write.contents c.run_before.new.writer) d c.run_before.new.kernel.machine
    (map text_of c.in-Ok-Some.found.1.items) (text_of c.in-Ok-Some.found.0) s out finds found.3 found.4 found.5 found.6
    c.walk_behind.result c.walk_behind.ensures)

pub returns-in-Ok-None-clause-no_cell : goal.returns-in-Ok-None-clause-no_cell
returns-in-Ok-None-clause-no_cell g c = λ e.
    let none = none_of _ c.in-Ok-None.field-0 c.in-Ok-None.field-0-is c.in-Ok-None.ensures.none in
    let file = string_bytes c.args.file.now in
    let s = none.0 in
    let out = none.1 in
    let n = c.number_of-number.result in (
      s,
      out,
      subst (λ (k : ℕ). Lacks k file new_machine s out) (c.number_of-number.ensures ∙ ap (sought c.args.cell) c.as_str-text.ensures.value)
          (subst (λ (t : List ℕ). Lacks n t new_machine s out) c.as_str-text.ensures.value
          (subst (λ (m : Machine). Lacks n c.as_str-text.result.now m s out) c.in-Ok.ensures.machine none.2)),
      none.3,
    )
