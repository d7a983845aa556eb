use Rattle.std.proofs.Common.{refl, arith}
use Rattle.std.specs.Prelude.{Some, None}
use Rattle.std.proofs.lemmas.Str.Pattern.{strip_suffix_char}
use Rattle.cells_program.proofs.CommandLemmas.{last_dropped, last_tried}
use Rattle.cells_program.proofs.command.without_last.Goals as goal

pub returns-in-Some : goal.returns-in-Some
returns-in-Some c = last_dropped 32 refl _ _ (strip_suffix_char 32 c.args.rest.now (Some c.in-Some.front) c.in-Some.ensures.cases (omega arith))

pub returns-in-Some-strip_suffix : goal.returns-in-Some-strip_suffix
returns-in-Some-strip_suffix c =
    last_dropped 9 refl _ _ (strip_suffix_char 9 c.args.rest.now (Some c.in-Some-strip_suffix.front) c.in-Some-strip_suffix.ensures.cases (omega arith))

pub returns : goal.returns
returns c =
    last_tried c.args.rest.now c.strip_suffix-3.result
    (strip_suffix_char 32 c.args.rest.now None c.in_default.ensures.cases (omega arith))
    (strip_suffix_char 9 c.args.rest.now None c.in_default-strip_suffix.ensures.cases (omega arith))
    (strip_suffix_char 13 c.args.rest.now c.strip_suffix-3.result c.strip_suffix-3.ensures.cases (omega arith))
