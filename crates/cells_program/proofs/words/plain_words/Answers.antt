use Rattle.std.proofs.Common.{◌∙◌, ◌++◌, ◌==◌, ap, sym}
use Rattle.cells_program.specs.CommandLine.{plain_of}
use Rattle.cells_program.proofs.Explaining.{plain_more}
use Rattle.cells_program.proofs.words.plain_words.Goals as goal

pub loop-i-preserved : goal.loop-i-preserved
loop-i-preserved g c =
    c.in_ok-add_plain.ensures
    ∙ ap (λ plain. plain ++ plain_of (c.loop-i.i == 0) c.as_str.result.now) c.loop-i.invariant
    ∙ sym (plain_more g.S.AsStr.text c.args.words.now c.loop-i.i c.index-words-i.result c.as_str.result.now c.loop-i-test.true c.index-words-i.is
    c.as_str.ensures)
