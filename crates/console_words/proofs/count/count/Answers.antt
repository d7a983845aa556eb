use Rattle.std.proofs.Common.{◌∙◌, sym}
use Rattle.console_words.proofs.CountLemmas.{count_is}
use Rattle.console_words.proofs.count.count.Goals as goal

pub returns : goal.returns
returns c = c.ok.ensures.value ∙ count_is c.args.digits.now c.parse.result c.parse.ensures.value.0 (sym c.if-not-is_short_number.ensures)
