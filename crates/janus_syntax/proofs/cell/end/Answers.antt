use Rattle.std.proofs.Common.{ap, sym}
use Rattle.std.proofs.lemmas.List.{length-map}
use Rattle.janus_syntax.specs.declared.fault.What.TheVariants as what
use Rattle.janus_syntax.specs.TextTokens.{token_view}
use Rattle.janus_syntax.specs.Grammar.{Expected}
use Rattle.janus_syntax.proofs.Declared.{no_more, some_more}
use Rattle.janus_syntax.proofs.cell.end.Goals as goal

pub returns-then-is_empty : goal.returns-then-is_empty
returns-then-is_empty c = no_more c.args.tokens.now c.if-is_empty.ensures

pub returns-else-is_empty : goal.returns-else-is_empty
returns-else-is_empty c = (ap (Expected what.End) (sym (length-map c.args.tokens.now token_view)), some_more c.args.tokens.now c.if-is_empty.ensures)
