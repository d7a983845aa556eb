use Rattle.janus_syntax.specs.Tree.{cell_view}
use Rattle.janus_syntax.specs.TextTokens.{views}
use Rattle.janus_syntax.specs.Forms.{A_cell}
use Rattle.janus_syntax.proofs.Theorems.{refusal, only_answer}
use Rattle.janus_syntax.proofs.cell.cell.Goals as goal

pub returns-clause-read : goal.returns-clause-read
returns-clause-read c = refusal A_cell cell_view (views c.args.tokens.now) c.all_tokens_cell.result c.all_tokens_cell.ensures

pub returns-clause-only : goal.returns-clause-only
returns-clause-only c tree q = only_answer A_cell cell_view (views c.args.tokens.now) c.all_tokens_cell.result c.all_tokens_cell.ensures tree q
