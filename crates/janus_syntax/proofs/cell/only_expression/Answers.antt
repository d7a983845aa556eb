use Rattle.janus_syntax.specs.Tree.{exp_view}
use Rattle.janus_syntax.specs.TextTokens.{views}
use Rattle.janus_syntax.specs.Forms.{Whole}
use Rattle.janus_syntax.proofs.Theorems.{refusal, only_answer}
use Rattle.janus_syntax.proofs.cell.only_expression.Goals as goal

pub returns-clause-read : goal.returns-clause-read
returns-clause-read c = refusal Whole exp_view (views c.args.tokens.now) c.all_tokens_expression.result c.all_tokens_expression.ensures

pub returns-clause-only : goal.returns-clause-only
returns-clause-only c tree q = only_answer Whole exp_view (views c.args.tokens.now) c.all_tokens_expression.result c.all_tokens_expression.ensures tree q
