use Rattle.std.proofs.Common.{ap}
use Rattle.janus_syntax.specs.Tree.{block_view}
use Rattle.janus_syntax.specs.TextTokens.{views}
use Rattle.janus_syntax.proofs.Blocks.{statements_result}
use Rattle.janus_syntax.proofs.statement.statements.Goals as goal

pub returns : goal.returns
returns c = statements_result 0 _ (views c.args.tokens.now) (λ x. block_view x.0.items) (λ x. views x.1.now) c.statements_behind.result
    (ap block_view c.new.ensures.items) c.statements_behind.ensures
