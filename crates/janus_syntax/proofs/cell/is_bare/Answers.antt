use Rattle.std.proofs.Common.{◌∙◌}
use Rattle.janus_syntax.proofs.Declared.{bare_blocks, not_bare}
use Rattle.janus_syntax.proofs.cell.is_bare.Goals as goal

pub returns-then-is_empty : goal.returns-then-is_empty
returns-then-is_empty c = c.is_empty-then-is_empty.ensures ∙ bare_blocks c.args.declarations.now c.args.statements.now c.if-is_empty.ensures

pub returns-else-is_empty : goal.returns-else-is_empty
returns-else-is_empty c = not_bare c.args.declarations.now c.args.statements.now c.if-is_empty.ensures
