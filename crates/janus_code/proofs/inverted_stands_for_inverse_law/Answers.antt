use Rattle.std.proofs.Common.{ap, ◌∙◌}
use Rattle.janus_meaning.specs.Syntax.{Blk, inverse_block}
use Rattle.janus_slots.proofs.Trees.{inverse_block_in}
use Rattle.janus_code.proofs.inverted_stands_for_inverse_law.Goals as goal

pub returns : goal.returns
returns r = λ xs entries names code inverse b stands turned.
    turned ∙ ap (λ (c : Blk). inverse_block c) stands ∙ inverse_block_in entries names b
