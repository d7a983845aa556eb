use Rattle.janus_meaning.specs.Shape.{shape_of, heads_of}
use Rattle.janus_meaning.specs.FormedWorld.{with_heads, with_declared}
use Rattle.janus_meaning.proofs.Safe.{inverse_block_formed}
use Rattle.janus_meaning.proofs.inverse_is_well_formed_law.Goals as goal

pub returns : goal.returns
returns r = λ c w h. record {
  names = h.names;
  once = h.once;
  heads = h.heads;
  procedures = h.procedures;
  block = inverse_block_formed c.block (with_heads (heads_of w.procedures) c.procedures) (with_declared (shape_of w.store) c.declarations) h.block;
}
