-- What a cell declares and defines itself, over what is known before it.
use Rattle.std.specs.Prelude.{◌≡◌}
use Rattle.janus_meaning.specs.FormedWorld.{with_declared, with_heads}
use Rattle.janus_syntax.specs.Tree.{Cell}
use Rattle.janus_syntax.specs.View.{plain_cell}
use Rattle.janus_check.specs.Names.{Known, shape_in, heads_in, over}
use Rattle.janus_check.specs.Seen.{heads_over}

-- The cell's own names stand behind those that are known, and its own procedures are found before those.
pub record IsOwn (k own : Known) (c : Cell) : Type 0 where
  pub names : over (shape_in k.names) own.names ≡ with_declared (shape_in k.names) (plain_cell c).declarations
  pub heads : heads_over k own ≡ with_heads (heads_in k.procedures) (plain_cell c).procedures
