-- What is known of a world, and what is found among heads of procedures.
use Rattle.std.specs.Prelude.{◌≡◌}
use Rattle.janus_meaning.specs.Syntax.{Name}
use Rattle.janus_meaning.specs.Shape.{Heads, shape_of, heads_of, head_at}
use Rattle.janus_meaning.specs.World.{World}
use Rattle.janus_check.specs.Names.{Known, shape_in, heads_in}

-- under each name the same is found in both
abbrev pub FindTheSame : Heads → Heads → Type 0
FindTheSame hs js = (f : Name) → head_at f hs ≡ head_at f js

-- what is known is what the world has: its declared names, and under each name the procedure that is found there
pub record IsKnownOf (env : Known) (w : World) : Type 0 where
  pub names : shape_in env.names ≡ shape_of w.store
  pub heads : FindTheSame (heads_in env.procedures) (heads_of w.procedures)
