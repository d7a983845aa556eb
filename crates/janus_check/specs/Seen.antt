-- What is seen where a statement or an expression stands.
use Rattle.std.specs.Prelude.{◌++◌}
use Rattle.janus_meaning.specs.Shape.{Shape, Heads}
use Rattle.janus_check.specs.Names.{Known, shape_in, heads_in, over}
use Rattle.janus_check.specs.Scope.{scoped}
use Rattle.janus_check.specs.declared.scope.Scope.{Scope}

-- the names in sight with their kinds, and the heads that calls see, the newest first
pub record Seen : Type 0 where
  pub names : Shape
  pub heads : Heads

-- the cell's own heads over the old ones
abbrev pub heads_over : Known → Known → Heads
heads_over env own = heads_in own.procedures ++ heads_in env.procedures

-- what is known, and over it what a cell declares and defines itself
abbrev pub seen_over : Known → Known → Scope → Seen
seen_over env own at = record { names = scoped (over (shape_in env.names) own.names) at; heads = heads_over env own }
