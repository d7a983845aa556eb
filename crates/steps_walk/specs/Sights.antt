-- Which names are in sight where a walk stands, each with its slot: how many stand below it.
use Rattle.std.specs.Prelude.{◌≡◌, ℕ, ◌<◌, ◌^◌, List, [], ◌++◌, length, reverse, map, slice_get, Option, None, Some, string_bytes}
use Rattle.janus_meaning.specs.Syntax.{Name}
use Rattle.janus_places.specs.Table.{AreOpenIn}
use Rattle.steps_walk.specs.declared.body.Body.{Body}
use Rattle.steps_walk.specs.declared.level.Level.{Level}
use Rattle.steps_walk.specs.declared.sight.Base.{Base}
use Rattle.steps_walk.specs.declared.sight.Base.TheVariants.{Declared, Parameters}
use Rattle.steps_walk.specs.declared.sight.Sight.{Sight}
use Rattle.steps_walk.specs.declared.walk.Walk.{Walk}
use Rattle.steps_walk.specs.Walk.{runner_of, bodies_of, calls_in}
use Rattle.steps_walk.specs.Standing.{IsTableAt, IsHere, IsCodeAt}

-- the names in sight in a whole code, the newest first
abbrev pub base_of : Base → List Name
base_of (Declared names) = reverse names.now
base_of (Parameters names) = map string_bytes names.now

-- the locals that are open there stand above them
pub record AreInSight (s : Sight) (g : List Name) : Type 0 where
  pub locals : List Name
  pub there : AreOpenIn s.table.now s.at locals
  pub names : g ≡ locals ++ base_of s.base
  -- a `usize` counts them
  pub few : length g < 2 ^ 64

-- ---- the sight of a level

abbrev pub parameters_in : Option Body → List Name
parameters_in None = []
parameters_in (Some body) = map string_bytes body.parameters.items

-- in a code the declared names are in sight, where it is the cell's own, else the parameters of its procedure
abbrev pub base_at : {L : Type 0} → Walk L → Option ℕ → List Name
base_at w None = reverse (runner_of w).counted.store.texts
base_at w (Some k) = parameters_in (slice_get (bodies_of w) k)

-- the sight is that of the place in the code of a level
pub record IsSightAt {L : Type 0} (w : Walk L) (level : Level) (s : Sight) : Type 0 where
  pub table : IsTableAt w level.body s.table.now
  pub at : s.at ≡ level.at
  pub base : base_of s.base ≡ base_at w level.body

-- the sight is that of the innermost level of a walk
pub record IsSightHere {L : Type 0} (w : Walk L) (s : Sight) : Type 0 where
  pub level : Level
  pub here : IsHere w level
  pub code : IsCodeAt w (calls_in w) level.body
  pub of : IsSightAt w level s
