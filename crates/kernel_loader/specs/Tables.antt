-- The tables of a runner between two cells, as the check of a cell sees them.
use Rattle.std.specs.Prelude.{◌≤◌, List, [], map}
use Rattle.janus_meaning.specs.Syntax.{Name}
use Rattle.janus_meaning.specs.FormedWorld.{HaveValues}
use Rattle.janus_meaning.specs.Limit.{name_limit}
use Rattle.janus_meaning.specs.World.{listed, size_of}
use Rattle.janus_slots.specs.Numbers as numbers
use Rattle.janus_check.specs.Names.{Known}
use Rattle.janus_check.specs.declared.env.Kind.{Kind}
use Rattle.kernel_runner.specs.StoreState.{StoreState, IsWhole, shown_store}
use Rattle.kernel_runner.specs.procedures.Procedures.{Procedures}
use Rattle.kernel_loader.specs.InEffect.{in_effect_from}
use Rattle.kernel_loader.specs.Kinds.{kind_in}

-- the declared names in order, each with the kind of its value
abbrev pub names_shown : StoreState → List (Name × Kind)
names_shown h = map (λ e. (e.0, kind_in e.1)) (listed (shown_store h))

-- what is known by a store alone: its declared names, and no procedure
abbrev pub declared_by : StoreState → Known
declared_by h = record { names = names_shown h; procedures = [] }

-- What is known by a store and by the procedures in effect, each under the name of its number.
abbrev pub known_by : StoreState → List numbers.Name → Procedures → Known
known_by h es t = record { names = names_shown h; procedures = in_effect_from t 0 es }

-- Each declared name of the store has a value, and no local is open.
pub record IsReadable (h : StoreState) : Type 0 where
  pub values : HaveValues (shown_store h)
  pub few : size_of (shown_store h) ≤ name_limit
  pub whole : IsWhole h
