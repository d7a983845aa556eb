-- The names in sight of a statement or an expression and the heads that its calls see, and the faults of a use there.
use Rattle.std.specs.Prelude.{List}
use Rattle.janus_meaning.specs.Syntax as tree
use Rattle.janus_meaning.specs.Shape.{Shape, Heads}
use Rattle.janus_syntax.specs.Tree.{Name}
use Rattle.janus_syntax.specs.View.{name_of}
use Rattle.janus_check.specs.declared.fault.CheckFault.{CheckFault}
use Rattle.janus_check.specs.declared.expression.Context.{Context}
use Rattle.janus_check.specs.declared.expression.Context.TheVariants as context
use Rattle.janus_check.specs.Check.{use_faults, side_use_faults, end_use_faults}
use Rattle.janus_check.specs.Seen.{Seen}
-- Of Scope and Seen, given again.
pub use Rattle.janus_check.specs.Scope.{IsSeen}
pub use Rattle.janus_check.specs.Seen.{heads_over}

-- the names in sight with their kinds, the newest first
abbrev pub in_sight : Seen → Shape
in_sight seen = seen.names

-- the heads that calls see
abbrev pub heads_seen : Seen → Heads
heads_seen seen = seen.heads

-- the faults of a use of a name in an expression that stands there
abbrev pub faults_at : {T : Type 0} → Context T → tree.Kind → Name → List CheckFault
faults_at (context.Free sight) = use_faults (in_sight sight.now)
faults_at (context.Assigning sight x) = side_use_faults (in_sight sight.now) (name_of x.now)
faults_at (context.EndOfLocal sight x) = end_use_faults (in_sight sight.now) (name_of x.now)
