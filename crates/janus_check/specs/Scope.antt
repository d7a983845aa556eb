-- The names in sight where a statement stands.
use Rattle.std.specs.Prelude.{◌≡◌, ◌∷◌, Some}
use Rattle.janus_meaning.specs.Syntax as tree
use Rattle.janus_meaning.specs.Shape.{Shape, kind_at}
use Rattle.janus_syntax.specs.Tree.{parameters_view}
use Rattle.janus_syntax.specs.View.{name_of}
use Rattle.janus_check.specs.Names.{meant_kind}
use Rattle.janus_check.specs.Check.{body_sight}
use Rattle.janus_check.specs.declared.scope.Scope.{Scope, Declared, Body, Local'}

-- a name is in sight, as one of some kind
abbrev pub IsSeen : Shape → tree.Name → Type 0
IsSeen g x = (k : tree.Kind) × (kind_at x g ≡ Some k)

-- the names in sight with their kinds, the newest first, where these are declared
abbrev pub scoped : Shape → Scope → Shape
scoped g Declared = g
scoped g (Body xs) = body_sight (parameters_view xs.now)
scoped g (Local' x k at outer) = (name_of x.now, meant_kind k) ∷ scoped g outer
