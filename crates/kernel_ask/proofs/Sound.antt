-- A well-formed expression has a value or a fault of the table.
use Rattle.std.proofs.Common.{◌≡◌, ℤ, subst}
use Rattle.janus_meaning.specs.Syntax.{Exp}
use Rattle.janus_meaning.specs.Fault.{Res, Bad, Broken}
use Rattle.janus_meaning.specs.Store.{Store}
use Rattle.janus_meaning.specs.Shape.{shape_of}
use Rattle.janus_meaning.specs.Formed.{IsExp}
use Rattle.janus_meaning.specs.Value.{value}
use Rattle.janus_meaning.proofs.Sane.{Any, Sane, value_sane}

pub not_broken : (e : Exp) (s : Store) → IsExp (shape_of s) e → value e s ≡ Bad Broken → ⊥
not_broken e s formed broken = subst (λ (r : Res ℤ). Sane Any r) broken (value_sane e s formed)
