use Rattle.std.proofs.Common.{◌≡◌, ◌+◌, ℕ, List, [], length, Option, Some, None, ap, ◌∙◌, arith}
use Rattle.std.specs.Prelude.{MatchOption}
use Rattle.janus_meaning.specs.Syntax.{Name, names_of}
use Rattle.janus_meaning.specs.Shape.{Shape, kind_at}
use Rattle.janus_slots.specs.Slots.{slot, slot_in}
use Rattle.janus_check.specs.Names.{shape_in, over}
use Rattle.janus_check.specs.declared.env.Kind.{Kind}
use Rattle.janus_check.proofs.env.EnvSymbolTable.place.Goals as goal

-- with no names below them
alone : (x : Name) (es : List (Name × Kind)) (r : Option ℕ) →
    MatchOption r (kind_at x (shape_in es) ≡ None) (λ i. (g : Shape) → slot_in (names_of (over g es)) x ≡ slot (length g + i)) →
    MatchOption r (kind_at x (shape_in es) ≡ None) (λ i. slot_in (names_of (shape_in es)) x ≡ slot i)
alone x es (Some i) h = h [] ∙ ap slot (let e : 0 + i ≡ i = omega arith in e)
alone x es None h = h

pub returns-clause-slot : goal.returns-clause-slot
returns-clause-slot c =
    alone c.args.name.now c.args.self.now.names c.place.result c.place.ensures.slot
