-- What a cell without faults meets: the well-formedness of the meaning.
use Rattle.std.specs.Prelude.{◌≡◌, ◌↔◌, []}
use Rattle.janus_meaning.specs.Shape.{Shape, Heads}
use Rattle.janus_meaning.specs.Formed.{IsExp}
use Rattle.janus_meaning.specs.FormedWorld.{IsFormedOver}
use Rattle.janus_syntax.specs.Tree.{Exp, Cell}
use Rattle.janus_syntax.specs.View.{plain_exp, plain_cell}
use Rattle.janus_check.specs.Check.{exp_faults, faults_over}
use Rattle.janus_check.specs.Names.{shape_in, heads_in, Known}

-- over these names and heads of procedures
abbrev pub IsWellFormed : Shape → Heads → Cell → Type 0
IsWellFormed g hs c = IsFormedOver g hs (plain_cell c)

-- over what is known
abbrev pub IsWellFormedOver : Known → Cell → Type 0
IsWellFormedOver k c = IsWellFormed (shape_in k.names) (heads_in k.procedures) c

-- Over what may be known a cell has no faults exactly where it is well formed, and so an expression.
pub record AreExact (k : Known) : Type 0 where
  pub cells : (c : Cell) → (faults_over k c ≡ []) ↔ IsWellFormedOver k c
  pub expressions : (e : Exp) → (exp_faults (shape_in k.names) e ≡ []) ↔ IsExp (shape_in k.names) (plain_exp e)

abbrev pub FaultsAreExact : Type 0
FaultsAreExact = (k : Known) → AreExact k
