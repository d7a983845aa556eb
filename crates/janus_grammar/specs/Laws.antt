-- The table of janus_syntax and the rules of the grammar say the same.
use Rattle.std.specs.Prelude.{List, [], ◌↔◌}
use Rattle.janus_syntax.specs.Tokens.{Token}
use Rattle.janus_syntax.specs.Tree.{Exp, Cell}
use Rattle.janus_syntax.specs.Operators.{weakest}
use Rattle.janus_syntax.specs.Forms.{A_cell, Whole}
use Rattle.janus_syntax.specs.Grammar.{all, but_limits, IsTree}
use Rattle.janus_grammar.specs.Derivation.{IsExpression, IsCell}

-- tokens are a cell by the table, limits aside, just where they are one by the rules
abbrev pub CellsAreDerived : Type 0
CellsAreDerived = (c : Cell) (ts : List Token) → IsTree A_cell but_limits c ts ↔ IsCell c ts []

-- a cell within the limits is one
abbrev pub CellsWithinLimitsAreDerived : Type 0
CellsWithinLimitsAreDerived = (c : Cell) (ts : List Token) → IsTree A_cell all c ts → IsCell c ts []

-- the same of an expression that stands alone
abbrev pub ExpressionsAreDerived : Type 0
ExpressionsAreDerived = (e : Exp) (ts : List Token) → IsTree Whole but_limits e ts ↔ IsExpression weakest e ts []

abbrev pub ExpressionsWithinLimitsAreDerived : Type 0
ExpressionsWithinLimitsAreDerived = (e : Exp) (ts : List Token) → IsTree Whole all e ts → IsExpression weakest e ts []
