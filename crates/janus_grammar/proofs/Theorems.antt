-- The table and the rules say the same.
use Rattle.std.proofs.Common.{◌≡◌, List, [], true, refl, sym, subst}
use Rattle.janus_syntax.specs.Tokens.{Token}
use Rattle.janus_syntax.specs.Tree.{Exp, Cell}
use Rattle.janus_syntax.specs.Operators.{weakest}
use Rattle.janus_syntax.specs.Forms.{A_cell, Whole, done}
use Rattle.janus_syntax.specs.Table.{is_bare}
use Rattle.janus_syntax.specs.Grammar.{Demands, all, but_limits, zero_count, IsTree}
use Rattle.janus_grammar.specs.Derivation.{IsExpression, IsCell}
use Rattle.janus_grammar.specs.Laws.{CellsAreDerived, CellsWithinLimitsAreDerived, ExpressionsAreDerived, ExpressionsWithinLimitsAreDerived}
use Rattle.janus_grammar.proofs.ProcedureTable.{cell_grown}
use Rattle.janus_grammar.proofs.AllParts.{means}
use Rattle.janus_grammar.proofs.Rules.{nothing_more, leads, whole_is}
use Rattle.janus_grammar.proofs.ProcedureRules.{cell_is}

cell_derived : (d : Demands) → d.agreement ≡ true → (c : Cell) (ts : List Token) → IsTree A_cell d c ts → IsCell c ts []
cell_derived d agreement c ts t =
    let (ds, m1, a, h1) = means agreement t.1 in
    let (b, m2, s, h2) = h1 in
    let (e, m3, grows, h3) = h2 in
    subst (λ x. IsCell x ts []) (sym h3.0) (subst (λ rest. IsCell e ts rest) (sym h3.1) (cell_grown (is_bare ds b) ds b e ts m1 m2 m3 refl a s grows))

pub cells_are_derived : CellsAreDerived
cells_are_derived c ts = (cell_derived but_limits refl c ts, λ d. cell_is d zero_count)

pub cells_within_limits : CellsWithinLimitsAreDerived
cells_within_limits c ts = cell_derived all refl c ts

expression_derived : (d : Demands) → d.agreement ≡ true → (e : Exp) (ts : List Token) → IsTree Whole d e ts → IsExpression weakest e ts []
expression_derived d agreement e ts t =
    let (x, m, a, h) = means agreement t.1 in
    subst (λ y. IsExpression weakest y ts []) (sym h.0) (subst (λ rest. IsExpression weakest x ts rest) (sym h.1) a)

pub expressions_are_derived : ExpressionsAreDerived
expressions_are_derived e ts = (expression_derived but_limits refl e ts, λ d. whole_is (leads d) Whole done e [] (nothing_more Whole e []) zero_count)

pub expressions_within_limits : ExpressionsWithinLimitsAreDerived
expressions_within_limits e ts = expression_derived all refl e ts
