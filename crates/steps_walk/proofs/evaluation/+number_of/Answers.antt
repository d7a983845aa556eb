use Rattle.std.proofs.Common.{◌≡◌, ap, ◌∙◌, sym, arith, ℤ, to_z, of_z, w32}
use Rattle.std.proofs.lemmas.Int.{to_z-of_z}
use Rattle.janus_meaning.specs.Fault.{Fine, and_then}
use Rattle.janus_meaning.specs.Value.{value}
use Rattle.janus_meaning.specs.Word.{wrap}
use Rattle.janus_meaning.specs.Store.{look, number, array, stack}
use Rattle.janus_syntax.specs.View.{name_of, exp_of, operator_of}
use Rattle.janus_row.proofs.Numbers.{wrap_number}
use Rattle.steps_walk.specs.Values.{sighted}
use Rattle.steps_walk.specs.Walk.{slots_in}
use Rattle.steps_walk.proofs.Values.{variable_told, element_told, empty_told, top_told, negative_told, binary_told, and_told, or_told}
use Rattle.steps_walk.proofs.evaluation.+number_of.Goals as goal

pub returns-in-Number : goal.returns-in-Number
unfolding value wrap
returns-in-Number g t c = λ names h.
    let s = sighted (slots_in c.args.walk.now) names in
    let n : ℤ = c.cast_signed.result in
    let z : to_z w32 (of_z w32 n) ≡ n = grind (arith, to_z-of_z) in
    ap Fine (z ∙ c.cast_signed.ensures ∙ wrap_number c.in-Number.number (omega arith)) ∙ ap (λ e. value (exp_of e) s) (sym c.in-Number.is)

pub returns-in-Variable : goal.returns-in-Variable
returns-in-Variable g t c = λ names h.
    let s = sighted (slots_in c.args.walk.now) names in
    variable_told s (name_of c.in-Variable.name) _ (c.variable.ensures names h ∙ ap (λ x. and_then (look x s) number) c.as_str.ensures.value)
    ∙ ap (λ e. value (exp_of e) s) (sym c.in-Variable.is)

pub returns-in-Element : goal.returns-in-Element
returns-in-Element g t c = λ names h.
    let s = sighted (slots_in c.args.walk.now) names in
    element_told s (name_of c.in-Element.name) (exp_of c.in-Element.index.value) _ _ _ c.element.ensures
    (c.array.ensures names h ∙ ap (λ x. and_then (look x s) array) c.as_str-in-Element.ensures.value)
    (c.number_of.ensures names h ∙ ap (λ e. value (exp_of e) s) c.deref.ensures)
    ∙ ap (λ e. value (exp_of e) s) (sym c.in-Element.is)

pub returns-in-Empty : goal.returns-in-Empty
returns-in-Empty g t c = λ names h.
    let s = sighted (slots_in c.args.walk.now) names in
    empty_told s (name_of c.in-Empty.name) _ _ c.emptiness.ensures
    (c.stack.ensures names h ∙ ap (λ x. and_then (look x s) stack) c.as_str-in-Empty.ensures.value)
    ∙ ap (λ e. value (exp_of e) s) (sym c.in-Empty.is)

pub returns-in-Top : goal.returns-in-Top
returns-in-Top g t c = λ names h.
    let s = sighted (slots_in c.args.walk.now) names in
    top_told s (name_of c.in-Top.name) _ _ c.newest.ensures
    (c.stack-in-Top.ensures names h ∙ ap (λ x. and_then (look x s) stack) c.as_str-in-Top.ensures.value)
    ∙ ap (λ e. value (exp_of e) s) (sym c.in-Top.is)

pub returns-in-Negative : goal.returns-in-Negative
returns-in-Negative g t c = λ names h.
    let s = sighted (slots_in c.args.walk.now) names in
    negative_told s (exp_of c.in-Negative.operand.value) _ _ c.negated.ensures
    (c.number_of-in-Negative.ensures names h ∙ ap (λ e. value (exp_of e) s) c.deref-in-Negative.ensures)
    ∙ ap (λ e. value (exp_of e) s) (sym c.in-Negative.is)

pub returns-in-Binary : goal.returns-in-Binary
returns-in-Binary g t c = λ names h.
    let s = sighted (slots_in c.args.walk.now) names in
    binary_told s (exp_of c.in-Binary.left.value) (exp_of c.in-Binary.right.value) _ _ _
    (c.number_of-in-Binary.ensures names h ∙ ap (λ e. value (exp_of e) s) c.deref-in-Binary.ensures)
    (c.number_of-in-Binary-2.ensures names h ∙ ap (λ e. value (exp_of e) s) c.deref-in-Binary-2.ensures)
    (operator_of c.in-Binary.operator) c.combined.ensures
    ∙ ap (λ e. value (exp_of e) s) (sym c.in-Binary.is)

pub returns-in-And : goal.returns-in-And
returns-in-And g t c = λ names h.
    let s = sighted (slots_in c.args.walk.now) names in
    and_told s (exp_of c.in-And.left.value) (exp_of c.in-And.right.value) _ _ _
    (c.number_of-in-And.ensures names h ∙ ap (λ e. value (exp_of e) s) c.deref-in-And.ensures)
    (c.number_of-in-And-2.ensures names h ∙ ap (λ e. value (exp_of e) s) c.deref-in-And-2.ensures) c.both.ensures
    ∙ ap (λ e. value (exp_of e) s) (sym c.in-And.is)

pub returns-in-Or : goal.returns-in-Or
returns-in-Or g t c = λ names h.
    let s = sighted (slots_in c.args.walk.now) names in
    or_told s (exp_of c.in-Or.left.value) (exp_of c.in-Or.right.value) _ _ _
    (c.number_of-in-Or.ensures names h ∙ ap (λ e. value (exp_of e) s) c.deref-in-Or.ensures)
    (c.number_of-in-Or-2.ensures names h ∙ ap (λ e. value (exp_of e) s) c.deref-in-Or-2.ensures) c.either.ensures
    ∙ ap (λ e. value (exp_of e) s) (sym c.in-Or.is)
