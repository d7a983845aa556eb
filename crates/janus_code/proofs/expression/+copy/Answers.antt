use Rattle.std.proofs.Common.{refl}
use Rattle.janus_code.proofs.Placing.{copy_of, copy_through, element_copy, negative_copy, binary_copy, and_copy, or_copy}
use Rattle.janus_code.proofs.expression.+copy.Goals as goal

pub copy-returns-in_ok-index-in-Element : goal.copy-returns-in_ok-index-in-Element
copy-returns-in_ok-index-in-Element t c =
    copy_of c.args.exp.now _ _ c.in-Element.is
    (element_copy c.in-Element.name c.in-Element.index c.in_ok-index-in-Element.index
    (copy_through c.deref.result.now _ c.in_ok-index-in-Element.index.value _ c.deref.ensures refl c.in_ok-index-in-Element.ensures))

pub copy-returns-in_ok-operand-in-Negative : goal.copy-returns-in_ok-operand-in-Negative
copy-returns-in_ok-operand-in-Negative t c =
    copy_of c.args.exp.now _ _ c.in-Negative.is
    (negative_copy c.in-Negative.operand c.in_ok-operand-in-Negative.operand
    (copy_through c.deref-in-Negative.result.now _ c.in_ok-operand-in-Negative.operand.value _ c.deref-in-Negative.ensures refl
    c.in_ok-operand-in-Negative.ensures))

pub copy-returns-in_ok-right-in-Binary : goal.copy-returns-in_ok-right-in-Binary
copy-returns-in_ok-right-in-Binary t c =
    copy_of c.args.exp.now _ _ c.in-Binary.is
    (binary_copy c.in-Binary.operator c.in-Binary.left c.in-Binary.right c.in_ok-left-in-Binary.left c.in_ok-right-in-Binary.right
    (copy_through c.deref-in-Binary.result.now _ c.in_ok-left-in-Binary.left.value _ c.deref-in-Binary.ensures refl c.in_ok-left-in-Binary.ensures)
    (copy_through c.deref-in-Binary-2.result.now _ c.in_ok-right-in-Binary.right.value _ c.deref-in-Binary-2.ensures refl c.in_ok-right-in-Binary.ensures))

pub copy-returns-in_ok-right-in-And : goal.copy-returns-in_ok-right-in-And
copy-returns-in_ok-right-in-And t c =
    copy_of c.args.exp.now _ _ c.in-And.is
    (and_copy c.in-And.left c.in-And.right c.in_ok-left-in-And.left c.in_ok-right-in-And.right
    (copy_through c.deref-in-And.result.now _ c.in_ok-left-in-And.left.value _ c.deref-in-And.ensures refl c.in_ok-left-in-And.ensures)
    (copy_through c.deref-in-And-2.result.now _ c.in_ok-right-in-And.right.value _ c.deref-in-And-2.ensures refl c.in_ok-right-in-And.ensures))

pub copy-returns-in_ok-right-in-Or : goal.copy-returns-in_ok-right-in-Or
copy-returns-in_ok-right-in-Or t c =
    copy_of c.args.exp.now _ _ c.in-Or.is
    (or_copy c.in-Or.left c.in-Or.right c.in_ok-left-in-Or.left c.in_ok-right-in-Or.right
    (copy_through c.deref-in-Or.result.now _ c.in_ok-left-in-Or.left.value _ c.deref-in-Or.ensures refl c.in_ok-left-in-Or.ensures)
    (copy_through c.deref-in-Or-2.result.now _ c.in_ok-right-in-Or.right.value _ c.deref-in-Or-2.ensures refl c.in_ok-right-in-Or.ensures))
