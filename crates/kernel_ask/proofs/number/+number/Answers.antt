use Rattle.std.proofs.Common.{◌≡◌, refl, ap, ◌∙◌, sym, arith, ℤ, neg_ℤ, true, false, to_z, of_z, w32}
use Rattle.std.proofs.lemmas.Int.{to_z-of_z}
use Rattle.std.proofs.lemmas.Result.{err_from_is_err_and}
use Rattle.janus_meaning.specs.Fault.{Fine, Bad, Broken}
use Rattle.janus_meaning.specs.Syntax as tree
use Rattle.janus_meaning.specs.Value.{value}
use Rattle.janus_meaning.specs.Word.{wrap, bit, nonzero, operate}
use Rattle.janus_meaning.specs.Store.{Stk, Arr, look, element}
use Rattle.janus_syntax.specs.View.{name_of, exp_of, operator_of}
use Rattle.janus_row.specs.NumberResults.{fault_of}
use Rattle.janus_row.proofs.Numbers.{wrap_number, bit_wraps}
use Rattle.kernel_text.specs.Stacks.{held}
use Rattle.kernel_ask.proofs.Sizes.{exp_size}
use Rattle.kernel_ask.proofs.Values.{number_in, variable_at, is_number, is_array, empty_is_stack, top_is_stack, empty_is, top_is, element_is, element_bad}
use Rattle.kernel_ask.proofs.Values.{negative_is, binary_is, binary_right, and_is, and_at, or_is, or_at}
use Rattle.kernel_ask.proofs.number.+number.Goals as goal

pub returns-in-Number : goal.returns-in-Number
unfolding value wrap
returns-in-Number g t c =
    let s = c.args.world.now.store in
    let n : ℤ = c.cast_signed.result in
    let z : to_z w32 (of_z w32 n) ≡ n = grind (arith, to_z-of_z) in
    ap Fine (z ∙ c.cast_signed.ensures ∙ wrap_number c.in-Number.number (omega arith)) ∙ ap (number_in s) (sym c.in-Number.is)

pub variable-requires : goal.variable-requires
variable-requires g t c =
    let s = c.args.world.now.store in
    let x = name_of c.in-Variable.name in
    let n = is_number s x (λ q. c.requires.safe (ap (number_in s) c.in-Variable.is ∙ q)) in
    (n.0, ap (λ x. look x s) c.deref.ensures ∙ n.1)

pub returns-in-Variable : goal.returns-in-Variable
returns-in-Variable g t c =
    let s = c.args.world.now.store in
    let x = name_of c.in-Variable.name in
    let n : ℤ = c.variable.result in
    let z : to_z w32 (of_z w32 n) ≡ n = grind (arith, to_z-of_z) in
    ap Fine z ∙ sym (variable_at s x n (ap (λ x. look x s) (sym c.deref.ensures) ∙ c.variable.ensures)) ∙ ap (number_in s) (sym c.in-Variable.is)

pub number-requires : goal.number-requires
number-requires g t c κs within =
    let s = c.args.world.now.store in
    let a = name_of c.in-Element.name in
    let i = exp_of c.in-Element.index.value in
    let safe : value (tree.At a i) s ≡ Bad Broken → ⊥ = λ q. c.requires.safe (ap (number_in s) c.in-Element.is ∙ q) in
    let l = is_array s a i safe in (
      omega (arith, c.decreases, ap exp_size c.in-Element.is, ap exp_size c.deref-in-Element.ensures),
      (
        within,
        λ h. safe (element_bad s a i l.0 Broken l.1 (ap (number_in s) (sym c.deref-in-Element.ensures) ∙ h)),
      ),
    )

pub returns-in_err-index-in-Element : goal.returns-in_err-index-in-Element
returns-in_err-index-in-Element g t c =
    let s = c.args.world.now.store in
    let a = name_of c.in-Element.name in
    let i = exp_of c.in-Element.index.value in
    let safe : value (tree.At a i) s ≡ Bad Broken → ⊥ = λ q. c.requires.safe (ap (number_in s) c.in-Element.is ∙ q) in
    let l = is_array s a i safe in
    let p = err_from_is_err_and c.from_residual.result c.from_residual.ensures.1 in
    rw (p.1, p.2)
    (sym (element_bad s a i l.0 (fault_of c.in_err-index-in-Element.field-0.0) l.1
    (sym (c.in_err-index-in-Element.ensures ∙ ap (number_in s) c.deref-in-Element.ensures))) ∙ ap (number_in s) (sym c.in-Element.is))

pub array-requires : goal.array-requires
array-requires g t c =
    let s = c.args.world.now.store in
    let a = name_of c.in-Element.name in
    let i = exp_of c.in-Element.index.value in
    let safe : value (tree.At a i) s ≡ Bad Broken → ⊥ = λ q. c.requires.safe (ap (number_in s) c.in-Element.is ∙ q) in
    let l = is_array s a i safe in
    (l.0, ap (λ x. look x s) c.deref-in-Element-2.ensures ∙ l.1)

pub returns-in_ok-index-in-Element : goal.returns-in_ok-index-in-Element
returns-in_ok-index-in-Element g t c =
    let s = c.args.world.now.store in
    let a = name_of c.in-Element.name in
    let i = exp_of c.in-Element.index.value in
    let l = c.array.result.now in
    let there : look a s ≡ Fine (Arr l) = ap (λ x. look x s) (sym c.deref-in-Element-2.ensures) ∙ c.array.ensures in
    let k : ℤ = c.in_ok-index-in-Element.index in
    let z : to_z w32 (of_z w32 k) ≡ k = grind (arith, to_z-of_z) in
    let index : value i s ≡ Fine k = sym (c.in_ok-index-in-Element.ensures ∙ ap (number_in s) c.deref-in-Element.ensures) in
    c.item.ensures ∙ ap (element l) z ∙ sym (element_is s a i l k there index) ∙ ap (number_in s) (sym c.in-Element.is)

pub stack-requires : goal.stack-requires
stack-requires g t c =
    let s = c.args.world.now.store in
    let x = name_of c.in-Empty.name in
    let l = empty_is_stack s x (λ q. c.requires.safe (ap (number_in s) c.in-Empty.is ∙ q)) in
    (l.0, ap (λ x. look x s) c.deref-in-Empty.ensures ∙ l.1)

pub stack-requires-in-Top : goal.stack-requires-in-Top
stack-requires-in-Top g t c =
    let s = c.args.world.now.store in
    let x = name_of c.in-Top.name in
    let l = top_is_stack s x (λ q. c.requires.safe (ap (number_in s) c.in-Top.is ∙ q)) in
    (l.0, ap (λ x. look x s) c.deref-in-Top.ensures ∙ l.1)

pub returns-in-Empty : goal.returns-in-Empty
returns-in-Empty g t c =
    let s = c.args.world.now.store in
    let x = name_of c.in-Empty.name in
    let l = held c.stack.result in
    let there : look x s ≡ Fine (Stk l) = ap (λ x. look x s) (sym c.deref-in-Empty.ensures) ∙ c.stack.ensures in
    let n : ℤ = c.bit_of.result in
    let z : to_z w32 (of_z w32 n) ≡ n = grind (arith, to_z-of_z) in
    ap Fine (z ∙ c.bit_of.ensures ∙ ap (λ b. wrap (bit b)) c.has_none.ensures) ∙ sym (empty_is s x l there) ∙ ap (number_in s) (sym c.in-Empty.is)

pub returns-in-Top : goal.returns-in-Top
returns-in-Top g t c =
    let s = c.args.world.now.store in
    let x = name_of c.in-Top.name in
    let l = held c.stack-in-Top.result in
    let there : look x s ≡ Fine (Stk l) = ap (λ x. look x s) (sym c.deref-in-Top.ensures) ∙ c.stack-in-Top.ensures in
    c.newest.ensures ∙ sym (top_is s x l there) ∙ ap (number_in s) (sym c.in-Top.is)

pub number-requires-in-Negative : goal.number-requires-in-Negative
number-requires-in-Negative g t c κs within =
    let s = c.args.world.now.store in
    let e = exp_of c.in-Negative.positive.value in (
      omega (arith, c.decreases, ap exp_size c.in-Negative.is, ap exp_size c.deref-in-Negative.ensures),
      (
        within,
        λ h. c.requires.safe (ap (number_in s) c.in-Negative.is ∙ negative_is s e (Bad Broken) (ap (number_in s) (sym c.deref-in-Negative.ensures) ∙ h)),
      ),
    )

pub returns-in_err-positive-in-Negative : goal.returns-in_err-positive-in-Negative
returns-in_err-positive-in-Negative g t c =
    let s = c.args.world.now.store in
    let e = exp_of c.in-Negative.positive.value in
    let p = err_from_is_err_and c.from_residual-in_err-positive-in-Negative.result c.from_residual-in_err-positive-in-Negative.ensures.1 in
    rw (p.1, p.2)
    (sym (negative_is s e (Bad (fault_of c.in_err-positive-in-Negative.field-0.0))
    (sym (c.in_err-positive-in-Negative.ensures ∙ ap (number_in s) c.deref-in-Negative.ensures))) ∙ ap (number_in s) (sym c.in-Negative.is))

pub returns-in_ok-positive-in-Negative : goal.returns-in_ok-positive-in-Negative
returns-in_ok-positive-in-Negative g t c =
    let s = c.args.world.now.store in
    let e = exp_of c.in-Negative.positive.value in
    let n : ℤ = c.in_ok-positive-in-Negative.positive in
    let z : to_z w32 (of_z w32 n) ≡ n = grind (arith, to_z-of_z) in
    let m : ℤ = c.negative.result in
    let y : to_z w32 (of_z w32 m) ≡ m = grind (arith, to_z-of_z) in
    ap Fine (y ∙ c.negative.ensures ∙ ap (λ n. wrap (neg_ℤ n)) z)
    ∙ sym (negative_is s e (Fine n) (sym (c.in_ok-positive-in-Negative.ensures ∙ ap (number_in s) c.deref-in-Negative.ensures)))
    ∙ ap (number_in s) (sym c.in-Negative.is)

pub number-requires-in-Binary : goal.number-requires-in-Binary
number-requires-in-Binary g t c κs within =
    let s = c.args.world.now.store in
    let o = operator_of c.in-Binary.operator in
    let l = exp_of c.in-Binary.left.value in
    let r = exp_of c.in-Binary.right.value in (
      omega (arith, c.decreases, ap exp_size c.in-Binary.is, ap exp_size c.deref-in-Binary.ensures),
      (
        within,
        λ h. c.requires.safe (ap (number_in s) c.in-Binary.is ∙ binary_is s o l r (Bad Broken) (ap (number_in s) (sym c.deref-in-Binary.ensures) ∙ h)),
      ),
    )

pub returns-in_err-left-in-Binary : goal.returns-in_err-left-in-Binary
returns-in_err-left-in-Binary g t c =
    let s = c.args.world.now.store in
    let o = operator_of c.in-Binary.operator in
    let l = exp_of c.in-Binary.left.value in
    let r = exp_of c.in-Binary.right.value in
    let p = err_from_is_err_and c.from_residual-in_err-left-in-Binary.result c.from_residual-in_err-left-in-Binary.ensures.1 in
    rw (p.1, p.2)
    (sym (binary_is s o l r (Bad (fault_of c.in_err-left-in-Binary.field-0.0))
    (sym (c.in_err-left-in-Binary.ensures ∙ ap (number_in s) c.deref-in-Binary.ensures))) ∙ ap (number_in s) (sym c.in-Binary.is))

pub number-requires-in-Binary-2 : goal.number-requires-in-Binary-2
number-requires-in-Binary-2 g t c κs within =
    let s = c.args.world.now.store in
    let o = operator_of c.in-Binary.operator in
    let l = exp_of c.in-Binary.left.value in
    let r = exp_of c.in-Binary.right.value in
    let n : ℤ = c.in_ok-left-in-Binary.left in
    let left : value l s ≡ Fine n = sym (c.in_ok-left-in-Binary.ensures ∙ ap (number_in s) c.deref-in-Binary.ensures) in (
      omega (arith, c.decreases, ap exp_size c.in-Binary.is, ap exp_size c.deref-in-Binary-2.ensures),
      (
        within,
        λ h. c.requires.safe
            (ap (number_in s) c.in-Binary.is ∙ binary_right s o l r n (Bad Broken) left (ap (number_in s) (sym c.deref-in-Binary-2.ensures) ∙ h)),
      ),
    )

pub returns-in_err-right-in-Binary : goal.returns-in_err-right-in-Binary
returns-in_err-right-in-Binary g t c =
    let s = c.args.world.now.store in
    let o = operator_of c.in-Binary.operator in
    let l = exp_of c.in-Binary.left.value in
    let r = exp_of c.in-Binary.right.value in
    let n : ℤ = c.in_ok-left-in-Binary.left in
    let left : value l s ≡ Fine n = sym (c.in_ok-left-in-Binary.ensures ∙ ap (number_in s) c.deref-in-Binary.ensures) in
    let p = err_from_is_err_and c.from_residual-in_err-right-in-Binary.result c.from_residual-in_err-right-in-Binary.ensures.1 in
    rw (p.1, p.2)
    (sym (binary_right s o l r n (Bad (fault_of c.in_err-right-in-Binary.field-0.0)) left
    (sym (c.in_err-right-in-Binary.ensures ∙ ap (number_in s) c.deref-in-Binary-2.ensures))) ∙ ap (number_in s) (sym c.in-Binary.is))

pub returns-in_ok-right-in-Binary : goal.returns-in_ok-right-in-Binary
returns-in_ok-right-in-Binary g t c =
    let s = c.args.world.now.store in
    let o = operator_of c.in-Binary.operator in
    let l = exp_of c.in-Binary.left.value in
    let r = exp_of c.in-Binary.right.value in
    let n : ℤ = c.in_ok-left-in-Binary.left in
    let left : value l s ≡ Fine n = sym (c.in_ok-left-in-Binary.ensures ∙ ap (number_in s) c.deref-in-Binary.ensures) in
    let z : to_z w32 (of_z w32 n) ≡ n = grind (arith, to_z-of_z) in
    let m : ℤ = c.in_ok-right-in-Binary.right in
    let y : to_z w32 (of_z w32 m) ≡ m = grind (arith, to_z-of_z) in
    let right : value r s ≡ Fine m = sym (c.in_ok-right-in-Binary.ensures ∙ ap (number_in s) c.deref-in-Binary-2.ensures) in
    c.operate.ensures ∙ ap (λ n. operate o n (to_z w32 (of_z w32 m))) z ∙ ap (operate o n) y
    ∙ sym (binary_right s o l r n (Fine m) left right) ∙ ap (number_in s) (sym c.in-Binary.is)

pub number-requires-in-And : goal.number-requires-in-And
number-requires-in-And g t c κs within =
    let s = c.args.world.now.store in
    let l = exp_of c.in-And.left.value in
    let r = exp_of c.in-And.right.value in (
      omega (arith, c.decreases, ap exp_size c.in-And.is, ap exp_size c.deref-in-And.ensures),
      (
        within,
        λ h. c.requires.safe (ap (number_in s) c.in-And.is ∙ and_is s l r (Bad Broken) (ap (number_in s) (sym c.deref-in-And.ensures) ∙ h)),
      ),
    )

pub returns-in_err-left-in-And : goal.returns-in_err-left-in-And
returns-in_err-left-in-And g t c =
    let s = c.args.world.now.store in
    let l = exp_of c.in-And.left.value in
    let r = exp_of c.in-And.right.value in
    let p = err_from_is_err_and c.from_residual-in_err-left-in-And.result c.from_residual-in_err-left-in-And.ensures.1 in
    rw (p.1, p.2)
    (sym (and_is s l r (Bad (fault_of c.in_err-left-in-And.field-0.0))
    (sym (c.in_err-left-in-And.ensures ∙ ap (number_in s) c.deref-in-And.ensures))) ∙ ap (number_in s) (sym c.in-And.is))

pub returns-then-not-holds : goal.returns-then-not-holds
returns-then-not-holds g t c =
    let s = c.args.world.now.store in
    let l = exp_of c.in-And.left.value in
    let r = exp_of c.in-And.right.value in
    let n : ℤ = c.in_ok-left-in-And.left in
    let left : value l s ≡ Fine n = sym (c.in_ok-left-in-And.ensures ∙ ap (number_in s) c.deref-in-And.ensures) in
    let z : to_z w32 (of_z w32 n) ≡ n = grind (arith, to_z-of_z) in
    let test : nonzero n ≡ false = ap nonzero (sym z) ∙ sym c.holds.ensures ∙ c.if-not-holds.true in
    ap Fine (bit_wraps false) ∙ sym (and_at s l r n false (value r s) left test refl) ∙ ap (number_in s) (sym c.in-And.is)

pub number-requires-in-And-2 : goal.number-requires-in-And-2
number-requires-in-And-2 g t c κs within =
    let s = c.args.world.now.store in
    let l = exp_of c.in-And.left.value in
    let r = exp_of c.in-And.right.value in
    let n : ℤ = c.in_ok-left-in-And.left in
    let left : value l s ≡ Fine n = sym (c.in_ok-left-in-And.ensures ∙ ap (number_in s) c.deref-in-And.ensures) in
    let z : to_z w32 (of_z w32 n) ≡ n = grind (arith, to_z-of_z) in
    let test : nonzero n ≡ true = ap nonzero (sym z) ∙ sym c.holds.ensures ∙ c.if-not-holds.false in (
      omega (arith, c.decreases, ap exp_size c.in-And.is, ap exp_size c.deref-in-And-2.ensures),
      (
        within,
        λ h. c.requires.safe (ap (number_in s) c.in-And.is ∙ and_at s l r n true (Bad Broken) left test (ap (number_in s) (sym c.deref-in-And-2.ensures) ∙ h)),
      ),
    )

pub returns-in_err-right-in-And : goal.returns-in_err-right-in-And
returns-in_err-right-in-And g t c =
    let s = c.args.world.now.store in
    let l = exp_of c.in-And.left.value in
    let r = exp_of c.in-And.right.value in
    let n : ℤ = c.in_ok-left-in-And.left in
    let left : value l s ≡ Fine n = sym (c.in_ok-left-in-And.ensures ∙ ap (number_in s) c.deref-in-And.ensures) in
    let z : to_z w32 (of_z w32 n) ≡ n = grind (arith, to_z-of_z) in
    let test : nonzero n ≡ true = ap nonzero (sym z) ∙ sym c.holds.ensures ∙ c.if-not-holds.false in
    let p = err_from_is_err_and c.from_residual-in_err-right-in-And.result c.from_residual-in_err-right-in-And.ensures.1 in
    rw (p.1, p.2)
    (sym (and_at s l r n true (Bad (fault_of c.in_err-right-in-And.field-0.0)) left test
    (sym (c.in_err-right-in-And.ensures ∙ ap (number_in s) c.deref-in-And-2.ensures))) ∙ ap (number_in s) (sym c.in-And.is))

pub returns-in_ok-right-in-And : goal.returns-in_ok-right-in-And
returns-in_ok-right-in-And g t c =
    let s = c.args.world.now.store in
    let l = exp_of c.in-And.left.value in
    let r = exp_of c.in-And.right.value in
    let n : ℤ = c.in_ok-left-in-And.left in
    let left : value l s ≡ Fine n = sym (c.in_ok-left-in-And.ensures ∙ ap (number_in s) c.deref-in-And.ensures) in
    let z : to_z w32 (of_z w32 n) ≡ n = grind (arith, to_z-of_z) in
    let test : nonzero n ≡ true = ap nonzero (sym z) ∙ sym c.holds.ensures ∙ c.if-not-holds.false in
    let m : ℤ = c.in_ok-right-in-And.right in
    let y : to_z w32 (of_z w32 m) ≡ m = grind (arith, to_z-of_z) in
    let right : value r s ≡ Fine m = sym (c.in_ok-right-in-And.ensures ∙ ap (number_in s) c.deref-in-And-2.ensures) in
    let b : ℤ = c.truth.result in
    let w : to_z w32 (of_z w32 b) ≡ b = grind (arith, to_z-of_z) in
    ap Fine (w ∙ c.truth.ensures ∙ ap (λ v. wrap (bit (nonzero v))) y) ∙ sym (and_at s l r n true (Fine m) left test right)
    ∙ ap (number_in s) (sym c.in-And.is)

pub number-requires-in-Or : goal.number-requires-in-Or
number-requires-in-Or g t c κs within =
    let s = c.args.world.now.store in
    let l = exp_of c.in-Or.left.value in
    let r = exp_of c.in-Or.right.value in (
      omega (arith, c.decreases, ap exp_size c.in-Or.is, ap exp_size c.deref-in-Or.ensures),
      (
        within,
        λ h. c.requires.safe (ap (number_in s) c.in-Or.is ∙ or_is s l r (Bad Broken) (ap (number_in s) (sym c.deref-in-Or.ensures) ∙ h)),
      ),
    )

pub returns-in_err-left-in-Or : goal.returns-in_err-left-in-Or
returns-in_err-left-in-Or g t c =
    let s = c.args.world.now.store in
    let l = exp_of c.in-Or.left.value in
    let r = exp_of c.in-Or.right.value in
    let p = err_from_is_err_and c.from_residual-in_err-left-in-Or.result c.from_residual-in_err-left-in-Or.ensures.1 in
    rw (p.1, p.2)
    (sym (or_is s l r (Bad (fault_of c.in_err-left-in-Or.field-0.0))
    (sym (c.in_err-left-in-Or.ensures ∙ ap (number_in s) c.deref-in-Or.ensures))) ∙ ap (number_in s) (sym c.in-Or.is))

pub returns-then-holds : goal.returns-then-holds
returns-then-holds g t c =
    let s = c.args.world.now.store in
    let l = exp_of c.in-Or.left.value in
    let r = exp_of c.in-Or.right.value in
    let n : ℤ = c.in_ok-left-in-Or.left in
    let left : value l s ≡ Fine n = sym (c.in_ok-left-in-Or.ensures ∙ ap (number_in s) c.deref-in-Or.ensures) in
    let z : to_z w32 (of_z w32 n) ≡ n = grind (arith, to_z-of_z) in
    let test : nonzero n ≡ true = ap nonzero (sym z) ∙ sym c.holds-in-Or.ensures ∙ c.if-holds.true in
    ap Fine (bit_wraps true) ∙ sym (or_at s l r n true (value r s) left test refl) ∙ ap (number_in s) (sym c.in-Or.is)

pub number-requires-in-Or-2 : goal.number-requires-in-Or-2
number-requires-in-Or-2 g t c κs within =
    let s = c.args.world.now.store in
    let l = exp_of c.in-Or.left.value in
    let r = exp_of c.in-Or.right.value in
    let n : ℤ = c.in_ok-left-in-Or.left in
    let left : value l s ≡ Fine n = sym (c.in_ok-left-in-Or.ensures ∙ ap (number_in s) c.deref-in-Or.ensures) in
    let z : to_z w32 (of_z w32 n) ≡ n = grind (arith, to_z-of_z) in
    let test : nonzero n ≡ false = ap nonzero (sym z) ∙ sym c.holds-in-Or.ensures ∙ c.if-holds.false in (
      omega (arith, c.decreases, ap exp_size c.in-Or.is, ap exp_size c.deref-in-Or-2.ensures),
      (
        within,
        λ h. c.requires.safe (ap (number_in s) c.in-Or.is ∙ or_at s l r n false (Bad Broken) left test (ap (number_in s) (sym c.deref-in-Or-2.ensures) ∙ h)),
      ),
    )

pub returns-in_err-right-in-Or : goal.returns-in_err-right-in-Or
returns-in_err-right-in-Or g t c =
    let s = c.args.world.now.store in
    let l = exp_of c.in-Or.left.value in
    let r = exp_of c.in-Or.right.value in
    let n : ℤ = c.in_ok-left-in-Or.left in
    let left : value l s ≡ Fine n = sym (c.in_ok-left-in-Or.ensures ∙ ap (number_in s) c.deref-in-Or.ensures) in
    let z : to_z w32 (of_z w32 n) ≡ n = grind (arith, to_z-of_z) in
    let test : nonzero n ≡ false = ap nonzero (sym z) ∙ sym c.holds-in-Or.ensures ∙ c.if-holds.false in
    let p = err_from_is_err_and c.from_residual-in_err-right-in-Or.result c.from_residual-in_err-right-in-Or.ensures.1 in
    rw (p.1, p.2)
    (sym (or_at s l r n false (Bad (fault_of c.in_err-right-in-Or.field-0.0)) left test
    (sym (c.in_err-right-in-Or.ensures ∙ ap (number_in s) c.deref-in-Or-2.ensures))) ∙ ap (number_in s) (sym c.in-Or.is))

pub returns-in_ok-right-in-Or : goal.returns-in_ok-right-in-Or
returns-in_ok-right-in-Or g t c =
    let s = c.args.world.now.store in
    let l = exp_of c.in-Or.left.value in
    let r = exp_of c.in-Or.right.value in
    let n : ℤ = c.in_ok-left-in-Or.left in
    let left : value l s ≡ Fine n = sym (c.in_ok-left-in-Or.ensures ∙ ap (number_in s) c.deref-in-Or.ensures) in
    let z : to_z w32 (of_z w32 n) ≡ n = grind (arith, to_z-of_z) in
    let test : nonzero n ≡ false = ap nonzero (sym z) ∙ sym c.holds-in-Or.ensures ∙ c.if-holds.false in
    let m : ℤ = c.in_ok-right-in-Or.right in
    let y : to_z w32 (of_z w32 m) ≡ m = grind (arith, to_z-of_z) in
    let right : value r s ≡ Fine m = sym (c.in_ok-right-in-Or.ensures ∙ ap (number_in s) c.deref-in-Or-2.ensures) in
    let b : ℤ = c.truth-in-Or.result in
    let w : to_z w32 (of_z w32 b) ≡ b = grind (arith, to_z-of_z) in
    ap Fine (w ∙ c.truth-in-Or.ensures ∙ ap (λ v. wrap (bit (nonzero v))) y) ∙ sym (or_at s l r n false (Fine m) left test right)
    ∙ ap (number_in s) (sym c.in-Or.is)
