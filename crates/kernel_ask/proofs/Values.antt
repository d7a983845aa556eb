-- The value of an expression from those of its parts.
use Rattle.std.proofs.Common.{◌≡◌, ℤ, neg_ℤ, Bool, true, false, List, refl, ap, ◌∙◌}
use Rattle.janus_meaning.specs.Fault.{Fault, Res, Fine, Bad, Broken, and_then}
use Rattle.janus_meaning.specs.Word.{Operator, wrap, bit, nonzero, operate}
use Rattle.janus_meaning.specs.Syntax.{Name, Exp, Var, At, Empty, Top, Negate, Binary, And, Or}
use Rattle.janus_meaning.specs.Store.{Val, Num, Arr, Stk, Lent, Store, Bare, Slot, same_name, look, look_at, number, array, stack, element}
use Rattle.janus_meaning.specs.Value.{value, both, either, first, is_none}
use Rattle.kernel_ask.specs.LookedUp.{IsNumber, IsArray, IsStack}
use Rattle.janus_syntax.specs.View.{exp_of}
use Rattle.janus_syntax.specs.declared.tree.Exp as code

-- the value of the code's tree
abbrev pub number_in : Store → code.Exp → Res ℤ
number_in s e = value (exp_of e) s

-- nothing but `Broken` keeps a name from being found

read_bad : (v : Val) (f : Fault) → look_at true v (Bad Broken) ≡ Bad f → f ≡ Broken
read_bad (Num n) f h = cc
read_bad (Arr l) f h = cc
read_bad (Stk l) f h = cc
read_bad Lent f h = cc

look_at_bad : (b : Bool) (v : Val) (r : Res Val) (f : Fault) → (r ≡ Bad f → f ≡ Broken) → look_at b v r ≡ Bad f → f ≡ Broken
look_at_bad true v r f h e = read_bad v f e
look_at_bad false v r f h e = h e

look_bad : (x : Name) (s : Store) (f : Fault) → look x s ≡ Bad f → f ≡ Broken
look_bad x Bare f h = cc
look_bad x (Slot y v s) f h = look_at_bad (same_name x y) v (look x s) f (look_bad x s f) h

module _ (s : Store) where
  pub variable_is : (x : Name) → value (Var x) s ≡ and_then (look x s) number
  unfolding value
  variable_is x = refl

  pub variable_at : (x : Name) (n : ℤ) → look x s ≡ Fine (Num n) → value (Var x) s ≡ Fine n
  variable_at x n h = variable_is x ∙ ap (λ r. and_then r number) h

  number_by : (r : Res Val) → ((f : Fault) → r ≡ Bad f → f ≡ Broken) → (and_then r number ≡ Bad Broken → ⊥) → IsNumber r
  number_by (Bad f) h safe = absurd (safe (ap Bad (h f refl)))
  number_by (Fine (Num n)) h safe = (n, refl)
  number_by (Fine (Arr l)) h safe = absurd (safe refl)
  number_by (Fine (Stk l)) h safe = absurd (safe refl)
  number_by (Fine Lent) h safe = absurd (safe refl)

  -- the name of a variable is that of a number
  pub is_number : (x : Name) → (value (Var x) s ≡ Bad Broken → ⊥) → IsNumber (look x s)
  is_number x safe = number_by (look x s) (look_bad x s) (λ h. safe (variable_is x ∙ h))

  abbrev at_of : Exp → Res Val → Res ℤ
  at_of i r = and_then r (λ v. and_then (array v) (λ l. and_then (value i s) (λ k. element l k)))

  element_value : (a : Name) (i : Exp) → value (At a i) s ≡ at_of i (look a s)
  unfolding value
  element_value a i = refl

  array_by : (i : Exp) (r : Res Val) → ((f : Fault) → r ≡ Bad f → f ≡ Broken) → (at_of i r ≡ Bad Broken → ⊥) → IsArray r
  array_by i (Bad f) h safe = absurd (safe (ap Bad (h f refl)))
  array_by i (Fine (Num n)) h safe = absurd (safe refl)
  array_by i (Fine (Arr l)) h safe = (l, refl)
  array_by i (Fine (Stk l)) h safe = absurd (safe refl)
  array_by i (Fine Lent) h safe = absurd (safe refl)

  -- the name of an element is that of an array
  pub is_array : (a : Name) (i : Exp) → (value (At a i) s ≡ Bad Broken → ⊥) → IsArray (look a s)
  is_array a i safe = array_by i (look a s) (look_bad a s) (λ h. safe (element_value a i ∙ h))

  pub element_is : (a : Name) (i : Exp) (l : List ℤ) (k : ℤ) → look a s ≡ Fine (Arr l) → value i s ≡ Fine k → value (At a i) s ≡ element l k
  element_is a i l k h e = element_value a i ∙ ap (at_of i) h ∙ ap (λ r. and_then r (λ k. element l k)) e

  pub element_bad : (a : Name) (i : Exp) (l : List ℤ) (f : Fault) → look a s ≡ Fine (Arr l) → value i s ≡ Bad f → value (At a i) s ≡ Bad f
  element_bad a i l f h e = element_value a i ∙ ap (at_of i) h ∙ ap (λ r. and_then r (λ k. element l k)) e

  -- what is read of a stack
  abbrev off : (List ℤ → Res ℤ) → Res Val → Res ℤ
  off read r = and_then r (λ v. and_then (stack v) read)

  stack_by : (read : List ℤ → Res ℤ) (r : Res Val) → ((f : Fault) → r ≡ Bad f → f ≡ Broken) → (off read r ≡ Bad Broken → ⊥) → IsStack r
  stack_by read (Bad f) h safe = absurd (safe (ap Bad (h f refl)))
  stack_by read (Fine (Num n)) h safe = absurd (safe refl)
  stack_by read (Fine (Arr l)) h safe = absurd (safe refl)
  stack_by read (Fine (Stk l)) h safe = (l, refl)
  stack_by read (Fine Lent) h safe = absurd (safe refl)

  empty_value : (x : Name) → value (Empty x) s ≡ off (λ l. Fine (wrap (bit (is_none l)))) (look x s)
  unfolding value
  empty_value x = refl

  top_value : (x : Name) → value (Top x) s ≡ off first (look x s)
  unfolding value
  top_value x = refl

  pub empty_is_stack : (x : Name) → (value (Empty x) s ≡ Bad Broken → ⊥) → IsStack (look x s)
  empty_is_stack x safe = stack_by (λ l. Fine (wrap (bit (is_none l)))) (look x s) (look_bad x s) (λ h. safe (empty_value x ∙ h))

  pub top_is_stack : (x : Name) → (value (Top x) s ≡ Bad Broken → ⊥) → IsStack (look x s)
  top_is_stack x safe = stack_by first (look x s) (look_bad x s) (λ h. safe (top_value x ∙ h))

  pub empty_is : (x : Name) (l : List ℤ) → look x s ≡ Fine (Stk l) → value (Empty x) s ≡ Fine (wrap (bit (is_none l)))
  empty_is x l h = empty_value x ∙ ap (off (λ l. Fine (wrap (bit (is_none l))))) h

  pub top_is : (x : Name) (l : List ℤ) → look x s ≡ Fine (Stk l) → value (Top x) s ≡ first l
  top_is x l h = top_value x ∙ ap (off first) h

  pub negative_is : (e : Exp) (r : Res ℤ) → value e s ≡ r → value (Negate e) s ≡ and_then r (λ v. Fine (wrap (neg_ℤ v)))
  unfolding value
  negative_is e r h = ap (λ r. and_then r (λ v. Fine (wrap (neg_ℤ v)))) h

  pub binary_is : (o : Operator) (l r : Exp) (p : Res ℤ) → value l s ≡ p → value (Binary o l r) s ≡ and_then p (λ a. and_then (value r s) (λ b. operate o a b))
  unfolding value
  binary_is o l r p h = ap (λ p. and_then p (λ a. and_then (value r s) (λ b. operate o a b))) h

  pub binary_right : (o : Operator) (l r : Exp) (a : ℤ) (q : Res ℤ) → value l s ≡ Fine a → value r s ≡ q →
      value (Binary o l r) s ≡ and_then q (λ b. operate o a b)
  binary_right o l r a q h k = binary_is o l r (Fine a) h ∙ ap (λ q. and_then q (λ b. operate o a b)) k

  pub and_is : (l r : Exp) (p : Res ℤ) → value l s ≡ p → value (And l r) s ≡ and_then p (λ a. both (nonzero a) (value r s))
  unfolding value
  and_is l r p h = ap (λ p. and_then p (λ a. both (nonzero a) (value r s))) h

  pub and_at : (l r : Exp) (a : ℤ) (b : Bool) (q : Res ℤ) → value l s ≡ Fine a → nonzero a ≡ b → value r s ≡ q → value (And l r) s ≡ both b q
  and_at l r a b q h t k = and_is l r (Fine a) h ∙ ap (λ b. both b (value r s)) t ∙ ap (both b) k

  pub or_is : (l r : Exp) (p : Res ℤ) → value l s ≡ p → value (Or l r) s ≡ and_then p (λ a. either (nonzero a) (value r s))
  unfolding value
  or_is l r p h = ap (λ p. and_then p (λ a. either (nonzero a) (value r s))) h

  pub or_at : (l r : Exp) (a : ℤ) (b : Bool) (q : Res ℤ) → value l s ≡ Fine a → nonzero a ≡ b → value r s ≡ q → value (Or l r) s ≡ either b q
  or_at l r a b q h t k = or_is l r (Fine a) h ∙ ap (λ b. either b (value r s)) t ∙ ap (either b) k
