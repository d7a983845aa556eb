-- Expressions with slots have the same values.
use Rattle.std.proofs.Common.{◌≡◌, List, refl, ap, ◌∙◌}
use Rattle.std.specs.Prelude.{neg_ℤ}
use Rattle.janus_meaning.specs.Fault.{Fine, and_then}
use Rattle.janus_meaning.specs.Word.{wrap, bit, nonzero, operate}
use Rattle.janus_meaning.specs.Syntax.{Name, Exp, Number, Var, At, Empty, Top, Negate, Binary, And, Or}
use Rattle.janus_meaning.specs.Store.{Store, look, number, array, stack, element}
use Rattle.janus_meaning.specs.Value.{value, test, is_none, first, both, either}
use Rattle.janus_slots.specs.Slots.{exp_in, names_in, in_slots}
use Rattle.janus_slots.proofs.Stores.{look_in}

module _ (s : Store) (g : List Name) (k : names_in s ≡ g) where
  pub value_in : (e : Exp) → value (exp_in g e) (in_slots s) ≡ value e s
  unfolding value
  value_in (Number n) = refl
  value_in (Var x) = ap (λ r. and_then r number) (look_in g x s k)
  value_in (At a i) =
      ap (λ r. and_then r (λ v. and_then (array v) (λ l. and_then (value (exp_in g i) (in_slots s)) (λ j. element l j)))) (look_in g a s k)
      ∙ ap (λ r. and_then (look a s) (λ v. and_then (array v) (λ l. and_then r (λ j. element l j)))) (value_in i)
  value_in (Empty x) = ap (λ r. and_then r (λ v. and_then (stack v) (λ l. Fine (wrap (bit (is_none l)))))) (look_in g x s k)
  value_in (Top x) = ap (λ r. and_then r (λ v. and_then (stack v) first)) (look_in g x s k)
  value_in (Negate e) = ap (λ r. and_then r (λ v. Fine (wrap (neg_ℤ v)))) (value_in e)
  value_in (Binary o l r) =
      ap (λ q. and_then q (λ a. and_then (value (exp_in g r) (in_slots s)) (λ b. operate o a b))) (value_in l)
      ∙ ap (λ q. and_then (value l s) (λ a. and_then q (λ b. operate o a b))) (value_in r)
  value_in (And l r) =
      ap (λ q. and_then q (λ a. both (nonzero a) (value (exp_in g r) (in_slots s)))) (value_in l)
      ∙ ap (λ q. and_then (value l s) (λ a. both (nonzero a) q)) (value_in r)
  value_in (Or l r) =
      ap (λ q. and_then q (λ a. either (nonzero a) (value (exp_in g r) (in_slots s)))) (value_in l)
      ∙ ap (λ q. and_then (value l s) (λ a. either (nonzero a) q)) (value_in r)

  pub test_in : (e : Exp) → test (exp_in g e) (in_slots s) ≡ test e s
  test_in e = ap (λ r. and_then r (λ v. Fine (nonzero v))) (value_in e)
