-- Declarations have no faults exactly where they are well formed.
use Rattle.std.proofs.Common.{◌≡◌, ℕ, ◌<◌, ◌≤◌, Bool, true, false, not, is_some, List, [], ◌∷◌, length, map, refl, ap, ◌∙◌, subst, arith, if◌then◌else◌}
use Rattle.std.specs.Prelude.{nat_le, nat_lt, ◌||◌, ◌&&◌}
use Rattle.std.proofs.lemmas.Bool.Decides.{nat_tests}
use Rattle.janus_meaning.specs.Limit.{name_limit, live_stack_limit, array_limit}
use Rattle.janus_meaning.specs.Syntax as tree
use Rattle.janus_meaning.specs.World as world
use Rattle.janus_meaning.specs.Shape.{Shape, kind_at, stack_count}
use Rattle.janus_meaning.specs.FormedWorld.{AreNew, with_declared, IsArrayLength}
use Rattle.janus_syntax.specs.Tree.{named, Declaration, Int, Array, StackOf}
use Rattle.janus_syntax.specs.View.{plain_declaration}
use Rattle.janus_syntax.specs.declared.token.Span.{Span}
use Rattle.janus_check.specs.Names.{is_in}
use Rattle.janus_check.specs.Check.{fault_if, is_full, has_all_stacks, extended, name_faults, is_array_length, declaration_faults, declarations_faults}
use Rattle.janus_check.specs.Check.{after_declarations}
use Rattle.janus_check.proofs.NoFaults.{left_nil, right_nil, both_nil, no_fault, fault_if_false, not_false, none_out}

abbrev pub declared : List Declaration → List world.Declaration
declared ds = map plain_declaration ds

pub record Declares (g : Shape) (ds : List Declaration) : Type 0 where
  pub new : AreNew g (declared ds)
  pub names : after_declarations g ds ≡ with_declared g (declared ds)

room_for : (n : ℕ) → nat_le name_limit n ≡ false → n < name_limit
room_for n h = grind (arith, nat_tests)

no_limit : (n : ℕ) → n < name_limit → nat_le name_limit n ≡ false
no_limit n h = grind (arith, nat_tests)

stack_room_for : (n : ℕ) → nat_le live_stack_limit n ≡ false → n < live_stack_limit
stack_room_for n h = grind (arith, nat_tests)

no_stack_limit : (n : ℕ) → n < live_stack_limit → nat_le live_stack_limit n ≡ false
no_stack_limit n h = grind (arith, nat_tests)

length_by : (n : ℕ) (p q : Bool) → nat_lt 0 n ≡ p → nat_le n array_limit ≡ q → (p && q) ≡ true → IsArrayLength n
length_by n true true h k e = (grind (arith, nat_tests), grind (arith, nat_tests))
length_by n true false h k e = cc
length_by n false q h k e = cc

within_length : (n : ℕ) → is_array_length n ≡ true → IsArrayLength n
within_length n h = length_by n (nat_lt 0 n) (nat_le n array_limit) refl refl h

long_enough : (n : ℕ) → 0 < n → nat_lt 0 n ≡ true
long_enough n h = grind (arith, nat_tests)

not_too_long : (n : ℕ) → n ≤ array_limit → nat_le n array_limit ≡ true
not_too_long n h = grind (arith, nat_tests)

is_length : (n : ℕ) → IsArrayLength n → is_array_length n ≡ true
is_length n h = ap (λ b. b && nat_le n array_limit) (long_enough n h.0) ∙ not_too_long n h.1

-- a new name with room for it is added
added : (g : Shape) (x : tree.Name) (k : tree.Kind) → is_in x g ≡ false → is_full g ≡ false → extended g x k ≡ (x, k) ∷ g
added g x k out room = ap (λ b. if b || is_full g then g else (x, k) ∷ g) out ∙ ap (λ b. if b then g else (x, k) ∷ g) room

pub declares : (g : Shape) (ds : List Declaration) → declarations_faults g ds ≡ [] → Declares g ds
declares g [] h = record { new = tt; names = refl }
declares g (Int (named x at) ∷ ds) h =
    let here = left_nil (name_faults g x at) _ h in
    let out = no_fault (is_in x g) _ (left_nil _ _ here) in
    let space = no_fault (is_full g) _ (right_nil (fault_if (is_in x g) _) _ here) in
    let next = added g x tree.ANumber out space in
    let d = declares ((x, tree.ANumber) ∷ g) ds (subst (λ n. declarations_faults n ds ≡ []) next (right_nil (name_faults g x at) _ h)) in
    record {
      new = (record { name = none_out (kind_at x g) out; room = room_for (length g) space; extent = tt }, d.new);
      names = ap (λ n. after_declarations n ds) next ∙ d.names;
    }
declares g (Array (named x at) n place ∷ ds) h =
    let whole = left_nil (declaration_faults g (Array (named x at) n place)) _ h in
    let here = left_nil (name_faults g x at) _ whole in
    let long = no_fault (not (is_array_length n)) _ (right_nil (name_faults g x at) _ whole) in
    let out = no_fault (is_in x g) _ (left_nil _ _ here) in
    let space = no_fault (is_full g) _ (right_nil (fault_if (is_in x g) _) _ here) in
    let next = added g x tree.AnArray out space in
    let d = declares ((x, tree.AnArray) ∷ g) ds
    (subst (λ n. declarations_faults n ds ≡ []) next (right_nil (declaration_faults g (Array (named x at) n place)) _ h)) in
    record {
      new = (
        record { name = none_out (kind_at x g) out; room = room_for (length g) space; extent = within_length n (not_false (is_array_length n) long) },
        d.new,
      );
      names = ap (λ n. after_declarations n ds) next ∙ d.names;
    }
declares g (StackOf (named x at) ∷ ds) h =
    let whole = left_nil (declaration_faults g (StackOf (named x at))) _ h in
    let here = left_nil (name_faults g x at) _ whole in
    let few = no_fault (has_all_stacks g) _ (right_nil (name_faults g x at) _ whole) in
    let out = no_fault (is_in x g) _ (left_nil _ _ here) in
    let space = no_fault (is_full g) _ (right_nil (fault_if (is_in x g) _) _ here) in
    let next = added g x tree.AStack out space in
    let d = declares ((x, tree.AStack) ∷ g) ds
    (subst (λ n. declarations_faults n ds ≡ []) next (right_nil (declaration_faults g (StackOf (named x at))) _ h)) in
    record {
      new = (record { name = none_out (kind_at x g) out; room = room_for (length g) space; extent = stack_room_for (stack_count g) few }, d.new);
      names = ap (λ n. after_declarations n ds) next ∙ d.names;
    }

name_no_faults : (g : Shape) (x : tree.Name) (at : Span) → is_in x g ≡ false → is_full g ≡ false → name_faults g x at ≡ []
name_no_faults g x at out space = both_nil _ _ (fault_if_false (is_in x g) _ out) (fault_if_false (is_full g) _ space)

pub declares_no_faults : (g : Shape) (ds : List Declaration) → AreNew g (declared ds) → (declarations_faults g ds ≡ []) ×
    (after_declarations g ds ≡ with_declared g (declared ds))
declares_no_faults g [] h = (refl, refl)
declares_no_faults g (Int (named x at) ∷ ds) h =
    let rest = declares_no_faults ((x, tree.ANumber) ∷ g) ds h.1 in
    let out : is_in x g ≡ false = ap is_some h.0.name in
    let space = no_limit (length g) h.0.room in
    let next = added g x tree.ANumber out space in
    (both_nil _ _ (name_no_faults g x at out space) (ap (λ n. declarations_faults n ds) next ∙ rest.0), ap (λ n. after_declarations n ds) next ∙ rest.1)
declares_no_faults g (Array (named x at) n place ∷ ds) h =
    let rest = declares_no_faults ((x, tree.AnArray) ∷ g) ds h.1 in
    let out : is_in x g ≡ false = ap is_some h.0.name in
    let space = no_limit (length g) h.0.room in
    let next = added g x tree.AnArray out space in
    let here = both_nil _ _ (name_no_faults g x at out space) (fault_if_false (not (is_array_length n)) _ (ap not (is_length n h.0.extent))) in
    (both_nil _ _ here (ap (λ n. declarations_faults n ds) next ∙ rest.0), ap (λ n. after_declarations n ds) next ∙ rest.1)
declares_no_faults g (StackOf (named x at) ∷ ds) h =
    let rest = declares_no_faults ((x, tree.AStack) ∷ g) ds h.1 in
    let out : is_in x g ≡ false = ap is_some h.0.name in
    let space = no_limit (length g) h.0.room in
    let next = added g x tree.AStack out space in
    let here = both_nil _ _ (name_no_faults g x at out space) (fault_if_false (has_all_stacks g) _ (no_stack_limit (stack_count g) h.0.extent)) in
    (both_nil _ _ here (ap (λ n. declarations_faults n ds) next ∙ rest.0), ap (λ n. after_declarations n ds) next ∙ rest.1)
