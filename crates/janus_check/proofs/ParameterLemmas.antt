-- Parameters have no faults exactly where they are well formed.
use Rattle.std.proofs.Common.{◌≡◌, ℕ, ◌+◌, ◌<◌, ◌≤◌, Bool, true, false, is_some, List, [], ◌∷◌, ◌++◌, length, map, Option, Some, None, refl, ap, ◌∙◌, sym}
use Rattle.std.proofs.Common.{subst, arith}
use Rattle.std.specs.Prelude.{nat_le}
use Rattle.std.proofs.lemmas.Bool.Decides.{nat_tests}
use Rattle.std.proofs.lemmas.List.{take_all, map-append, length-map, length-append}
use Rattle.janus_meaning.specs.Limit.{parameter_limit}
use Rattle.janus_meaning.specs.Syntax as tree
use Rattle.janus_meaning.specs.Store.{same_name}
use Rattle.janus_meaning.specs.Shape.{Shape, kind_at, pick_newest, AreDistinct}
use Rattle.janus_syntax.specs.Tree.{Name, named, Parameter, IntParameter, ArrayParameter, StackParameter}
use Rattle.janus_syntax.specs.View.{text_of, plain_parameter}
use Rattle.janus_check.specs.Names.{is_in}
use Rattle.janus_check.specs.Check.{fault_if, parameter_name, body_sight, has_all_parameters, parameter_faults, parameters_faults}
use Rattle.janus_check.proofs.NoFaults.{left_nil, right_nil, both_nil, no_fault, fault_if_false, none_out}
use Rattle.janus_check.proofs.ScopeLemmas.{at_name-append, else_found}
use Rattle.janus_check.proofs.HeadLemmas.{AreApart, all_apart, apart_less, apart_more}

abbrev seen : List Parameter → Shape
seen xs = map plain_parameter xs

-- up to their limit all parameters are in sight
within_sight : (xs : List Parameter) → length xs ≤ parameter_limit → body_sight xs ≡ seen xs
within_sight xs h = ap seen (take_all parameter_limit xs h)

pub all_in_sight : (xs : List Parameter) → length (seen xs) ≤ parameter_limit → body_sight xs ≡ seen xs
all_in_sight xs h = let n = length-map xs plain_parameter in within_sight xs (omega (arith, n, h))

name_is : (p : Parameter) → text_of (parameter_name p) ≡ (plain_parameter p).0
name_is (IntParameter x) = refl
name_is (ArrayParameter x) = refl
name_is (StackParameter x) = refl

room_for : (n : ℕ) → nat_le parameter_limit n ≡ false → n < parameter_limit
room_for n h = grind (arith, nat_tests)

no_limit : (n : ℕ) → n < parameter_limit → nat_le parameter_limit n ≡ false
no_limit n h = grind (arith, nat_tests)

parameter_new : (before : List Parameter) (x : Name) → parameter_faults before x ≡ [] → (kind_at (text_of x) (body_sight before) ≡ None) ×
    (length before < parameter_limit)
parameter_new before (named x at) h = (
  none_out (kind_at x (body_sight before)) (no_fault (is_in x (body_sight before)) _ (left_nil _ _ h)),
  room_for (length before) (no_fault (has_all_parameters before) _ (right_nil (fault_if (is_in x (body_sight before)) _) _ h)),
)

parameter_no_faults : (before : List Parameter) (x : Name) → kind_at (text_of x) (body_sight before) ≡ None → length before < parameter_limit →
    parameter_faults before x ≡ []
parameter_no_faults before (named x at) h n =
    both_nil _ _ (fault_if_false (is_in x (body_sight before)) _ (ap is_some h)) (fault_if_false (has_all_parameters before) _ (no_limit (length before) n))

-- ---- one more behind

newest_none : (b : Bool) (k : tree.Kind) (o : Option tree.Kind) → pick_newest b k o ≡ None → (b ≡ false) × (o ≡ None)
newest_none true k o h = cc
newest_none false k o h = (refl, h)

else_none : (o p : Option tree.Kind) → else_found o p ≡ None → (o ≡ None) × (p ≡ None)
else_none (Some k) p h = cc
else_none None p h = (refl, h)

-- a name that is not in a list with one more behind is not in it with that one in front, and the other way round
none_front : (y : tree.Name) (own : Shape) (e : tree.Name × tree.Kind) → kind_at y (own ++ e ∷ []) ≡ None → kind_at y (e ∷ own) ≡ None
none_front y own e h =
    let w = else_none (kind_at y own) (kind_at y (e ∷ [])) (sym (at_name-append y own (e ∷ [])) ∙ h) in
    let other = newest_none (same_name y e.0) e.1 None w.1 in
    ap (λ b. pick_newest b e.1 (kind_at y own)) other.0 ∙ w.0

none_behind : (y : tree.Name) (own : Shape) (e : tree.Name × tree.Kind) → kind_at y (e ∷ own) ≡ None → kind_at y (own ++ e ∷ []) ≡ None
none_behind y own e h =
    let w = newest_none (same_name y e.0) e.1 (kind_at y own) h in
    at_name-append y own (e ∷ []) ∙ ap (λ o. else_found o (kind_at y (e ∷ []))) w.1 ∙ ap (λ b. pick_newest b e.1 None) w.0

apart_front : (own : Shape) (h : tree.Name × tree.Kind) (es : Shape) → AreApart (own ++ h ∷ []) es → AreApart (h ∷ own) es
apart_front own h [] a = tt
apart_front own h (e ∷ es) a = (none_front e.0 own h a.0, apart_front own h es a.1)

apart_behind : (own : Shape) (h : tree.Name × tree.Kind) (es : Shape) → AreApart (h ∷ own) es → AreApart (own ++ h ∷ []) es
apart_behind own h [] a = tt
apart_behind own h (e ∷ es) a = (none_behind e.0 own h a.0, apart_behind own h es a.1)

-- ---- parameters behind others

-- the others are not among them, they are distinct, and all are not too many
record Follow (before xs : List Parameter) : Type 0 where
  apart : AreApart (seen before) (seen xs)
  distinct : AreDistinct (seen xs)
  few : length before + length xs ≤ parameter_limit

follow : (before xs : List Parameter) → length before ≤ parameter_limit → parameters_faults before xs ≡ [] → Follow before xs
follow before [] n h = record { apart = tt; distinct = tt; few = omega (arith, n) }
follow before (x ∷ xs) n h =
    let new = parameter_new before (parameter_name x) (left_nil _ _ h) in
    let here : kind_at (plain_parameter x).0 (seen before) ≡ None =
    ap (λ y. kind_at y (seen before)) (sym (name_is x)) ∙ ap (kind_at (text_of (parameter_name x))) (sym (within_sight before n)) ∙ new.0 in
    let count = length-append before (x ∷ []) in
    let rest = follow (before ++ x ∷ []) xs (omega (arith, new.1, count)) (right_nil (parameter_faults before (parameter_name x)) _ h) in
    let all = subst (λ g. AreApart g (seen xs)) (map-append plain_parameter before (x ∷ [])) rest.apart in
    let apart = apart_less (seen before) (plain_parameter x) (seen xs) (apart_front (seen before) (plain_parameter x) (seen xs) all) in
    record { apart = (here, apart.1); distinct = (apart.0, rest.distinct); few = omega (arith, rest.few, count) }

no_faults_behind : (before xs : List Parameter) → Follow before xs → parameters_faults before xs ≡ []
no_faults_behind before [] f = refl
no_faults_behind before (x ∷ xs) f =
    let few = f.few in
    let inside : length before < parameter_limit = omega (arith, few) in
    let here : kind_at (text_of (parameter_name x)) (body_sight before) ≡ None =
    ap (kind_at (text_of (parameter_name x))) (within_sight before (omega (arith, inside))) ∙ ap (λ y. kind_at y (seen before)) (name_is x) ∙ f.apart.0 in
    let count = length-append before (x ∷ []) in
    let apart = apart_behind (seen before) (plain_parameter x) (seen xs) (apart_more (seen before) (plain_parameter x) (seen xs) f.distinct.0 f.apart.1) in
    both_nil _ _ (parameter_no_faults before (parameter_name x) here inside)
    (no_faults_behind (before ++ x ∷ []) xs
    (record {
      apart = subst (λ g. AreApart g (seen xs)) (sym (map-append plain_parameter before (x ∷ []))) apart;
      distinct = f.distinct.1;
      few = omega (arith, few, count);
    }))

-- ---- all parameters of a procedure

pub parameters_formed : (xs : List Parameter) → parameters_faults [] xs ≡ [] → AreDistinct (seen xs) × (length (seen xs) ≤ parameter_limit)
parameters_formed xs h =
    let f = follow [] xs (omega arith) h in
    let n = length-map xs plain_parameter in
    let few = f.few in
    (f.distinct, omega (arith, n, few))

pub parameters_no_faults : (xs : List Parameter) → AreDistinct (seen xs) → length (seen xs) ≤ parameter_limit → parameters_faults [] xs ≡ []
parameters_no_faults xs d h =
    let n = length-map xs plain_parameter in
    no_faults_behind [] xs (record { apart = all_apart (seen xs); distinct = d; few = omega (arith, n, h) })
