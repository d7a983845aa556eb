-- The first fault of a list, found from the front.
use Rattle.std.proofs.Common.{◌≡◌, ℕ, Bool, true, false, List, [], ◌∷◌, ◌++◌, Option, Some, None, refl, ap, ◌∙◌, sym, subst, All, Contains, if◌then◌else◌}
use Rattle.std.proofs.Common.{arith, ◌⊎◌, inl, inr, ⊎_elim}
use Rattle.std.proofs.lemmas.List.Elements.{All-cons, Contains-append_right}
use Rattle.std.specs.Prelude.{◌==◌}
use Rattle.janus_check.specs.declared.fault.CheckFault.{CheckFault}
use Rattle.janus_check.specs.declared.fault.CheckFault.TheVariants.{Declared, Unknown, WrongKind, SelfUse, SameArgument, Arity, Shadow, ChangedParameters}
use Rattle.janus_check.specs.declared.fault.CheckFault.TheVariants.{TooMany, ArrayLength, Memory}
use Rattle.janus_syntax.specs.declared.token.Span.{Span}
use Rattle.janus_check.proofs.Orders.{earlier-self, earlier-other, earlier-through, same-first, same-second, same-third}
use Rattle.janus_check.specs.Fault.{number_of, start_of, end_of, comes_before, IsFirst, sooner_of, first_from}

pub first_from-append : (f : Option CheckFault) (xs ys : List CheckFault) → first_from f (xs ++ ys) ≡ first_from (first_from f xs) ys
first_from-append f [] ys = refl
first_from-append f (x ∷ xs) ys = first_from-append (Some (sooner_of f x)) xs ys

-- what is found in two parts, one after the other
pub two_parts : (f n r : Option CheckFault) (xs ys : List CheckFault) → n ≡ first_from f xs → r ≡ first_from n ys → r ≡ first_from f (xs ++ ys)
two_parts f n r xs ys p q = q ∙ ap (λ o. first_from o ys) p ∙ sym (first_from-append f xs ys)

-- what is found in four parts, one after the other
pub four_parts : (f n m k r : Option CheckFault) (a s t b : List CheckFault) → n ≡ first_from f a → m ≡ first_from n s → k ≡ first_from m t →
    r ≡ first_from k b → r ≡ first_from f (a ++ s ++ t ++ b)
four_parts f n m k r a s t b p q u w = two_parts f k r (a ++ s ++ t) b (two_parts f m k (a ++ s) t (two_parts f n m a s p q) u) w

-- once there is a fault, there is one
first_some : (f : CheckFault) (fs : List CheckFault) → (h : CheckFault) × (first_from (Some f) fs ≡ Some h)
first_some f [] = (f, refl)
first_some f (g ∷ fs) = first_some (sooner_of (Some f) g) fs

pub first_none : (fs : List CheckFault) → first_from None fs ≡ None → fs ≡ []
first_none [] h = refl
first_none (f ∷ fs) h = let w = first_some f fs in let bad : Some w.0 ≡ None = sym w.1 ∙ h in cc

-- ---- the order

self : (f : CheckFault) → comes_before f f ≡ false
self f = earlier-self (start_of f) (number_of f) (end_of f)

other : (f h : CheckFault) → comes_before f h ≡ true → comes_before h f ≡ false
other f h e = earlier-other (start_of f) (number_of f) (end_of f) (start_of h) (number_of h) (end_of h) e

through : (r s f : CheckFault) → comes_before s r ≡ false → comes_before f s ≡ false → comes_before f r ≡ false
through r s f h k = earlier-through (start_of r) (number_of r) (end_of r) (start_of s) (number_of s) (end_of s) (start_of f) (number_of f) (end_of f) h k

-- none of the list is before it
abbrev IsLeast : CheckFault → List CheckFault → Type 0
IsLeast r [] = Unit {0}
IsLeast r (f ∷ fs) = (comes_before f r ≡ false) × IsLeast r fs

least_all : (r : CheckFault) (fs : List CheckFault) → IsLeast r fs → All (λ h. comes_before h r ≡ false) fs
least_all r [] h = λ k d lt. absurd (omega arith)
least_all r (f ∷ fs) h = All-cons (λ h. comes_before h r ≡ false) f fs h.0 (least_all r fs h.1)

-- the result is the first one so far or one of the list, and none of these is before it
record Keeps (f : CheckFault) (fs : List CheckFault) (r : CheckFault) : Type 0 where
  one : (r ≡ f) ⊎ Contains fs r
  before_first : comes_before f r ≡ false
  before_all : IsLeast r fs

here : (f : CheckFault) (fs : List CheckFault) → Contains (f ∷ fs) f
here f fs = (0, omega arith, refl)

later : (f r : CheckFault) (fs : List CheckFault) → Contains fs r → Contains (f ∷ fs) r
later f r fs h = Contains-append_right (f ∷ []) fs r h

keeps : (f : CheckFault) (fs : List CheckFault) (r : CheckFault) → first_from (Some f) fs ≡ Some r → Keeps f fs r
keeps f [] r h = let e : r ≡ f = cc in record { one = inl e; before_first = subst (λ r. comes_before f r ≡ false) (sym e) (self f); before_all = tt }
keeps f (g ∷ fs) r h = by (λ s. keeps s fs r) (comes_before g f) refl h
  where
    by : ((s : CheckFault) → first_from (Some s) fs ≡ Some r → Keeps s fs r) → (b : Bool) → comes_before g f ≡ b →
        first_from (Some (if b then g else f)) fs ≡ Some r → Keeps f (g ∷ fs) r
    by ih true e h =
        let k = ih g h in
        record {
          one = inr (⊎_elim (λ w. subst (Contains (g ∷ fs)) (sym w) (here g fs)) (λ w. later g r fs w) k.one);
          before_first = through r g f k.before_first (other g f e);
          before_all = (k.before_first, k.before_all);
        }
    by ih false e h =
        let k = ih f h in
        record {
          one = ⊎_elim (λ w. inl w) (λ w. inr (later g r fs w)) k.one;
          before_first = k.before_first;
          before_all = (through r f g k.before_first e, k.before_all);
        }

-- what the fold finds is the first of the faults
pub found_is_first : (fs : List CheckFault) (r : CheckFault) → first_from None fs ≡ Some r → IsFirst r fs
found_is_first [] r h = cc
found_is_first (f ∷ fs) r h =
    let k = keeps f fs r h in
    record {
      one = ⊎_elim (λ w. subst (Contains (f ∷ fs)) (sym w) (here f fs)) (λ w. later f r fs w) k.one;
      least = least_all r (f ∷ fs) (k.before_first, k.before_all);
    }

-- ---- there is one first fault

abbrev place_of : CheckFault → Span
place_of Memory = record { start = 0; end = 0 }
place_of (Declared at) = at
place_of (Unknown at) = at
place_of (WrongKind at) = at
place_of (SelfUse at) = at
place_of (SameArgument at) = at
place_of (Arity at) = at
place_of (Shadow at) = at
place_of (ChangedParameters at) = at
place_of (TooMany at) = at
place_of (ArrayLength at) = at

-- the fault of a number at a place
abbrev told : ℕ → Span → CheckFault
told n at = if n == 35 then Memory else if n == 40 then Declared at else if n == 41 then Unknown at else if n == 42 then WrongKind at else if n == 43 then
    SelfUse at else if n == 44 then SameArgument at else if n == 45 then Arity at else if n == 46 then Shadow at else if n == 47 then ChangedParameters at else
    if n == 48 then TooMany at else ArrayLength at

told_is : (f : CheckFault) → f ≡ told (number_of f) (place_of f)
told_is Memory = refl
told_is (Declared at) = refl
told_is (Unknown at) = refl
told_is (WrongKind at) = refl
told_is (SelfUse at) = refl
told_is (SameArgument at) = refl
told_is (Arity at) = refl
told_is (Shadow at) = refl
told_is (ChangedParameters at) = refl
told_is (TooMany at) = refl
told_is (ArrayLength at) = refl

place_is : (f : CheckFault) → place_of f ≡ record { start = start_of f; end = end_of f }
place_is Memory = refl
place_is (Declared at) = refl
place_is (Unknown at) = refl
place_is (WrongKind at) = refl
place_is (SelfUse at) = refl
place_is (SameArgument at) = refl
place_is (Arity at) = refl
place_is (Shadow at) = refl
place_is (ChangedParameters at) = refl
place_is (TooMany at) = refl
place_is (ArrayLength at) = refl

same_fault : (f h : CheckFault) → comes_before f h ≡ false → comes_before h f ≡ false → f ≡ h
same_fault f h p q =
    let start : start_of f ≡ start_of h = same-first (start_of f) (number_of f) (end_of f) (start_of h) (number_of h) (end_of h) p q in
    let number : number_of f ≡ number_of h = same-second (start_of f) (number_of f) (end_of f) (start_of h) (number_of h) (end_of h) p q in
    let end : end_of f ≡ end_of h = same-third (start_of f) (number_of f) (end_of f) (start_of h) (number_of h) (end_of h) p q in
    let place : place_of f ≡ place_of h = place_is f ∙ ap (λ a. record { start = a; end = end_of f }) start
    ∙ ap (λ a. record { start = start_of h; end = a }) end ∙ sym (place_is h) in
    told_is f ∙ ap (λ n. told n (place_of f)) number ∙ ap (told (number_of h)) place ∙ sym (told_is h)

pub one_first : (fs : List CheckFault) (f h : CheckFault) → IsFirst f fs → IsFirst h fs → f ≡ h
one_first fs f h p q =
    same_fault f h
    (subst (λ x. comes_before x h ≡ false) p.one.2 (q.least p.one.0 f p.one.1))
    (subst (λ x. comes_before x f ≡ false) q.one.2 (p.least q.one.0 h q.one.1))
