-- A call has no faults exactly where it is well formed.
use Rattle.std.proofs.Common.{◌≡◌, ℕ, Bool, true, false, List, [], ◌∷◌, ◌++◌, length, map, Option, Some, None, refl, ap, ◌∙◌, sym, arith}
use Rattle.std.specs.Prelude.{◌||◌, ◌==◌}
use Rattle.std.proofs.lemmas.Bool.Decides.{nat_tests}
use Rattle.janus_meaning.specs.Syntax as tree
use Rattle.janus_meaning.specs.Store.{same_name}
use Rattle.janus_meaning.specs.Shape.{Shape, kind_at, without, Heads, head_at}
use Rattle.janus_meaning.specs.Formed.{AreArguments}
use Rattle.janus_meaning.proofs.Stores.{same_name_true}
use Rattle.janus_meaning.proofs.Scopes.{without_same, without_other}
use Rattle.janus_syntax.specs.declared.token.Span.{Span}
use Rattle.janus_syntax.specs.Tree.{Name, named}
use Rattle.janus_syntax.specs.View.{text_of}
use Rattle.janus_check.specs.Check.{use_faults, is_among, same_faults, twice_faults, kinds_faults, counted_faults, found_faults, call_faults}
use Rattle.janus_check.proofs.NoFaults.{left_nil, right_nil, both_nil, no_fault, fault_if_false}
use Rattle.janus_check.proofs.UseLemmas.{use_formed, use_no_faults}

-- ---- names among others

or_false : (b : Bool) → (b || false) ≡ b
or_false true = refl
or_false false = refl

or_assoc : (a b c : Bool) → (a || (b || c)) ≡ ((a || b) || c)
or_assoc true b c = refl
or_assoc false b c = refl

among_last : (x : tree.Name) (before : List Name) (y : Name) → is_among x (before ++ y ∷ []) ≡ (is_among x before || same_name x (text_of y))
among_last x [] y = or_false (same_name x (text_of y))
among_last x (z ∷ before) y = ap (λ b. same_name x (text_of z) || b) (among_last x before y)
    ∙ or_assoc (same_name x (text_of z)) (is_among x before) (same_name x (text_of y))

neither : (a b : Bool) → (a || b) ≡ false → (a ≡ false) × (b ≡ false)
neither true b h = cc
neither false b h = (refl, h)

either : (a : Bool) → (a || false) ≡ true → a ≡ true
either true h = refl
either false h = cc

-- r is g without the names before
record Strips (g r : Shape) (before : List Name) : Type 0 where
  others : (x : tree.Name) → is_among x before ≡ false → kind_at x r ≡ kind_at x g
  gone : (x : tree.Name) → is_among x before ≡ true → kind_at x r ≡ None

strips_none : (g : Shape) → Strips g g []
strips_none g = record { others = λ x h. refl; gone = λ x h. cc }

gone_by : (g r : Shape) (before : List Name) (y : Name) → Strips g r before → (x : tree.Name) (b : Bool) → same_name x (text_of y) ≡ b →
    (is_among x before || b) ≡ true → kind_at x (without (text_of y) r) ≡ None
gone_by g r before y s x true e h = ap (λ z. kind_at z (without (text_of y) r)) (same_name_true x (text_of y) e) ∙ without_same (text_of y) r
gone_by g r before y s x false e h = without_other x (text_of y) r e ∙ s.gone x (either (is_among x before) h)

-- one more
strip_one : (g r : Shape) (before : List Name) (y : Name) → Strips g r before → Strips g (without (text_of y) r) (before ++ y ∷ [])
strip_one g r before y s = record {
  others = λ x h.
      let n = neither (is_among x before) (same_name x (text_of y)) (sym (among_last x before y) ∙ h) in
      without_other x (text_of y) r n.1 ∙ s.others x n.0;
  gone = λ x h. gone_by g r before y s x (same_name x (text_of y)) refl (sym (among_last x before y) ∙ h);
}

-- ---- arguments

arguments_formed : (g r : Shape) (before : List Name) → Strips g r before → (cs : List tree.Kind) (ys : List Name) → length cs ≡ length ys →
    twice_faults before ys ≡ [] → kinds_faults g cs ys ≡ [] → AreArguments cs (map text_of ys) r
arguments_formed g r before s [] [] n t k = tt
arguments_formed g r before s [] (y ∷ ys) n t k = absurd (omega (arith, n))
arguments_formed g r before s (c ∷ cs) [] n t k = absurd (omega (arith, n))
arguments_formed g r before s (c ∷ cs) (named y at ∷ ys) n t k = (
  s.others y (no_fault (is_among y before) _ (left_nil _ _ t)) ∙ use_formed g c (named y at) (left_nil _ _ k),
  arguments_formed g (without y r) (before ++ named y at ∷ []) (strip_one g r before (named y at) s) cs ys (omega (arith, n))
      (right_nil (same_faults before (named y at)) _ t) (right_nil (use_faults g c (named y at)) _ k),
)

new_by : (g r : Shape) (before : List Name) → Strips g r before → (y : tree.Name) (c : tree.Kind) → kind_at y r ≡ Some c → (b : Bool) → is_among y before ≡ b →
    b ≡ false
new_by g r before s y c h true e = let bad : None ≡ Some c = sym (s.gone y e) ∙ h in cc
new_by g r before s y c h false e = refl

-- what well-formed arguments have
record Fit (g : Shape) (before : List Name) (cs : List tree.Kind) (ys : List Name) : Type 0 where
  as_many : length cs ≡ length ys
  once : twice_faults before ys ≡ []
  kinds : kinds_faults g cs ys ≡ []

arguments_fit : (g r : Shape) (before : List Name) → Strips g r before → (cs : List tree.Kind) (ys : List Name) → AreArguments cs (map text_of ys) r →
    Fit g before cs ys
arguments_fit g r before s [] [] h = record { as_many = refl; once = refl; kinds = refl }
arguments_fit g r before s [] (y ∷ ys) h = absurd h
arguments_fit g r before s (c ∷ cs) [] h = absurd h
arguments_fit g r before s (c ∷ cs) (named y at ∷ ys) h =
    let new = new_by g r before s y c h.0 (is_among y before) refl in
    let rest = arguments_fit g (without y r) (before ++ named y at ∷ []) (strip_one g r before (named y at) s) cs ys h.1 in
    record {
      as_many = omega (arith, rest.as_many);
      once = both_nil _ _ (fault_if_false (is_among y before) _ new) rest.once;
      kinds = both_nil _ _ (use_no_faults g c (named y at) (sym (s.others y new) ∙ h.0)) rest.kinds;
    }

-- ---- calls

pub count_differs : (n m : ℕ) → (n ≡ m → ⊥) → (n == m) ≡ false
count_differs n m h = grind (arith, nat_tests)

same_count : (n m : ℕ) → (n == m) ≡ true → n ≡ m
same_count n m h = grind (arith, nat_tests)

pub count_same : (n m : ℕ) → n ≡ m → (n == m) ≡ true
count_same n m h = grind (arith, nat_tests)

counted_by : (g : Shape) (cs : List tree.Kind) (at : Span) (ys : List Name) (b : Bool) → counted_faults b g cs at ys ≡ [] → (b ≡ true) ×
    (kinds_faults g cs ys ≡ [])
counted_by g cs at ys true h = (refl, h)
counted_by g cs at ys false h = cc

found_formed : (g : Shape) (at : Span) (ys : List Name) (o : Option (List tree.Kind)) → twice_faults [] ys ≡ [] → found_faults g o at ys ≡ [] →
    (cs : List tree.Kind) × (o ≡ Some cs) × AreArguments cs (map text_of ys) g
found_formed g at ys None t h = cc
found_formed g at ys (Some cs) t h =
    let w = counted_by g cs at ys (length cs == length ys) h in
    (cs, refl, arguments_formed g g [] (strips_none g) cs ys (same_count (length cs) (length ys) w.0) t w.1)

pub call_formed : (hs : Heads) (g : Shape) (f : Name) (ys : List Name) → call_faults hs g f ys ≡ [] → (cs : List tree.Kind) ×
    (head_at (text_of f) hs ≡ Some cs) × AreArguments cs (map text_of ys) g
call_formed hs g (named f at) ys h = found_formed g at ys (head_at f hs) (left_nil _ _ h) (right_nil (twice_faults [] ys) _ h)

pub call_no_faults : (hs : Heads) (g : Shape) (f : Name) (ys : List Name) →
    ((cs : List tree.Kind) × (head_at (text_of f) hs ≡ Some cs) × AreArguments cs (map text_of ys) g) → call_faults hs g f ys ≡ []
call_no_faults hs g (named f at) ys w =
    let fit = arguments_fit g g [] (strips_none g) w.0 ys w.2 in
    both_nil _ _ fit.once
    (ap (λ o. found_faults g o at ys) w.1 ∙ ap (λ b. counted_faults b g w.0 at ys) (count_same (length w.0) (length ys) fit.as_many) ∙ fit.kinds)
