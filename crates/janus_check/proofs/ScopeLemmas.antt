-- Names over older ones: what is in sight, how many there are, and one more.
use Rattle.std.proofs.Common.{◌≡◌, ℕ, ◌+◌, ◌≤◌, suc, Bool, true, false, List, [], ◌∷◌, ◌++◌, Option, Some, None, length, refl, ap, ◌∙◌, sym, is_some, arith}
use Rattle.janus_meaning.specs.Syntax as tree
use Rattle.janus_meaning.specs.Store.{same_name}
use Rattle.janus_meaning.specs.Shape.{Shape, at_name, kind_at, pick_newest, stack_count, count_stack, count_new, different}
use Rattle.janus_check.specs.Names.{meant_kind, kind_found, is_in, above, AreAdded, over, shape_in}
use Rattle.janus_check.specs.declared.env.Kind.{Kind}

-- a kind, or another where the name is not there
abbrev pub else_kind : Option tree.Kind → Option tree.Kind → Option tree.Kind
else_kind (Some k) c = Some k
else_kind None c = c

else_pick : (a c : Option tree.Kind) (k : tree.Kind) (b : Bool) → else_kind a (pick_newest b k c) ≡ else_kind (else_kind a (pick_newest b k None)) c
else_pick (Some k) c i b = refl
else_pick None c k true = refl
else_pick None c k false = refl

pub over_apart : (x : List ℕ) (g : Shape) (es : List (List ℕ × Kind)) → kind_at x (over g es) ≡ else_kind (kind_at x (shape_in es)) (kind_at x g)
over_apart x g [] = refl
over_apart x g (e ∷ es) =
    over_apart x ((e.0, meant_kind e.1) ∷ g) es
    ∙ else_pick (kind_at x (shape_in es)) (kind_at x g) (meant_kind e.1) (same_name x e.0)
    ∙ ap (λ c. else_kind c (kind_at x g)) (sym (over_apart x ((e.0, meant_kind e.1) ∷ []) es))

-- a name has the kind that it has among the newer ones, or else the one among the older ones
pub kind_own : (x : List ℕ) (g : Shape) (es : List (List ℕ × Kind)) (k : Kind) → kind_found (Some k) ≡ kind_at x (shape_in es) →
    kind_found (Some k) ≡ kind_at x (over g es)
kind_own x g es k h = ap (λ a. else_kind a (kind_at x g)) h ∙ sym (over_apart x g es)

pub kind_older : (x : List ℕ) (g : Shape) (es : List (List ℕ × Kind)) (o : Option Kind) → kind_found None ≡ kind_at x (shape_in es) →
    kind_found o ≡ kind_at x g → kind_found o ≡ kind_at x (over g es)
kind_older x g es o h w = w ∙ ap (λ a. else_kind a (kind_at x g)) h ∙ sym (over_apart x g es)

-- a name is known where a kind was found
pub found_known : (x : List ℕ) (g : Shape) (o : Option Kind) → kind_found o ≡ kind_at x g → is_some o ≡ is_in x g
found_known x g (Some k) h = ap is_some h
found_known x g None h = ap is_some h

out_is_none : (a c : Option tree.Kind) → is_some (else_kind a c) ≡ false → a ≡ None
out_is_none (Some k) c h = cc
out_is_none None c h = refl

-- a name out of sight is not among the newer ones
pub out_of_own : (x : List ℕ) (g : Shape) (es : List (List ℕ × Kind)) → is_in x (over g es) ≡ false → kind_at x (shape_in es) ≡ None
out_of_own x g es h = out_is_none (kind_at x (shape_in es)) (kind_at x g) (sym (ap is_some (over_apart x g es)) ∙ h)

-- ---- how many

pub length-above : {V A : Type 0} (m : V → A) (g : List (tree.Name × A)) (es : List (List ℕ × V)) → length (above m g es) ≡ length g + length es
length-above m g [] = omega arith
length-above m g (e ∷ es) = let ih = length-above m ((e.0, m e.1) ∷ g) es in ih ∙ omega arith

pub length-alone : {V A : Type 0} (m : V → A) (es : List (List ℕ × V)) → length (above m [] es) ≡ length es
length-alone m es = let e = length-above m [] es in e ∙ omega arith

pub length-over : (g : Shape) (es : List (List ℕ × Kind)) → length (over g es) ≡ length g + length es
length-over g es = length-above meant_kind g es

pub length-shape : (es : List (List ℕ × Kind)) → length (shape_in es) ≡ length es
length-shape es = length-alone meant_kind es

pub above-append : {V A : Type 0} (m : V → A) (g : List (tree.Name × A)) (xs ys : List (List ℕ × V)) → above m g (xs ++ ys) ≡ above m (above m g xs) ys
above-append m g [] ys = refl
above-append m g (e ∷ xs) ys = above-append m ((e.0, m e.1) ∷ g) xs ys

pub over-append : (g : Shape) (xs ys : List (List ℕ × Kind)) → over g (xs ++ ys) ≡ over (over g xs) ys
over-append g xs ys = above-append meant_kind g xs ys

count_bound : {A : Type 0} (o : Option A) (n m : ℕ) → n ≤ m → count_new o n ≤ suc m
count_bound (Some a) n m h = omega (arith, h)
count_bound None n m h = omega (arith, h)

-- no more different names than names
pub different_within : {A : Type 0} (g : List (tree.Name × A)) → different g ≤ length g
different_within [] = omega arith
different_within (e ∷ g) = count_bound (at_name e.0 g) (different g) (length g) (different_within g)

-- where none was there when it was added, they are as many
different_above : {V A : Type 0} (m : V → A) (g : List (tree.Name × A)) (es : List (List ℕ × V)) → AreAdded m g es →
    different (above m g es) ≡ different g + length es
different_above m g [] new = omega arith
different_above m g (e ∷ es) new =
    let ih = different_above m ((e.0, m e.1) ∷ g) es new.1 in
    let one : different ((e.0, m e.1) ∷ g) ≡ suc (different g) = ap (λ o. count_new o (different g)) new.0 in
    ih ∙ omega (arith, one)

pub different_alone : {V A : Type 0} (m : V → A) (es : List (List ℕ × V)) → AreAdded m [] es → different (above m [] es) ≡ length es
different_alone m es new = let e = different_above m [] es new in e ∙ omega arith

-- ---- two lists, the first one over the second

abbrev pub else_found : {A : Type 0} → Option A → Option A → Option A
else_found (Some a) o = Some a
else_found None o = o

else_newest : {A : Type 0} (b : Bool) (a : A) (o p : Option A) → pick_newest b a (else_found o p) ≡ else_found (pick_newest b a o) p
else_newest true a o p = refl
else_newest false a o p = refl

pub at_name-append : {A : Type 0} (x : tree.Name) (g h : List (tree.Name × A)) → at_name x (g ++ h) ≡ else_found (at_name x g) (at_name x h)
at_name-append x [] h = refl
at_name-append x (e ∷ g) h = ap (pick_newest (same_name x e.0) e.1) (at_name-append x g h) ∙ else_newest (same_name x e.0) e.1 (at_name x g) (at_name x h)

-- what stands in the first list ..
pub at_first : {A : Type 0} (x : tree.Name) (g h : List (tree.Name × A)) (a : A) → at_name x g ≡ Some a → at_name x (g ++ h) ≡ Some a
at_first x g h a e = at_name-append x g h ∙ ap (λ o. else_found o (at_name x h)) e

-- .. or else in the second
pub at_second : {A : Type 0} (x : tree.Name) (g h : List (tree.Name × A)) → at_name x g ≡ None → at_name x (g ++ h) ≡ at_name x h
at_second x g h e = at_name-append x g h ∙ ap (λ o. else_found o (at_name x h)) e

-- ---- how many stacks

stack_one : (k : tree.Kind) (n m : ℕ) → count_stack k n + m ≡ n + (count_stack k 0 + m)
stack_one tree.ANumber n m = omega arith
stack_one tree.AnArray n m = omega arith
stack_one tree.AStack n m = omega arith

pub stacks-over : (g : Shape) (es : List (List ℕ × Kind)) → stack_count (over g es) ≡ stack_count g + stack_count (shape_in es)
stacks-over g [] = omega arith
stacks-over g (e ∷ es) =
    let k = meant_kind e.1 in
    stacks-over ((e.0, k) ∷ g) es ∙ stack_one k (stack_count g) (stack_count (shape_in es)) ∙ ap (λ n. stack_count g + n) (sym (stacks-over ((e.0, k) ∷ []) es))

stack_bound : (k : tree.Kind) (n m : ℕ) → n ≤ m → count_stack k n ≤ suc m
stack_bound tree.ANumber n m h = omega (arith, h)
stack_bound tree.AnArray n m h = omega (arith, h)
stack_bound tree.AStack n m h = omega (arith, h)

pub stacks_within : (g : Shape) → stack_count g ≤ length g
stacks_within [] = omega arith
stacks_within (e ∷ g) = stack_bound e.1 (stack_count g) (length g) (stacks_within g)

pub stacks-append : (es : List (List ℕ × Kind)) (x : List ℕ) (k : Kind) → stack_count (shape_in (es ++ (x, k) ∷ [])) ≡ count_stack (meant_kind k)
    (stack_count (shape_in es))
stacks-append es x k = ap stack_count (over-append [] es ((x, k) ∷ []))
