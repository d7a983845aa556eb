-- Procedures have one listing, and that one text.
use Rattle.std.proofs.Common.{◌≡◌, ℕ, List, [], ◌∷◌, refl, sym, ap, subst, ◌∙◌, inl, inr, Contains}
use Rattle.std.specs.declared.cmp.Ordering.TheVariants as ordering
use Rattle.std.specs.Ordering.{nat_cmp, ordering_reverse}
use Rattle.std.specs.Cmp.Lexicographic.{slice_cmp}
use Rattle.std.specs.List.{AllByRecursion}
use Rattle.std.specs.List.Sorted.{IsStrictlySortedBy}
use Rattle.std.proofs.lemmas.Cmp.{nat_list_cmp_total}
use Rattle.janus_meaning.specs.Syntax.{Name, Proc}
use Rattle.janus_meaning.specs.World.{World}
use Rattle.kernel_text.specs.Procedures.{procedure_names}
use Rattle.cells_program.specs.Listing.{IsListing, IsListText, listing_text}
use Rattle.kernel_text.proofs.NameSets.{contains_cases, contains_first, contains_later, contains_none}

-- ---- two lists in the same order with the same members

-- a name is below those of all these procedures
abbrev IsBelow : Name → List Proc → Type 0
IsBelow k ps = AllByRecursion (λ q. slice_cmp nat_cmp k q ≡ ordering.Less) (procedure_names ps)

below : (k : Name) (ps : List Proc) (p : Proc) → IsBelow k ps → Contains ps p → slice_cmp nat_cmp k p.name ≡ ordering.Less
below k [] p h c = absurd (contains_none p c)
below k (q ∷ ps) p h c =
    elim (contains_cases ps q p c) as (λ _. slice_cmp nat_cmp k p.name ≡ ordering.Less) [
      | inl is ↦ subst (λ (r : Proc). slice_cmp nat_cmp k r.name ≡ ordering.Less) is h.0
      | inr later ↦ below k ps p h.1 later
    ]

-- no two names are each below the other
not_both : (x y : Name) → slice_cmp nat_cmp x y ≡ ordering.Less → slice_cmp nat_cmp y x ≡ ordering.Less → ⊥
not_both x y e f =
    let turned : ordering.Less ≡ ordering_reverse ordering.Less = sym e ∙ nat_list_cmp_total.antisymm x y ∙ ap ordering_reverse f in
    absurd (cc turned)

abbrev AreSorted : List Proc → Type 0
AreSorted ps = IsStrictlySortedBy (slice_cmp nat_cmp) (procedure_names ps)

first_below : (x : Proc) (xs : List Proc) → AreSorted (x ∷ xs) → IsBelow x.name xs
unfolding IsStrictlySortedBy
first_below x xs h = h.0

rest_sorted : (x : Proc) (xs : List Proc) → AreSorted (x ∷ xs) → AreSorted xs
unfolding IsStrictlySortedBy
rest_sorted x xs h = h.1

-- each member of the one is one of the other
abbrev AreAmong : List Proc → List Proc → Type 0
AreAmong xs ys = (p : Proc) → Contains xs p → Contains ys p

same_first : (x y : Proc) (xs ys : List Proc) → AreSorted (x ∷ xs) → AreSorted (y ∷ ys) → AreAmong (x ∷ xs) (y ∷ ys) → AreAmong (y ∷ ys) (x ∷ xs) → x ≡ y
same_first x y xs ys s t f g =
    elim (contains_cases ys y x (f x (contains_first xs x x refl))) as (λ _. x ≡ y) [
      | inl is ↦ sym is
      | inr later ↦
          elim (contains_cases xs x y (g y (contains_first ys y y refl))) as (λ _. x ≡ y) [
            | inl is ↦ is
            | inr behind ↦ absurd (not_both x.name y.name (below x.name xs y (first_below x xs s) behind) (below y.name ys x (first_below y ys t) later))
          ]
    ]

-- what is behind the first one of the one is behind that of the other
among_rest : (x y : Proc) (xs ys : List Proc) → x ≡ y → AreSorted (x ∷ xs) → AreAmong (x ∷ xs) (y ∷ ys) → AreAmong xs ys
among_rest x y xs ys e s f p c =
    elim (contains_cases ys y p (f p (contains_later xs x p c))) as (λ _. Contains ys p) [
      | inl is ↦
          let own : slice_cmp nat_cmp x.name x.name ≡ ordering.Less =
          subst (λ (r : Proc). slice_cmp nat_cmp x.name r.name ≡ ordering.Less) (sym (e ∙ is)) (below x.name xs p (first_below x xs s) c) in
          absurd (not_both x.name x.name own own)
      | inr later ↦ later
    ]

same_members : (xs ys : List Proc) → AreSorted xs → AreSorted ys → AreAmong xs ys → AreAmong ys xs → xs ≡ ys
same_members [] [] s t f g = refl
same_members [] (y ∷ ys) s t f g = absurd (contains_none y (g y (contains_first ys y y refl)))
same_members (x ∷ xs) [] s t f g = absurd (contains_none x (f x (contains_first xs x x refl)))
same_members (x ∷ xs) (y ∷ ys) s t f g =
    let e = same_first x y xs ys s t f g in
    ap (λ (z : Proc). z ∷ xs) e
    ∙ ap (λ (zs : List Proc). y ∷ zs)
    (same_members xs ys (rest_sorted x xs s) (rest_sorted y ys t) (among_rest x y xs ys e s f) (among_rest y x ys xs (sym e) t g))

-- ---- the text

same_listing : (all xs ys : List Proc) → IsListing all xs → IsListing all ys → xs ≡ ys
same_listing all xs ys a b = same_members xs ys a.ordered b.ordered (λ p c. (b.each p).1 ((a.each p).0 c)) (λ p c. (a.each p).1 ((b.each p).0 c))

-- a world's procedures are listed in one way
pub one_list_text : (w : World) (text other : List ℕ) → IsListText w text → IsListText w other → text ≡ other
one_list_text w text other (xs, a, h) (ys, b, k) = h ∙ ap listing_text (same_listing w.procedures xs ys a b) ∙ sym k
