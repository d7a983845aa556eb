-- The walk to where two paths meet: from the larger of two numbers to its parent, until they are the same.
use Rattle.std.proofs.Common.{◌≡◌, ℕ, ◌+◌, ◌-◌, ◌<◌, ◌≤◌, List, [], ◌∷◌, ◌++◌, length, get_or, if◌then◌else◌, Bool, zero, suc, refl, sym, ap, ◌∙◌, subst, arith}
use Rattle.std.proofs.Common.{inl, inr, length-append}
use Rattle.std.proofs.lemmas.Bool.{cases_eq, ne_eqb}
use Rattle.cell_tree.specs.Tree.{parent_in, IsOrdered}
use Rattle.cell_tree.specs.Paths.{meeting_of, ancestor, upward, downward, IsRoute}
use Rattle.cell_tree.specs.Laws.{UpwardAreAncestors, WayLeadsDown}
use Rattle.cell_tree.proofs.Paths.{parent_falls, meeting_up, meeting_up_second, meeting_same}

-- ---- ancestors

further_up : (parents : List ℕ) (n k d : ℕ) → ancestor parents n (k + d) ≡ ancestor parents (ancestor parents n k) d
further_up parents n k zero = (let e : k + 0 ≡ k = omega arith in rw e refl)
further_up parents n k (suc d) =
    let e : k + suc d ≡ suc (k + d) = omega arith in
    rw e (ap (λ (i : ℕ). parent_in parents i) (further_up parents n k d))

ancestors_below : (parents : List ℕ) (n j : ℕ) → IsOrdered parents → n < length parents → ancestor parents n j ≤ n
ancestors_below parents n zero g l = omega arith
ancestors_below parents n (suc j) g l =
    let low = ancestors_below parents n j g l in
    let step = parent_falls parents (ancestor parents n j) g (omega arith) in
    omega arith

-- further up the numbers don't grow
falls : (parents : List ℕ) (n k j : ℕ) → IsOrdered parents → n < length parents → k ≤ j → ancestor parents n j ≤ ancestor parents n k
falls parents n k j g l le =
    let at : ancestor parents n k ≤ n = ancestors_below parents n k g l in
    let low = ancestors_below parents (ancestor parents n k) (j - k) g (omega arith) in
    let e : k + (j - k) ≡ j = omega arith in
    let same : ancestor parents n j ≡ ancestor parents (ancestor parents n k) (j - k) =
    subst (λ (i : ℕ). ancestor parents n i ≡ ancestor parents (ancestor parents n k) (j - k)) e (further_up parents n k (j - k)) in
    omega arith

ancestor_of_parent : (parents : List ℕ) (n j : ℕ) → ancestor parents (parent_in parents n) j ≡ parent_in parents (ancestor parents n j)
ancestor_of_parent parents n zero = refl
ancestor_of_parent parents n (suc j) = ap (λ (i : ℕ). parent_in parents i) (ancestor_of_parent parents n j)

pub upward_are_ancestors : UpwardAreAncestors
upward_are_ancestors parents n zero i l = absurd (omega arith)
upward_are_ancestors parents n (suc count) zero l = refl
upward_are_ancestors parents n (suc count) (suc i) l = upward_are_ancestors parents (parent_in parents n) count i (omega arith) ∙ ancestor_of_parent parents n i

upward_more : (parents : List ℕ) (n count : ℕ) → upward parents n count ++ ancestor parents n count ∷ [] ≡ upward parents n (suc count)
upward_more parents n zero = refl
upward_more parents n (suc count) =
    ap (λ (rest : List ℕ). n ∷ rest) (
    ap (λ (i : ℕ). upward parents (parent_in parents n) count ++ i ∷ []) (sym (ancestor_of_parent parents n count))
    ∙ upward_more parents (parent_in parents n) count)

pub length-upward : (parents : List ℕ) (n count : ℕ) → length (upward parents n count) ≡ count
length-upward parents n zero = refl
length-upward parents n (suc count) = ap suc (length-upward parents (parent_in parents n) count)

-- ---- down along favourites

-- where there is a favourite, it is below, and then those below it
pub downward_more : (favourites : List ℕ) (n most : ℕ) → (get_or favourites n 0 ≡ 0 → ⊥) →
    length (downward favourites n (suc most)) ≡ suc (length (downward favourites (get_or favourites n 0) most))
downward_more favourites n most some =
    let next = get_or favourites n 0 in
    ap (λ (none : Bool). length (if none then [] else next ∷ downward favourites next most)) (ne_eqb next 0 some)

pub downward_few : (favourites : List ℕ) (n most : ℕ) → length (downward favourites n most) ≤ most
downward_few favourites n zero = omega arith
downward_few favourites n (suc most) = elim (cases_eq (get_or favourites n 0) 0) [
  | inl none ↦ (let e : length (downward favourites n (suc most)) ≡ 0 = rw none refl in omega arith)
  | inr some ↦
      (let e = downward_more favourites n most some in
      let rest = downward_few favourites (get_or favourites n 0) most in
      omega arith)
]

-- ---- the walk

-- So far up from the one node, and down to the other along the way, which is kept from its end up. No way that goes less far up or down
-- leads to a node above both.
pub record Nears (parents : List ℕ) (start end from to up : ℕ) (way : List ℕ) : Type 0 where
  pub from_is : from ≡ ancestor parents start up
  pub to_is : to ≡ ancestor parents end (length way)
  pub way_is : way ≡ upward parents end (length way)
  pub few_up : up + from ≤ start
  pub few_down : length way + to ≤ end
  pub least : (i j : ℕ) → ancestor parents start i ≡ ancestor parents end j → (up ≤ i) × (length way ≤ j)
  pub meets : meeting_of parents from to ≡ meeting_of parents start end

pub nears_start : (parents : List ℕ) (start end : ℕ) → Nears parents start end start end 0 []
nears_start parents start end = record {
  from_is = refl;
  to_is = refl;
  way_is = refl;
  few_up = omega arith;
  few_down = omega arith;
  least = λ i j e. (omega arith, omega arith);
  meets = refl;
}

pub nears_up : (parents : List ℕ) (start end from to up : ℕ) (way : List ℕ) → IsOrdered parents → start < length parents → end < length parents →
    Nears parents start end from to up way → to < from →
    Nears parents start end (parent_in parents from) to (up + 1) way
nears_up parents start end from to up way g l h n over =
    let few = n.few_up in
    let known : from < length parents = omega arith in
    let low = g.before from (omega arith) known in
    let e : up + 1 ≡ suc up = omega arith in
    record {
      from_is = ap (λ (i : ℕ). parent_in parents i) n.from_is ∙ ap (λ (i : ℕ). ancestor parents start i) (sym e);
      to_is = n.to_is;
      way_is = n.way_is;
      few_up = omega arith;
      few_down = n.few_down;
      least = λ i j c. (
          let both = n.least i j c in
          let one = both.0 in
          let other = both.1 in
          elim (cases_eq i up) [
            | inl at ↦ absurd (
                let falling = falls parents end (length way) j g h other in
                let up_there : ancestor parents start up ≡ ancestor parents end j = subst (λ (k : ℕ). ancestor parents start k ≡ ancestor parents end j) at c in
                let a = n.from_is in
                let b = n.to_is in
                omega arith)
            | inr apart ↦ (omega (arith, apart), other)
          ]);
      meets = meeting_up parents from to g known over ∙ n.meets;
    }

pub nears_down : (parents : List ℕ) (start end from to up : ℕ) (way : List ℕ) → IsOrdered parents → start < length parents → end < length parents →
    Nears parents start end from to up way → from < to →
    Nears parents start end from (parent_in parents to) up (way ++ to ∷ [])
nears_down parents start end from to up way g l h n over =
    let few = n.few_down in
    let known : to < length parents = omega arith in
    let low = g.before to (omega arith) known in
    let size : length (way ++ to ∷ []) ≡ length way + 1 = length-append way (to ∷ []) in
    let e : length (way ++ to ∷ []) ≡ suc (length way) = omega arith in
    record {
      from_is = n.from_is;
      to_is = ap (λ (i : ℕ). parent_in parents i) n.to_is ∙ ap (λ (i : ℕ). ancestor parents end i) (sym e);
      way_is =
          ap (λ (w : List ℕ). w ++ to ∷ []) n.way_is
          ∙ ap (λ (i : ℕ). upward parents end (length way) ++ i ∷ []) n.to_is
          ∙ upward_more parents end (length way)
          ∙ ap (λ (k : ℕ). upward parents end k) (sym e);
      few_up = n.few_up;
      few_down = omega arith;
      least = λ i j c. (
          let both = n.least i j c in
          let one = both.0 in
          let other = both.1 in
          elim (cases_eq j (length way)) [
            | inl at ↦ absurd (
                let falling = falls parents start up i g l one in
                let down_there : ancestor parents start i ≡ ancestor parents end (length way) =
                subst (λ (k : ℕ). ancestor parents start i ≡ ancestor parents end k) at c in
                let a = n.from_is in
                let b = n.to_is in
                omega arith)
            | inr apart ↦ (one, omega (arith, apart))
          ]);
      meets = meeting_up_second parents from to g known over ∙ n.meets;
    }

pub nears_end : (parents : List ℕ) (start end from to up : ℕ) (way : List ℕ) → IsOrdered parents → start < length parents →
    Nears parents start end from to up way → from ≡ to → IsRoute parents start end up (length way)
nears_end parents start end from to up way g l n e =
    let few = n.few_up in
    let there : from ≡ meeting_of parents start end = sym (meeting_same parents from g (omega arith)) ∙ ap (λ (k : ℕ). meeting_of parents from k) e ∙ n.meets in
    record { up_there = sym n.from_is ∙ there; down_there = sym n.to_is ∙ sym e ∙ there; shortest = n.least }

-- ---- the way down

-- above the root is the root
root_stays : (parents : List ℕ) (n i d : ℕ) → IsOrdered parents → ancestor parents n i ≡ 0 → ancestor parents n (i + d) ≡ 0
root_stays parents n i zero g e = (let same : i + 0 ≡ i = omega arith in rw same e)
root_stays parents n i (suc d) g e =
    let same : i + suc d ≡ suc (i + d) = omega arith in
    rw same (ap (λ (k : ℕ). parent_in parents k) (root_stays parents n i d g e) ∙ g.root)

below_root : (parents : List ℕ) (from to up down i : ℕ) → IsOrdered parents → IsRoute parents from to up down → i < down → 0 < ancestor parents to i
below_root parents from to up down i g w l = elim (cases_eq (ancestor parents to i) 0) [
  | inl root ↦ absurd (
      let same : i + (down - i) ≡ down = omega arith in
      let bottom : ancestor parents to down ≡ 0 = subst (λ (k : ℕ). ancestor parents to k ≡ 0) same (root_stays parents to i (down - i) g root) in
      let again = w.shortest up i (w.up_there ∙ sym w.down_there ∙ bottom ∙ sym root) in
      omega (arith, again.1))
  | inr above ↦ omega (arith, above)
]

pub way_leads_down : WayLeadsDown
way_leads_down parents from to up down g w =
    let size = length-upward parents to down in
    record {
      none = λ e. (
          let at : down ≡ 0 = omega arith in
          sym w.down_there ∙ ap (λ (k : ℕ). ancestor parents to k) at);
      first = λ some. (
          let end : suc (length (upward parents to down) - 1) ≡ down = omega arith in
          ap (λ (k : ℕ). parent_in parents k) (upward_are_ancestors parents to down (length (upward parents to down) - 1) (omega arith))
          ∙ ap (λ (k : ℕ). ancestor parents to k) end
          ∙ w.down_there);
      next = λ i l. (
          let above : suc i ≡ i + 1 = omega arith in
          ap (λ (k : ℕ). parent_in parents k) (upward_are_ancestors parents to down i (omega arith))
          ∙ ap (λ (k : ℕ). ancestor parents to k) above
          ∙ sym (upward_are_ancestors parents to down (i + 1) (omega arith)));
      last = λ some. upward_are_ancestors parents to down 0 (omega arith);
      below_root = λ i l. subst (λ (k : ℕ). 0 < k) (sym (upward_are_ancestors parents to down i (omega arith)))
          (below_root parents from to up down i g w (omega arith));
    }
