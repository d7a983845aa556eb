-- Names in a set are those that were put into it, and the procedures of these names are those that a name calls.
use Rattle.std.proofs.Common.{◌≡◌, ℕ, ◌<◌, zero, suc, Bool, true, false, List, [], ◌∷◌, ◌++◌, length, get_or, map, take, refl, sym, ap, ◌∙◌, subst, inl, inr}
use Rattle.std.proofs.Common.{◌⊎◌, arith, String, string_bytes, Contains, append-nil, IfOk, Result, Ok, Err, Vec}
use Rattle.std.specs.Borrow.{Bor}
use Rattle.std.specs.declared.alloc.AllocError.{AllocError}
use Rattle.std.specs.declared.alloc.Global.{Global}
use Rattle.std.specs.Ordering.{nat_cmp}
use Rattle.std.specs.Cmp.Lexicographic.{slice_cmp}
use Rattle.std.specs.List.Sorted.{IsStrictlySortedBy}
use Rattle.std.specs.String.{string_cmp}
use Rattle.std.proofs.lemmas.Slice.Eq.{bytes_eq-Decides}
use Rattle.janus_check.proofs.LookupLemmas.{same_as_bytes}
use Rattle.janus_meaning.specs.Fault.{Res, Fine, Bad, Broken}
use Rattle.janus_meaning.specs.Syntax.{Name, Proc}
use Rattle.janus_meaning.specs.Store.{find, pick, same_name}
use Rattle.janus_syntax.specs.declared.tree.Procedure.{Procedure}
use Rattle.kernel_core.specs.Defined.{in_a_row}
use Rattle.kernel_text.specs.NameSets.{with_name}
use Rattle.kernel_text.proofs.NameSets.{contains_first, contains_later, contains_none, contains_cases, named_from, named_kept, named_there, ordered_octets}
use Rattle.cells_program.specs.ByName.{found, onto_found, with_names}
use Rattle.kernel_text.specs.Procedures.{procedure_names}
use Rattle.cells_program.specs.Listing.{IsListing}
use Rattle.kernel_text.proofs.Newest.{plain}

-- ---- what the code puts in

pub with_names_more : (known names : List Name) (x : Name) → with_names known (names ++ x ∷ []) ≡ with_name (with_names known names) x
with_names_more known [] x = refl
with_names_more known (n ∷ ns) x = with_names_more (with_name known n) ns x

pub names_more : (all : List (Bor Procedure)) (i : ℕ) (b : Bor Procedure) → i < length all → get_or all i b ≡ b →
    procedure_names (in_a_row (take (suc i) all)) ≡ procedure_names (in_a_row (take i all)) ++ string_bytes b.now.name.text ∷ []
names_more [] i b l e = absurd (omega arith)
names_more (z ∷ all) zero b l e = ap (λ (c : Bor Procedure). string_bytes c.now.name.text ∷ []) e
names_more (z ∷ all) (suc i) b l e = ap (λ (ns : List Name). (plain z).name ∷ ns) (names_more all i b (omega arith) e)

-- ---- many names

names_kept : (known names : List Name) (x : Name) → Contains known x → Contains (with_names known names) x
names_kept known [] x h = h
names_kept known (n ∷ ns) x h = names_kept (with_name known n) ns x (named_kept known n x h)

names_from : (known names : List Name) (x : Name) → Contains (with_names known names) x → Contains known x ⊎ Contains names x
names_from known [] x h = inl h
names_from known (n ∷ ns) x h =
    elim (names_from (with_name known n) ns x h) as (λ _. Contains known x ⊎ Contains (n ∷ ns) x) [
      | inl first ↦ elim (named_from known n x first) as (λ _. Contains known x ⊎ Contains (n ∷ ns) x)
          [ inl e ↦ inr (contains_first ns n x e) | inr old ↦ inl old ]
      | inr later ↦ inr (contains_later ns n x later)
    ]

names_there : (known names : List Name) (x : Name) → Contains names x → Contains (with_names known names) x
names_there known [] x h = absurd (contains_none x h)
names_there known (n ∷ ns) x h =
    elim (contains_cases ns n x h) as (λ _. Contains (with_names (with_name known n) ns) x) [
      | inl e ↦ names_kept (with_name known n) ns x (subst (λ (y : Name). Contains (with_name known n) y) e (named_there known n))
      | inr later ↦ names_there (with_name known n) ns x later
    ]

-- ---- what is found

same_names : (f x : Name) → same_name f x ≡ true → f ≡ x
same_names f x e = (bytes_eq-Decides f x).0 (sym (same_as_bytes f x) ∙ e)

-- what is found has the name, and is among those
pub record Finds (ps : List Proc) (f : Name) (p : Proc) : Type 0 where
  pub named : p.name ≡ f
  pub among : Contains (procedure_names ps) f

found_in : Proc → Res Proc → Proc
found_in other (Fine p) = p
found_in other (Bad f) = other

fine_same : (a b : Proc) (r : Res Proc) → r ≡ Fine a → r ≡ Fine b → a ≡ b
unfolding found_in
fine_same a b r e f = ap (found_in a) (sym e ∙ f)

picked : (t : Bool) (q : Proc) (ps : List Proc) (f : Name) (p : Proc) → same_name f q.name ≡ t → pick t q (find f ps) ≡ Fine p →
    (find f ps ≡ Fine p → Finds ps f p) → Finds (q ∷ ps) f p
picked true q ps f p s e rest =
    let is = same_names f q.name s in
    record { named = ap (λ (z : Proc). z.name) (sym (fine_same q p (Fine q) refl e)) ∙ sym is; among = contains_first (procedure_names ps) q.name f (sym is) }
picked false q ps f p s e rest = let r = rest e in record { named = r.named; among = contains_later (procedure_names ps) q.name f r.among }

pub finds : (ps : List Proc) (f : Name) (p : Proc) → find f ps ≡ Fine p → Finds ps f p
finds [] f p e = absurd (cc e)
finds (q ∷ ps) f p e = picked (same_name f q.name) q ps f p refl e (finds ps f p)

abbrev Some_found : Res Proc → Type 0
Some_found r = (p : Proc) × (r ≡ Fine p)

same_self : (f x : Name) → x ≡ f → same_name f x ≡ true
same_self f x e = same_as_bytes f x ∙ (bytes_eq-Decides f x).1 (sym e)

picked_some : (t : Bool) (q : Proc) (r : Res Proc) → (t ≡ false → Some_found r) → Some_found (pick t q r)
picked_some true q r rest = (q, refl)
picked_some false q r rest = rest refl

pub some_found : (ps : List Proc) (f : Name) → Contains (procedure_names ps) f → Some_found (find f ps)
some_found [] f h = absurd (contains_none f h)
some_found (q ∷ ps) f h =
    elim (contains_cases (procedure_names ps) q.name f h) as (λ _. Some_found (pick (same_name f q.name) q (find f ps))) [
      | inl e ↦ picked_some (same_name f q.name) q (find f ps) (λ no. absurd (cc (no, same_self f q.name e)))
      | inr later ↦ picked_some (same_name f q.name) q (find f ps) (λ no. some_found ps f later)
    ]

-- ---- the procedures of names

onto_more : (r : Res Proc) (xs ys : List Proc) → onto_found r (xs ++ ys) ≡ onto_found r xs ++ ys
onto_more (Fine p) xs ys = refl
onto_more (Bad f) xs ys = refl

pub found_more : (all : List Proc) (xs : List Name) (x : Name) → found all (xs ++ x ∷ []) ≡ found all xs ++ onto_found (find x all) []
found_more all [] x = refl
found_more all (y ∷ xs) x = ap (onto_found (find y all)) (found_more all xs x) ∙ onto_more (find y all) (found all xs) (onto_found (find x all) [])

onto_names : (all : List Proc) (x : Name) (ps : List Proc) (r : Res Proc) → find x all ≡ r → Some_found r →
    procedure_names (onto_found r ps) ≡ x ∷ procedure_names ps
onto_names all x ps (Fine p) e s = ap (λ n. n ∷ procedure_names ps) (finds all x p e).named
onto_names all x ps (Bad f) e s = absurd (cc (s.1))

-- each of the names is found, so the names of what is found are they
found_names : (all : List Proc) (xs : List Name) → ((x : Name) → Contains xs x → Contains (procedure_names all) x) → procedure_names (found all xs) ≡ xs
found_names all [] h = refl
found_names all (x ∷ xs) h =
    onto_names all x (found all xs) (find x all) refl (some_found all x (h x (contains_first xs x x refl)))
    ∙ ap (λ ns. x ∷ ns) (found_names all xs (λ y c. h y (contains_later xs x y c)))

onto_has : (all : List Proc) (x : Name) (ps : List Proc) (p : Proc) (r : Res Proc) → find x all ≡ r → Contains (onto_found r ps) p →
    (Contains ps p → find p.name all ≡ Fine p) → find p.name all ≡ Fine p
onto_has all x ps p (Fine q) e h rest =
    elim (contains_cases ps q p h) as (λ _. find p.name all ≡ Fine p) [
      | inl same ↦ subst (λ (z : Proc). find z.name all ≡ Fine z) same (ap (λ (n : Name). find n all) (finds all x q e).named ∙ e)
      | inr later ↦ rest later
    ]
onto_has all x ps p (Bad f) e h rest = rest h

found_has : (all : List Proc) (xs : List Name) (p : Proc) → Contains (found all xs) p → find p.name all ≡ Fine p
found_has all [] p h = absurd (contains_none p h)
found_has all (x ∷ xs) p h = onto_has all x (found all xs) p (find x all) refl h (found_has all xs p)

onto_kept : (r : Res Proc) (ps : List Proc) (p : Proc) → Contains ps p → Contains (onto_found r ps) p
onto_kept (Fine q) ps p h = contains_later ps q p h
onto_kept (Bad f) ps p h = h

found_there : (all : List Proc) (xs : List Name) (p : Proc) → Contains xs p.name → find p.name all ≡ Fine p → Contains (found all xs) p
found_there all [] p h e = absurd (contains_none p.name h)
found_there all (x ∷ xs) p h e =
    elim (contains_cases xs x p.name h) as (λ _. Contains (onto_found (find x all) (found all xs)) p) [
      | inl is ↦ subst (λ (r : Res Proc). Contains (onto_found r (found all xs)) p) (sym (ap (λ (n : Name). find n all) is ∙ e))
          (contains_first (found all xs) p p refl)
      | inr later ↦ onto_kept (find x all) (found all xs) p (found_there all xs p later e)
    ]

-- ---- the listing

among : (all : List Proc) (x : Name) → Contains (with_names [] (procedure_names all)) x → Contains (procedure_names all) x
among all x h =
    elim (names_from [] (procedure_names all) x h) as (λ _. Contains (procedure_names all) x) [ inl none ↦ absurd (contains_none x none) | inr there ↦ there ]

pub is_listing : (all : List Proc) (names : List Name) → names ≡ with_names [] (procedure_names all) → IsStrictlySortedBy (slice_cmp nat_cmp) names →
    IsListing all (found all names)
is_listing all names e sorted = record {
  ordered = subst (IsStrictlySortedBy (slice_cmp nat_cmp)) (sym (found_names all names (λ x h. among all x (subst (λ ns. Contains ns x) e h)))) sorted;
  each = λ p. (
    found_has all names p,
    λ h. found_there all names p (subst (λ ns. Contains ns p.name) (sym e) (names_there [] (procedure_names all) p.name (finds all p.name p h).among)) h,
  );
}

-- the code's procedures in a row
pub row_more : (xs : List (Bor Procedure)) (b : Bor Procedure) → in_a_row (xs ++ b ∷ []) ≡ in_a_row xs ++ plain b ∷ []
row_more [] b = refl
row_more (x ∷ xs) b = ap (λ (ps : List Proc). plain x ∷ ps) (row_more xs b)

pub found_nothing : (ps : List Proc) → ps ++ onto_found (Bad Broken) [] ≡ ps
found_nothing ps = append-nil ps

pub is_listed :
    (r : Result (Vec (Bor Procedure) Global) AllocError) (all : List Proc) (items : List (String Global)) (names : List (String Global)) → names ≡ items →
    IsStrictlySortedBy string_cmp items → map string_bytes items ≡ with_names [] (procedure_names all) →
    IfOk r (λ v. in_a_row v.items ≡ found all (map string_bytes names)) → IfOk r (λ v. IsListing all (in_a_row v.items))
is_listed (Ok v) all items names same sorted e f =
    subst (IsListing all) (sym (f ∙ ap (λ (ns : List (String Global)). found all (map string_bytes ns)) same))
    (is_listing all (map string_bytes items) e (ordered_octets items sorted))
is_listed (Err x) all items names same sorted e f = tt
