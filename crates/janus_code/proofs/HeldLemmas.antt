-- Statements inside others, as code grows.
use Rattle.std.proofs.Common.{◌≡◌, ℕ, ◌+◌, ◌<◌, ◌≤◌, ◌⊎◌, ⊎_elim, inl, inr, List, [], ◌∷◌, ◌++◌, length, length-append, get_or, ap, ◌∙◌, sym, subst, arith}
use Rattle.std.specs.Prelude.{slice_get, Some, IfOk, Result, Ok, Err}
use Rattle.std.proofs.Math.ListN.{get_or-append}
use Rattle.std.proofs.Math.Seq.{get_or-append_seam}
use Rattle.std.proofs.lemmas.Bool.{cases_lt}
use Rattle.std.proofs.lemmas.List.{get_or-append-add}
use Rattle.std.proofs.lemmas.Option.{slice_get_within, slice_get-get_or, get_or_from_slice_get}
use Rattle.janus_code.specs.declared.code.Block.{Block}
use Rattle.janus_code.specs.declared.code.Statement.{Statement}
use Rattle.janus_code.specs.declared.code.Statement.TheVariants.{Skip, Assign, AssignElement, Push, Pop, Swap, If, Loop, LocalInt, LocalStack, Call, Uncall}
use Rattle.janus_code.specs.Held.{IsMember, HasMember, IsInside, AreInsideFrom}
use Rattle.janus_code.specs.Grown.{Grows}
use Rattle.janus_code.proofs.Pairs.{last_here}

-- ---- what is told of an `Ok`

pub if_both : {T E : Type 0} {P Q R : T → Type 0} (r : Result T E) → ((x : T) → P x → Q x → R x) → IfOk r P → IfOk r Q → IfOk r R
if_both (Ok x) f p q = f x p q
if_both (Err e) f p q = p

pub if_three : {T E : Type 0} {P Q R S : T → Type 0} (r : Result T E) → ((x : T) → P x → Q x → R x → S x) → IfOk r P → IfOk r Q → IfOk r R → IfOk r S
if_three (Ok x) f p q s = f x p q s
if_three (Err e) f p q s = p

-- ---- more statements, and more members

get_more : {T : Type 0} (xs ys : List T) (i : ℕ) (x : T) → slice_get xs i ≡ Some x → slice_get (xs ++ ys) i ≡ Some x
get_more xs ys i x e =
    let lt = slice_get_within xs i x e in
    slice_get-get_or (xs ++ ys) i x (omega (arith, lt, length-append xs ys))
    ∙ ap Some (get_or-append xs ys x i lt ∙ get_or_from_slice_get xs i x x e)

pub inside_by_statement : (members : List ℕ) (ss : List Statement) (s : Statement) (n : ℕ) → IsInside members ss n → IsInside members (ss ++ s ∷ []) n
inside_by_statement members ss s n h =
    record { outer = h.outer; statement = h.statement; there = get_more ss (s ∷ []) h.outer h.statement h.there; member = h.member }

member_more : (members more : List ℕ) (b : Block) (n : ℕ) → IsMember members b n → IsMember (members ++ more) b n
member_more members more b n h = record { place = h.place; from = h.from; until = h.until; there = get_more members more h.place n h.there }

either_more : (members more : List ℕ) (p q : Block) (n : ℕ) → IsMember members p n ⊎ IsMember members q n →
    IsMember (members ++ more) p n ⊎ IsMember (members ++ more) q n
either_more members more p q n h =
    ⊎_elim
    (λ (i : IsMember members p n). inl (member_more members more p n i))
    (λ (i : IsMember members q n). inr (member_more members more q n i))
    h

has_more : (members more : List ℕ) (n : ℕ) (s : Statement) → HasMember members n s → HasMember (members ++ more) n s
has_more members more n Skip h = h
has_more members more n (Assign x u e) h = h
has_more members more n (AssignElement a i u e) h = h
has_more members more n (Push x y) h = h
has_more members more n (Pop x y) h = h
has_more members more n (Swap x y) h = h
has_more members more n (If a p q b) h = either_more members more p q n h
has_more members more n (Loop a p q b) h = either_more members more p q n h
has_more members more n (LocalInt x a p b) h = member_more members more p n h
has_more members more n (LocalStack x p) h = member_more members more p n h
has_more members more n (Call f xs) h = h
has_more members more n (Uncall f xs) h = h

pub inside_by_members : (members more : List ℕ) (ss : List Statement) (n : ℕ) → IsInside members ss n → IsInside (members ++ more) ss n
inside_by_members members more ss n h =
    record { outer = h.outer; statement = h.statement; there = h.there; member = has_more members more n h.statement h.member }

member_grown : (ms ns : List ℕ) (ss rs : List Statement) (b : Block) (n : ℕ) → Grows ms ss ns rs → IsMember ms b n → IsMember ns b n
member_grown ms ns ss rs b n g h =
    let lt = slice_get_within ms h.place n h.there in
    record {
      place = h.place;
      from = h.from;
      until = h.until;
      there = slice_get-get_or ns h.place 0 (omega (arith, lt, g.longer))
          ∙ ap Some (g.same h.place lt ∙ get_or_from_slice_get ms h.place n 0 h.there);
    }

-- ---- one statement more

pub added_alone : (members : List ℕ) (ss : List Statement) (s : Statement) → AreInsideFrom (length ss) members (ss ++ s ∷ []) (λ n. n ≡ length ss)
added_alone members ss s n low high = inl (omega (arith, low, high, length-append ss (s ∷ [])))

pub added_inside : (members : List ℕ) (ss : List Statement) (s : Statement) (n : ℕ) → HasMember members n s → IsInside members (ss ++ s ∷ []) n
added_inside members ss s n h = record { outer = length ss; statement = s; there = last_here ss s; member = h }

-- behind two blocks that it has
pub both_inside : (from : ℕ) (ms ns os : List ℕ) (ss rs qs : List Statement) (p q : Block) (n : ℕ) → Grows ms ss ns rs → Grows ns rs os qs →
    AreInsideFrom from ms ss (IsMember ms p) → AreInsideFrom (length ss) ns rs (IsMember ns q) → AreInsideFrom (length rs) os qs (λ m. m ≡ n) →
    ((m : ℕ) → IsMember ns p m ⊎ IsMember ns q m → IsInside os qs m) → AreInsideFrom from os qs (λ m. m ≡ n)
both_inside from ms ns os ss rs qs p q n g h first second last held m low high =
    ⊎_elim
    (λ (lt : m < length ss).
    ⊎_elim
    (λ (i : IsMember ms p m). inr (held m (inl (member_grown ms ns ss rs p m g i))))
    (λ (i : IsInside ms ss m). inr (h.inside m (g.inside m i)))
    (first m low lt))
    (λ (le : length ss ≤ m).
    ⊎_elim
    (λ (lt : m < length rs).
    ⊎_elim
    (λ (i : IsMember ns q m). inr (held m (inr i)))
    (λ (i : IsInside ns rs m). inr (h.inside m i))
    (second m le lt))
    (λ (le : length rs ≤ m). last m le high)
    (cases_lt m (length rs)))
    (cases_lt m (length ss))

-- behind one block that it has
pub one_inside : (from : ℕ) (ms ns : List ℕ) (ss rs : List Statement) (p : Block) (n : ℕ) → Grows ms ss ns rs → AreInsideFrom from ms ss (IsMember ms p) →
    AreInsideFrom (length ss) ns rs (λ m. m ≡ n) → ((m : ℕ) → IsMember ms p m → IsInside ns rs m) → AreInsideFrom from ns rs (λ m. m ≡ n)
one_inside from ms ns ss rs p n g first last held m low high =
    ⊎_elim
    (λ (lt : m < length ss).
    ⊎_elim (λ (i : IsMember ms p m). inr (held m i)) (λ (i : IsInside ms ss m). inr (g.inside m i)) (first m low lt))
    (λ (le : length ss ≤ m). last m le high)
    (cases_lt m (length ss))

-- ---- a row of numbers that becomes a block

-- m is one of the first i numbers
abbrev pub IsListed : List ℕ → ℕ → ℕ → Type 0
IsListed numbers i m = (j : ℕ) × (j < i) × (get_or numbers j 0 ≡ m)

pub row_inside : (from : ℕ) (ms ns : List ℕ) (ss rs : List Statement) (numbers more : List ℕ) (n i : ℕ) → Grows ms ss ns rs → more ≡ numbers ++ n ∷ [] →
    length numbers ≡ i → AreInsideFrom from ms ss (IsListed numbers i) → AreInsideFrom (length ss) ns rs (λ m. m ≡ n) →
    AreInsideFrom from ns rs (IsListed more (i + 1))
row_inside from ms ns ss rs numbers more n i g e l older one m low high =
    ⊎_elim
    (λ (lt : m < length ss).
    ⊎_elim
    (λ (h : IsListed numbers i m).
    inl (h.0, omega (arith, h.1), ap (λ (l : List ℕ). get_or l h.0 0) e ∙ get_or-append numbers (n ∷ []) 0 h.0 (omega (arith, h.1, l)) ∙ h.2))
    (λ (h : IsInside ms ss m). inr (g.inside m h))
    (older m low lt))
    (λ (le : length ss ≤ m).
    ⊎_elim
    (λ (same : m ≡ n).
    inl (
      i,
      omega arith,
      ap (λ (l : List ℕ). get_or l i 0) e ∙ ap (λ (k : ℕ). get_or (numbers ++ n ∷ []) k 0) (sym l) ∙ get_or-append_seam numbers n [] 0 ∙ sym same,
    ))
    (λ (h : IsInside ns rs m). inr h)
    (one m le high))
    (cases_lt m (length ss))

pub members_added : (members more all : List ℕ) (b : Block) → all ≡ members ++ more → b.start ≡ length members → b.end ≡ length members + length more →
    (i : ℕ) → i < length more → IsMember all b (get_or more i 0)
members_added members more all b e s f i lt = record {
  place = length members + i;
  from = omega (arith, s);
  until = omega (arith, f, lt);
  there = ap (λ (l : List ℕ). slice_get l (length members + i)) e
      ∙ slice_get-get_or (members ++ more) (length members + i) 0 (omega (arith, lt, length-append members more))
      ∙ ap Some (get_or-append-add members more i 0);
}

pub row_reached : (from : ℕ) (ms ns : List ℕ) (ss rs : List Statement) (numbers : List ℕ) (i : ℕ) (b : Block) → Grows ms ss ns rs → rs ≡ ss →
    i ≤ length numbers → AreInsideFrom from ms ss (IsListed numbers i) → ((j : ℕ) → j < length numbers → IsMember ns b (get_or numbers j 0)) →
    AreInsideFrom from ns rs (IsMember ns b)
row_reached from ms ns ss rs numbers i b g same le older members m low high =
    ⊎_elim
    (λ (h : IsListed numbers i m). inl (subst (IsMember ns b) h.2 (members h.0 (omega (arith, h.1, le)))))
    (λ (h : IsInside ms ss m). inr (g.inside m h))
    (older m low (omega (arith, high, ap length same)))
