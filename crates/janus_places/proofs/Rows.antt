-- Rows of spots that are added behind one another.
use Rattle.std.proofs.Common.{◌≡◌, ℕ, zero, suc, ◌+◌, ◌-◌, ◌<◌, ◌≤◌, List, [], ◌∷◌, ◌++◌, length, get_or, drop, refl, ap, ◌∙◌, sym, subst, arith, add-one}
use Rattle.std.proofs.Common.{Result, Ok, Err, OnOk, Bool, true, false, nat_lt, map, Bor}
use Rattle.std.specs.Prelude.{slice_get, Option, Some, None, unwrap_or, string_bytes}
use Rattle.std.proofs.lemmas.List.{append_assoc, drop_all, map-append, length-append}
use Rattle.std.proofs.lemmas.Option.{slice_get-get_or, slice_get_within, get_or_from_slice_get}
use Rattle.std.proofs.lemmas.Bool.{lt-ltb}
use Rattle.std.proofs.Math.Seq.{drop-cons}
use Rattle.janus_meaning.specs.Syntax.{Name}
use Rattle.janus_linear.specs.declared.code.Order.TheVariants.{Straight}
use Rattle.janus_linear.specs.Layout.{block_size, place_at}
use Rattle.janus_syntax.specs.declared.tree.Stm as code_stm
use Rattle.janus_syntax.specs.Tree.{Block, stm_view, block_view}
use Rattle.janus_places.specs.declared.table.Local.{Local}
use Rattle.janus_places.specs.declared.table.Row.{Row}
use Rattle.janus_places.specs.declared.table.Table.{Table}
use Rattle.janus_places.specs.Spots.{Spot, spots, block_spots, stm_spots, part_of, span_of, locals_of}
use Rattle.janus_places.specs.Standing.{StandsAt, IsTold, AreOpen, code_of}
use Rattle.janus_places.specs.Table.{AreLocals, IsRowOf, AreRowsOf, IsTableOf, Opens, Adds}
use Rattle.janus_places.proofs.Follow.{spots_stand, as_many}

-- what a good answer says
pub on_ok : {E P Q : Type 0} (r : Result (Unit {0}) E) → (P → Q) → OnOk r P → OnOk r Q
on_ok (Ok u) f h = f h
on_ok (Err e) f h = h

-- ---- locals that are added stay behind the others

abbrev IsNothing : {X : Type 0} → Option X → Type 0
IsNothing None = Unit {0}
IsNothing (Some x) = ⊥

-- what stands in a list stands there where others are behind it
pub stays : {X : Type 0} (xs ys : List X) (n : ℕ) (x : X) → slice_get xs n ≡ Some x → slice_get (xs ++ ys) n ≡ Some x
stays [] ys n x e = absurd (subst IsNothing e tt)
stays (y ∷ xs) ys zero x e = e
stays (y ∷ xs) ys (suc n) x e = stays xs ys n x e

pub locals_stay : (ls more : List Local) (n : ℕ) (xs : List Name) → AreLocals ls n xs → AreLocals (ls ++ more) n xs
locals_stay ls more n [] h = h
locals_stay ls more zero (x ∷ xs) h = absurd h
locals_stay ls more (suc n) (x ∷ xs) h = (h.0, stays ls more n h.0 h.1, h.2, locals_stay ls more h.0.outer xs h.3)

rows_stay : (ls more : List Local) (rows : List Row) (ss : List Spot) → AreRowsOf ls rows ss → AreRowsOf (ls ++ more) rows ss
rows_stay ls more [] [] h = tt
rows_stay ls more [] (spot ∷ ss) h = absurd h
rows_stay ls more (row ∷ rows) [] h = absurd h
rows_stay ls more (row ∷ rows) (spot ∷ ss) h =
    (record { part = h.0.part; span = h.0.span; locals = locals_stay ls more row.locals (locals_of spot) h.0.locals }, rows_stay ls more rows ss h.1)

rows_both : (ls : List Local) (rows more : List Row) (ss ts : List Spot) → AreRowsOf ls rows ss → AreRowsOf ls more ts → AreRowsOf ls (rows ++ more) (ss ++ ts)
rows_both ls [] more [] ts h k = k
rows_both ls [] more (spot ∷ ss) ts h k = absurd h
rows_both ls (row ∷ rows) more [] ts h k = absurd h
rows_both ls (row ∷ rows) more (spot ∷ ss) ts h k = (h.0, rows_both ls rows more ss ts h.1 k)

-- ---- what is added, and then more

both_add : (a b c : Table) (ss ts : List Spot) → Adds a b ss → Adds b c ts → Adds a c (ss ++ ts)
both_add a b c ss ts f g =
    record {
      more = f.more ++ g.more;
      made = f.made ++ g.made;
      locals = g.locals ∙ ap (λ ls. ls ++ g.more) f.locals ∙ append_assoc a.locals.items f.more g.more;
      rows = g.rows ∙ ap (λ rs. rs ++ g.made) f.rows ∙ append_assoc a.rows.items f.made g.made;
      are = rows_both c.locals.items f.made g.made ss ts
          (subst (λ ls. AreRowsOf ls f.made ss) (sym g.locals) (rows_stay b.locals.items g.more f.made ss f.are)) g.are;
    }

pub both : {a b c : Table} {ss ts : List Spot} → Adds a b ss → Adds b c ts → Adds a c (ss ++ ts)
both f g = both_add _ _ _ _ _ f g

pub append_none : {X : Type 0} (xs : List X) → xs ++ [] ≡ xs
append_none [] = refl
append_none (x ∷ xs) = ap (λ l. x ∷ l) (append_none xs)

pub none : (t : Table) → Adds t t []
none t = record { more = []; made = []; locals = sym (append_none t.locals.items); rows = sym (append_none t.rows.items); are = tt }

-- a local is opened, and rows are added
pub behind_local : (a b c : Table) (ss : List Spot) → Opens a b → b.rows.items ≡ a.rows.items → Adds b c ss → Adds a c ss
behind_local a b c ss f e g =
    record {
      more = f.more ++ g.more;
      made = g.made;
      locals = g.locals ∙ ap (λ ls. ls ++ g.more) f.locals ∙ append_assoc a.locals.items f.more g.more;
      rows = g.rows ∙ ap (λ rs. rs ++ g.made) e;
      are = g.are;
    }

-- locals of the older table are those of the newer one
pub still : {a b : Table} {ss : List Spot} (n : ℕ) (xs : List Name) → Adds a b ss → AreLocals a.locals.items n xs → AreLocals b.locals.items n xs
still n xs f h = still_at _ _ _ n xs f h
  where
    still_at : (a b : Table) (ss : List Spot) (n : ℕ) (xs : List Name) → Adds a b ss → AreLocals a.locals.items n xs → AreLocals b.locals.items n xs
    still_at a b ss n xs f h = subst (λ ls. AreLocals ls n xs) (sym f.locals) (locals_stay a.locals.items f.more n xs h)

-- one row is added
pub one_row : (old new : Table) (row : Row) (spot : Spot) → new.locals.items ≡ old.locals.items → new.rows.items ≡ old.rows.items ++ row ∷ [] →
    row.part ≡ part_of spot → row.span ≡ span_of spot → AreLocals old.locals.items row.locals (locals_of spot) → Adds old new (spot ∷ [])
one_row old new row spot e f p s h =
    record {
      more = [];
      made = row ∷ [];
      locals = e ∙ sym (append_none old.locals.items);
      rows = f;
      are = (record { part = p; span = s; locals = subst (λ ls. AreLocals ls row.locals (locals_of spot)) (sym e) h }, tt);
    }

last_at : {X : Type 0} (xs : List X) (x : X) → slice_get (xs ++ x ∷ []) (length xs) ≡ Some x
last_at [] x = refl
last_at (y ∷ xs) x = last_at xs x

-- one local is opened
pub opened : (ls news : List Local) (l : Local) (n : ℕ) (x : Name) (xs : List Name) → news ≡ ls ++ l ∷ [] → n ≡ length news → string_bytes l.name ≡ x →
    AreLocals ls l.outer xs → AreLocals news n (x ∷ xs)
opened ls news l n x xs e m named h =
    let many : n ≡ suc (length ls) = m ∙ ap (λ (k : List Local). length k) e ∙ length-append ls (l ∷ [])
    ∙ (let z : length ls + 1 ≡ suc (length ls) = omega arith in z) in
    subst (λ k. AreLocals news k (x ∷ xs)) (sym many) (
      l,
      subst (λ k. slice_get k (length ls) ≡ Some l) (sym e) (last_at ls l),
      named,
      subst (λ k. AreLocals k l.outer xs) (sym e) (locals_stay ls (l ∷ []) l.outer xs h),
    )

-- ---- the statements of a block, one after another

pub next_statement : (ss : List code_stm.Stm) (i : ℕ) (x : code_stm.Stm) (xs : List Name) (start t0 t1 end : Table) → i < length ss → x ≡ get_or ss i x →
    (Adds t0 end (block_spots xs (block_view (drop i ss))) → Adds start end (block_spots xs (block_view ss))) → Adds t0 t1 (stm_spots xs (stm_view x)) →
    Adds t1 end (block_spots xs (block_view (drop (i + 1) ss))) → Adds start end (block_spots xs (block_view ss))
next_statement ss i x xs start t0 t1 end within is before new rest =
    let next : block_spots xs (block_view (drop i ss)) ≡ stm_spots xs (stm_view x) ++ block_spots xs (block_view (drop (i + 1) ss)) =
    ap (λ l. block_spots xs (block_view l)) (drop-cons ss i x within) ∙ ap (λ y. block_spots xs (block_view (y ∷ drop (suc i) ss))) (sym is)
    ∙ ap (λ n. stm_spots xs (stm_view x) ++ block_spots xs (block_view (drop n ss))) (sym (add-one i)) in
    before (subst (λ l. Adds t0 end l) (sym next) (both_add t0 t1 end (stm_spots xs (stm_view x)) (block_spots xs (block_view (drop (i + 1) ss))) new rest))

pub last_statement : (ss : List code_stm.Stm) (i : ℕ) (xs : List Name) (start t : Table) → length ss ≤ i →
    ((end : Table) → Adds t end (block_spots xs (block_view (drop i ss))) → Adds start end (block_spots xs (block_view ss))) →
    Adds start t (block_spots xs (block_view ss))
last_statement ss i xs start t past before =
    before t (subst (λ l. Adds t t l) (sym (ap (λ l. block_spots xs (block_view l)) (drop_all i ss past))) (none t))

-- all rows are those that were added to none
pub whole : (a b : Table) (blk : Block) → a.rows.items ≡ [] → Adds a b (spots blk) → IsTableOf b blk
whole a b blk e f = subst (λ rs. AreRowsOf b.locals.items rs (spots blk)) (sym (f.rows ∙ ap (λ rs. rs ++ f.made) e)) f.are

-- ---- one row

row_at : (ls : List Local) (rows : List Row) (ss : List Spot) (n : ℕ) (d : Row) → AreRowsOf ls rows ss → n < length rows →
    (spot : Spot) × (slice_get ss n ≡ Some spot) × IsRowOf ls (get_or rows n d) spot
row_at ls [] ss n d h lt = absurd (omega (arith, lt))
row_at ls (row ∷ rows) [] n d h lt = absurd h
row_at ls (row ∷ rows) (spot ∷ ss) zero d h lt = (spot, refl, h.0)
row_at ls (row ∷ rows) (spot ∷ ss) (suc n) d h lt = row_at ls rows ss n d h.1 (omega (arith, lt))

rows_long : (ls : List Local) (rows : List Row) (ss : List Spot) → AreRowsOf ls rows ss → length rows ≡ length ss
rows_long ls [] [] h = refl
rows_long ls [] (spot ∷ ss) h = absurd h
rows_long ls (row ∷ rows) [] h = absurd h
rows_long ls (row ∷ rows) (spot ∷ ss) h = ap suc (rows_long ls rows ss h.1)

pub table_long : (t : Table) (es g : List Name) (b : Block) → IsTableOf t b → length t.rows.items ≡ block_size (code_of es g b)
table_long t es g b h = rows_long t.locals.items t.rows.items (spots b) h ∙ as_many es g b

pub record Stands (t : Table) (es g : List Name) (b : Block) (n : ℕ) (row : Row) : Type 0 where
  pub spot : Spot
  pub there : slice_get (spots b) n ≡ Some spot
  pub stands : StandsAt es g spot (place_at Straight (code_of es g b) n)
  pub is : IsRowOf t.locals.items row spot

pub stands_there : (t : Table) (es g : List Name) (b : Block) (n : ℕ) (row : Row) → row ≡ get_or t.rows.items n row → n < length t.rows.items → IsTableOf t b →
    Stands t es g b n row
stands_there t es g b n row e lt h =
    let r = row_at t.locals.items t.rows.items (spots b) n row h lt in
    let s = spots_stand es g b n (omega (arith, lt, table_long t es g b h)) in
    let same : s.0 ≡ r.0 = ap (λ o. unwrap_or o r.0) (sym s.1 ∙ r.1) in
    record {
      spot = r.0;
      there = r.1;
      stands = subst (λ spot. StandsAt es g spot (place_at Straight (code_of es g b) n)) same s.2;
      is = subst (λ row. IsRowOf t.locals.items row r.0) (sym e) r.2;
    }

pub told_at : (t : Table) (es g : List Name) (b : Block) (n : ℕ) (row : Row) → row ≡ get_or t.rows.items n row → n < length t.rows.items → IsTableOf t b →
    IsTold es g b n row.part row.span
told_at t es g b n row e lt h =
    let s = stands_there t es g b n row e lt h in
    record { spot = s.spot; there = s.there; stands = s.stands; part = s.is.part; span = s.is.span }

-- ---- the locals of a row

pub open_at : (t : Table) (es g : List Name) (b : Block) (n : ℕ) (row : Row) (names : List Name) → row ≡ get_or t.rows.items n row →
    n < length t.rows.items → IsTableOf t b → ((xs : List Name) → AreLocals t.locals.items row.locals xs → names ≡ xs) → AreOpen es g b n names
open_at t es g b n row names e lt h all =
    let s = stands_there t es g b n row e lt h in
    record { spot = s.spot; there = s.there; stands = s.stands; names = all (locals_of s.spot) s.is.locals }

-- what is told of the locals from here on
abbrev pub Left : List Local → ℕ → List (Bor (List ℕ)) → List Name → Type 0
Left ls n names xs = (rest : List Name) × (map (λ (name : Bor (List ℕ)). name.now) names ++ rest ≡ xs) × AreLocals ls n rest

pub next_left : (ls : List Local) (n : ℕ) (l : Local) (names more : List (Bor (List ℕ))) (name : Bor (List ℕ)) (xs : List Name) → 0 < n →
    l ≡ get_or ls (n - 1) l → more ≡ names ++ name ∷ [] → name.now ≡ string_bytes l.name → Left ls n names xs → Left ls l.outer more xs
next_left ls n l names more name xs lt is e f (rest, told, h) = next_in ls n l names more name xs lt is e f rest told h
  where
    next_in : (ls : List Local) (n : ℕ) (l : Local) (names more : List (Bor (List ℕ))) (name : Bor (List ℕ)) (xs : List Name) → 0 < n →
        l ≡ get_or ls (n - 1) l → more ≡ names ++ name ∷ [] → name.now ≡ string_bytes l.name → (rest : List Name) →
        map (λ (name : Bor (List ℕ)). name.now) names ++ rest ≡ xs → AreLocals ls n rest → Left ls l.outer more xs
    next_in ls n l names more name xs lt is e f [] told h = absurd (omega (arith, lt, h))
    next_in ls zero l names more name xs lt is e f (y ∷ ys) told h = absurd h
    next_in ls (suc n) l names more name xs lt is e f (y ∷ ys) told h =
        let now : Bor (List ℕ) → List ℕ = λ name. name.now in
        let z : suc n - 1 ≡ n = omega arith in
        let same : l ≡ h.0 = is ∙ ap (λ k. get_or ls k l) z ∙ get_or_from_slice_get ls n h.0 l h.1 in
        let named : name.now ≡ y = f ∙ ap (λ (m : Local). string_bytes m.name) same ∙ h.2 in (
          ys,
          ap (λ l. map now l ++ ys) e ∙ ap (λ l. l ++ ys) (map-append now names (name ∷ [])) ∙ append_assoc (map now names) (name.now ∷ []) ys
              ∙ ap (λ x. map now names ++ x ∷ ys) named ∙ told,
          subst (λ (m : Local). AreLocals ls m.outer ys) (sym same) h.3,
        )

-- nothing is left
pub all_told : (ls : List Local) (n : ℕ) (names : List (Bor (List ℕ))) (xs : List Name) → n ≡ 0 → Left ls n names xs →
    map (λ (name : Bor (List ℕ)). name.now) names ≡ xs
all_told ls n names xs e (rest, told, h) = all_in ls n names xs e rest told h
  where
    all_in : (ls : List Local) (n : ℕ) (names : List (Bor (List ℕ))) (xs : List Name) → n ≡ 0 → (rest : List Name) →
        map (λ (name : Bor (List ℕ)). name.now) names ++ rest ≡ xs → AreLocals ls n rest → map (λ (name : Bor (List ℕ)). name.now) names ≡ xs
    all_in ls n names xs e [] told h = sym (append_none (map (λ (name : Bor (List ℕ)). name.now) names)) ∙ told
    all_in ls zero names xs e (y ∷ ys) told h = absurd h
    all_in ls (suc n) names xs e (y ∷ ys) told h = absurd (omega (arith, e))

within_left : (ls : List Local) (n : ℕ) (names : List (Bor (List ℕ))) (xs : List Name) → 0 < n → Left ls n names xs → n - 1 < length ls
within_left ls n names xs lt (rest, told, h) = within_in ls n lt rest h
  where
    within_in : (ls : List Local) (n : ℕ) → 0 < n → (rest : List Name) → AreLocals ls n rest → n - 1 < length ls
    within_in ls n lt [] h = absurd (omega (arith, lt, h))
    within_in ls zero lt (y ∷ ys) h = absurd h
    within_in ls (suc n) lt (y ∷ ys) h = omega (arith, slice_get_within ls n h.0 h.1)

abbrev IsFalse : Bool → Type 0
IsFalse false = Unit {0}
IsFalse true = ⊥

-- what is left is there
pub never_past : (t : Table) (es g : List Name) (b : Block) (at : ℕ) (row : Row) (n : ℕ) (ls : List Local) (names : List (Bor (List ℕ))) →
    ls ≡ t.locals.items → row ≡ get_or t.rows.items at row → at < length t.rows.items → IsTableOf t b → 0 < n →
    ((xs : List Name) → AreLocals t.locals.items row.locals xs → Left t.locals.items n names xs) → false ≡ nat_lt (n - 1) (length ls) → ⊥
never_past t es g b at row n ls names same e lt h more all past =
    let s = stands_there t es g b at row e lt h in
    let inside : n - 1 < length t.locals.items = within_left t.locals.items n names (locals_of s.spot) more (all (locals_of s.spot) s.is.locals) in
    let within : n - 1 < length ls = subst (λ (k : List Local). n - 1 < length k) (sym same) inside in
    subst IsFalse (past ∙ lt-ltb (n - 1) (length ls) within) tt

-- a local stands over an older one
pub falls : (t : Table) (ls : List Local) (n : ℕ) (l : Local) → ls ≡ t.locals.items → 0 < n → n - 1 < length ls → l ≡ get_or ls (n - 1) l → l.outer < n
falls t ls n l same lt within is =
    let there : slice_get ls (n - 1) ≡ Some l = slice_get-get_or ls (n - 1) l within ∙ ap Some (sym is) in
    let low : l.outer ≤ n - 1 = t.older (n - 1) l (subst (λ (k : List Local). slice_get k (n - 1) ≡ Some l) same there) in
    omega (arith, low, lt)
