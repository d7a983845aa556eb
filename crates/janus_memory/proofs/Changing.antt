-- What changes of the fields do: the invariant is kept, and what is seen of them.
use Rattle.std.proofs.Common.{◌≡◌, ◌≢◌, ℕ, suc, ◌+◌, ◌-◌, ◌<◌, ℤ, pos, List, [], ◌∷◌, ◌++◌, length, length-append, set, get_or, refl, ap, ◌∙◌, sym, subst}
use Rattle.std.proofs.Common.{arith}
use Rattle.std.proofs.Common.{get_or-set_other, length-set, replicate, vec_capacity}
use Rattle.std.specs.Global.{Vec}
use Rattle.std.specs.Vec.{with_item}
use Rattle.std.proofs.lemmas.List.{set-get_or}
use Rattle.janus_meaning.specs.Limit.{live_stack_limit}
use Rattle.janus_memory.specs.Lists.{list_of}
use Rattle.janus_memory.specs.Memory.{Content, Plain, HasArray, HasStack, Gone, IsBare, amount, stack_count, value_count}
use Rattle.janus_memory.specs.Memory.{with_number, with_content, with_write, opened, opened_from, closed, closed_from, released, released_from, carried}
use Rattle.janus_memory.specs.Memory.{reached}
use Rattle.janus_memory.specs.Stacks.{Pooled, total}
use Rattle.janus_memory.specs.Inside.{Heap, heap_of, content_in, numbers_of, contents_of, memory_of, array_times, stack_times, AreOwned, AreCounted, IsKept}
use Rattle.janus_memory.specs.declared.cell.Cell.{Cell}
use Rattle.janus_memory.specs.declared.cell.Held.{Held}
use Rattle.janus_memory.specs.declared.cell.Held.TheVariants as helds
use Rattle.janus_memory.specs.declared.memory.Memory.TheInside.{Inside}
use Rattle.janus_memory.proofs.Amounts.{amount-at, amount-carried, amount-none}
use Rattle.janus_memory.proofs.ArrayLists.{list-front, list-last}
use Rattle.janus_memory.proofs.Cells.{plain_cell, cell_at, held_at, contents-set, numbers-set, content-here, number-here, contents-long, same-contents}
use Rattle.janus_memory.proofs.Cells.{bare-array, bare-stack, numbers-more, contents-more, numbers-long}
use Rattle.janus_memory.proofs.Owned as owned

-- the lists beside one that was changed
pub beside : (ls ms : List (List ℤ)) (j : ℕ) (l : List ℤ) → ms ≡ set ls j l → (i : ℕ) → i ≢ j → list_of ms i ≡ list_of ls i
beside ls ms j l e = λ i d. ap (λ ms. list_of ms i) e ∙ get_or-set_other ls j i l [] d

-- what has neither an array nor a stack
no-stack : (x : Content) → IsBare x → stack_count x ≡ 0
no-stack Plain b = refl
no-stack (HasArray l) b = absurd b
no-stack (HasStack l) b = absurd b
no-stack Gone b = refl

no-values : (x : Content) → IsBare x → value_count x ≡ 0
no-values Plain b = refl
no-values (HasArray l) b = absurd b
no-values (HasStack l) b = absurd b
no-values Gone b = refl

module _ {L : Type 0} (a : Inside L) (i : IsKept a) (p j : ℕ) (l : p < length a.cells.items) where
  place : p < length (contents_of (heap_of a) a.cells.items)
  place = omega (arith, contents-long (heap_of a) a.cells.items, l)

  -- what was there
  there : (k : Held) → held_at a.cells.items p ≡ k → get_or (contents_of (heap_of a) a.cells.items) p Plain ≡ content_in (heap_of a) k
  there k e = content-here (heap_of a) a.cells.items p l ∙ ap (content_in (heap_of a)) e

  -- where a cell has a stack, not all are spare
  pub spare-room : held_at a.cells.items p ≡ helds.Stack j → length a.stacks.spare < live_stack_limit
  spare-room e =
      let some = amount-at stack_count Plain (contents_of (heap_of a) a.cells.items) p place in
      let is = ap stack_count (there (helds.Stack j) e) in
      let all = i.counted.stacks in omega (arith, some, is, all)

  -- ---- other values on a stack

  module _ (e : held_at a.cells.items p ≡ helds.Stack j) (t : Pooled)
      (f : t ≡ record { lists = set a.stacks.lists j (list_of t.lists j); spare = a.stacks.spare }) where
    pub stack-contents : contents_of (record { arrays = a.arrays; stacks = t.lists }) a.cells.items
        ≡ set (contents_of (heap_of a) a.cells.items) p (HasStack (list_of t.lists j))
    stack-contents = owned.stack-changed (length a.arrays) a.stacks.spare (heap_of a) t.lists a.cells.items p j i.owned l e
        (beside a.stacks.lists t.lists j (list_of t.lists j) (ap (λ (t : Pooled). t.lists) f))

    pub stack-kept : (w : ℕ) → total t.lists + length (list_of a.stacks.lists j) ≡ total a.stacks.lists + length (list_of t.lists j)
        → IsKept {L = L} (record { cells = a.cells; base = a.base; results = a.results; arrays = a.arrays; stacks = t; writes = w })
    stack-kept w s =
        let spare : t.spare ≡ a.stacks.spare = ap (λ (t : Pooled). t.spare) f in
        let was = there (helds.Stack j) e in
        record {
          owned = subst (λ s. AreOwned (length a.arrays) s a.cells.items) (sym spare) i.owned;
          counted = subst (λ xs. AreCounted t.spare t.lists xs) (sym stack-contents)
              (owned.counted-set a.stacks.spare t.spare a.stacks.lists t.lists (contents_of (heap_of a) a.cells.items) p (HasStack
              (list_of t.lists j)) i.counted
              place (omega (arith, ap length spare, ap stack_count was)) (omega (arith, s, ap value_count was)));
        }

    pub stack-seen : (w : ℕ) → w ≡ a.writes + 1 → memory_of {L = L} (record { cells = a.cells; base = a.base; results = a.results; arrays = a.arrays; stacks = t; writes = w })
        ≡ with_write (with_content (memory_of a) p (HasStack (list_of t.lists j)))
    stack-seen w n =
        let m = memory_of a in
        let x = HasStack (list_of t.lists j) in
        ap (λ xs. record m { contents = xs; spare = length t.spare; writes = w }) stack-contents
        ∙ ap (λ (s : List ℕ). record m { contents = set m.contents p x; spare = length s; writes = w }) (ap (λ (t : Pooled). t.spare) f)
        ∙ ap (λ w. record m { contents = set m.contents p x; writes = w }) n

  -- ---- other elements of an array

  module _ (e : held_at a.cells.items p ≡ helds.Array j) (ls : List (List ℤ)) (m : List ℤ) (f : ls ≡ set a.arrays j m) (g : list_of ls j ≡ m) where
    pub array-contents : contents_of (record { arrays = ls; stacks = a.stacks.lists }) a.cells.items
        ≡ set (contents_of (heap_of a) a.cells.items) p (HasArray m)
    array-contents = owned.array-changed (length a.arrays) a.stacks.spare (heap_of a) ls a.cells.items p j i.owned l e (beside a.arrays ls j m f)
        ∙ ap (λ m. set (contents_of (heap_of a) a.cells.items) p (HasArray m)) g

    pub array-kept : (w : ℕ) → IsKept {L = L} (record { cells = a.cells; base = a.base; results = a.results; arrays = ls; stacks = a.stacks; writes = w })
    array-kept w =
        let was = there (helds.Array j) e in
        record {
          owned = subst (λ n. AreOwned n a.stacks.spare a.cells.items) (sym (ap length f ∙ length-set a.arrays j m)) i.owned;
          counted = subst (λ xs. AreCounted a.stacks.spare a.stacks.lists xs) (sym array-contents)
              (owned.counted-set a.stacks.spare a.stacks.spare a.stacks.lists a.stacks.lists (contents_of (heap_of a) a.cells.items) p (HasArray m) i.counted
              place (omega (arith, ap stack_count was)) (omega (arith, ap value_count was)));
        }

    pub array-seen : (w : ℕ) → w ≡ a.writes + 1 → memory_of {L = L} (record { cells = a.cells; base = a.base; results = a.results; arrays = ls; stacks = a.stacks; writes = w })
        ≡ with_write (with_content (memory_of a) p (HasArray m))
    array-seen w n =
        let o = memory_of a in
        ap (λ xs. record o { contents = xs; writes = w }) array-contents ∙ ap (λ w. record o { contents = set o.contents p (HasArray m); writes = w }) n

  -- ---- other cells

  module _ (c : Cell) where
    abbrev changed : Vec Cell
    changed = with_item a.cells p c

    numbers-same : (n : ℤ) → c.number ≡ n → numbers_of (set a.cells.items p c) ≡ set (numbers_of a.cells.items) p n
    numbers-same n e = numbers-set a.cells.items p c ∙ ap (set (numbers_of a.cells.items) p) e

    -- the number that a cell had
    numbers-left : c.number ≡ (cell_at a.cells.items p).number → numbers_of (set a.cells.items p c) ≡ numbers_of a.cells.items
    numbers-left e =
        numbers-same (cell_at a.cells.items p).number e
        ∙ ap (set (numbers_of a.cells.items) p) (sym (number-here a.cells.items p l))
        ∙ set-get_or (numbers_of a.cells.items) p (pos 0)

    contents-now : (k : Held) → c.held ≡ k → contents_of (heap_of a) (set a.cells.items p c)
        ≡ set (contents_of (heap_of a) a.cells.items) p (content_in (heap_of a) k)
    contents-now k e = contents-set (heap_of a) a.cells.items p c ∙ ap (λ k. set (contents_of (heap_of a) a.cells.items) p (content_in (heap_of a) k)) e

    -- what a cell had
    contents-left : c.held ≡ held_at a.cells.items p → contents_of (heap_of a) (set a.cells.items p c) ≡ contents_of (heap_of a) a.cells.items
    contents-left e =
        contents-now (held_at a.cells.items p) e
        ∙ ap (set (contents_of (heap_of a) a.cells.items) p) (sym (content-here (heap_of a) a.cells.items p l))
        ∙ set-get_or (contents_of (heap_of a) a.cells.items) p Plain

    -- another number

    pub number-kept : c.held ≡ held_at a.cells.items p
        → IsKept {L = L} (record { cells = changed; base = a.base; results = a.results; arrays = a.arrays; stacks = a.stacks; writes = a.writes })
    number-kept e = record {
      owned = owned.number-owned (length a.arrays) a.stacks.spare a.cells.items p c i.owned l e;
      counted = subst (AreCounted a.stacks.spare a.stacks.lists) (sym (contents-left e)) i.counted;
    }

    pub number-seen : (n : ℤ) → c.held ≡ held_at a.cells.items p → c.number ≡ n
        → memory_of {L = L} (record { cells = changed; base = a.base; results = a.results; arrays = a.arrays; stacks = a.stacks; writes = a.writes }) ≡ with_number (memory_of a) p n
    number-seen n e f =
        ap (λ ns. record (memory_of a) { numbers = ns; contents = contents_of (heap_of a) (set a.cells.items p c) }) (numbers-same n f)
        ∙ ap (λ xs. record (memory_of a) { numbers = set (numbers_of a.cells.items) p n; contents = xs }) (contents-left e)

    -- a stack that was a spare one

    module _ (w : held_at a.cells.items p ≡ helds.Nothing) (e : c.held ≡ helds.Stack j) (t : Pooled) (f : a.stacks.spare ≡ t.spare ++ j ∷ [])
        (g : t.lists ≡ a.stacks.lists) (z : list_of a.stacks.lists j ≡ []) where
      open-contents : contents_of (record { arrays = a.arrays; stacks = t.lists }) (set a.cells.items p c)
          ≡ set (contents_of (heap_of a) a.cells.items) p (HasStack [])
      open-contents =
          ap (λ ls. contents_of (record { arrays = a.arrays; stacks = ls }) (set a.cells.items p c)) g
          ∙ contents-now (helds.Stack j) e
          ∙ ap (λ m. set (contents_of (heap_of a) a.cells.items) p (HasStack m)) z

      pub open-kept : IsKept {L = L} (record { cells = changed; base = a.base; results = a.results; arrays = a.arrays; stacks = t; writes = a.writes })
      open-kept =
          let was = there helds.Nothing w in
          record {
            owned = owned.open-owned (length a.arrays) a.stacks.spare t.spare a.cells.items p j c i.owned l w e f;
            counted = subst (AreCounted t.spare t.lists) (sym open-contents)
                (owned.counted-set a.stacks.spare t.spare a.stacks.lists t.lists (contents_of (heap_of a) a.cells.items) p (HasStack []) i.counted place
                (omega (arith, ap length f, length-append t.spare (j ∷ []), ap stack_count was)) (omega (arith, ap total g, ap value_count was)));
          }

      pub open-seen : c.number ≡ (cell_at a.cells.items p).number
          → memory_of {L = L} (record { cells = changed; base = a.base; results = a.results; arrays = a.arrays; stacks = t; writes = a.writes }) ≡ opened (memory_of a) p
      open-seen h =
          let m = memory_of a in
          let less : length t.spare ≡ length a.stacks.spare - 1 = omega (arith, ap length f, length-append t.spare (j ∷ [])) in
          ap (λ ns. record m {
            numbers = ns;
            contents = contents_of (record { arrays = a.arrays; stacks = t.lists })
                (set a.cells.items p c);
            spare = length t.spare;
          })
          (numbers-left h)
          ∙ ap (λ xs. record m { contents = xs; spare = length t.spare }) open-contents
          ∙ ap (λ n. record m { contents = set m.contents p (HasStack []); spare = n }) less
          ∙ sym (ap (λ x. opened_from x m p) (there helds.Nothing w))

    -- a stack that is a spare one then

    module _ (w : held_at a.cells.items p ≡ helds.Stack j) (e : c.held ≡ helds.Nothing) (t : Pooled)
        (f : t ≡ record { lists = a.stacks.lists; spare = a.stacks.spare ++ j ∷ [] }) (z : list_of a.stacks.lists j ≡ []) where
      close-contents : contents_of (record { arrays = a.arrays; stacks = t.lists }) (set a.cells.items p c)
          ≡ set (contents_of (heap_of a) a.cells.items) p Plain
      close-contents =
          ap (λ (t : Pooled). contents_of (record { arrays = a.arrays; stacks = t.lists }) (set a.cells.items p c)) f ∙ contents-now helds.Nothing e

      more : length t.spare ≡ length a.stacks.spare + 1
      more = omega (arith, ap (λ (t : Pooled). length t.spare) f, length-append a.stacks.spare (j ∷ []))

      pub close-kept : IsKept {L = L} (record { cells = changed; base = a.base; results = a.results; arrays = a.arrays; stacks = t; writes = a.writes })
      close-kept =
          let was = there (helds.Stack j) w in
          record {
            owned = owned.close-owned (length a.arrays) a.stacks.spare t.spare a.cells.items p j c i.owned l w e (ap (λ (t : Pooled). t.spare) f);
            counted = subst (AreCounted t.spare t.lists) (sym close-contents)
                (owned.counted-set a.stacks.spare t.spare a.stacks.lists t.lists (contents_of (heap_of a) a.cells.items) p Plain i.counted place
                (omega (arith, more, ap stack_count was)) (omega (arith, ap (λ (t : Pooled). total t.lists) f, ap value_count was, ap length z)));
          }

      close-state : c.number ≡ (cell_at a.cells.items p).number
          → memory_of {L = L} (record { cells = changed; base = a.base; results = a.results; arrays = a.arrays; stacks = t; writes = a.writes })
          ≡ record (memory_of a) { contents = set (memory_of a).contents p Plain; spare = (memory_of a).spare + 1 }
      close-state h =
          let m = memory_of a in
          ap (λ ns. record m {
            numbers = ns;
            contents = contents_of (record { arrays = a.arrays; stacks = t.lists })
                (set a.cells.items p c);
            spare = length t.spare;
          })
          (numbers-left h)
          ∙ ap (λ xs. record m { contents = xs; spare = length t.spare }) close-contents
          ∙ ap (λ n. record m { contents = set m.contents p Plain; spare = n }) more

      pub close-seen : c.number ≡ (cell_at a.cells.items p).number
          → memory_of {L = L} (record { cells = changed; base = a.base; results = a.results; arrays = a.arrays; stacks = t; writes = a.writes }) ≡ closed (memory_of a) p
      close-seen h = close-state h ∙ sym (ap (λ x. closed_from x (memory_of a) p) (there (helds.Stack j) w))

      pub give-seen : c.number ≡ (cell_at a.cells.items p).number
          → memory_of {L = L} (record { cells = changed; base = a.base; results = a.results; arrays = a.arrays; stacks = t; writes = a.writes }) ≡ released (memory_of a) p
      give-seen h = close-state h ∙ sym (ap (λ x. released_from x (memory_of a) p) (there (helds.Stack j) w))

    -- a new array

    module _ (w : held_at a.cells.items p ≡ helds.Nothing) (ls : List (List ℤ)) (m : List ℤ) (f : ls ≡ a.arrays ++ m ∷ []) (e : c.held
        ≡ helds.Array (length a.arrays))
      where
        put-contents : contents_of (record { arrays = ls; stacks = a.stacks.lists }) (set a.cells.items p c)
            ≡ set (contents_of (heap_of a) a.cells.items) p (HasArray m)
        put-contents =
            let g : Heap = record { arrays = ls; stacks = a.stacks.lists } in
            contents-set g a.cells.items p c
            ∙ ap (λ k. set (contents_of g a.cells.items) p (content_in g k)) e
            ∙ ap (λ m. set (contents_of g a.cells.items) p (HasArray m)) (ap (λ ls. list_of ls (length a.arrays)) f ∙ list-last a.arrays m)
            ∙ ap (λ xs. set xs p (HasArray m)) (same-contents (heap_of a) g a.cells.items
            (λ k n. ap (λ ls. list_of ls k) f ∙ list-front a.arrays m k (owned.array-known (length a.arrays) a.stacks.spare a.cells.items k i.owned n))
            (λ k n. refl))

        pub put-kept : IsKept {L = L} (record { cells = changed; base = a.base; results = a.results; arrays = ls; stacks = a.stacks; writes = a.writes })
        put-kept =
            let was = there helds.Nothing w in
            let long : suc (length a.arrays) ≡ length ls = omega (arith, ap length f, length-append a.arrays (m ∷ [])) in
            record {
              owned = subst (λ n. AreOwned n a.stacks.spare (set a.cells.items p c)) long
                  (owned.array-owned (length a.arrays) a.stacks.spare a.cells.items p c i.owned l w e);
              counted = subst (AreCounted a.stacks.spare a.stacks.lists) (sym put-contents)
                  (owned.counted-set a.stacks.spare a.stacks.spare a.stacks.lists a.stacks.lists (contents_of (heap_of a) a.cells.items) p
                  (HasArray m) i.counted place
                  (omega (arith, ap stack_count was)) (omega (arith, ap value_count was)));
            }

        pub put-seen : c.number ≡ (cell_at a.cells.items p).number
            → memory_of {L = L} (record { cells = changed; base = a.base; results = a.results; arrays = ls; stacks = a.stacks; writes = a.writes })
            ≡ with_content (memory_of a) p (HasArray m)
        put-seen h =
            let o = memory_of a in
            ap (λ ns. record o { numbers = ns; contents = contents_of (record { arrays = ls; stacks = a.stacks.lists }) (set a.cells.items p c) })
            (numbers-left h)
            ∙ ap (λ xs. record o { contents = xs }) put-contents

    -- an array that is let go

    module _ (w : held_at a.cells.items p ≡ helds.Array j) (ls : List (List ℤ)) (e : c.held ≡ helds.Nothing)
        (f : (n : ℕ) → n < length a.arrays → n ≢ j → (n < length ls) × (list_of ls n ≡ list_of a.arrays n)) where
      freed : AreOwned (length ls) a.stacks.spare (set a.cells.items p c)
      freed = owned.release-owned (length a.arrays) (length ls) a.stacks.spare a.cells.items p j c i.owned l w e (λ n m d. (f n m d).0)

      free-contents : contents_of (record { arrays = ls; stacks = a.stacks.lists }) (set a.cells.items p c)
          ≡ set (contents_of (heap_of a) a.cells.items) p Plain
      free-contents =
          let g : Heap = record { arrays = ls; stacks = a.stacks.lists } in
          same-contents (heap_of a) g (set a.cells.items p c)
          (λ n m.
          let r = owned.array-kept (length a.arrays) a.stacks.spare a.cells.items p j c n i.owned l w e m in
          (f n r.0 r.1).1)
          (λ n m. refl)
          ∙ contents-now helds.Nothing e

      pub free-kept : IsKept {L = L} (record { cells = changed; base = a.base; results = a.results; arrays = ls; stacks = a.stacks; writes = a.writes })
      free-kept =
          let was = there (helds.Array j) w in
          record {
            owned = freed;
            counted = subst (AreCounted a.stacks.spare a.stacks.lists) (sym free-contents)
                (owned.counted-set a.stacks.spare a.stacks.spare a.stacks.lists a.stacks.lists (contents_of (heap_of a) a.cells.items) p Plain i.counted place
                (omega (arith, ap stack_count was)) (omega (arith, ap value_count was)));
          }

      pub free-seen : c.number ≡ (cell_at a.cells.items p).number
          → memory_of {L = L} (record { cells = changed; base = a.base; results = a.results; arrays = ls; stacks = a.stacks; writes = a.writes }) ≡ released (memory_of a) p
      free-seen h =
          let o = memory_of a in
          ap (λ ns. record o { numbers = ns; contents = contents_of (record { arrays = ls; stacks = a.stacks.lists }) (set a.cells.items p c) })
          (numbers-left h)
          ∙ ap (λ xs. record o { contents = xs }) free-contents
          ∙ sym (ap (λ x. released_from x o p) (there (helds.Array j) w))

-- ---- what a cell has comes to another

module _ {L : Type 0} (a : Inside L) (i : IsKept a) (from to : ℕ) (l : from < length a.cells.items) (n : to < length a.cells.items) (d : from ≢ to)
    (b : IsBare (content_in (heap_of a) (held_at a.cells.items to))) (c left : Cell) (e : c ≡ cell_at a.cells.items from)
    (r : IsBare (content_in (heap_of a) left.held)) where
  abbrev carried_cells : List Cell
  carried_cells = set (set a.cells.items to c) from left

  same-amount : (f : Cell → ℕ) → f left ≡ 0 → f (cell_at a.cells.items to) ≡ 0 → amount f carried_cells ≡ amount f a.cells.items
  same-amount f z y =
      ap (λ c. amount f (set (set a.cells.items to c) from left)) e ∙ amount-carried f plain_cell a.cells.items from to left l n d z y

  carry-numbers : numbers_of carried_cells ≡ set (set (numbers_of a.cells.items) to (get_or (numbers_of a.cells.items) from (pos 0))) from left.number
  carry-numbers =
      numbers-set (set a.cells.items to c) from left
      ∙ ap (λ ns. set ns from left.number) (numbers-set a.cells.items to c
      ∙ ap (set (numbers_of a.cells.items) to) (ap (λ (c : Cell). c.number) e ∙ sym (number-here a.cells.items from l)))

  carry-contents : contents_of (heap_of a) carried_cells
      ≡ set (set (contents_of (heap_of a) a.cells.items) to (get_or (contents_of (heap_of a) a.cells.items) from Plain)) from (content_in (heap_of a) left.held)
  carry-contents =
      contents-set (heap_of a) (set a.cells.items to c) from left
      ∙ ap (λ xs. set xs from (content_in (heap_of a) left.held)) (contents-set (heap_of a) a.cells.items to c
      ∙ ap (set (contents_of (heap_of a) a.cells.items) to)
      (ap (λ (c : Cell). content_in (heap_of a) c.held) e ∙ sym (content-here (heap_of a) a.cells.items from l)))

  same-counts : (f : Content → ℕ) → ((x : Content) → IsBare x → f x ≡ 0) → amount f (contents_of (heap_of a) carried_cells)
      ≡ amount f (contents_of (heap_of a) a.cells.items)
  same-counts f z =
      let xs = contents_of (heap_of a) a.cells.items in
      ap (amount f) carry-contents
      ∙ amount-carried f Plain xs from to (content_in (heap_of a) left.held) (omega (arith, l, contents-long (heap_of a) a.cells.items))
      (omega (arith, n, contents-long (heap_of a) a.cells.items)) d (z (content_in (heap_of a) left.held) r)
      (ap f (content-here (heap_of a) a.cells.items to n) ∙ z (content_in (heap_of a) (held_at a.cells.items to)) b)

  pub carry-kept : IsKept {L = L}
      (record { cells = with_item (with_item a.cells to c) from left; base = a.base; results = a.results; arrays = a.arrays; stacks = a.stacks; writes = a.writes })
  carry-kept = record {
    owned = owned.same-owned (length a.arrays) a.stacks.spare a.cells.items carried_cells i.owned
        (λ j. same-amount (λ (c : Cell). array_times j c.held) (bare-array (heap_of a) left.held j r) (bare-array (heap_of a) (held_at a.cells.items to) j b))
        (λ j. same-amount (λ (c : Cell). stack_times j c.held) (bare-stack (heap_of a) left.held j r) (bare-stack (heap_of a) (held_at a.cells.items to) j b));
    counted = record {
      stacks = ap (λ n. length a.stacks.spare + n) (same-counts stack_count no-stack) ∙ i.counted.stacks;
      values = i.counted.values ∙ sym (same-counts value_count no-values);
    };
  }

  pub carry-seen : (x : Content) → content_in (heap_of a) left.held ≡ x → left.number ≡ pos 0
      → memory_of {L = L} (record {
        cells = with_item (with_item a.cells to c) from left;
        base = a.base;
        results = a.results;
        arrays = a.arrays;
        stacks = a.stacks;
        writes =
            a.writes;
      })
      ≡ carried x (memory_of a) from to
  carry-seen x f g =
      let m = memory_of a in
      ap (λ ns. record m { numbers = ns; contents = contents_of (heap_of a) carried_cells })
      (carry-numbers ∙ ap (set (set m.numbers to (get_or m.numbers from (pos 0))) from) g)
      ∙ ap (λ xs. record m { numbers = set (set m.numbers to (get_or m.numbers from (pos 0))) from (pos 0); contents = xs })
      (carry-contents ∙ ap (set (set m.contents to (get_or m.contents from Plain)) from) f)

-- ---- more cells

module _ {L : Type 0} (a : Inside L) (i : IsKept a) (n : ℕ) (v : Vec Cell) (e : v.items ≡ a.cells.items ++ replicate
    (n - length a.cells.items) plain_cell) where
  reach-contents : contents_of (heap_of a) v.items ≡ contents_of (heap_of a) a.cells.items ++ replicate (n - length a.cells.items) Plain
  reach-contents = ap (contents_of (heap_of a)) e ∙ contents-more (heap_of a) a.cells.items (n - length a.cells.items)

  pub reach-kept : IsKept {L = L} (record { cells = v; base = a.base; results = a.results; arrays = a.arrays; stacks = a.stacks; writes = a.writes })
  reach-kept =
      let m = n - length a.cells.items in
      record {
        owned = owned.same-owned (length a.arrays) a.stacks.spare a.cells.items v.items i.owned
            (λ j. let f = λ (c : Cell). array_times j c.held in ap (amount f) e ∙ amount-none f a.cells.items m plain_cell refl)
            (λ j. let f = λ (c : Cell). stack_times j c.held in ap (amount f) e ∙ amount-none f a.cells.items m plain_cell refl);
        counted = record {
          stacks = ap (λ n. length a.stacks.spare + n)
              (ap (amount stack_count) reach-contents ∙ amount-none stack_count (contents_of (heap_of a) a.cells.items) m Plain refl) ∙ i.counted.stacks;
          values = i.counted.values ∙ sym (ap (amount value_count) reach-contents
              ∙ amount-none value_count (contents_of (heap_of a) a.cells.items) m Plain refl);
        };
      }

  pub reach-seen : vec_capacity v ≡ vec_capacity a.cells
      → memory_of {L = L} (record { cells = v; base = a.base; results = a.results; arrays = a.arrays; stacks = a.stacks; writes = a.writes }) ≡ reached (memory_of a) n
  reach-seen r =
      let m = memory_of a in
      let xs = contents_of (heap_of a) a.cells.items in
      ap (λ ns. record m { numbers = ns; contents = contents_of (heap_of a) v.items; room = vec_capacity v })
      (ap numbers_of e ∙ numbers-more a.cells.items (n - length a.cells.items)
      ∙ ap (λ k. m.numbers ++ replicate (n - k) (pos 0)) (sym (numbers-long a.cells.items)))
      ∙ ap (λ ys. record m { numbers = m.numbers ++ replicate (n - length m.numbers) (pos 0); contents = ys; room = vec_capacity v })
      (reach-contents ∙ ap (λ k. xs ++ replicate (n - k) Plain) (sym (contents-long (heap_of a) a.cells.items)))
      ∙ ap (λ r. record m { numbers = m.numbers ++ replicate (n - length m.numbers) (pos 0); contents = xs ++ replicate (n - length xs) Plain; room = r }) r
