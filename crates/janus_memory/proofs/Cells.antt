-- The cells in their places, and what the memory shows of them.
use Rattle.std.proofs.Common.{◌≡◌, ℕ, zero, suc, ◌+◌, ◌<◌, ◌≤◌, pos, List, [], ◌∷◌, ◌++◌, length, set, get_or, replicate, refl, ap, ◌∙◌}
use Rattle.std.proofs.Common.{arith}
use Rattle.std.proofs.lemmas.List.{map-set, get_or-map, length-map}
use Rattle.cell_pool.proofs.Chains.{once_here}
use Rattle.janus_memory.specs.Lists.{list_of}
use Rattle.janus_memory.specs.Memory.{Plain, HasArray, HasStack, IsBare}
use Rattle.janus_memory.specs.Inside.{Heap, content_in, numbers_of, contents_of, array_times, stack_times, arrays_at, stacks_at}
use Rattle.janus_memory.specs.declared.cell.Cell.{Cell}
use Rattle.janus_memory.specs.declared.cell.Held.{Held}
use Rattle.janus_memory.specs.declared.cell.Held.TheVariants as helds
use Rattle.janus_memory.proofs.Amounts.{amount-at}

-- a cell of the number 0 alone, as is read where there is none
abbrev pub plain_cell : Cell
plain_cell = record { number = pos 0; held = helds.Nothing }

-- the cell at a place
abbrev pub cell_at : List Cell → ℕ → Cell
cell_at cs p = get_or cs p plain_cell

abbrev pub held_at : List Cell → ℕ → Held
held_at cs p = (cell_at cs p).held

-- within a list it does not matter what stands past its end
any-default : (cs : List Cell) (p : ℕ) (d e : Cell) → p < length cs → get_or cs p d ≡ get_or cs p e
any-default [] p d e h = absurd (omega arith)
any-default (c ∷ cs) zero d e h = refl
any-default (c ∷ cs) (suc p) d e h = any-default cs p d e (omega arith)

pub read-cell : (cs : List Cell) (p : ℕ) (c : Cell) → p < length cs → c ≡ get_or cs p c → c ≡ cell_at cs p
read-cell cs p c h e = e ∙ any-default cs p c plain_cell h

-- ---- what is seen of a cell

pub number-here : (cs : List Cell) (p : ℕ) → p < length cs → get_or (numbers_of cs) p (pos 0) ≡ (cell_at cs p).number
number-here cs p h = get_or-map (λ (c : Cell). c.number) cs p plain_cell (pos 0) h

pub content-here : (h : Heap) (cs : List Cell) (p : ℕ) → p < length cs → get_or (contents_of h cs) p Plain ≡ content_in h (held_at cs p)
content-here h cs p l = get_or-map (λ (c : Cell). content_in h c.held) cs p plain_cell Plain l

pub numbers-long : (cs : List Cell) → length (numbers_of cs) ≡ length cs
numbers-long cs = length-map cs (λ (c : Cell). c.number)

pub contents-long : (h : Heap) (cs : List Cell) → length (contents_of h cs) ≡ length cs
contents-long h cs = length-map cs (λ (c : Cell). content_in h c.held)

pub numbers-set : (cs : List Cell) (p : ℕ) (c : Cell) → numbers_of (set cs p c) ≡ set (numbers_of cs) p c.number
numbers-set cs p c = map-set (λ (c : Cell). c.number) cs p c

pub contents-set : (h : Heap) (cs : List Cell) (p : ℕ) (c : Cell) → contents_of h (set cs p c) ≡ set (contents_of h cs) p (content_in h c.held)
contents-set h cs p c = map-set (λ (c : Cell). content_in h c.held) cs p c

pub numbers-more : (cs : List Cell) (n : ℕ) → numbers_of (cs ++ replicate n plain_cell) ≡ numbers_of cs ++ replicate n (pos 0)
numbers-more [] zero = refl
numbers-more [] (suc n) = ap (λ l. pos 0 ∷ l) (numbers-more [] n)
numbers-more (c ∷ cs) n = ap (λ l. c.number ∷ l) (numbers-more cs n)

pub contents-more : (h : Heap) (cs : List Cell) (n : ℕ) → contents_of h (cs ++ replicate n plain_cell) ≡ contents_of h cs ++ replicate n Plain
contents-more h [] zero = refl
contents-more h [] (suc n) = ap (λ l. Plain ∷ l) (contents-more h [] n)
contents-more h (c ∷ cs) n = ap (λ l. content_in h c.held ∷ l) (contents-more h cs n)

-- ---- other arrays and stacks

module _ (h g : Heap) where
  same_content : (k : Held) → ((i : ℕ) → 1 ≤ array_times i k → list_of g.arrays i ≡ list_of h.arrays i)
      → ((i : ℕ) → 1 ≤ stack_times i k → list_of g.stacks i ≡ list_of h.stacks i) → content_in g k ≡ content_in h k
  same_content helds.Nothing a s = refl
  same_content (helds.Array j) a s = ap HasArray (a j (omega (arith, once_here j)))
  same_content (helds.Stack j) a s = ap HasStack (s j (omega (arith, once_here j)))
  same_content helds.Lent a s = refl

  -- where those that cells have are the same
  pub same-contents : (cs : List Cell) → ((i : ℕ) → 1 ≤ arrays_at i cs → list_of g.arrays i ≡ list_of h.arrays i)
      → ((i : ℕ) → 1 ≤ stacks_at i cs → list_of g.stacks i ≡ list_of h.stacks i) → contents_of g cs ≡ contents_of h cs
  same-contents [] a s = refl
  same-contents (c ∷ cs) a s =
      ap (λ x. x ∷ contents_of g cs) (same_content c.held (λ i l. a i (omega (arith, l))) (λ i l. s i (omega (arith, l))))
      ∙ ap (λ xs. content_in h c.held ∷ xs) (same-contents cs (λ i l. a i (omega (arith, l))) (λ i l. s i (omega (arith, l))))

  -- where all but those of one cell are the same
  pub one-changed : (cs : List Cell) (p : ℕ) → p < length cs
      → ((i : ℕ) → array_times i (held_at cs p) + 1 ≤ arrays_at i cs → list_of g.arrays i ≡ list_of h.arrays i)
      → ((i : ℕ) → stack_times i (held_at cs p) + 1 ≤ stacks_at i cs → list_of g.stacks i ≡ list_of h.stacks i)
      → contents_of g cs ≡ set (contents_of h cs) p (content_in g (held_at cs p))
  one-changed [] p l a s = absurd (omega arith)
  one-changed (c ∷ cs) zero l a s =
      ap (λ xs. content_in g c.held ∷ xs) (same-contents cs (λ i l. a i (omega (arith, l))) (λ i l. s i (omega (arith, l))))
  one-changed (c ∷ cs) (suc p) l a s =
      let m : p < length cs = omega arith in
      ap (λ x. x ∷ contents_of g cs)
      (same_content c.held (λ i l. a i (let r = amount-at (λ (c : Cell). array_times i c.held) plain_cell cs p m in omega (arith, l, r)))
      (λ i l. s i (let r = amount-at (λ (c : Cell). stack_times i c.held) plain_cell cs p m in omega (arith, l, r))))
      ∙ ap (λ xs. content_in h c.held ∷ xs) (one-changed cs p m (λ i l. a i (omega (arith, l))) (λ i l. s i (omega (arith, l))))

-- ---- what a cell has

pub bare-array : (h : Heap) (k : Held) (i : ℕ) → IsBare (content_in h k) → array_times i k ≡ 0
bare-array h helds.Nothing i b = refl
bare-array h (helds.Array j) i b = absurd b
bare-array h (helds.Stack j) i b = absurd b
bare-array h helds.Lent i b = refl

pub bare-stack : (h : Heap) (k : Held) (i : ℕ) → IsBare (content_in h k) → stack_times i k ≡ 0
bare-stack h helds.Nothing i b = refl
bare-stack h (helds.Array j) i b = absurd b
bare-stack h (helds.Stack j) i b = absurd b
bare-stack h helds.Lent i b = refl

-- a cell of which nothing is seen has nothing
pub plain-held : (h : Heap) (k : Held) → content_in h k ≡ Plain → k ≡ helds.Nothing
plain-held h helds.Nothing e = refl
plain-held h (helds.Array j) e = absurd cc
plain-held h (helds.Stack j) e = absurd cc
plain-held h helds.Lent e = absurd cc
