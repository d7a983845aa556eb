-- The cells of all frames, as contracts see them.
use Rattle.std.specs.Prelude.{◌≡◌, ℕ, ◌+◌, ◌-◌, ℤ, pos, List, [], ◌∷◌, ◌++◌, length, replicate, slice_index_or, slice_set, get_or, refl}
use Rattle.std.specs.Coded.{Coded, code_by, coded×, coded_ℕ, coded_ℤ, coded_list}
use Rattle.janus_meaning.specs.Limit.{live_stack_limit}
use Rattle.janus_meaning.specs.Store.{Val, Num, Arr, Stk, Lent, set_element}

-- what stands beside the number of a cell
pub data Content : Type 0 where
  -- nothing
  Plain : Content
  HasArray : (l : List ℤ) → Content
  -- its values, the top first
  HasStack : (l : List ℤ) → Content
  -- nothing, and the cell's value is lent
  Gone : Content

pub record MemoryState : Type 0 where
  -- the number of each cell, from the first one on
  pub numbers : List ℤ
  -- what stands beside it
  pub contents : List Content
  -- where the frame in sight begins
  pub base : ℕ
  -- from which place on cells are for results: those before it are for names
  pub results : ℕ
  -- how many stacks more may live
  pub spare : ℕ
  -- for how many cells the memory was taken
  pub room : ℕ
  -- how often values were written
  pub writes : ℕ

-- ---- one cell

-- the place of a cell of the frame in sight
abbrev pub place : MemoryState → ℕ → ℕ
place m k = m.base + k

-- the number of the cell at a place
abbrev pub number_at : MemoryState → ℕ → ℤ
number_at m p = slice_index_or m.numbers p (pos 0)

-- what stands beside it
abbrev pub content_at : MemoryState → ℕ → Content
content_at m p = slice_index_or m.contents p Plain

-- the elements of an array; nothing else has any
abbrev pub array_of : Content → List ℤ
array_of Plain = []
array_of (HasArray l) = l
array_of (HasStack l) = []
array_of Gone = []

-- the values of a stack; nothing else has any
abbrev pub stack_of : Content → List ℤ
stack_of Plain = []
stack_of (HasArray l) = []
stack_of (HasStack l) = l
stack_of Gone = []

-- neither an array nor a stack
abbrev pub IsBare : Content → Type 0
IsBare Plain = Unit {0}
IsBare (HasArray l) = ⊥
IsBare (HasStack l) = ⊥
IsBare Gone = Unit {0}

-- not lent
abbrev pub IsHere : Content → Type 0
IsHere Plain = Unit {0}
IsHere (HasArray l) = Unit {0}
IsHere (HasStack l) = Unit {0}
IsHere Gone = ⊥

-- the value of a cell, of which the number counts where nothing stands beside it
abbrev pub val_of : ℤ → Content → Val
val_of n Plain = Num n
val_of n (HasArray l) = Arr l
val_of n (HasStack l) = Stk l
val_of n Gone = Lent

abbrev pub val_at : MemoryState → ℕ → Val
val_at m p = val_of (number_at m p) (content_at m p)

-- ---- how much there is

-- the sum of what each of a list counts
abbrev pub amount : {A : Type 0} → (A → ℕ) → List A → ℕ
amount f [] = 0
amount f (x ∷ xs) = f x + amount f xs

abbrev pub stack_count : Content → ℕ
stack_count Plain = 0
stack_count (HasArray l) = 0
stack_count (HasStack l) = 1
stack_count Gone = 0

abbrev pub value_count : Content → ℕ
value_count c = length (stack_of c)

-- how many stacks cells have
abbrev pub stacks_among : List Content → ℕ
stacks_among cs = amount stack_count cs

-- how many values all of them hold together
abbrev pub values_among : List Content → ℕ
values_among cs = amount value_count cs

-- ---- changes

abbrev pub with_number : MemoryState → ℕ → ℤ → MemoryState
with_number m p n = record m { numbers = slice_set m.numbers p n }

abbrev pub with_content : MemoryState → ℕ → Content → MemoryState
with_content m p c = record m { contents = slice_set m.contents p c }

abbrev pub with_write : MemoryState → MemoryState
with_write m = record m { writes = m.writes + 1 }

-- another element, where there is an array and the index is within its range
abbrev pub element_set : Content → ℤ → ℤ → Content
element_set Plain i n = Plain
element_set (HasArray l) i n = HasArray (set_element l i n)
element_set (HasStack l) i n = HasStack l
element_set Gone i n = Gone

-- a value more on top, where there is a stack
abbrev pub pushed : Content → ℤ → Content
pushed Plain n = Plain
pushed (HasArray l) n = HasArray l
pushed (HasStack l) n = HasStack (n ∷ l)
pushed Gone n = Gone

-- a plain cell has a new stack then; any other is left
abbrev pub opened_from : Content → MemoryState → ℕ → MemoryState
opened_from Plain m p = record m { contents = slice_set m.contents p (HasStack []); spare = m.spare - 1 }
opened_from (HasArray l) m p = m
opened_from (HasStack l) m p = m
opened_from Gone m p = m

abbrev pub opened : MemoryState → ℕ → MemoryState
opened m p = opened_from (content_at m p) m p

-- the stack of a cell is spare then; a cell without one is left
abbrev pub closed_from : Content → MemoryState → ℕ → MemoryState
closed_from Plain m p = m
closed_from (HasArray l) m p = m
closed_from (HasStack l) m p = record m { contents = slice_set m.contents p Plain; spare = m.spare + 1 }
closed_from Gone m p = m

abbrev pub closed : MemoryState → ℕ → MemoryState
closed m p = closed_from (content_at m p) m p

-- an array is let go, and a stack is spare then
abbrev pub released_from : Content → MemoryState → ℕ → MemoryState
released_from Plain m p = m
released_from (HasArray l) m p = with_content m p Plain
released_from (HasStack l) m p = record m { contents = slice_set m.contents p Plain; spare = m.spare + 1 }
released_from Gone m p = m

abbrev pub released : MemoryState → ℕ → MemoryState
released m p = released_from (content_at m p) m p

-- what a cell has comes to another, and this stays
abbrev pub carried : Content → MemoryState → ℕ → ℕ → MemoryState
carried left m from to = record m {
  numbers = slice_set (slice_set m.numbers to (number_at m from)) from (pos 0);
  contents = slice_set (slice_set m.contents to (content_at m from)) from left;
}

-- plain cells of the number 0, until there are so many
abbrev pub reached : MemoryState → ℕ → MemoryState
reached m n = record m {
  numbers = m.numbers ++ replicate (n - length m.numbers) (pos 0);
  contents = m.contents ++ replicate (n - length m.contents) Plain;
}

-- no cell, with room for so many
abbrev pub no_cells : ℕ → MemoryState
no_cells n = record { numbers = []; contents = []; base = 0; results = 0; spare = live_stack_limit; room = n; writes = 0 }

-- ---- as values of contracts

abbrev content_parts : Content → ℕ × List ℤ
content_parts Plain = (0, [])
content_parts (HasArray l) = (1, l)
content_parts (HasStack l) = (2, l)
content_parts Gone = (3, [])

abbrev content_of_parts : ℕ → List ℤ → Content
content_of_parts k l = get_or (Plain ∷ HasArray l ∷ HasStack l ∷ Gone ∷ []) k Gone

pub content_back : (c : Content) → content_of_parts (content_parts c).0 (content_parts c).1 ≡ c
content_back Plain = refl
content_back (HasArray l) = refl
content_back (HasStack l) = refl
content_back Gone = refl

abbrev content_code : Coded Content
content_code = code_by (ℕ × List ℤ) (coded× coded_ℕ (coded_list coded_ℤ)) content_parts (λ p. content_of_parts p.0 p.1) content_back

abbrev pub memory_code : Coded MemoryState
memory_code =
    code_by (List ℤ × (List Content × (ℕ × (ℕ × (ℕ × (ℕ × ℕ))))))
    (coded× (coded_list coded_ℤ) (coded× (coded_list content_code) (coded× coded_ℕ (coded× coded_ℕ (coded× coded_ℕ (coded× coded_ℕ coded_ℕ))))))
    (λ m. (m.numbers, (m.contents, (m.base, (m.results, (m.spare, (m.room, m.writes)))))))
    (λ p. record {
      numbers = p.0;
      contents = p.1.0;
      base = p.1.1.0;
      results = p.1.1.1.0;
      spare = p.1.1.1.1.0;
      room = p.1.1.1.1.1.0;
      writes = p.1.1.1.1.1.1;
    })
    (λ _. refl)
