-- The stacks of the pool, and which of them are ready.
use Rattle.std.specs.Prelude.{◌≡◌, ℕ, ℤ, ◌+◌, ◌<◌, ◌≤◌, List, [], ◌∷◌, length, vec_len, vec_capacity, refl}
use Rattle.std.specs.Global.{Vec}
use Rattle.std.specs.Coded.{Coded, code_by, coded×, coded_ℕ, coded_ℤ, coded_list}
use Rattle.cell_pool.specs.Chains.{times}
use Rattle.cell_pool.specs.Lent.{values_of}
use Rattle.cell_pool.specs.Stacks.{Stacks as Pool}
use Rattle.janus_meaning.specs.Limit.{live_stack_limit, value_limit}
use Rattle.janus_memory.specs.Lists.{list_of}
use Rattle.janus_memory.specs.declared.stack_view.StackView.{StackView}

-- the values that a lent stack has, the top first
unfoldable pub held : StackView → List ℤ
held s = values_of s.values

-- what contracts see: the values of each stack of the pool, and the numbers of those that no name has
pub record Pooled : Type 0 where
  pub lists : List (List ℤ)
  pub spare : List ℕ

abbrev pub pooled_code : Coded Pooled
pooled_code =
    code_by (List (List ℤ) × List ℕ) (coded× (coded_list (coded_list coded_ℤ)) (coded_list coded_ℕ))
    (λ s. (s.lists, s.spare)) (λ p. record { lists = p.0; spare = p.1 }) (λ _. refl)

-- how many values they have
abbrev pub total : List (List ℤ) → ℕ
total [] = 0
total (l ∷ ls) = length l + total ls

-- these are stacks without a value
abbrev pub AreEmpty : List (List ℤ) → List ℕ → Type 0
AreEmpty ls [] = Unit {0}
AreEmpty ls (i ∷ is) = (list_of ls i ≡ []) × AreEmpty ls is

-- All stacks that may live are there, with free cells for all values more that they may hold together, and those that no name has are empty.
pub record AreReady (pool : Pool) (spare : Vec ℕ) : Type 0 where
  pub all : length pool.lists ≡ live_stack_limit
  pub cells : pool.free + total pool.lists ≡ value_limit
  pub empty : AreEmpty pool.lists spare.items
  pub few : vec_len spare ≤ live_stack_limit
  pub room : live_stack_limit ≤ vec_capacity spare

-- no name has a stack: each number is a spare one, and there is no value
pub record AreFresh (s : Pooled) : Type 0 where
  pub count : length s.spare ≡ live_stack_limit
  pub each : (i : ℕ) → i < live_stack_limit → times i s.spare ≡ 1
  pub known : (i : ℕ) → live_stack_limit ≤ i → times i s.spare ≡ 0
  pub none : total s.lists ≡ 0
