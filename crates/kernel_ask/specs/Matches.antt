-- The names that a frontend may go on with.
use Rattle.std.specs.Prelude.{◌≡◌, ◌↔◌, ◌⊎◌, ℕ, nat_eq, IsTrue, List, map, Contains}
use Rattle.std.specs.Ordering.{nat_cmp}
use Rattle.std.specs.Cmp.Lexicographic.{slice_cmp}
use Rattle.std.specs.List.{starts_with}
use Rattle.std.specs.List.Sorted.{IsStrictlySortedBy}
use Rattle.janus_meaning.specs.Syntax.{Name}
use Rattle.janus_meaning.specs.Store.{Store}
use Rattle.janus_meaning.specs.World.{World, listed}
use Rattle.janus_syntax.specs.Spelling.{keyword_text}
use Rattle.janus_syntax.specs.declared.token.Keyword.{Keyword}
use Rattle.kernel_text.specs.Procedures.{procedure_names}

-- the declared names, in the order of declaration
abbrev pub names_of : Store → List Name
names_of s = map (λ e. e.0) (listed s)

abbrev pub IsReserved : List ℕ → Type 0
IsReserved x = (word : Keyword) × (keyword_text word ≡ x)

-- a declared name, a procedure, or a keyword
abbrev pub IsKnown : World → List ℕ → Type 0
IsKnown w x = Contains (names_of w.store) x ⊎ Contains (procedure_names w.procedures) x ⊎ IsReserved x

-- All known names that begin with the prefix and no others, each once, in the order of their octets.
pub record AreMatches (w : World) (prefix : List ℕ) (names : List (List ℕ)) : Type 0 where
  pub ordered : IsStrictlySortedBy (slice_cmp nat_cmp) names
  pub each : (x : List ℕ) → Contains names x ↔ (IsKnown w x × IsTrue (starts_with nat_eq x prefix))
