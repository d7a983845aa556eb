-- Flat code that has grown: the old statements keep their trees, whatever the names are, the old members their places, and what was inside a statement is.
use Rattle.std.specs.Prelude.{◌≡◌, ℕ, ◌<◌, ◌≤◌, List, length, slice_index_or}
use Rattle.janus_meaning.specs.Syntax.{Name}
use Rattle.janus_code.specs.declared.code.Statement.{Statement}
use Rattle.janus_code.specs.Flat.{tree_at}
use Rattle.janus_code.specs.Held.{IsInside}

pub record Grows (members : List ℕ) (statements : List Statement) (more : List ℕ) (all : List Statement) : Type 0 where
  pub longer : length members ≤ length more
  pub further : length statements ≤ length all
  pub same : (i : ℕ) → i < length members → slice_index_or more i 0 ≡ slice_index_or members i 0
  pub trees : (xs : List Name) (n : ℕ) → n < length statements → tree_at xs more all n ≡ tree_at xs members statements n
  pub inside : (n : ℕ) → IsInside members statements n → IsInside more all n
