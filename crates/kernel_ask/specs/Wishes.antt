-- What contracts see of a user expression.
use Rattle.std.specs.Prelude.{ℕ, List}

-- the name under which its value is told, and the text of its expression
pub record WishOf : Type 0 where
  pub name : List ℕ
  pub exp : List ℕ

abbrev pub wish_of : List ℕ → List ℕ → WishOf
wish_of name exp = record { name = name; exp = exp }
