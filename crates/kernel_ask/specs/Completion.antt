-- Completion (Jupyter messaging page, "Completion"). Code is seen as its code points.
use Rattle.std.specs.Prelude.{◌≡◌, ℕ, ◌+◌, List, length, map, Option, string_bytes}
use Rattle.janus_meaning.specs.World.{World}
use Rattle.kernel_ask.specs.Cursor.{before, prefix_at}
use Rattle.kernel_ask.specs.Matches.{AreMatches}
use Rattle.kernel_ask.specs.declared.answer.Completion.{Completion}

-- the matches of the longest name that ends at the cursor, and where that stands
pub record IsCompletion (w : World) (code : List ℕ) (cursor : Option ℕ) (c : Completion) : Type 0 where
  pub matches : AreMatches w (prefix_at cursor code) (map string_bytes c.matches.items)
  pub end : c.«end» ≡ length (before cursor code)
  pub start : c.start + length (prefix_at cursor code) ≡ c.«end»
