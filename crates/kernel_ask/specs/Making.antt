-- How far the values of user expressions are made after a job that has ended.
use Rattle.std.specs.Prelude.{◌≡◌, ◌+◌, ◌≤◌, Bool, true, false, List, ◌++◌, length, vec_len, vec_capacity}
use Rattle.std.specs.VecDeque.{deque_len}
use Rattle.kernel_text.specs.State.{Past}
use Rattle.kernel_text.specs.outcome.Outcome.{Outcome}
use Rattle.kernel_text.specs.outcome.Outcome.TheVariants.{Ran, Failed, Interrupted, Undid, Redid, Went, Refused}
use Rattle.kernel_ask.specs.EndedAt.{StandsAtEnd}
use Rattle.kernel_ask.specs.Evaluation.{AreValuesAfter}
use Rattle.kernel_ask.specs.Wishes.{WishOf}
use Rattle.kernel_ask.specs.declared.making.Making.{Making}

-- user expressions are evaluated behind a cell that ran alone
abbrev pub has_values : Outcome → Bool
has_values (Ran node steps) = true
has_values (Failed fault steps) = false
has_values (Interrupted steps) = false
has_values (Undid cells end) = false
has_values (Redid cells end) = false
has_values (Went up down end) = false
has_values (Refused refusal) = false

-- those that are not evaluated yet
abbrev pub left_of : Making → List WishOf
left_of m = m.rest.items

-- there is room for the values that are left
pub record HasRoom (m : Making) : Type 0 where
  pub room : vec_len m.values + length (left_of m) ≤ vec_capacity m.values
  pub count : deque_len m.rest ≡ length (left_of m)

-- Of the given user expressions the first ones have their values, in the past of a job that has ended so, and the others are left, with room for theirs.
pub record IsUnderWay (o : Outcome) (s : Past) (given : List WishOf) (m : Making) : Type 0 where
  pub still : StandsAtEnd o s
  pub spent : List WishOf
  pub parts : spent ++ left_of m ≡ given
  pub values : AreValuesAfter o s spent m.values.items
  pub wanted : m.is_wanted ≡ has_values o
  pub room : vec_len m.values + length (left_of m) ≤ vec_capacity m.values
  pub count : deque_len m.rest ≡ length (left_of m)
