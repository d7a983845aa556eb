-- Where an audit stands in the minutes.
use Rattle.std.specs.Prelude.{◌≡◌, ℕ, ◌≤◌, Bool, true, false, List, Option, None, Some, filter, take, length, slice_get, zero, suc}
use Rattle.kernel_ask.specs.Minutes as minutes
use Rattle.kernel_ask.specs.Minutes.{ended_in}
use Rattle.kernel_ask.specs.outcome.Outcome.{Outcome}
use Rattle.kernel_ask.specs.minutes.Entry.{Entry}
use Rattle.kernel_ask.specs.minutes.Entry.TheVariants.{Posted, Ended}
use Rattle.kernel_audit.specs.declared.mark.Kind.{Kind}
use Rattle.kernel_audit.specs.declared.mark.Kind.TheVariants.{Post, End}
use Rattle.kernel_audit.specs.declared.mark.Mark.{Mark}

abbrev pub is_of : Kind → Entry → Bool
is_of Post (Posted lane job) = true
is_of Post (Ended number outcome count node) = false
is_of End (Posted lane job) = false
is_of End (Ended number outcome count node) = true

-- the entries of a kind, from first to last
abbrev pub of_kind : Kind → List Entry → List Entry
of_kind kind entries = filter (is_of kind) entries

-- the entry with this number of its kind: they are numbered 1, 2, .. in their order
abbrev pub nth_of : Kind → List Entry → ℕ → Option Entry
nth_of kind entries zero = None
nth_of kind entries (suc n) = slice_get (of_kind kind entries) n

-- the number of the entries of the kind that stand before the place
pub record IsMark (kind : Kind) (entries : List Entry) (m : Mark) : Type 0 where
  pub passed : m.passed ≡ length (of_kind kind (take m.place entries))
  pub within : m.place ≤ length entries

-- each end has the number that it has among the ends
abbrev pub EndsInOrder : List minutes.Entry → Type 0
EndsInOrder entries =
    (at number : ℕ) (o : Outcome) (count node : ℕ) → slice_get entries at ≡ Some (minutes.Ended number o count node) → number ≡ suc (ended_in (take at entries))
