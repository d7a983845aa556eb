-- The execution counter, as legal minutes tell it: it numbers the cells that are counted (those that are not silent and are to be stored), in
-- the order of their posts.
use Rattle.std.specs.Prelude.{◌≡◌, ℕ, ◌+◌, ◌-◌, ◌<◌, ◌≤◌, IsTrue, List, [], ◌∷◌, ◌++◌, length, zero, suc}
use Rattle.kernel_machine.specs.Request.{is_counted, raised}
use Rattle.kernel_machine.specs.Minutes.{Entry, Ended, Post, posts_of, posted_in, IsNumberOf}
use Rattle.kernel_machine.specs.Runs.{Machine}
use Rattle.kernel_machine.specs.LegalMinutes.{HasLegalMinutes}
use Rattle.kernel_machine.specs.declared.outcome.Outcome.{Outcome}

-- how many of the first n posts are counted
abbrev pub counted_to : ℕ → List Post → ℕ
counted_to zero posts = 0
counted_to (suc n) [] = 0
counted_to (suc n) (post ∷ posts) = raised (counted_to n posts) post.job

-- somewhere in the entries the job of this number ends, with this counter
abbrev pub HasEnd : List Entry → ℕ → ℕ → Type 0
HasEnd entries number count =
    (before : List Entry) × (after : List Entry) × (o : Outcome) × (node : ℕ) × (entries ≡ before ++ Ended number o count node ∷ after)

-- the job of this number ends with this counter, and is a counted cell
abbrev pub HasCountedEnd : List Entry → ℕ → ℕ → Type 0
HasCountedEnd entries number count =
    HasEnd entries number count × ((post : Post) × IsNumberOf entries number post × IsTrue (is_counted post.job))

-- Jobs begin in the order of their posts: the counter of an end is the number of counted cells that had begun by then.
abbrev pub EndTellsCounted : Type 0
EndTellsCounted =
    (m : Machine) (number count : ℕ) → HasLegalMinutes m → HasEnd m.minutes number count → count ≡ counted_to number (posts_of m.minutes)

-- Along the minutes the numbers of the jobs that end rise, and their counters never fall.
abbrev pub CounterNeverFalls : Type 0
CounterNeverFalls =
    (m : Machine) (before after : List Entry) (number next count later node : ℕ) (o : Outcome) → HasLegalMinutes m →
    m.minutes ≡ before ++ Ended number o count node ∷ after → HasEnd after next later → (number < next) × (count ≤ later)

-- The counter of a counted cell is one more than how many counted cells were posted before it.
abbrev pub CountedIsNext : Type 0
CountedIsNext =
    (m : Machine) (number count : ℕ) → HasLegalMinutes m → HasCountedEnd m.minutes number count →
    count ≡ counted_to (number - 1) (posts_of m.minutes) + 1

-- No two counted cells carry the same counter.
abbrev pub NoCounterTwice : Type 0
NoCounterTwice =
    (m : Machine) (number other count : ℕ) → HasLegalMinutes m → HasCountedEnd m.minutes number count → HasCountedEnd m.minutes other count →
    number ≡ other

-- The counter of the kernel is the number of counted cells that have begun: those of the posts that don't wait in the queue.
abbrev pub CounterIsOfBegun : Type 0
CounterIsOfBegun =
    (m : Machine) → HasLegalMinutes m → m.counter ≡ counted_to (posted_in m.minutes - length m.queue) (posts_of m.minutes)

-- No end carries more than the counter of the kernel.
abbrev pub EndsWithinCounter : Type 0
EndsWithinCounter = (m : Machine) (number count : ℕ) → HasLegalMinutes m → HasEnd m.minutes number count → count ≤ m.counter
