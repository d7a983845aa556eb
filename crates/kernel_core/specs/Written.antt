-- How the code writes the minutes, and names posted jobs by the places of their entries.
use Rattle.std.specs.Prelude.{◌≡◌, ℕ, ◌*◌, ◌<◌, ◌≤◌, List, [], ◌∷◌, get_or, length, map, vec_capacity}
use Rattle.kernel_machine.specs.Request.{Request, Undo, request_of}
use Rattle.kernel_machine.specs.Minutes as minutes
use Rattle.kernel_machine.specs.Minutes.{posted_in, ended_in, minutes_limit}
use Rattle.kernel_core.specs.declared.minutes.Entry.{Entry}
use Rattle.kernel_core.specs.declared.minutes.Entry.TheVariants.{Posted, Ended}
use Rattle.kernel_core.specs.declared.minutes.MinuteBook.{MinuteBook}

abbrev pub entry_of : Entry → minutes.Entry
entry_of (Posted lane job) = minutes.Posted lane (request_of job)
entry_of (Ended number outcome count node) = minutes.Ended number outcome count node

abbrev pub entries_in : MinuteBook → List minutes.Entry
entries_in m = map entry_of m.entries.items

-- the job of a post
abbrev pub job_in : minutes.Entry → Request
job_in (minutes.Posted lane job) = job
job_in (minutes.Ended number o count node) = Undo 0

-- the job that was posted at this place
abbrev pub job_at : List minutes.Entry → ℕ → Request
job_at entries place = job_in (get_or entries place (minutes.Posted 0 (Undo 0)))

abbrev pub IsPost : minutes.Entry → Type 0
IsPost (minutes.Posted lane job) = Unit {0}
IsPost (minutes.Ended number o count node) = ⊥

-- a post stands at this place
abbrev pub IsPostAt : List minutes.Entry → ℕ → Type 0
IsPostAt entries place = (place < length entries) × IsPost (get_or entries place (minutes.Posted 0 (Undo 0)))

-- a post stands at each of these places
abbrev pub ArePosts : List minutes.Entry → List ℕ → Type 0
ArePosts entries [] = Unit {0}
ArePosts entries (place ∷ places) = IsPostAt entries place × ArePosts entries places

-- the counts are those of the entries, and each post has its two places: the room for the end of a job is taken with its post
pub record HasPlaces (m : MinuteBook) : Type 0 where
  pub posted : m.posted ≡ posted_in (entries_in m)
  pub ended : m.ended ≡ ended_in (entries_in m)
  pub order : m.ended ≤ m.posted
  pub room : 2 * m.posted ≤ vec_capacity m.entries
  pub within : 2 * m.posted ≤ minutes_limit
