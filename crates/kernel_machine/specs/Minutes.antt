-- The minutes: what is written down of each post, and of the end of each job.
use Rattle.std.specs.Prelude.{◌≡◌, ℕ, ◌*◌, ◌≤◌, List, [], ◌∷◌, ◌++◌, length, suc}
use Rattle.kernel_machine.specs.Request.{Request}
use Rattle.kernel_machine.specs.declared.limit.TheConstants.{MINUTES_LIMIT}
use Rattle.kernel_machine.specs.declared.outcome.Outcome.{Outcome}

-- a post; or the end of the job with this number: what came of it, and the counter and the position as it ended
pub data Entry : Type 0 where
  Posted : (lane : ℕ) (job : Request) → Entry
  Ended : (number : ℕ) (o : Outcome) (count : ℕ) (node : ℕ) → Entry

-- a posted job, with the lane of the frontend that posted it
pub record Post : Type 0 where
  pub lane : ℕ
  pub job : Request

-- the posts, from first to last
abbrev pub posts_of : List Entry → List Post
posts_of [] = []
posts_of (Posted lane job ∷ entries) = record { lane = lane; job = job } ∷ posts_of entries
posts_of (Ended number o count node ∷ entries) = posts_of entries

-- how many jobs were posted
abbrev pub posted_in : List Entry → ℕ
posted_in entries = length (posts_of entries)

-- how many of them have ended
abbrev pub ended_in : List Entry → ℕ
ended_in [] = 0
ended_in (Posted lane job ∷ entries) = ended_in entries
ended_in (Ended number o count node ∷ entries) = suc (ended_in entries)

-- the post has this number: posts are numbered 1, 2, .. in their order
abbrev pub IsNumberOf : List Entry → ℕ → Post → Type 0
IsNumberOf entries number post =
    (before : List Post) × (after : List Post) × (posts_of entries ≡ before ++ post ∷ after) × (number ≡ suc (length before))

-- the most entries that there may be
abbrev pub minutes_limit : ℕ
minutes_limit = MINUTES_LIMIT

-- there are places for one more post: each takes two, its own and that of the end of its job
abbrev pub HavePlaces : List Entry → Type 0
HavePlaces entries = 2 * suc (posted_in entries) ≤ minutes_limit
