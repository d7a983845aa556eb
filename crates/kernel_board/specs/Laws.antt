-- What log and reads come to, over the whole list of the broadcasts that were ever published.
use Rattle.std.specs.Prelude.{◌≡◌, ℕ, ◌+◌, ◌<◌, Bool, true, false, List, [], ◌∷◌, ◌++◌, length, drop, take, IsTrue, ◌↔◌}
use Rattle.kernel_board.specs.declared.log.Read.{Read}
use Rattle.kernel_board.specs.declared.log.Read.TheVariants.{Got, Lagged}
use Rattle.kernel_board.specs.Frames.{Frames}
use Rattle.kernel_board.specs.Log.{Log, kept_limit, log, retained, no_number, published}
use Rattle.kernel_board.specs.Reads.{IsRead}

-- the log of a whole list of broadcasts: it counts them all, and retains the last
abbrev pub log_of : List Frames → Log
log_of all = log (length all) (retained all)

-- Broadcasts published one after another give the log of their list, as long as there are numbers.
abbrev pub LogIsOfAll : Type 0
LogIsOfAll =
    (all : List Frames) (b : Frames) → length all < no_number
    → published (log_of all) b ≡ log_of (all ++ b ∷ [])

abbrev pub is_lagged : Read → Bool
is_lagged (Got v next) = false
is_lagged (Lagged oldest) = true

-- A reader is told that it lagged exactly where more broadcasts than are retained were published from its place on.
abbrev pub LaggedIsExact : Type 0
LaggedIsExact =
    (all : List Frames) (place : ℕ) (read : Read) → IsRead (log_of all) place read
    → IsTrue (is_lagged read) ↔ (place + kept_limit < length all)

-- these are the broadcasts from one place up to another: none is missing, none comes twice, and they come in order
abbrev pub ReadUp : List Frames → ℕ → List Frames → ℕ → Type 0
ReadUp all from bs to = (bs ≡ take (length bs) (drop from all)) × (to ≡ from + length bs)

-- A reader that reads on from the place that it was given, while others publish, and isn't told that it lagged, has read all.
abbrev pub ReadersMissNothing : Type 0
ReadersMissNothing =
    (all more : List Frames) (from to : ℕ) (bs : List Frames) → ReadUp all from bs to
    → (read : Read) → IsRead (log_of (all ++ more)) to read → ReadsOn (all ++ more) from bs read
  where
    ReadsOn : List Frames → ℕ → List Frames → Read → Type 0
    ReadsOn whole from bs (Got v next) = ReadUp whole from (bs ++ v.items) next.number
    ReadsOn whole from bs (Lagged oldest) = Unit {0}
