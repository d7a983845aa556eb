-- One read more.
use Rattle.std.proofs.Common.{◌≡◌, ℕ, ◌+◌, ◌<◌, ◌≤◌, List, ◌++◌, length, subst}
use Rattle.kernel_board.specs.Frames.{Frames}
use Rattle.kernel_board.specs.Log.{Log, IsLog, oldest_of}
use Rattle.kernel_board.specs.Reads.{batch_from, IsRead}
use Rattle.kernel_board.specs.declared.log.Read.{Read}
use Rattle.kernel_desk.specs.HallDesk.{AreRead, more, skipped}

-- a read of some log
abbrev pub IsReadOfSome : ℕ → Read → Type 0
IsReadOfSome at r = (k : Log) × IsLog k × IsRead k at r

-- what is read of some log, once it is known what the read was
pub known_read : (at : ℕ) (r known : Read) → r ≡ known → IsReadOfSome at r → IsReadOfSome at known
known_read at r known e p = subst (IsReadOfSome at) e p

pub read_got : (from : ℕ) (front : List Frames) (at : ℕ) (got : List Frames) (next : ℕ)
    → ((k : Log) × IsLog k × ((oldest_of k ≤ at) × (got ≡ batch_from k at) × (next ≡ at + length got)))
    → AreRead from front at → AreRead from (front ++ got) next
read_got from front at got next (k, is_log, (kept, is_got, is_next)) r = more front at k got next r is_log kept is_got is_next

pub read_lagged : (from : ℕ) (front : List Frames) (at oldest : ℕ)
    → ((k : Log) × IsLog k × ((at < oldest_of k) × (oldest ≡ oldest_of k)))
    → AreRead from front at → AreRead from front oldest
read_lagged from front at oldest (k, is_log, (lagged, is_oldest)) r = skipped front at k oldest r is_log lagged is_oldest
