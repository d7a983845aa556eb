-- The exit status of words that run nothing.
use Rattle.std.specs.Prelude.{ℕ, List, codes}
use Rattle.clap.specs.declared.error.kind.ErrorKind.{ErrorKind}
use Rattle.clap.specs.declared.error.kind.ErrorKind.TheVariants.{DisplayHelp, DisplayVersion, OutOfMemory}

-- 0 where they ask for help or the version, 2 where they are wrong; for want of memory each program has its own
abbrev pub status_of : ℕ → ErrorKind → ℕ
status_of no_memory DisplayHelp = 0
status_of no_memory DisplayVersion = 0
status_of no_memory OutOfMemory = no_memory
status_of no_memory wrong = 2

-- the line for words that are no UTF-8
abbrev pub unread_line : List ℕ
unread_line = codes "error: invalid UTF-8 was detected in one or more arguments\n"
