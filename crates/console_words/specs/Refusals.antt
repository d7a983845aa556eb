-- How the program ends where the words ask for nothing that the kernel is to do.
use Rattle.std.specs.Prelude.{ℕ}
use Rattle.clap.specs.declared.error.kind.ErrorKind.{ErrorKind}
use Rattle.clap.specs.declared.error.kind.ErrorKind.TheVariants.{DisplayHelp, DisplayVersion, OutOfMemory}
use Rattle.console_words.specs.declared.refused.RefusalKind.{RefusalKind}
use Rattle.console_words.specs.declared.refused.RefusalKind.TheVariants.{Help, Wrong, Memory}

abbrev pub kind_told : ErrorKind → RefusalKind
kind_told DisplayHelp = Help
kind_told DisplayVersion = Help
kind_told OutOfMemory = Memory
kind_told wrong = Wrong

-- 0 for the help, 2 for wrong words, 3 for want of memory
abbrev pub status_of : RefusalKind → ℕ
status_of Help = 0
status_of Wrong = 2
status_of Memory = 3
