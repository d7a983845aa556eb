-- What a function that reads an answer gives.
use Rattle.std.specs.Prelude.{◌≡◌, ◌⊎◌, List, ℕ, Option, Some, None, Result, Ok, Err, string_bytes}
use Rattle.console_talk.specs.Lines as table
use Rattle.console_talk.specs.declared.printed.Printed.{Printed}
use Rattle.console_talk.specs.declared.printed.AnswerFault.{AnswerFault}
use Rattle.console_talk.specs.declared.printed.AnswerFault.TheVariants.{NoAnswer, Memory}

-- what is printed, without where it lies in memory
abbrev pub told_of : Printed → table.Printed
told_of told = record { lines = string_bytes told.lines; is_well = told.is_well }

-- No answer is told exactly where there is none, want of memory aside.
abbrev pub IsWhy : {A : Type 0} → AnswerFault → Option A → Type 0
IsWhy fault told = (fault ≡ Memory) ⊎ ((fault ≡ NoAnswer) × (told ≡ None))

-- Just this is printed, or nothing where this is nothing.
abbrev pub Answers : Result Printed AnswerFault → Option table.Printed → Type 0
Answers (Ok told) is = is ≡ Some (told_of told)
Answers (Err fault) is = IsWhy fault is
