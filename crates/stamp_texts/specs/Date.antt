-- The date of an instant: its civil date and time in UTC (ISO 8601, on the proleptic Gregorian calendar), to the second.
use Rattle.std.specs.Prelude.{◌≡◌, ◌≤ℤ◌, ℕ, ◌+◌, ◌/◌, ◌%◌, ℤ, pos, unsigned_abs, List, [], ◌∷◌, ◌++◌, codes}
use Rattle.jiff.specs.Words.{civil_nanos}
use Rattle.jiff_core.specs.declared.civil.datetime.DateTime.{DateTime}

-- what a clock in UTC shows at an instant, which is told in nanoseconds after 1970-01-01T00:00:00Z
abbrev pub Shows : ℤ → DateTime → Type 0
Shows instant shown = civil_nanos shown ≡ instant

-- its year has no sign
abbrev pub HasDate : ℤ → Type 0
HasDate instant = (shown : DateTime) × Shows instant shown × (pos 0 ≤ℤ shown.date.year)

-- a number below 100, in two digits
abbrev pub two_digits : ℕ → List ℕ
two_digits n = (48 + n / 10) ∷ (48 + n % 10) ∷ []

-- `YYYY-MM-DDTHH:MM:SSZ`
abbrev pub text_of : DateTime → List ℕ
text_of shown =
    two_digits (unsigned_abs shown.date.year / 100) ++ two_digits (unsigned_abs shown.date.year % 100)
    ++ codes "-" ++ two_digits shown.date.month ++ codes "-" ++ two_digits shown.date.day
    ++ codes "T" ++ two_digits shown.time.hour ++ codes ":" ++ two_digits shown.time.minute ++ codes ":" ++ two_digits shown.time.second ++ codes "Z"

abbrev pub IsDateText : ℤ → List ℕ → Type 0
IsDateText instant text = (shown : DateTime) × Shows instant shown × (text ≡ text_of shown)

-- the date of some instant
abbrev pub IsDate : List ℕ → Type 0
IsDate date = (instant : ℤ) × HasDate instant × IsDateText instant date
