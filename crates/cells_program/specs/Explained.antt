-- What `--explain` writes behind a refused text: where it is refused, by line and column, and why, in words.
use Rattle.std.specs.Prelude.{ℕ, List, [], ◌++◌, Option, Some, None, codes}
use Rattle.janus_syntax.specs.Fault.{what_text}
use Rattle.janus_syntax.specs.declared.fault.SyntaxFault.{SyntaxFault}
use Rattle.janus_syntax.specs.declared.fault.SyntaxFault.TheVariants as syntax
use Rattle.janus_syntax.specs.declared.token.Span.{Span}
use Rattle.janus_check.specs.declared.fault.CheckFault.{CheckFault}
use Rattle.janus_check.specs.declared.fault.CheckFault.TheVariants as check
use Rattle.kernel_core.specs.Refusal.{span_of}
use Rattle.kernel_core.specs.outcome.Refusal.{Refusal}
use Rattle.kernel_core.specs.outcome.Refusal.TheVariants.{Syntax, Check, HistoryFull, TooFar, NoNode, Closing, Memory}
use Rattle.kernel_text.specs.Lines.{counted_text}
use Rattle.cells_program.specs.Place.{place_at}
use Rattle.cells_program.specs.declared.place.Place.{Place}

-- ---- where

abbrev pub place_text : Place → List ℕ
place_text p = counted_text (codes "  line ") p.line ++ counted_text (codes " column ") p.column

-- ---- why

-- what is wrong with a text
abbrev pub syntax_words : SyntaxFault → List ℕ
syntax_words (syntax.BadToken span) = codes ": no token begins with this character"
syntax_words (syntax.Expected what span) = codes ": what has to stand here: "
syntax_words (syntax.NumberTooLarge span) = codes ": a number past 2147483647"
syntax_words (syntax.TooNested span) = codes ": nested deeper than 64, or more than 256 operators in one expression"
syntax_words (syntax.DelocalName span) = codes ": another kind or name than the one after its local"
syntax_words syntax.Memory = codes ": no memory"

-- what is wrong with a cell
abbrev pub check_words : CheckFault → List ℕ
check_words (check.Declared span) = codes ": this name is declared already"
check_words (check.Unknown span) = codes ": this name is not in sight, or is no procedure"
check_words (check.WrongKind span) = codes ": a name of this kind can't stand here"
check_words (check.SelfUse span) = codes ": this name can't stand in its own expression or index"
check_words (check.SameArgument span) = codes ": this name is an argument already"
check_words (check.Arity span) = codes ": this procedure has another number of parameters"
check_words (check.Shadow span) = codes ": this name is in sight already"
check_words (check.ChangedParameters span) = codes ": this procedure is defined with parameters of other kinds"
check_words (check.TooMany span) = codes ": one name more than the limit"
check_words (check.ArrayLength span) = codes ": an array has 1 to 65536 elements"
check_words check.Memory = codes ": no memory"

abbrev pub refusal_words : Refusal → List ℕ
refusal_words (Syntax fault) = syntax_words fault
refusal_words (Check fault) = check_words fault
refusal_words HistoryFull = []
refusal_words TooFar = []
refusal_words NoNode = []
refusal_words Closing = []
refusal_words Memory = []

abbrev pub wanted_of_syntax : SyntaxFault → List ℕ
wanted_of_syntax (syntax.BadToken span) = []
wanted_of_syntax (syntax.Expected what span) = what_text what
wanted_of_syntax (syntax.NumberTooLarge span) = []
wanted_of_syntax (syntax.TooNested span) = []
wanted_of_syntax (syntax.DelocalName span) = []
wanted_of_syntax syntax.Memory = []

-- what would have to stand there, where the grammar names one thing
abbrev pub wanted_of : Refusal → List ℕ
wanted_of (Syntax fault) = wanted_of_syntax fault
wanted_of (Check fault) = []
wanted_of HistoryFull = []
wanted_of TooFar = []
wanted_of NoNode = []
wanted_of Closing = []
wanted_of Memory = []

-- ---- both

abbrev pub why_text : Refusal → List ℕ
why_text r = refusal_words r ++ (wanted_of r ++ codes "\n")

abbrev pub explained_at : List ℕ → Refusal → Option Span → List ℕ
explained_at text r None = []
explained_at text r (Some span) = place_text (place_at text span.start) ++ why_text r

-- the line that explains why a text is refused; none where it isn't the text that is refused
abbrev pub explained : List ℕ → Refusal → List ℕ
explained text r = explained_at text r (span_of r)
