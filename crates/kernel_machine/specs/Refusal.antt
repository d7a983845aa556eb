-- How refusals are told.
use Rattle.std.specs.Prelude.{ℕ, List, Option, None, codes}
use Rattle.janus_syntax.specs.Fault as syntax
use Rattle.janus_syntax.specs.declared.token.Span.{Span}
use Rattle.janus_check.specs.Fault as check
use Rattle.kernel_machine.specs.declared.outcome.Refusal.{Refusal}
use Rattle.kernel_machine.specs.declared.outcome.Refusal.TheVariants.{Syntax, Check, HistoryFull, TooFar, NoNode, Closing, Memory}

abbrev pub number_of : Refusal → ℕ
number_of (Syntax fault) = syntax.fault_number fault
number_of (Check fault) = check.number_of fault
number_of HistoryFull = 70
number_of NoNode = 71
number_of TooFar = 73
number_of Closing = 75
number_of Memory = 76

abbrev pub name_of : Refusal → List ℕ
name_of (Syntax fault) = syntax.fault_name fault
name_of (Check fault) = check.fault_name fault
name_of HistoryFull = codes "HistoryFull"
name_of NoNode = codes "NoNode"
name_of TooFar = codes "TooFar"
name_of Closing = codes "Closing"
name_of Memory = codes "Memory"

abbrev pub span_of : Refusal → Option Span
span_of (Syntax fault) = syntax.fault_span fault
span_of (Check fault) = check.span_of fault
span_of HistoryFull = None
span_of NoNode = None
span_of TooFar = None
span_of Closing = None
span_of Memory = None
