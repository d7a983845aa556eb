-- What is shown of a refusal.
use Rattle.std.specs.Prelude.{ℕ, List, codes, Option, Some, None}
use Rattle.janus_syntax.specs.declared.token.Span.{Span}
use Rattle.janus_syntax.specs.declared.fault.What.{What}
use Rattle.janus_syntax.specs.declared.fault.What.TheVariants as what
use Rattle.janus_syntax.specs.declared.fault.SyntaxFault.{SyntaxFault}
use Rattle.janus_syntax.specs.declared.fault.SyntaxFault.TheVariants as fault
use Rattle.janus_syntax.specs.Spelling.{keyword_text, sign_text}

abbrev pub what_text : What → List ℕ
what_text what.Statement = codes "statement"
what_text what.Expression = codes "expression"
what_text what.Name = codes "name"
what_text what.Number = codes "number"
what_text what.Kind = codes "kind"
what_text what.Operator = codes "operator"
what_text what.End = codes "end"
what_text (what.Keyword w) = keyword_text w
what_text (what.Sign s) = sign_text s

abbrev pub fault_number : SyntaxFault → ℕ
fault_number (fault.BadToken at) = 30
fault_number (fault.Expected w at) = 31
fault_number (fault.NumberTooLarge at) = 32
fault_number (fault.TooNested at) = 33
fault_number (fault.DelocalName at) = 34
fault_number fault.Memory = 35

abbrev pub fault_name : SyntaxFault → List ℕ
fault_name (fault.BadToken at) = codes "BadToken"
fault_name (fault.Expected w at) = codes "Expected"
fault_name (fault.NumberTooLarge at) = codes "NumberTooLarge"
fault_name (fault.TooNested at) = codes "TooNested"
fault_name (fault.DelocalName at) = codes "DelocalName"
fault_name fault.Memory = codes "Memory"

abbrev pub fault_span : SyntaxFault → Option Span
fault_span (fault.BadToken at) = Some at
fault_span (fault.Expected w at) = Some at
fault_span (fault.NumberTooLarge at) = Some at
fault_span (fault.TooNested at) = Some at
fault_span (fault.DelocalName at) = Some at
fault_span fault.Memory = None
